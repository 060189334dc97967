-- Lists joined by commas: the most elements at the start of a text are read, and their number is counted.
use Rattle.std.proofs.Common.{◌≡◌, ◌≢◌, ℕ, zero, suc, ◌≤◌, List, [], ◌∷◌, length, refl, sym, ap, ◌∙◌, arith, eqb-true}
use Rattle.std.proofs.lemmas.Bool.{cases_Bool}
use Rattle.lp_format.specs.format.{Fault, Reading, miss, fatal, reads, after_comma, separated_list, many, comma}
use Rattle.lp_format.specs.laws.Meanings.{SeparatedBy, SeparatedAfterComma, LongestList, NextHasFault, TheMostIsRead, TheNextHasTheFault}
use Rattle.lp_format.specs.laws.Meanings.{TheFirstMisses, CountIsOfTheMost}
use Rattle.lp_format.specs.code.Light.{many_count, read_count}

module _ {A : Type 0} (one : List ℕ → Reading A) where
  -- the reading of the next element after `xs`: the first element, or an element after a comma
  abbrev next : List A → List ℕ → Reading A
  next [] rest = one rest
  next (x ∷ xs) rest = after_comma one rest

  -- a text begins with a comma if the element after a comma does not miss there
  comma_there : (text : List ℕ) → after_comma one text ≢ miss
      → (suffix : List ℕ) × (text ≡ comma ∷ suffix) × (after_comma one text ≡ one suffix)
  comma_there [] some = absurd (some refl)
  comma_there (b ∷ suffix) some = grind (arith, cases_Bool, eqb-true)

  -- a fatal reading of the next element is the fault that `NextHasFault` names
  next_fault : (xs : List A) (rest : List ℕ) (e : Fault) → next xs rest ≡ fatal e → NextHasFault one xs rest e
  next_fault [] rest e h = h
  next_fault (x ∷ xs) rest e h = let s = comma_there rest (λ none. cc) in (s.0, s.1, sym s.2 ∙ h)

  -- elements after which no further one is read are the most at the start, and any list of as many elements is the same list
  after_most : (xs ys : List A) (text a b : List ℕ) → SeparatedAfterComma one xs text a → SeparatedAfterComma one ys text b
      → ((y : A) (after : List ℕ) → after_comma one a ≢ reads y after)
      → (length ys ≤ length xs) × (length xs ≤ length ys → (ys ≡ xs) × (b ≡ a))
  after_most [] [] text a b h k none = (omega arith, λ same. (refl, sym k ∙ h))
  after_most [] (y ∷ ys) text a b h k none = absurd (none y k.1 (rw (sym h ∙ k.2) k.3))
  after_most (x ∷ xs) [] text a b h k none = (omega arith, λ same. absurd (omega arith))
  after_most (x ∷ xs) (y ∷ ys) text a b h k none = grind (arith, after_most xs ys h.1 a b h.4)

  -- the outcome of a list that is not empty, by the reading of the next element: a fatal reading is its fault
  abbrev ended : List A → List ℕ → Reading A → Reading (List A)
  ended xs rest (fatal e) = fatal e
  ended xs rest other = reads xs rest

  -- the outcome of a list, by the reading of the next element
  abbrev outcome : List A → List ℕ → Reading A → Reading (List A)
  outcome [] rest (fatal e) = fatal e
  outcome [] rest other = miss
  outcome (x ∷ xs) rest r = ended (x ∷ xs) rest r

  -- the elements at the start of a text, each after a comma, after which no further one is read; `many` reads them and `many_count` counts
  -- them
  record Tail (n : ℕ) (text : List ℕ) : Type 0 where
    xs : List A
    rest : List ℕ
    are : SeparatedAfterComma one xs text rest
    none : (y : A) (after : List ℕ) → after_comma one rest ≢ reads y after
    ends : many (after_comma one) n text ≡ ended xs rest (after_comma one rest)
    counted : many_count (after_comma one) n text ≡ length xs

  -- the longest list at the start of a text: it is the only longest one, and the outcome and the count of a list are by it
  record Whole (text : List ℕ) : Type 0 where
    xs : List A
    rest : List ℕ
    longest : LongestList one text xs rest
    only : (others : List A) (b : List ℕ) → LongestList one text others b → (others ≡ xs) × (b ≡ rest)
    ends : separated_list one text ≡ outcome xs rest (next xs rest)
    counted : read_count one text ≡ length xs

  module _ (no_longer : (text : List ℕ) (x : A) (rest : List ℕ) → one text ≡ reads x rest → length rest ≤ length text) where
    -- a text has a `Tail` if the text after its first element has one
    tail_more : (n : ℕ) (text : List ℕ) → length text ≤ suc n → ((after : List ℕ) → length after ≤ n → Tail n after)
        → (r : Reading A) → after_comma one text ≡ r → Tail (suc n) text
    tail_more n text room more (reads x after) e =
        let s = comma_there text (λ none. cc) in
        let first : one s.0 ≡ reads x after = sym s.2 ∙ e in
        let t = more after (omega (arith, no_longer s.0 x after first, ap length s.1)) in
        record { xs = x ∷ t.xs; rest = t.rest; are = grind arith; none = t.none; ends = grind arith; counted = grind arith }
    tail_more n text room more other e =
        record { xs = []; rest = text; are = refl; none = λ y after is. cc; ends = rw e refl; counted = rw e refl }

    -- each text has a `Tail`
    tail_is : (n : ℕ) (text : List ℕ) → length text ≤ n → Tail n text
    tail_is zero [] room = record { xs = []; rest = []; are = refl; none = λ y after is. cc; ends = refl; counted = refl }
    tail_is zero (b ∷ text) room = absurd (omega arith)
    tail_is (suc n) text room = tail_more n text room (λ after less. tail_is n after less) (after_comma one text) refl

    -- a text has a `Whole`, by the reading of its first element
    whole_by : (text : List ℕ) (r : Reading A) → one text ≡ r → Whole text
    whole_by text (reads x after) e =
        let t = tail_is (length after) after (omega arith) in
        record {
          xs = x ∷ t.xs;
          rest = t.rest;
          longest = record { separated = (after, e, t.are); most = λ others b k. (first_most x t.xs text after t.rest e t.are t.none others b k).0 };
          only = λ others b k.
              (first_most x t.xs text after t.rest e t.are t.none others b k.separated).1 (k.most (x ∷ t.xs) t.rest (after, e, t.are));
          ends = grind arith;
          counted = rw e (ap suc t.counted);
        }
      where
        -- no list is longer than the first element and the elements after it, and any list of as many elements is the same list
        first_most : (x : A) (xs : List A) (text after rest : List ℕ) → one text ≡ reads x after → SeparatedAfterComma one xs after rest
            → ((y : A) (after : List ℕ) → after_comma one rest ≢ reads y after)
            → (others : List A) (b : List ℕ) → SeparatedBy one others text b
            → (length others ≤ suc (length xs)) × (suc (length xs) ≤ length others → (others ≡ x ∷ xs) × (b ≡ rest))
        first_most x xs text after rest e h none [] b k = (omega arith, λ same. absurd (omega arith))
        first_most x xs text after rest e h none (y ∷ ys) b k =
            after_most (x ∷ xs) (y ∷ ys) (comma ∷ text) rest b (text, after, refl, e, h) (text, k.0, refl, k.1, k.2) none
    whole_by text other e =
        record { xs = []; rest = text; longest = grind arith; only = grind arith; ends = rw e refl; counted = rw e refl }

    -- each text has a `Whole`
    whole_is : (text : List ℕ) → Whole text
    whole_is text = whole_by text (one text) refl

    -- a list is read exactly if it is the longest at the start of the text and the next element has no fault
    pub the_most_is_read : TheMostIsRead one
    the_most_is_read text xs rest =
        let w = whole_is text in (
          (λ e. grind (arith)),
          (λ h.
              let same = w.only xs rest h.longest in
              let fine : (e : Fault) → next xs rest ≢ fatal e = λ e k. h.no_fault e (next_fault xs rest e k) in
              grind arith),
        )

    -- a list has a fault exactly if the element after the longest list has it
    pub the_next_has_the_fault : TheNextHasTheFault one
    the_next_has_the_fault text e =
        let w = whole_is text in (
          (λ h. (w.xs, w.rest, w.longest, next_fault w.xs w.rest e (grind arith))),
          (λ h. let same = w.only h.0 h.1 h.2 in grind (arith)),
        )

    -- a list misses exactly if its first element misses
    pub the_first_misses : TheFirstMisses one
    the_first_misses text = ((λ h. let w = whole_is text in (grind arith)), (λ e. rw e refl))

    -- the count of a list is the length of the longest list
    pub count_is_of_the_most : CountIsOfTheMost one
    count_is_of_the_most text = let w = whole_is text in (w.xs, w.rest, w.longest, w.counted)
