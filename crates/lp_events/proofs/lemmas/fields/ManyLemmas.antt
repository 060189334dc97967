-- Parts that are joined by commas, read one after another, and the text that a tag set was read from.
use Rattle.std.proofs.Common.{◌≡◌, ℕ, ◌<◌, List, [], ◌∷◌, ◌++◌, length, refl, arith}
use Rattle.std.proofs.Common.{◌⊎◌, ◌↔◌, Option, Some, None, Ok, ◌≤◌}
use Rattle.std.proofs.lemmas.Bool.{cases_Bool}
use Rattle.lp_format.specs.format.{comma, Dialect, Fault, Text, Read, Reading, miss, fatal, reads, name, a_measurement, Pair, Value}
use Rattle.lp_format.specs.format.{after_comma, byte, field, field_set, separated_list, some_tags, tag, tag_set}
use Rattle.lp_format.specs.laws.Meanings.{LongestList, NextHasFault, SeparatedBy, SeparatedAfterComma}
use Rattle.lp_format.proofs.lemmas.meanings.{JoinedMeaning.the_most_is_read, JoinedMeaning.the_next_has_the_fault, ShorterRests.IsNoLonger}
use Rattle.lp_format.proofs.lemmas.meanings.ShorterRests.{tag_no_longer}
use Rattle.lp_values.proofs.lemmas.fields.ReadingLemmas.{EndsIn, EndsIn-end, EndsIn-self, bind_reads, byte_parts, name_ends}
use Rattle.lp_values.proofs.lemmas.fields.ReadingLemmas.{tag_ends}
use Rattle.lp_events.specs.code.Stops.{DoesNotRead}
use Rattle.lp_events.specs.code.{Events.AreBeforeFault, Events.AreMost, Events.AreRead, Events.reader_after}

-- a text begins with a comma or does not
pub comma_cases : (text : List ℕ) → (byte comma text ≡ miss) ⊎ ((place : List ℕ) × (byte comma text ≡ reads comma place))
comma_cases text = grind (arith, cases_Bool)

-- the reader after some parts is the same if the first reader is the next reader
pub same_reader : {A : Type 0} (next : List ℕ → Reading A) (xs : List A) → reader_after next next xs ≡ next
same_reader next [] = refl
same_reader next (x ∷ xs) = refl

-- the reader after one or more parts is the next reader
pub after_some : {A : Type 0} (first next : List ℕ → Reading A) (xs : List A) → 0 < length xs → reader_after first next xs ≡ next
after_some first next [] some = absurd (omega arith)
after_some first next (x ∷ xs) some = refl

-- one more part is read after these
pub read_more : {A : Type 0} (first next : List ℕ → Reading A) (done : List A) (text rest after : List ℕ) (y : A) → AreRead first next done text rest
    → reader_after first next done rest ≡ reads y after → AreRead first next (done ++ y ∷ []) text after
read_more first next [] text rest after y h e = (after, rw h e, refl)
read_more first next (x ∷ xs) text rest after y h e =
    (h.0, h.1, read_more next next xs h.0 rest after y h.2 (rw (same_reader next xs) e))

-- no parts are more than the parts after which no part reads
read_most : {A : Type 0} (first next : List ℕ → Reading A) (xs ys : List A) (text a b : List ℕ) → AreRead first next xs text a
    → AreRead first next ys text b → DoesNotRead (reader_after first next xs a) → length ys ≤ length xs
read_most first next xs [] text a b h k none = omega arith
read_most first next [] (y ∷ ys) text a b h k none = absurd (rw (rw h at k.1) at none)
read_most first next (x ∷ xs) (y ∷ ys) text a b h k none =
    let same : k.0 ≡ h.0 = cc in
    let fewer = read_most next next xs ys h.0 a b h.2 (rw same at k.2) (rw (same_reader next xs) none) in
    omega (arith, fewer)

-- the parts after which no part reads are the most
pub are_most : {A : Type 0} (first next : List ℕ → Reading A) (xs : List A) (text rest : List ℕ) → AreRead first next xs text rest
    → DoesNotRead (reader_after first next xs rest) → AreMost first next text xs rest
are_most first next xs text rest h none = record { are = h; most = λ ys after k. read_most first next xs ys text rest after h k none }

-- no parts are the most if no part reads at the start
pub none_most : {A : Type 0} (first next : List ℕ → Reading A) (text : List ℕ) → DoesNotRead (first text) → AreMost first next text [] text
none_most first next text none = are_most first next [] text text refl none

-- the parts `done` were read, and the next part can be at `place`
pub record Reached {A : Type 0} (one : List ℕ → Reading A) (text : List ℕ) (done : List A) (rest place : List ℕ) : Type 0 where
  pub are : AreRead one (after_comma one) done text rest
  pub next : reader_after one (after_comma one) done rest ≡ one place

-- one more part was read, and a comma comes after it
pub reached_more : {A : Type 0} (one : List ℕ → Reading A) (done : List A) (text rest place : List ℕ) (y : A)
    → AreRead one (after_comma one) (done ++ y ∷ []) text rest → byte comma rest ≡ reads comma place → Reached one text (done ++ y ∷ []) rest place
reached_more one [] text rest place y h mark = record { are = h; next = rw mark refl }
reached_more one (x ∷ xs) text rest place y h mark = record { are = h; next = rw mark refl }

module _ {A : Type 0} (one : List ℕ → Reading A) (no_longer : (text : List ℕ) → IsNoLonger text (one text)) where
  -- parts are read after commas exactly if they are separated after a comma
  after_commas : (xs : List A) (text rest : List ℕ) → AreRead (after_comma one) (after_comma one) xs text rest ↔ SeparatedAfterComma one xs text rest
  after_commas [] text rest = (λ h. h, λ h. h)
  after_commas (x ∷ xs) text rest = (
    λ h.
        let p = bind_reads (byte comma text) (λ after. one after.rest) x h.0 h.1 in
        (p.mid, h.0, (byte_parts comma text p.first p.mid p.was).1, p.next, (after_commas xs h.0 rest).0 h.2),
    λ h. (h.1, rw h.2 h.3, (after_commas xs h.1 rest).1 h.4),
  )

  -- parts are read with commas between them exactly if they are separated by commas
  pub joined : (xs : List A) (text rest : List ℕ) → AreRead one (after_comma one) xs text rest ↔ SeparatedBy one xs text rest
  joined [] text rest = (λ h. h, λ h. h)
  joined (x ∷ xs) text rest =
      (λ h. (h.0, h.1, (after_commas xs h.0 rest).0 h.2), λ h. (h.0, h.1, (after_commas xs h.0 rest).1 h.2))

  -- the most parts are the longest list
  longest : (text : List ℕ) (xs : List A) (rest : List ℕ) → AreMost one (after_comma one) text xs rest → LongestList one text xs rest
  longest text xs rest h = record {
    separated = (joined xs text rest).0 h.are;
    most = λ others after k. h.most others after ((joined others text after).1 k);
  }

  -- parts after which no part follows are the whole list, and the most
  pub read_all : (xs : List A) (text rest : List ℕ) → 0 < length xs → AreRead one (after_comma one) xs text rest
      → reader_after one (after_comma one) xs rest ≡ miss → (separated_list one text ≡ reads xs rest) × AreMost one (after_comma one) text xs rest
  read_all [] text rest some h none = absurd (omega arith)
  read_all (x ∷ xs) text rest some h none =
      let most = are_most one (after_comma one) (x ∷ xs) text rest h (rw none (tt {0})) in (
        (the_most_is_read one (λ t. (no_longer t).holds) text (x ∷ xs) rest).1
            (record { some = some; longest = longest text (x ∷ xs) rest most; no_fault = λ e f. grind (arith) }),
        most,
      )

  -- parts before a part that is fatal are the most
  pub read_fault : (xs : List A) (text rest : List ℕ) (e : Fault) → AreRead one (after_comma one) xs text rest
      → reader_after one (after_comma one) xs rest ≡ fatal e → AreBeforeFault one text xs e
  read_fault xs text rest e h next =
      let most = are_most one (after_comma one) xs text rest h (rw next (tt {0})) in
      record {
        rest = rest;
        most = most;
        next = next;
        given = (the_next_has_the_fault one (λ t. (no_longer t).holds) text e).1 (xs, rest, longest text xs rest most, fault_is xs next);
      }
    where
      -- the part after the parts has the fault
      fault_is : (xs : List A) → reader_after one (after_comma one) xs rest ≡ fatal e → NextHasFault one xs rest e
      fault_is [] next = next
      fault_is (x ∷ xs) next = grind (arith, comma_cases, byte_parts)

-- the text that a tag set is read from: a text without a comma at its start, or tags after a comma
pub data TagSetRead (text : List ℕ) : Option (List (Pair Text Text)) → List ℕ → Type 0 where
  no_set : byte comma text ≡ miss → TagSetRead text None text
  some_set : (mark : List ℕ) (tags : List (Pair Text Text)) (rest : List ℕ) → byte comma text ≡ reads comma mark
      → separated_list tag mark ≡ reads tags rest → TagSetRead text (Some tags) rest

-- each tag set is read from a text as `TagSetRead` says
pub tag_set_read : (text rest : List ℕ) (set : Option (List (Pair Text Text))) → tag_set text ≡ Ok (record { value = set; rest = rest })
    → TagSetRead text set rest
tag_set_read text rest set e = grind (arith, comma_cases, TagSetRead.no_set, TagSetRead.some_set)

-- tags joined by commas, with a comma before them, come each after a comma
separated_after : (tags : List (Pair Text Text)) (text mark rest : List ℕ) → text ≡ comma ∷ mark → 0 < length tags
    → SeparatedBy tag tags mark rest → SeparatedAfterComma tag tags text rest
separated_after tags text mark rest e some h = grind (arith)

-- the tags of a tag set are at the start of its text, each after a comma, and its rest follows them
pub set_separated : (text rest : List ℕ) (set : Option (List (Pair Text Text)))
    → tag_set text ≡ Ok (record { value = set; rest = rest }) → SeparatedAfterComma tag (some_tags set) text rest
set_separated text rest set e = by_read (tag_set_read text rest set e)
  where
    -- there are no tags, or each tag comes after a comma
    by_read : {set : Option (List (Pair Text Text))} {rest : List ℕ} → TagSetRead text set rest
        → SeparatedAfterComma tag (some_tags set) text rest
    by_read (no_set none) = refl
    by_read (some_set mark tags rest sign read) =
        let full = (the_most_is_read tag (λ t. (tag_no_longer t).holds) mark tags rest).0 read in
        separated_after tags text mark rest (byte_parts comma text comma mark sign).1 full.some full.longest.separated

-- a text ends in the rest after tags that come after commas
tags_end : (tags : List (Pair Text Text)) (text rest : List ℕ) → SeparatedAfterComma tag tags text rest → EndsIn text rest
tags_end [] text rest h = rw h (EndsIn-self rest)
tags_end (t ∷ tags) text rest h =
    let first = EndsIn-end text h.0 h.1 (record { front = comma ∷ []; is = h.2 }) (tag_ends h.0 t h.1 h.3) in
    EndsIn-end text h.1 rest first (tags_end tags h.1 rest h.4)

-- a text ends in the rest after its tag set
pub tag_set_ends : (text : List ℕ) (t : Read (Option (List (Pair Text Text)))) → tag_set text ≡ Ok t → EndsIn text t.rest
tag_set_ends text t e = tags_end (some_tags t.value) text t.rest (set_separated text t.rest t.value e)

-- a field set was read from fields that are joined by commas
pub fields_joined : (dialect : Dialect) (text rest : List ℕ) (fs : List (Pair Text (Value Text))) → field_set dialect text ≡ reads fs rest
    → (end : List ℕ) × (separated_list field text ≡ reads fs end)
fields_joined dialect text rest fs e = grind (arith, bind_reads)

-- a line ends in the rest after the text of its series
pub series_ends : (line : List ℕ) (m : Text) (rest : List ℕ) (tags : Read (Option (List (Pair Text Text))))
    → name a_measurement line ≡ reads m rest → tag_set rest ≡ Ok tags → EndsIn line tags.rest
series_ends line m rest tags e t = EndsIn-end line rest tags.rest (name_ends a_measurement line m rest e) (tag_set_ends rest tags t)
