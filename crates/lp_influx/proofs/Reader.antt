-- The loops of the reader in code read the lists and the fronts of the definition.
use Rattle.std.proofs.Common.{◌≡◌, ◌≤◌, ◌<◌, ℕ, zero, suc, List, [], ◌∷◌, ◌++◌, length, take, drop, nat_lt, le-ltb, ◌-◌, Bool, false, not, ◌&&◌, ◌==◌, inl, inr, if◌then◌else◌, refl, sym, ap, ◌∙◌, arith, append_assoc, append-nil, map}
use Rattle.std.proofs.lemmas.{Bool.cases_Bool, Grind.common_steps, List.map-append}
use Rattle.lp_format.specs.format.{Reading, backslash, fatal, is_one_of, many, miss, prepend, quotable, quote, read_text, reads, string, without_escapes}
use Rattle.lp_portable.specs.format.Spellings.{without_each}
use Rattle.lp_influx.specs.format.InfluxFields.{influx_string, value_text}
use Rattle.lp_influx.specs.format.InfluxNames.{tag_ends, until, value_front}

-- The text before an ending byte is a front of the text.
pub until_front : (ends : List ℕ) (escaped : Bool) (text : List ℕ) → take (length (until ends escaped text)) text ≡ until ends escaped text
unfolding until
until_front ends escaped [] = refl
until_front ends escaped (b ∷ text) = grind (arith, common_steps, cases_Bool, until_front ends (b == backslash) text)

-- The value of a tag is a front of the text.
pub value_is_front : (text : List ℕ) → take (length (value_front text)) text ≡ value_front text
unfolding until
value_is_front [] = refl
value_is_front (b ∷ text) = grind (arith, common_steps, cases_Bool, until_front tag_ends false text, until_front tag_ends false (b ∷ text))

-- The text of a value is a front of the text.
pub value_text_is_front : (quoted escaped : Bool) (text : List ℕ) → take (length (value_text quoted escaped text)) text ≡ value_text quoted escaped text
unfolding value_text
value_text_is_front quoted escaped [] = refl
value_text_is_front quoted escaped (b ∷ text) =
    grind (arith, common_steps, cases_Bool, value_text_is_front (if not escaped && b == quote then not quoted else quoted) (not escaped && b == backslash) text)

-- a string, by the text that is walked over
pub string_is : (text whole rest : List ℕ) (n : ℕ) → n ≡ length (value_text false false text) → whole ≡ take n text → rest ≡ drop n text → 2 ≤ length whole
    → influx_string text ≡ reads (string (read_text quotable (take (length whole - 1 - 1) (drop 1 whole)))) rest
string_is text whole rest n len front back two =
    let same : whole ≡ value_text false false text = front ∙ ap (λ (m : ℕ). take m text) len ∙ value_text_is_front false false text in
    let long : nat_lt (length (value_text false false text)) 2 ≡ false = le-ltb _ 2 (omega (arith, ap length same)) in
    let short : length whole - 1 - 1 ≡ length whole - 2 = omega arith in
    rw (long, short, same, back, len) refl

-- a byte that is no backslash stays
no_escape : (b : ℕ) (text : List ℕ) → (b == backslash) ≡ false → without_escapes quotable (b ∷ text) ≡ b ∷ without_escapes quotable text
unfolding without_escapes
no_escape b [] other = refl
no_escape b (c ∷ text) other = rw other refl

-- a backslash may be escaped in a string, so each can be taken by itself
pub each_escape : (text : List ℕ) → without_each quotable text ≡ without_escapes quotable text
unfolding without_escapes
each_escape [] = refl
each_escape (b ∷ []) = refl
each_escape (b ∷ c ∷ text) = elim (cases_Bool (b == backslash)) [
  | inr other ↦ rw other (ap (λ (t : List ℕ). b ∷ t) (each_escape (c ∷ text)))
  | inl slash ↦ elim (cases_Bool (is_one_of quotable c)) [
    | inl known ↦ rw (slash, known) (ap (λ (t : List ℕ). c ∷ t) (each_escape text))
    | inr plain ↦
        let other : (c == backslash) ≡ false = grind (arith, common_steps, cases_Bool, plain) in
        rw (slash, plain) (ap (λ (t : List ℕ). b ∷ t) (each_escape (c ∷ text) ∙ no_escape c text other))
  ]
]

-- parts that were read of a text, which goes on so
pub record Walk {A : Type 0} (one : List ℕ → Reading A) (whole : Reading (List A)) (xs : List A) (left : List ℕ) : Type 0 where
  pub most : ℕ
  pub enough : length left ≤ most
  pub goes_on : whole ≡ prepend xs (many one most left)

module _ {A : Type 0} where
  -- nothing before what is read
  prepend_none : (r : Reading (List A)) → prepend [] r ≡ r
  prepend_none miss = refl
  prepend_none (fatal e) = refl
  prepend_none (reads xs rest) = refl

  -- Putting elements before a list twice puts both before it.
  prepend_more : (xs ys : List A) (r : Reading (List A)) → prepend xs (prepend ys r) ≡ prepend (xs ++ ys) r
  prepend_more xs ys miss = refl
  prepend_more xs ys (fatal e) = refl
  prepend_more xs ys (reads zs rest) = rw append_assoc refl

  -- If one element is read, the list of elements is this element and the list that is read from the rest.
  many_more : (one : List ℕ → Reading A) (most : ℕ) (left rest : List ℕ) (x : A) → one left ≡ reads x rest
      → many one (suc most) left ≡ prepend (x ∷ []) (many one most rest)
  many_more one most left rest x e = rw e refl

  -- If no element is read, the list is empty and the whole text is left.
  many_none : (one : List ℕ → Reading A) (most : ℕ) (left : List ℕ) → one left ≡ miss → many one most left ≡ reads [] left
  many_none one zero left e = refl
  many_none one (suc most) left e = rw e refl

  -- At its start, a walk has the elements that were found before.
  pub walk_start : (one : List ℕ → Reading A) (xs : List A) (text : List ℕ) → Walk one (prepend xs (many one (length text) text)) xs text
  walk_start one xs text = record { most = length text; enough = omega arith; goes_on = refl }

  -- A walk may start without an element.
  pub walk_none : (one : List ℕ → Reading A) (text : List ℕ) → Walk one (many one (length text) text) [] text
  walk_none one text = record { most = length text; enough = omega arith; goes_on = sym (prepend_none _) }

  -- A walk over at most this number of elements goes on with one more element.
  walk_by : (one : List ℕ → Reading A) (whole : Reading (List A)) (xs : List A) (left rest : List ℕ) (x : A) (most : ℕ) → length left ≤ most
      → whole ≡ prepend xs (many one most left) → one left ≡ reads x rest → length rest < length left → Walk one whole (xs ++ x ∷ []) rest
  walk_by one whole xs left rest x zero enough goes_on e less = absurd (omega arith)
  walk_by one whole xs left rest x (suc most) enough goes_on e less = record {
    most = most;
    enough = omega arith;
    goes_on = goes_on ∙ ap (prepend xs) (many_more one most left rest x e) ∙ prepend_more xs (x ∷ []) (many one most rest);
  }

  -- A walk goes on with one more element.
  walk_step : (one : List ℕ → Reading A) (whole : Reading (List A)) (xs : List A) (left rest : List ℕ) (x : A) → Walk one whole xs left
      → one left ≡ reads x rest → length rest < length left → Walk one whole (xs ++ x ∷ []) rest
  walk_step one whole xs left rest x w e less = walk_by one whole xs left rest x w.most w.enough w.goes_on e less

  -- A walk goes on with one more element, which the code pushes.
  pub walk_push : {X : Type 0} (view : X → A) (one : List ℕ → Reading A) (whole : Reading (List A)) (xs ys : List X) (left rest : List ℕ) (x : X)
      → Walk one whole (map view xs) left → one left ≡ reads (view x) rest → length rest < length left → ys ≡ xs ++ x ∷ []
      → Walk one whole (map view ys) rest
  walk_push view one whole xs ys left rest x w e less pushed =
      rw (pushed, map-append view xs (x ∷ [])) (walk_step one whole (map view xs) left rest (view x) w e less)

  -- At the end of a walk, the whole list is read.
  pub walk_end : (one : List ℕ → Reading A) (whole : Reading (List A)) (xs : List A) (left : List ℕ) → Walk one whole xs left → one left ≡ miss
      → whole ≡ reads xs left
  walk_end one whole xs left w e = w.goes_on ∙ ap (prepend xs) (many_none one w.most left e) ∙ rw append-nil refl
