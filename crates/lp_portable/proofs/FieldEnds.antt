-- The text that is left after a value, or after a field, is an end of the text.
use Rattle.std.proofs.Common.{◌≡◌, ℕ, List, [], ◌∷◌, drop, refl, sym, arith, Bool, cond}
use Rattle.lp_format.specs.format.{equals, Fault, Pair, Reading, Text, Value, a_field_key}
use Rattle.lp_format.specs.format.{fatal, field, miss, reads, value, ◌otherwise◌}
use Rattle.lp_format.specs.format.{boolean_at, float_at, integer_at, string_at, unsigned_at}
use Rattle.lp_values.proofs.lemmas.fields.ReadingLemmas.{EndsIn, EndsIn-drop, EndsIn-end, name_ends, pair_parts}

-- A reading leaves an end of the text.
pub record LeavesEnd {A : Type 0} (text : List ℕ) (r : Reading A) : Type 0 where
  pub holds : (x : A) (rest : List ℕ) → r ≡ reads x rest → EndsIn text rest

-- a miss leaves nothing
none_left : {A : Type 0} (text : List ℕ) → LeavesEnd {A = A} text miss
none_left text = record { holds = λ x rest e. absurd (cc) }

-- a fault leaves nothing
fault_left : {A : Type 0} (text : List ℕ) (f : Fault) → LeavesEnd {A = A} text (fatal f)
fault_left text f = record { holds = λ x rest e. absurd (cc) }

-- an end is left
end_left : {A : Type 0} (text : List ℕ) (x : A) (rest : List ℕ) → EndsIn text rest → LeavesEnd text (reads x rest)
end_left text x rest h = record { holds = λ y after e. let same : rest ≡ after = cc in rw (sym same) h }

-- A reading that takes a front of the text leaves an end of the text.
drop_left : {A : Type 0} (text : List ℕ) (n : ℕ) (x : A) → LeavesEnd text (reads x (drop n text))
drop_left text n x = end_left text x (drop n text) (EndsIn-drop n text (drop n text) refl)

-- either of two
either : {A : Type 0} (text : List ℕ) (b : Bool) (r s : Reading A) → LeavesEnd text r → LeavesEnd text s → LeavesEnd text (cond b r s)
either text b r s h k = grind arith

-- the first of two that does not miss
one_of_two : {A : Type 0} (text : List ℕ) (r s : Reading A) → LeavesEnd text r → LeavesEnd text s → LeavesEnd text (r otherwise s)
one_of_two text r s h k = grind arith

-- A text without its first bytes, after a quote, is an end of the text with the quote.
after_quote : (b : ℕ) (after : List ℕ) (n : ℕ) → EndsIn (b ∷ after) (drop n after)
after_quote b after n =
    EndsIn-end (b ∷ after) after (drop n after) (record { front = b ∷ []; is = refl }) (EndsIn-drop n after (drop n after) refl)

-- a string
string_left : (text : List ℕ) → LeavesEnd text (string_at text)
unfolding string_at
string_left [] = none_left []
string_left (b ∷ after) = either (b ∷ after) _ _ _ (end_left (b ∷ after) _ _ (after_quote b after _)) (none_left (b ∷ after))

-- a value
pub value_left : (text : List ℕ) → LeavesEnd text (value text)
unfolding value integer_at unsigned_at float_at boolean_at
value_left text = grind (arith, either, none_left, drop_left, fault_left, one_of_two, string_left)

-- The text that is left after a field is an end of the text.
pub field_ends : (text : List ℕ) (x : Pair Text (Value Text)) (rest : List ℕ) → field text ≡ reads x rest → EndsIn text rest
unfolding field
field_ends text x rest e =
    let p = pair_parts a_field_key value text x rest e in
    let after_key = name_ends a_field_key text x.key (equals ∷ p.mid) p.key in
    let after_mark = EndsIn-end text (equals ∷ p.mid) p.mid after_key (record { front = equals ∷ []; is = refl }) in
    EndsIn-end text p.mid rest after_mark ((value_left p.mid).holds x.value rest p.value)
