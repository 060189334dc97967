-- The rest after a reading is no longer than the text.
use Rattle.std.proofs.lemmas.{Grind.common_steps, Bool.Decides.nat_tests, Bool.cases_Bool, List.Sums.prefix_len_passes}
use Rattle.std.proofs.lemmas.{List.Sums.prefix_len-le-length, Str.IsCharBoundary-after_ascii, Str.IsCharBoundary-start}
use Rattle.std.proofs.Common.{◌≡◌, ℕ, zero, suc, add-one, List, arith, ◌≤◌, length, drop, Bool, cond, ap, length-drop, IsUtf8}
use Rattle.std.proofs.Common.{IsCharBoundary, eqb-true}
use Rattle.lp_format.specs.format.{byte, spaces, key_value, tag, field, reads, Fault, Read, Reading, miss, fatal, ◌>>=◌}
use Rattle.lp_format.specs.format.{◌otherwise◌, equals, NameKind, a_tag_key, a_tag_value, a_field_key, name, value, integer_at}
use Rattle.lp_format.specs.format.{unsigned_at, float_at, string_at, boolean_at}

-- a UTF-8 text can be cut after the spaces at its start
pub spaces_boundary : (text : List ℕ) (n : ℕ) → IsUtf8 text → n ≡ spaces text → IsCharBoundary text n
spaces_boundary text zero utf8 e = IsCharBoundary-start text utf8
spaces_boundary text (suc n) utf8 e =
    grind (arith, common_steps, nat_tests, cases_Bool, eqb-true, prefix_len_passes, prefix_len-le-length, add-one, IsCharBoundary-after_ascii)

-- the rest that a reading leaves is no longer than the text
pub record IsNoLonger {A : Type 0} (text : List ℕ) (r : Reading A) : Type 0 where
  pub holds : (x : A) (rest : List ℕ) → r ≡ reads x rest → length rest ≤ length text

-- a reading that misses leaves no rest
none_left : {A : Type 0} (text : List ℕ) → IsNoLonger {A = A} text miss
none_left text = record { holds = λ x rest e. absurd (cc) }

-- a fatal reading leaves no rest
fault_left : {A : Type 0} (text : List ℕ) (f : Fault) → IsNoLonger {A = A} text (fatal f)
fault_left text f = record { holds = λ x rest e. absurd (cc) }

-- a reading leaves this rest, which is no longer than the text
some_left : {A : Type 0} (text : List ℕ) (x : A) (rest : List ℕ) → length rest ≤ length text → IsNoLonger text (reads x rest)
some_left text x rest h = record { holds = λ y after e. let same : rest ≡ after = cc in omega (arith, ap length same) }

-- a reading that drops a front of the text leaves a rest that is no longer
dropped : {A : Type 0} (text : List ℕ) (n : ℕ) (x : A) → IsNoLonger text (reads x (drop n text))
dropped text n x = some_left text x (drop n text) (omega (arith, length-drop n text))

-- a condition between two readings leaves a rest that is no longer, if both do
either : {A : Type 0} (text : List ℕ) (b : Bool) (r s : Reading A) → IsNoLonger text r → IsNoLonger text s → IsNoLonger text (cond b r s)
either text b r s h k = grind arith

-- the first of two readings that does not miss leaves a rest that is no longer, if both do
one_of_two : {A : Type 0} (text : List ℕ) (r s : Reading A) → IsNoLonger text r → IsNoLonger text s → IsNoLonger text (r otherwise s)
one_of_two text r s h k = grind arith

-- a reading of the rest after another reading leaves a rest that is no longer, if both do
and_then : {A B : Type 0} (text : List ℕ) (r : Reading A) (f : Read A → Reading B) → IsNoLonger text r
    → ((x : Read A) → IsNoLonger x.rest (f x)) → IsNoLonger text (r >>= f)
and_then text r f h k = grind (arith, none_left, fault_left)

-- the rest after a name is no longer than the text
name_no_longer : (kind : NameKind) (text : List ℕ) → IsNoLonger text (name kind text)
unfolding name
name_no_longer kind text = either text _ _ _ (none_left text) (either text _ _ _ (fault_left text _) (dropped text _ _))

-- the rest after a string is no longer than the text
string_no_longer : (text : List ℕ) → IsNoLonger text (string_at text)
unfolding string_at
string_no_longer text = grind (arith, none_left, either, some_left, length-drop)

-- the rest after a value is no longer than the text
value_no_longer : (text : List ℕ) → IsNoLonger text (value text)
unfolding value integer_at unsigned_at float_at boolean_at
value_no_longer text = grind (arith, either, none_left, dropped, fault_left, one_of_two, string_no_longer)

-- the rest after a key and a value is no longer than the text
key_value_no_longer : {V : Type 0} (kind : NameKind) (part : List ℕ → Reading V) → ((text : List ℕ) → IsNoLonger text (part text))
    → (text : List ℕ) → IsNoLonger text (key_value kind part text)
key_value_no_longer kind part part_no_longer text =
    and_then text (name kind text) _ (name_no_longer kind text) λ key.
    and_then key.rest (byte equals key.rest) _ (grind (arith, none_left, either, some_left)) λ after.
    and_then after.rest (part after.rest) _ (part_no_longer after.rest) λ x.
    some_left x.rest _ x.rest (omega arith)

-- the rest after a tag is no longer than the text
pub tag_no_longer : (text : List ℕ) → IsNoLonger text (tag text)
unfolding tag
tag_no_longer text = key_value_no_longer a_tag_key (name a_tag_value) (name_no_longer a_tag_value) text

-- the rest after a field is no longer than the text
pub field_no_longer : (text : List ℕ) → IsNoLonger text (field text)
unfolding field
field_no_longer text = key_value_no_longer a_field_key value value_no_longer text
