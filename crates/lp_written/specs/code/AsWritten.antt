-- The parts of a text that are written as the builder writes them.
use Rattle.std.specs.Prelude.{◌≡◌, ◌&&◌, ◌||◌, ◌==◌, ◌+◌, ◌^◌, ℕ, ℤ, Bool, true, false, not, nat_lt, Option, List, [], ◌∷◌, ◌++◌, length}
use Rattle.std.specs.Prelude.{IfSome, MatchOption, if◌then◌else◌, slice_index}
use Rattle.std.specs.Borrow.{Bor}
use Rattle.std.specs.Str.Parse.{digits_value, signed_digits_value}
use Rattle.lp_format.specs.format.{backslash, comma, equals, hash, is_one_of, minus, space, NameKind, a_measurement, a_tag_key}
use Rattle.lp_format.specs.format.{a_tag_value, a_field_key, ends_in_backslash, escapable, is_stop, Pair, fits_i64, string, IsValue}
use Rattle.lp_format.specs.format.{built_timestamp, built_value, is_admitted_name, spelling}

-- The number of bytes at the start of a text that the builder spells for a token. The token ends at the first byte that ends it or that
-- must have a backslash before it; a backslash before such a byte belongs to the token.
unfoldable pub written_len : List ℕ → (ℕ → Bool) → List ℕ → ℕ
written_len known stops [] = 0
written_len known stops (b ∷ []) = if stops b || is_one_of known b then 0 else 1
written_len known stops (b ∷ c ∷ rest) = if stops b || is_one_of known b
    then if b == backslash && is_one_of known c then 2 + written_len known stops rest else 0
    else 1 + written_len known stops (c ∷ rest)

-- A thing of this form stands at the start of the text as it is written, and this rest follows.
pub record IsWritten {X : Type 0} (print : X → List ℕ) (Is : X → Type 0) (text rest : List ℕ) : Type 0 where
  pub thing : X
  pub is : Is thing
  pub written : print thing ++ rest ≡ text

-- The name is admitted as a name of this kind.
abbrev pub IsName : NameKind → List ℕ → Type 0
IsName kind name = is_admitted_name kind name ≡ true

-- The text is an admitted name of this kind as the builder writes it, and then this rest.
abbrev pub IsWrittenName : NameKind → List ℕ → List ℕ → Type 0
IsWrittenName kind = IsWritten (spelling kind) (IsName kind)

-- Whether a name of this kind with this spelling can be admitted, as far as its first and last bytes tell.
abbrev pub is_admitted_spelling : NameKind → List ℕ → Bool
is_admitted_spelling a_measurement spelled =
    not (length spelled == 0) && not (ends_in_backslash spelled) && not (slice_index spelled 0 == hash)
is_admitted_spelling other spelled = not (length spelled == 0) && not (ends_in_backslash spelled)

-- A rest whose first byte does not go on with a name of this kind.
abbrev pub EndsName : NameKind → List ℕ → Type 0
EndsName kind rest = written_len (escapable kind) (is_stop kind) rest ≡ 0

-- The text is a string as the builder writes it, and then this rest.
abbrev pub IsWrittenString : List ℕ → List ℕ → Type 0
IsWrittenString = IsWritten (λ body. built_value (string body)) (λ body. Unit)

-- The text is a value as the builder writes it, and then this rest.
abbrev pub IsWrittenValue : List ℕ → List ℕ → Type 0
IsWrittenValue = IsWritten built_value IsValue

-- Whether a number begins with a zero that the builder does not write: a zero after `-`, or a zero before more digits.
abbrev pub has_extra_zero : List ℕ → Bool
has_extra_zero (b ∷ c ∷ number) = b == minus && c == 48 || b == 48
has_extra_zero number = false

-- Whether the builder writes a number in this way as an integer.
abbrev pub is_written_integer : List ℕ → Bool
is_written_integer number = not (has_extra_zero number) && fits_i64 (signed_digits_value 10 number)

-- Whether the builder writes a number in this way as an unsigned integer.
abbrev pub is_written_unsigned : List ℕ → Bool
is_written_unsigned number = not (slice_index number 0 == minus) && not (has_extra_zero number) && nat_lt (digits_value 10 number) (2 ^ 64)

-- A rest whose first byte does not go on with a value: a comma, a space, or no byte.
abbrev pub EndsValue : List ℕ → Type 0
EndsValue rest = is_one_of (0 ∷ comma ∷ space ∷ []) (slice_index rest 0) ≡ true

-- The text of a tag or a field, without the byte before it.
abbrev pub pair_text : {V : Type 0} → NameKind → (V → List ℕ) → Pair (List ℕ) V → List ℕ
pair_text kind print p = spelling kind p.key ++ equals ∷ print p.value

-- The key of a pair is admitted, and its value has this form.
abbrev pub IsPair : {V : Type 0} → NameKind → (V → Type 0) → Pair (List ℕ) V → Type 0
IsPair kind Is p = IsName kind p.key × Is p.value

-- The text is an admitted tag as the builder writes it, without the comma before it, and then this rest.
abbrev pub IsWrittenTag : List ℕ → List ℕ → Type 0
IsWrittenTag = IsWritten (pair_text a_tag_key (spelling a_tag_value)) (IsPair a_tag_key (IsName a_tag_value))

-- The text is a field with an admitted key as the builder writes it, and then this rest.
abbrev pub IsWrittenField : List ℕ → List ℕ → Type 0
IsWrittenField = IsWritten (pair_text a_field_key built_value) (IsPair a_field_key IsValue)

-- The text is what the builder writes for a timestamp, or nothing.
abbrev pub IsWrittenTimestamp : List ℕ → Type 0
IsWrittenTimestamp text = (t : Option ℤ) × IfSome t (λ z. fits_i64 z ≡ true) × (built_timestamp t ≡ text)

-- A front of this form is at the start of the text, and the rest has the other form.
pub record IsFollowed (Front : List ℕ → List ℕ → Type 0) (After : List ℕ → Type 0) (text : List ℕ) : Type 0 where
  pub rest : List ℕ
  pub front : Front text rest
  pub after : After rest

-- Items of this form, each after a comma, are at the start of the text, and the rest has the other form.
pub data AreItems (Item : List ℕ → List ℕ → Type 0) (After : List ℕ → Type 0) : List ℕ → Type 0 where
  no_item : {text : List ℕ} → After text → AreItems Item After text
  an_item : {text : List ℕ} (after rest : List ℕ) → text ≡ comma ∷ after → Item after rest → AreItems Item After rest → AreItems Item After text

-- The text is what the builder writes after a field: more fields, and a timestamp or none.
abbrev pub IsWrittenAfterField : List ℕ → Type 0
IsWrittenAfterField = AreItems IsWrittenField IsWrittenTimestamp

-- The text is what the builder writes for a field and for everything after it.
abbrev pub AreWrittenFields : List ℕ → Type 0
AreWrittenFields = IsFollowed IsWrittenField IsWrittenAfterField

-- The text is a space, and then what the builder writes for the fields and the timestamp.
abbrev pub IsWrittenAfterTags : List ℕ → Type 0
IsWrittenAfterTags = IsFollowed (λ text rest. text ≡ space ∷ rest) AreWrittenFields

-- The text is what the builder writes after a measurement: tags, at least one field, and a timestamp or none.
abbrev pub IsWrittenAfterName : List ℕ → Type 0
IsWrittenAfterName = AreItems IsWrittenTag IsWrittenAfterTags

-- With a result, the result is the only rest that follows such a front and ends it. Without a result, no rest follows such a front and ends
-- it.
abbrev pub IsOnlyRest : (List ℕ → Type 0) → (List ℕ → Type 0) → Option (Bor (List ℕ)) → Type 0
IsOnlyRest Front Ends result = MatchOption result ((rest : List ℕ) → Front rest → Ends rest → ⊥)
    (λ left. Front left.now × ((rest : List ℕ) → Front rest → Ends rest → rest ≡ left.now))
