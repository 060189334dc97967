-- The first bytes of a value decide its form; strings at the start of a text.
use Rattle.std.proofs.lemmas.Bool.{cases_Bool, and_parts, cases_lt, false_from_ne_true, cases_eq, eqb-false, or_parts}
use Rattle.std.proofs.lemmas.List.{FromFn.length-range_with_len, FromFn.get_or-range_with_len, Sums.passes_at_first}
use Rattle.std.proofs.lemmas.{Grind.common_steps, Bool.Decides.nat_tests}
use Rattle.std.proofs.Common.{◌≡◌, ◌≢◌, ℕ, ◌<◌, List, [], ◌∷◌, length, take, drop, slice_index, true, false, refl, ap, arith}
use Rattle.std.proofs.Common.{zero-add, ◌⊎◌, ◌==◌, nat_lt, ◌||◌, eq-eqb, eqb-true, ne_eqb, lt-ltb, ltb-true, length-drop}
use Rattle.std.specs.{Char.is_ascii_digit}
use Rattle.lp_format.specs.format.{quote, first_bare, byte, read_text, miss, reads, ◌otherwise◌, quotable, body_len, string}
use Rattle.lp_format.specs.format.{string_at, value, integer_at, unsigned_at, float_at, boolean_at, integer_len, true_words}
use Rattle.lp_format.specs.format.{false_words, letter_i, letter_u, minus}
use Rattle.lp_format.proofs.lemmas.values.ValueLemmas.{byte_at_drop, after_byte, boolean_misses, integer_unmarked, unsigned_reads}
use Rattle.lp_format.proofs.lemmas.values.ValueLemmas.{unsigned_overflows}

-- a text in which a byte misses does not begin with this byte
pub byte_missing : (b : ℕ) (text : List ℕ) → byte b text ≡ miss → (rest : List ℕ) → text ≢ b ∷ rest
byte_missing b text none rest e = grind (arith, eq-eqb)

-- no string is read from a text that does not begin with a quote
pub string_misses : (text : List ℕ) → ((after : List ℕ) → text ≢ quote ∷ after) → string_at text ≡ miss
unfolding string_at
string_misses text other = grind (arith, ne_eqb)

-- a quote follows a body that ends before the text does
closing_quote : (after : List ℕ) → body_len after < length after → slice_index after (body_len after) ≡ quote
unfolding first_bare
closing_quote after closes =
    let len = length-range_with_len 0 (length after) in
    let at = get_or-range_with_len 0 (length after) (body_len after) 0 (omega arith) in
    grind (arith, passes_at_first, zero-add, eqb-true, and_parts)

-- no string is read if no quote closes it
pub string_open : (text after : List ℕ) → text ≡ quote ∷ after
    → ((rest : List ℕ) → drop (body_len after) after ≢ quote ∷ rest) → string_at text ≡ miss
unfolding string_at
string_open text after e unclosed =
    let test : nat_lt (body_len after) (length after) ≡ false =
    false_from_ne_true _ (λ t. unclosed _ (after_byte after (body_len after) 33 (closing_quote after (ltb-true _ _ t)))) in
    rw (e, test) refl

-- a string between quotes is read
pub string_reads : (text after rest : List ℕ) → text ≡ quote ∷ after → drop (body_len after) after ≡ quote ∷ rest
    → string_at text ≡ reads (string (read_text quotable (take (body_len after) after))) rest
unfolding string_at
string_reads text after rest e closed = grind (arith, common_steps, nat_tests, byte_at_drop, lt-ltb, length-drop)

-- no number is read if no integer is at the start of the text
pub no_number : (text : List ℕ) → integer_len text ≡ 0 → (integer_at text otherwise unsigned_at text otherwise float_at text) ≡ miss
unfolding integer_at unsigned_at float_at
no_number text none = grind (arith, eq-eqb, cases_eq, ne_eqb, cases_Bool, eqb-true, zero-add)

-- digits and `u`, without a minus sign before them, are read as an unsigned integer
pub unsigned_is : (text : List ℕ) → 0 < integer_len text → slice_index text (integer_len text) ≢ letter_i
    → slice_index text (integer_len text) ≡ letter_u → slice_index text 0 ≢ minus
    → (integer_at text otherwise unsigned_at text otherwise float_at text) ≡ unsigned_at text
unsigned_is text some no_i mark plain = grind (arith, ne_eqb, cases_Bool, eqb-true, zero-add, cases_lt, unsigned_reads, unsigned_overflows, integer_unmarked)

-- a number without `i`, and without `u` or with a minus sign, is read as a float or not at all
pub float_is : (text : List ℕ) → slice_index text (integer_len text) ≢ letter_i
    → (slice_index text (integer_len text) ≢ letter_u) ⊎ (slice_index text 0 ≡ minus)
    → (integer_at text otherwise unsigned_at text otherwise float_at text) ≡ float_at text
unfolding unsigned_at
float_is text no_i minus = grind (arith, integer_unmarked, cases_eq, eq-eqb, nat_tests, ne_eqb, cases_Bool, eqb-true, zero-add)

-- no integer is read if the first byte is neither a digit nor `-`
no_integer : (text : List ℕ) → (is_ascii_digit (slice_index text 0) || slice_index text 0 == minus) ≡ false → integer_len text ≡ 0
no_integer [] other = refl
no_integer (b ∷ rest) other = grind (arith, or_parts, ne_eqb, eqb-false)

-- no string is read if the first byte is no quote
no_string : (text : List ℕ) → slice_index text 0 ≢ quote → string_at text ≡ miss
no_string text other = string_misses text (λ after e. other (ap (λ t. slice_index t 0) e))

-- a text that begins with a digit or `-` is read as a number
pub number_form : (text : List ℕ) → (is_ascii_digit (slice_index text 0) || slice_index text 0 == minus) ≡ true
    → value text ≡ (integer_at text otherwise unsigned_at text otherwise float_at text)
unfolding value
number_form text first = grind (arith, boolean_misses, ne_eqb, no_string)

-- a text that begins with a quote is read as a string
pub string_form : (text : List ℕ) → slice_index text 0 ≡ quote → value text ≡ string_at text
unfolding value
string_form text first = grind (arith, no_number, no_integer, boolean_misses, ne_eqb)

-- any other text is read as a Boolean
pub boolean_form : (text : List ℕ) → (is_ascii_digit (slice_index text 0) || slice_index text 0 == minus) ≡ false → slice_index text 0 ≢ quote
    → value text ≡ (boolean_at true true_words text otherwise boolean_at false false_words text)
unfolding value
boolean_form text other no_quote = rw (no_number text (no_integer text other), no_string text no_quote) refl
