-- Texts in strings of JSON, and the texts of fault lines.
use Rattle.std.proofs.Common.{◌≡◌, ℕ, ◌+◌, ◌<◌, ◌≤◌, true, false, List, [], ◌∷◌, ◌++◌, length, take, slice_index}
use Rattle.std.proofs.Common.{refl, sym, ap, subst, ◌∙◌, arith, append_assoc, append-nil, codes, map, nat_lt, inl, inr}
use Rattle.std.proofs.lemmas.Bool.Decides.{nat_tests}
use Rattle.std.proofs.lemmas.Grind.{flat_map-append}
use Rattle.std.proofs.lemmas.List.{take_all}
use Rattle.std.proofs.lemmas.List.Elements.{All-more, All-tail}
use Rattle.std.proofs.lemmas.Bool.{cases_Bool}
use Rattle.std.proofs.lemmas.Str.{IsUtf8-from_is_utf8, chars-IsAscii, encode_ascii, is_utf8-from_IsUtf8}
use Rattle.std.proofs.lemmas.Str.Ascii.{IsAscii-from_all}
use Rattle.std.specs.List.{All, flat_map}
use Rattle.std.specs.Str.{IsUtf8, chars, is_utf8}
use Rattle.base64.specs.Engines.{standard}
use Rattle.base64.specs.GeneralPurpose.{encode_of}
use Rattle.lp_escapes.specs.JsonTexts.{bytes_string, cut_json_text, is_escaped, json_character, json_text, utf8_front}
use Rattle.lp_escapes.specs.Told.{cut_mark}

-- a byte is a character of ASCII that stands as it is
abbrev pub IsPlain : ℕ → Type 0
IsPlain b = (b < 128) × (is_escaped b ≡ false)

-- each character of such a text is its byte
plain_characters : (bytes : List ℕ) → All IsPlain bytes → flat_map json_character bytes ≡ bytes
plain_characters [] all = refl
plain_characters (b ∷ bytes) all =
    let first : IsPlain b = all 0 b (omega arith) in
    let one : json_character b ≡ b ∷ [] = rw first.1 (encode_ascii b first.0) in
    ap (λ (l : List ℕ). l ++ flat_map json_character bytes) one
    ∙ ap (λ (l : List ℕ). b ∷ l) (plain_characters bytes (All-tail IsPlain b bytes all))

-- a text of such bytes stands as it is
plain_text : (bytes : List ℕ) → All IsPlain bytes → json_text bytes ≡ bytes
plain_text bytes all =
    ap (flat_map json_character) (chars-IsAscii bytes (IsAscii-from_all bytes (λ k d within. (all k d within).0)))
    ∙ plain_characters bytes all

-- all bytes up to the end are all bytes
pub plain_front : (bytes : List ℕ) (at : ℕ) → length bytes ≤ at → All IsPlain (take at bytes) → json_text bytes ≡ bytes
plain_front bytes at low all = plain_text bytes (subst (All IsPlain) (take_all at bytes low) all)

-- if bytes are such, and the next is, so are all of them
pub one_more_plain : (bytes : List ℕ) (at : ℕ) → at < length bytes → All IsPlain (take at bytes) → IsPlain (slice_index bytes at)
    → All IsPlain (take (at + 1) bytes)
one_more_plain bytes at more front next = All-more IsPlain bytes at 0 more front next

-- one character more
pub one_more : (old done new : List ℕ) (characters : List ℕ) (c : ℕ) → done ≡ old ++ flat_map json_character characters
    → new ≡ done ++ json_character c → new ≡ old ++ flat_map json_character (characters ++ c ∷ [])
one_more old done new characters c before added =
    let longer : flat_map json_character (characters ++ c ∷ []) ≡ flat_map json_character characters ++ json_character c =
    flat_map-append json_character characters (c ∷ [])
    ∙ ap (λ (l : List ℕ). flat_map json_character characters ++ l) (append-nil (json_character c)) in
    added ∙ ap (λ (l : List ℕ). l ++ json_character c) before ∙ append_assoc old (flat_map json_character characters) (json_character c)
    ∙ ap (λ (l : List ℕ). old ++ l) (sym longer)

-- the items of characters are the characters
same_items : (characters : List ℕ) → map (λ c. c) characters ≡ characters
same_items [] = refl
same_items (c ∷ characters) = ap (λ (l : List ℕ). c ∷ l) (same_items characters)

-- the text of all characters that came
pub all_came : (old new text came : List ℕ) → new ≡ old ++ flat_map json_character came → map (λ c. c) came ≡ chars text
    → new ≡ old ++ json_text text
all_came old new text came added all =
    added ∙ ap (λ (l : List ℕ). old ++ flat_map json_character l) (sym (same_items came) ∙ all)

-- a text of few bytes is told whole
pub json_whole : (text : List ℕ) → length text ≤ 200 → json_text text ≡ cut_json_text text
json_whole text few =
    let short : nat_lt 200 (length text) ≡ false = grind (arith, nat_tests) in
    rw short refl

-- of a longer one a front is told, and its length
pub json_front : (text : List ℕ) → 200 < length text → json_text (utf8_front (take 200 text)) ++ cut_mark (length text) ≡ cut_json_text text
json_front text many =
    let long : nat_lt 200 (length text) ≡ true = grind (arith, nat_tests) in
    rw long refl

-- a text of few bytes that have no escape is told as it is
pub json_plain : (text : List ℕ) → length text ≤ 200 → json_text text ≡ text → cut_json_text text ≡ text
json_plain text few plain = sym (json_whole text few) ∙ plain

-- bytes that are UTF-8 are told as their text
pub text_string : (text bytes : List ℕ) → text ≡ bytes → IsUtf8 bytes → codes "\":\"" ++ json_text text ++ codes "\"" ≡ bytes_string bytes
text_string text bytes is u = rw (is, is_utf8-from_IsUtf8 bytes u) refl

-- and others in base64
pub base64_string : (bytes : List ℕ) → (¬ IsUtf8 bytes) → codes "_base64\":\"" ++ encode_of standard bytes ++ codes "\"" ≡ bytes_string bytes
base64_string bytes bad =
    elim (cases_Bool (is_utf8 bytes)) [
      | inl good ↦ absurd (bad (IsUtf8-from_is_utf8 bytes good))
      | inr other ↦ rw other refl
    ]

-- three texts that were added one after another
pub three_added : (old x y new a b c : List ℕ) → x ≡ old ++ a → y ≡ x ++ b → new ≡ y ++ c → new ≡ old ++ (a ++ b ++ c)
three_added old x y new a b c first second third =
    third ∙ ap (λ (l : List ℕ). l ++ c) (second ∙ ap (λ (l : List ℕ). l ++ b) first ∙ append_assoc old a b) ∙ append_assoc old (a ++ b) c

-- and an end of two texts after them
pub end_added : (old z new text a b : List ℕ) → z ≡ old ++ text → new ≡ z ++ (a ++ b) → new ≡ old ++ (text ++ a ++ b)
end_added old z new text a b before last =
    last ∙ ap (λ (l : List ℕ). l ++ (a ++ b)) before ∙ append_assoc old text (a ++ b)
    ∙ ap (λ (l : List ℕ). old ++ l) (sym (append_assoc text a b))
