-- Worked lines about written texts, and about the laws of words, tags and differences: an example that each relation covers, and one just
-- outside.
use lib.Utf8.{encode}
use Rattle.std.specs.{Prelude.IsUtf8, Str.chars, Str.is_utf8}
use Rattle.std.proofs.lemmas.Str.{is_utf8-from_IsUtf8}
use Rattle.std.proofs.Common.{◌≡◌, ◌≢◌, ◌-◌, ℕ, List, [], ◌∷◌, length, Ok, refl, ap, codes, arith}
use Rattle.lp_format.specs.format.{newline, true_words, word_len}
use Rattle.lp_events.specs.code.OwnBases.{keys_of}
use Rattle.lp_lines.specs.code.Bases.{by_key, first_repeated}
use Rattle.lp_build.specs.code.Built.{Writes, buffer_of}
use Rattle.lp_build.specs.declared.builder.LineProtocolBuilder.{LineProtocolBuilder}
use Rattle.lp_conditions.specs.Differing.{differing_part, part_text}
use Rattle.lp_worked.proofs.WorkedTexts.{never, on_texts, read_tag}

-- A boolean is read by its longest word: of `true,` all four letters.
pub a_whole_word_is_read : word_len true_words (codes "true,") ≡ 4
a_whole_word_is_read = refl

-- Only the word `t` of `tru,` is read.
pub half_a_word_is_not : word_len true_words (codes "tru,") ≡ 1
half_a_word_is_not = refl

-- The tags `b=2` and `a=1` by their keys are `a=1` and `b=2`.
pub tags_by_their_keys : by_key (read_tag "b" "2" ∷ read_tag "a" "1" ∷ []) ≡ (codes "a", codes "1") ∷ (codes "b", codes "2") ∷ []
unfolding by_key
tags_by_their_keys = refl

-- The tags `a=1` and `a=2` repeat a key, so the law does not apply to them.
pub tags_repeat_a_key : first_repeated (keys_of (read_tag "a" "1" ∷ read_tag "a" "2" ∷ [])) ≢ 2
unfolding first_repeated
tags_repeat_a_key h = absurd (cc)

-- The line `m  a=1` has a space too many: it differs from `m a=1` in the spaces.
pub a_space_too_many : part_text (differing_part (codes "m  a=1") (codes "m a=1")) ≡ codes "not as written: the spaces"
unfolding on_texts
a_space_too_many = refl

-- The line `m a=01i` differs from `m a=1i` in the value of the field, and not in the spaces.
pub a_zero_too_many : part_text (differing_part (codes "m a=01i") (codes "m a=1i")) ≡ codes "not as written: the value of field 1"
unfolding on_texts
a_zero_too_many = refl

-- how much room a buffer of ten bytes has left
abbrev room : List ℕ → ℕ
room bytes = 10 - length bytes

-- A call that appends just its text, `m f=1i⏎`, writes it.
pub a_text_is_written : {S T : Type 0} (refuses : _) (after : LineProtocolBuilder (List ℕ) T) → buffer_of after ≡ codes "m f=1i\n"
    → Writes {S = S} (λ b. b) room refuses (codes "m f=1i\n") [] (Ok after)
a_text_is_written refuses after is = record {
  ok = is;
  left = omega (arith, ap length is);
  unchanged = tt;
  kept = tt;
  too_long = omega arith;
  refused = tt;
  cause = tt;
  succeeds = λ fits small. refl;
}

-- A call that appends less does not.
pub half_a_text_is_not : {S T : Type 0} (refuses : _) (after : LineProtocolBuilder (List ℕ) T) → buffer_of after ≡ codes "m f=1i"
    → ¬ Writes {S = S} (λ b. b) room refuses (codes "m f=1i\n") [] (Ok after)
half_a_text_is_not refuses after is h = omega (arith, ap length is, ap length h.ok)

-- The bytes of `é` and a newline after them are UTF-8.
pub two_bytes_are_utf8 : IsUtf8 (195 ∷ 169 ∷ newline ∷ [])
unfolding encode
two_bytes_are_utf8 = (233 ∷ newline ∷ [], (refl, refl))

-- The byte 255 and a newline after it are not.
pub a_byte_is_not_utf8 : ¬ IsUtf8 (255 ∷ newline ∷ [])
unfolding encode is_utf8 chars
a_byte_is_not_utf8 h = never (is_utf8-from_IsUtf8 (255 ∷ newline ∷ []) h) refl
