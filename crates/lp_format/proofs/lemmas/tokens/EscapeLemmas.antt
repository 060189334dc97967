-- Escaped places from left to right, as a scan meets them.
use Rattle.std.proofs.Common.{◌≡◌, ℕ, ◌+◌, ◌<◌, ◌≤◌, List, [], ◌∷◌, ◌++◌, length, take, slice_index, Bool, true, false, not, ◌&&◌, ◌∙◌}
use Rattle.std.proofs.Common.{zero-add, arith, ◌==◌, get_or-take, length-take, eq-eqb}
use Rattle.std.{specs.List.range_with_len, proofs.lemmas.List.take_more}
use Rattle.std.proofs.lemmas.List.{Folds.list_any_at, FromFn.length-range_with_len, FromFn.get_or-range_with_len, Sums.position_or_len_is}
use Rattle.lp_format.proofs.lemmas.split.SplitBare.{is_escaped-push}
use Rattle.lp_format.specs.format.{backslash, is_one_of, is_escaped_after, is_bare_at, first_bare}

-- a byte is escaped exactly if the byte before it is a bare backslash
pub is_escaped_push : (before : List ℕ) (b : ℕ) → is_escaped_after (before ++ b ∷ []) ≡ (not (is_escaped_after before) && b == backslash)
is_escaped_push before b = is_escaped-push before b ∙ (grind arith)

-- the byte after a place of a text is escaped exactly if this place is a bare backslash
pub is_escaped_more : (text : List ℕ) (i : ℕ) → i < length text
    → is_escaped_after (take (i + 1) text) ≡ (not (is_escaped_after (take i text)) && slice_index text i == backslash)
is_escaped_more text i h = rw (take_more text i 0 h) (is_escaped_push (take i text) (slice_index text i))

-- the first bare byte that passes is at `n` if no byte before `n` is bare and passes, and the byte at `n`, if there is one, is bare and passes
pub first_bare_is : (passes : ℕ → Bool) (text : List ℕ) (n : ℕ) → n ≤ length text → ((k : ℕ) → k < n → is_bare_at passes text k ≡ false)
    → (n < length text → is_bare_at passes text n ≡ true) → first_bare passes text ≡ n
unfolding first_bare
first_bare_is passes text n fits none found =
    position_or_len_is (is_bare_at passes text) (range_with_len 0 (length text)) n 0 (omega (arith, length-range_with_len 0 (length text)))
    (λ k h. grind (arith, get_or-range_with_len, zero-add))
    (λ h. grind (arith, get_or-range_with_len, length-range_with_len, zero-add))

-- a front of a text that reaches past a byte holds this byte
pub is_one_of_front : (text : List ℕ) (i n b : ℕ) → i < n → i < length text → slice_index text i ≡ b → is_one_of (take n text) b ≡ true
is_one_of_front text i n b short within here = grind (arith, length-take, get_or-take, list_any_at, eq-eqb)
