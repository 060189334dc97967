-- Masks of the places of a text, and of its escaped and its bare bytes.
use Rattle.std.specs.Prelude.{◌≡◌, ℕ, ◌+◌, ◌<◌, ◌≤◌, ◌==◌, if◌then◌else◌, Bool, false, List, length, map, take}
use Rattle.std.specs.{List.range_with_len, Simd.Lanes.mask_l}
use Rattle.lp_format.specs.format.{backslash, IsBareAfter, is_bare_at, is_escaped_after}
use Rattle.lp_scan.specs.code.Lanes.{mask_of}

-- the mask of the places that pass the test, of the `n` places from `at` on
abbrev pub mask_at : (ℕ → Bool) → ℕ → ℕ → ℕ
mask_at test at n = mask_l (map test (range_with_len at n))

-- the place `at` of the text is bare, and no bare byte before it passes
pub record IsBarePassed (passes : ℕ → Bool) (text : List ℕ) (at : ℕ) : Type 0 where
  pub within : at ≤ length text
  pub is_bare : IsBareAfter (take at text)
  pub none : (k : ℕ) → k < at → is_bare_at passes text k ≡ false

-- for any 64 bytes of a text that begin at a bare place: if `backslashes` is the mask of their backslashes, `mask` is the mask of their
-- escaped bytes
abbrev pub TellsEscaped : ℕ → ℕ → Type 0
TellsEscaped backslashes mask =
    (text : List ℕ) (at : ℕ) → at + 64 ≤ length text → IsBareAfter (take at text) → backslashes ≡ mask_of (λ b. b == backslash) text at 64
    → mask ≡ mask_at (λ k. is_escaped_after (take k text)) at 64

-- for any 64 bytes of a text that begin at a bare place: if `marks` and `backslashes` are the masks of their marks and backslashes, `mask` is
-- the mask of their bare marks
abbrev pub TellsBare : ℕ → ℕ → ℕ → Type 0
TellsBare marks backslashes mask =
    (test : ℕ → Bool) (text : List ℕ) (at : ℕ) → at + 64 ≤ length text → IsBareAfter (take at text)
    → backslashes ≡ mask_of (λ b. b == backslash) text at 64 → marks ≡ mask_of test text at 64 → mask ≡ mask_at (is_bare_at test text) at 64

-- for any 64 bytes of a text that begin at a bare place: if `backslashes` is the mask of their backslashes, `n` bytes after the 64 are
-- escaped, 1 if the last byte is a bare backslash and else 0
abbrev pub TellsEscapesNext : ℕ → ℕ → Type 0
TellsEscapesNext backslashes n =
    (text : List ℕ) (at : ℕ) → at + 64 ≤ length text → IsBareAfter (take at text) → backslashes ≡ mask_of (λ b. b == backslash) text at 64
    → n ≡ (if is_bare_at (λ b. b == backslash) text (at + 63) then 1 else 0)
