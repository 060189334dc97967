-- Runs of bytes that pass a test.
use Rattle.std.specs.Prelude.{◌≡◌, ℕ, ◌+◌, ◌<◌, ◌≤◌, ◌==◌, if◌then◌else◌, Bool, true, false, List, length, map, slice_index}
use Rattle.std.specs.{Int.w64, Int.trailing_zeros, Simd.Lanes.chunk, Simd.Lanes.mask_l}

-- each byte from the place `at` up to the place `end` passes the test
abbrev pub AllPassBetween : (ℕ → Bool) → List ℕ → ℕ → ℕ → Type 0
AllPassBetween test bytes at end = (k : ℕ) → at ≤ k → k < end → test (slice_index bytes k) ≡ true

-- the longest run of bytes from `at` on that pass the test ends at `end`
pub record IsRunAt (test : ℕ → Bool) (bytes : List ℕ) (at end : ℕ) : Type 0 where
  pub ordered : at ≤ end
  pub within : end ≤ length bytes
  pub passes : AllPassBetween test bytes at end
  pub stops : end < length bytes → test (slice_index bytes end) ≡ false

-- of the `n` bytes from `at` on, the first `run` pass the test, and the next one, if there is one, fails it
abbrev pub IsRunIn : (ℕ → Bool) → List ℕ → ℕ → ℕ → ℕ → Type 0
IsRunIn test bytes at n run = (run ≤ n) × AllPassBetween test bytes at (at + run) × (run < n → test (slice_index bytes (at + run)) ≡ false)

-- the place of the lowest bit of a mask that is set, or `n` if the mask is 0
abbrev pub first_set : ℕ → ℕ → ℕ
first_set mask n = if mask == 0 then n else trailing_zeros w64 mask

-- the mask of the bytes that pass the test, of the `n` bytes from `at` on
abbrev pub mask_of : (ℕ → Bool) → List ℕ → ℕ → ℕ → ℕ
mask_of test bytes at n = mask_l (map test (chunk at n bytes))
