-- Bytes that are read at any place, and the block of them that is held.
use Rattle.std.specs.Prelude.{◌≡◌, ℕ, ◌+◌, ◌^◌, ◌<◌, ◌≤◌, List, length, take, slice_range, Option, Some}
use Rattle.lp_cuts.specs.declared.windows.Window.{Window}

-- so many bytes of a text were put to the front of a buffer, from a place on; none only if no byte is there, or the buffer has no room
pub record HasReadAt (text : List ℕ) (place n : ℕ) (buf : List ℕ) : Type 0 where
  pub bytes : take n buf ≡ slice_range text place (place + n)
  pub within : 0 < n → place + n ≤ length text
  pub end : n ≡ 0 → 0 < length buf → length text ≤ place

-- a window is over this text, which is known, and has as many bytes as the window was said to have
pub record HasText {R : Type 0} (text_of : R → Option (List ℕ)) (window : Window R) (text : List ℕ) : Type 0 where
  pub known : text_of window.file.now ≡ Some text
  pub len_is : length text ≡ window.len

-- a window holds one block of 64 KiB, whatever its text is, and that holds bytes of its text
pub record IsWindow {R : Type 0} (text_of : R → Option (List ℕ)) (window : Window R) : Type 0 where
  pub fits : window.len < 2 ^ 64
  pub block : length window.block.items ≡ 65536
  pub few : window.filled ≤ length window.block.items
  pub within : 0 < window.filled → window.from + window.filled ≤ window.len
  pub bytes : (text : List ℕ) → HasText text_of window text
      → take window.filled window.block.items ≡ slice_range text window.from (window.from + window.filled)
