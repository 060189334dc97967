-- The block of a text that a window holds.
use Rattle.std.proofs.Common.{◌≡◌, ℕ, ◌+◌, ◌-◌, ◌<◌, ◌≤◌, List, length, take, drop, slice_range, sym, ap, ◌∙◌, arith}
use Rattle.std.proofs.Common.{Option}
use Rattle.lp_cuts.specs.declared.windows.Window.{Window}
use Rattle.lp_cuts.specs.Windows.{HasText}
use Rattle.std.proofs.lemmas.List.{drop-take, drop-drop, take-take}

-- a front of what was read
pub front_read : (text block : List ℕ) (place n m : ℕ) → take n block ≡ slice_range text place (place + n) → m ≤ n
    → take m block ≡ slice_range text place (place + m)
front_read text block place n m is few =
    sym (take-take m n block few)
    ∙ ap (take m) is
    ∙ take-take m (place + n - place) (drop place text) (omega arith)
    ∙ ap (λ (k : ℕ). take k (drop place text)) (omega arith)

-- the bytes of a block from a place on
pub part_of_block : (text block : List ℕ) (from filled place : ℕ) → take filled block ≡ slice_range text from (from + filled)
    → from ≤ place → place < from + filled → filled ≤ length block
    → slice_range block (place - from) filled ≡ slice_range text place (place + (filled - (place - from)))
part_of_block text block from filled place is low high few =
    let d = place - from in
    sym (drop-take d (filled - d) block)
    ∙ ap (λ (n : ℕ). drop d (take n block)) (omega arith)
    ∙ ap (drop d) is
    ∙ ap (λ (n : ℕ). drop d (take n (drop from text))) (omega arith)
    ∙ drop-take d (filled - d) (drop from text)
    ∙ ap (take (filled - d)) (drop-drop d from text)
    ∙ ap (λ (n : ℕ). take (filled - d) (drop n text)) (omega arith)
    ∙ ap (λ (n : ℕ). take n (drop place text)) (omega arith)

-- a window is over the text of another over the same file
pub same_text : {R : Type 0} (text_of : R → Option (List ℕ)) (window other : Window R) (text : List ℕ) → HasText text_of window text
    → other.file.now ≡ window.file.now → other.len ≡ window.len → HasText text_of other text
same_text text_of window other text has file len =
    record { known = ap text_of file ∙ has.known; len_is = has.len_is ∙ sym len }
