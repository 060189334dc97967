-- A text that lies in a portion of bytes lies in the bytes.
use Rattle.std.proofs.Common.{◌≡◌, ◌∙◌, ℕ, ◌+◌, ◌-◌, ◌≤◌, List, take, drop, sym, ap, arith}
use Rattle.std.proofs.lemmas.List.{drop-drop, drop-take, take-take}

-- what is cut out of a front of the bytes after a place is cut out of the bytes
pub cut_out : (bytes front : List ℕ) (from n start len at : ℕ) → front ≡ take n (drop from bytes) → from + start ≡ at
    → start + len ≤ n → take len (drop start front) ≡ take len (drop at bytes)
cut_out bytes front from n start len at is place fits =
    let whole : start + (n - start) ≡ n = omega arith in
    let within : len ≤ n - start = omega arith in
    ap (λ (l : List ℕ). take len (drop start l)) (is ∙ ap (λ k. take k (drop from bytes)) (sym whole))
    ∙ (ap (take len) (drop-take start (n - start) (drop from bytes))
    ∙ (take-take len (n - start) (drop start (drop from bytes)) within
    ∙ ap (take len) (drop-drop start from bytes ∙ ap (λ k. drop k bytes) place)))
