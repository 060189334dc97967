-- Several reads, or several writes, together move the bytes that each of them moves.
use Rattle.std.proofs.Common.{◌≡◌, ℕ, ◌+◌, ◌≤◌, List, [], ◌++◌, length, take, drop, Option, Result, Ok, Err, IfOk, sym}
use Rattle.std.proofs.Common.{ap, subst, ◌∙◌, append-nil, OnErr, take_all, le_refl}
use Rattle.std.proofs.Math.Seq.{take-add}
use Rattle.std.proofs.lemmas.List.{take-append-drop, drop-drop, drop_at, take-append-le}
use Rattle.std.specs.Io.KnownBytes.{Consumes, Appends, Keeps, ReadConsumes}
use Rattle.std.proofs.KnownBytes.{Consumes-trans, Appends-trans, Appends-kept}
use Rattle.lp_rebuild.specs.Running.{AppendsFront}

-- If the first f bytes were consumed, and then n bytes, the buffer holds the first f + n bytes.
pub read_more : (a b c : Option (List ℕ)) (xs ys : List ℕ) (f n : ℕ) → take f ys ≡ take f xs
    → Consumes a b (take f xs) → Consumes b c (take n (drop f ys)) → Consumes a c (take (f + n) ys)
read_more a b c xs ys f n same before read =
    subst (Consumes a c) (ap (λ l. l ++ take n (drop f ys)) (sym same) ∙ sym (take-add f n ys)) (Consumes-trans a b c _ _ before read)

-- the first n bytes were appended, and then k of the rest
pub write_more : (a b c : Option (List ℕ)) (all rest : List ℕ) (n k : ℕ) → rest ≡ drop n all
    → Appends a b (take n all) → Appends b c (take k rest) → Appends a c (take (n + k) all)
write_more a b c all rest n k left before written =
    subst (Appends a c) (ap (λ l. take n all ++ take k l) left ∙ sym (take-add n k all)) (Appends-trans a b c _ _ before written)

-- The text that is left after n bytes, without its next k bytes, is the text that is left after n + k bytes.
pub rest_more : (all rest : List ℕ) (n k : ℕ) → rest ≡ drop n all → drop k rest ≡ drop (n + k) all
rest_more all rest n k left = ap (drop k) left ∙ drop-drop k n all

-- if nothing is left, all bytes were appended
pub none_left : (all rest : List ℕ) (n : ℕ) → rest ≡ drop n all → rest ≡ [] → take n all ≡ all
none_left all rest n left none =
    sym (append-nil (take n all)) ∙ ap (λ l. take n all ++ l) (sym none ∙ left) ∙ take-append-drop n all

-- The bytes that were read into a part of a buffer stand after the front of the buffer.
pub read_in_place : {E : Type 0} (a b : Option (List ℕ)) (r : Result ℕ E) (front part rest : List ℕ) (at : ℕ)
    → length front ≡ at → IfOk r (λ n. n ≤ length part)
    → ReadConsumes a b r part → IfOk r (λ n. Consumes a b (take n (drop at (front ++ (part ++ rest)))))
read_in_place a b (Ok n) front part rest at long fits read =
    subst (Consumes a b) (sym (ap (take n) (drop_at front (part ++ rest) at long) ∙ take-append-le n part rest fits)) read.0
read_in_place a b (Err e) front part rest at long fits read = tt

-- If all bytes were appended and then none, a front of the bytes was appended.
pub whole_front : {T E : Type 0} (a b c : Option (List ℕ)) (bs : List ℕ) (r : Result T E) → Appends a b bs → Keeps b c
    → OnErr r (AppendsFront a c bs)
whole_front a b c bs (Ok x) p k = tt
whole_front a b c bs (Err e) p k =
    (length bs, subst (Appends a c) (sym (take_all (length bs) bs (le_refl _))) (Appends-kept a b c bs p k))
