-- What a writer gains of what is made, step after step.
use Rattle.std.proofs.Common.{◌≡◌, ℕ, List, [], ◌++◌, length, take, drop, Option, sym, ap, subst, ◌∙◌, append_assoc, append-nil}
use Rattle.std.proofs.Common.{take-append-drop, take_all, le_refl}
use lib.Seq.{take-append_seam}
use Rattle.std.specs.Io.KnownBytes.{Appends}
use Rattle.std.proofs.KnownBytes.{Appends-nil, Appends-trans}
use Rattle.lp_rebuild.specs.Running.{AppendsFront}
use Rattle.lp_relay.specs.RelaySteps.{GainsBut}

-- no bytes are a front of all
pub front_none : (a : Option (List ℕ)) (bytes : List ℕ) → AppendsFront a a bytes
front_none a bytes = (0, Appends-nil a)

-- all bytes are one too
pub front_all : (a b : Option (List ℕ)) (bytes : List ℕ) → Appends a b bytes → AppendsFront a b bytes
front_all a b bytes whole = (length bytes, subst (Appends a b) (sym (take_all (length bytes) bytes (le_refl _))) whole)

-- what begins with what was gained
front_of : (a b : Option (List ℕ)) (all written left : List ℕ) → Appends a b written → all ≡ written ++ left → AppendsFront a b all
front_of a b all written left gained is =
    (length written, subst (Appends a b) (sym (ap (take (length written)) is ∙ take-append_seam written left)) gained)

-- a front of bytes is one of these and more
pub front_more : (a b : Option (List ℕ)) (bytes more all : List ℕ) → AppendsFront a b bytes → all ≡ bytes ++ more → AppendsFront a b all
front_more a b bytes more all p is =
    front_of a b all (take p.0 bytes) (drop p.0 bytes ++ more) p.1
    (is ∙ ap (λ l. l ++ more) (sym (take-append-drop p.0 bytes)) ∙ append_assoc (take p.0 bytes) (drop p.0 bytes) more)

-- more was made, and is left
pub but_more : (a b : Option (List ℕ)) (all left more left_after all_after : List ℕ) → GainsBut a b all left
    → left_after ≡ left ++ more → all_after ≡ all ++ more → GainsBut a b all_after left_after
but_more a b all left more left_after all_after p held made =
    (p.0, p.1, made ∙ ap (λ l. l ++ more) p.2 ∙ append_assoc p.0 left more ∙ ap (λ l. p.0 ++ l) (sym held))

-- what was left was written
pub but_written : (a b c : Option (List ℕ)) (all left none : List ℕ) → GainsBut a b all left → Appends b c left → none ≡ []
    → GainsBut a c all none
but_written a b c all left none p gained is =
    (p.0 ++ left, Appends-trans a b c p.0 left p.1 gained, p.2 ∙ sym (append-nil (p.0 ++ left)) ∙ ap (λ l. (p.0 ++ left) ++ l) (sym is))

-- a front of it was
pub but_front : (a b c : Option (List ℕ)) (all left : List ℕ) → GainsBut a b all left → AppendsFront b c left → AppendsFront a c all
but_front a b c all left p q =
    front_of a c all (p.0 ++ take q.0 left) (drop q.0 left) (Appends-trans a b c p.0 (take q.0 left) p.1 q.1)
    (p.2 ∙ ap (λ l. p.0 ++ l) (sym (take-append-drop q.0 left)) ∙ sym (append_assoc p.0 (take q.0 left) (drop q.0 left)))

-- if nothing is left, all was written
pub but_none : (a b : Option (List ℕ)) (all left : List ℕ) → GainsBut a b all left → left ≡ [] → Appends a b all
but_none a b all left p is = subst (Appends a b) (sym (p.2 ∙ ap (λ l. p.0 ++ l) is ∙ append-nil p.0)) p.1
