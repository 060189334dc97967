-- Cuts of a text: the pieces before and after each, and that none is inside of a piece.
use Rattle.std.proofs.Common.{◌≡◌, ℕ, ◌+◌, ◌-◌, ◌<◌, ◌≤◌, List, [], ◌∷◌, ◌++◌, length, take, drop, slice_range, refl, sym, ap, subst, ◌∙◌}
use Rattle.std.proofs.Common.{append_assoc, length-append, arith, take-append-drop}
use Rattle.std.proofs.lemmas.List.{append_cancel_right, length-take-le, take-append-le, take-take}
use Rattle.std.proofs.lemmas.List.Folds.{drop_split}
use Rattle.std.proofs.Math.Seq.{take-append-add}
use Rattle.influxdb_line_protocol.specs.format.Dialects.{Dialect}
use Rattle.influxdb_line_protocol.specs.format.Pieces.{IsCutPiece, IsLastPiece, Pieces, Pieces.cut, Pieces.last}
use Rattle.influxdb_line_protocol.specs.laws.Laws.{PiecesExist, PiecesAreUnique}
use Rattle.lp_cuts.specs.Cuts.{IsCutAt}
use Rattle.influxdb_line_protocol.specs.format.Bytes.{newline}

-- a list that ends with an element is not empty
not_empty : {X : Type 0} (xs : List X) (x : X) → xs ++ x ∷ [] ≡ [] → ⊥
not_empty [] x e = absurd (cc)
not_empty (y ∷ xs) x e = absurd (cc)

-- if two lists joined end with an element, so does the second one, unless it is empty
ends_alike : {X : Type 0} (bs cs : List X) (p : X) (qs : List X) (x : X) → bs ++ p ∷ qs ≡ cs ++ x ∷ []
    → (fs : List X) × (p ∷ qs ≡ fs ++ x ∷ [])
ends_alike [] cs p qs x e = (cs, e)
ends_alike (b ∷ []) [] p qs x e = absurd (cc)
ends_alike (b ∷ (d ∷ bs)) [] p qs x e = absurd (cc)
ends_alike (b ∷ bs) (c ∷ cs) p qs x e =
    let tails : bs ++ p ∷ qs ≡ cs ++ x ∷ [] = cc in
    ends_alike bs cs p qs x tails

-- a text has a first piece
first_piece : (dialect : Dialect) (text : List ℕ) (pieces : List (List ℕ)) → Pieces dialect text pieces
    → (first : List ℕ) × (others : List (List ℕ)) × (pieces ≡ first ∷ others)
first_piece dialect text pieces h = grind (arith)

-- no text with a newline is empty
pub no_newline : (u t : List ℕ) → u ++ newline ∷ t ≡ [] → ⊥
no_newline [] t e = absurd (cc)
no_newline (b ∷ u) t e = absurd (cc)

-- an empty text is its own last piece
nothing_is_last : (dialect : Dialect) (text : List ℕ) (pieces : List (List ℕ)) → text ≡ [] → Pieces dialect text pieces
    → IsLastPiece dialect text
nothing_is_last dialect text pieces e h = grind (arith, no_newline)

-- so no bytes are one piece
pub none_is_last : PiecesExist → (dialect : Dialect) → IsLastPiece dialect []
none_is_last exist dialect = let p = exist dialect [] in nothing_is_last dialect [] p.0 refl p.1

-- an empty text is one empty piece
pub nothing_is_piece : PiecesExist → (dialect : Dialect) → Pieces dialect [] ([] ∷ [])
nothing_is_piece exist dialect = last [] (none_is_last exist dialect)

-- each text has a piece
pub some_piece : (dialect : Dialect) (text : List ℕ) (pieces : List (List ℕ)) → Pieces dialect text pieces → pieces ≡ [] → ⊥
some_piece dialect text pieces h e = grind (arith)

-- a text that is one piece is cut nowhere
pub cut_nowhere : PiecesExist → PiecesAreUnique → (dialect : Dialect) (text piece rest : List ℕ) → IsLastPiece dialect text
    → IsCutPiece dialect piece → text ≡ piece ++ newline ∷ rest → ⊥
cut_nowhere exist unique dialect text piece rest is_last is_cut e =
    let others = exist dialect rest in
    let two = subst (λ (l : List ℕ). Pieces dialect l (piece ∷ others.0)) (sym e) (cut piece rest others.0 is_cut others.1) in
    let same : text ∷ [] ≡ piece ∷ others.0 = unique dialect text (text ∷ []) (piece ∷ others.0) (last text is_last) two in
    some_piece dialect rest others.0 others.1 (cc)

-- the pieces of a text that ends with a newline that ends a piece, and those of a text after it, are joined
pub pieces_joined : (dialect : Dialect) (u t : List ℕ) (us fs ts : List (List ℕ)) → us ≡ fs ++ [] ∷ [] → Pieces dialect u us
    → Pieces dialect t ts → Pieces dialect (u ++ t) (fs ++ ts)
pieces_joined dialect u t us [] ts e (last piece h) k = grind (arith)
pieces_joined dialect u t us (f ∷ []) ts e (last piece h) k = absurd (cc)
pieces_joined dialect u t us (f ∷ (g ∷ fs)) ts e (last piece h) k = absurd (cc)
pieces_joined dialect u t us [] ts e (cut piece rest others c h) k = grind (arith, first_piece)
pieces_joined dialect u t us (f ∷ fs) ts e (cut piece rest others c h) k =
    let same : piece ≡ f = cc in
    let left : others ≡ fs ++ [] ∷ [] = cc in
    subst (λ (l : List ℕ). Pieces dialect l ((f ∷ fs) ++ ts)) (sym (append_assoc piece (newline ∷ rest) t))
    (subst (λ (x : List ℕ). Pieces dialect (piece ++ newline ∷ (rest ++ t)) (x ∷ (fs ++ ts))) same
    (cut piece (rest ++ t) (fs ++ ts) c (pieces_joined dialect rest t others fs ts left h k)))

-- between two cuts, the bytes end with a newline that ends a piece
pub pieces_between : PiecesExist → PiecesAreUnique → (dialect : Dialect) (u t : List ℕ) (us vs : List (List ℕ))
    → Pieces dialect u (us ++ [] ∷ []) → Pieces dialect (u ++ t) (vs ++ [] ∷ [])
    → (fs : List (List ℕ)) × Pieces dialect t (fs ++ [] ∷ [])
pieces_between exist unique dialect u t us vs h k =
    let p = exist dialect t in
    let some = first_piece dialect t p.0 p.1 in
    let all : us ++ p.0 ≡ vs ++ [] ∷ [] =
    unique dialect (u ++ t) (us ++ p.0) (vs ++ [] ∷ []) (pieces_joined dialect u t (us ++ [] ∷ []) us p.0 refl h p.1) k in
    let ends = ends_alike us vs some.0 some.1 [] (ap (λ (l : List (List ℕ)). us ++ l) (sym some.2) ∙ all) in
    (ends.0, subst (Pieces dialect t) (some.2 ∙ ends.1) p.1)

-- a front of the first piece of a text does not end with a newline that ends a piece
front_has_none : PiecesExist → PiecesAreUnique → (dialect : Dialect) (text first : List ℕ) (more : List (List ℕ))
    → Pieces dialect text (first ∷ more) → (front rest : List ℕ) (pieces fs : List (List ℕ)) → front ++ rest ≡ text → 0 < length front
    → length front ≤ length first → pieces ≡ fs ++ [] ∷ [] → Pieces dialect front pieces → ⊥
front_has_none exist unique dialect text first more h front rest pieces [] e some few ends (last piece k) = grind (arith)
front_has_none exist unique dialect text first more h front rest pieces (f ∷ []) e some few ends (last piece k) = absurd (cc)
front_has_none exist unique dialect text first more h front rest pieces (f ∷ (g ∷ fs)) e some few ends (last piece k) = absurd (cc)
front_has_none exist unique dialect text first more h front rest pieces fs e some few ends (cut piece after others c k) =
    let p = exist dialect (after ++ rest) in
    let all : Pieces dialect text (piece ∷ p.0) =
    subst (λ (l : List ℕ). Pieces dialect l (piece ∷ p.0)) (sym (append_assoc piece (newline ∷ after) rest) ∙ e)
    (cut piece (after ++ rest) p.0 c p.1) in
    let lists : first ∷ more ≡ piece ∷ p.0 = unique dialect text (first ∷ more) (piece ∷ p.0) h all in
    let same : first ≡ piece = cc in
    absurd (omega (arith, ap (λ (l : List ℕ). length l) same, length-append piece (newline ∷ after)))

-- so it does not, if it is a part of that piece
part_has_none : PiecesExist → PiecesAreUnique → (dialect : Dialect) (first rest : List ℕ) (more : List (List ℕ)) (n : ℕ)
    → Pieces dialect (first ++ rest) (first ∷ more) → 0 < n → n ≤ length first
    → ((fs : List (List ℕ)) × Pieces dialect (take n first) (fs ++ [] ∷ [])) → ⊥
part_has_none exist unique dialect first rest more n h some few ends =
    let len : length (take n first) ≡ n = length-take-le n first few in
    front_has_none exist unique dialect (first ++ rest) first more h (take n first) (drop n first ++ rest) (ends.0 ++ [] ∷ []) ends.0
    (sym (append_assoc (take n first) (drop n first) rest) ∙ ap (λ (l : List ℕ). l ++ rest) (take-append-drop n first))
    (omega arith) (omega arith) refl ends.1

-- what is between two places follows what comes before the first
pub take_between : (text : List ℕ) (a b : ℕ) → a ≤ b → take b text ≡ take a text ++ slice_range text a b
take_between text a b h =
    append_cancel_right (take b text) (take a text ++ slice_range text a b) (drop b text)
    (take-append-drop b text ∙ sym (take-append-drop a text)
    ∙ ap (λ (l : List ℕ). take a text ++ l) (drop_split text a b h)
    ∙ sym (append_assoc (take a text) (slice_range text a b) (drop b text)))

-- no cut is inside of the piece that follows a cut
pub none_inside : PiecesExist → PiecesAreUnique → (dialect : Dialect) (text : List ℕ) (at : ℕ) (first rest : List ℕ)
    (more : List (List ℕ)) (n : ℕ) → IsCutAt dialect text at → take at text ++ (first ++ rest) ≡ take n text → n ≤ length text
    → Pieces dialect (first ++ rest) (first ∷ more) → (other : ℕ) → IsCutAt dialect text other → at < other
    → other ≤ at + length first → ⊥
none_inside exist unique dialect text at first rest more n here e within h other there after inside =
    let u = take at text in
    let k = other - at in
    let len : length u ≡ at = length-take-le at text here.within in
    let given : length (take n text) ≡ n = length-take-le n text within in
    let long : other ≤ n =
    omega (arith, ap (λ (l : List ℕ). length l) e, length-append u (first ++ rest), length-append first rest) in
    let place : length u + k ≡ other = omega arith in
    let front : take other text ≡ u ++ take k first =
    sym (take-take other n text long)
    ∙ ap (take other) (sym e)
    ∙ ap (λ (i : ℕ). take i (u ++ (first ++ rest))) (sym place)
    ∙ take-append-add u (first ++ rest) k
    ∙ ap (λ (l : List ℕ). u ++ l) (take-append-le k first rest (omega arith)) in
    part_has_none exist unique dialect first rest more k h (omega arith) (omega arith)
    (pieces_between exist unique dialect u (take k first) here.pieces there.pieces here.are
    (subst (λ (l : List ℕ). Pieces dialect l (there.pieces ++ [] ∷ [])) front there.are))
