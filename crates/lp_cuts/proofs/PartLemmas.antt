-- The parts of a text that is cut: their pieces and their answers, one after another, are those of the text.
use Rattle.std.proofs.Common.{◌≡◌, ℕ, ◌≤◌, List, [], ◌∷◌, ◌++◌, length, take, drop, slice_range, Result}
use Rattle.std.proofs.Common.{refl, sym, ap, subst, ◌∙◌, append-nil}
use Rattle.std.proofs.lemmas.List.{take_rest}
use Rattle.std.proofs.lemmas.List.Folds.{drop_split}
use Rattle.std.proofs.lemmas.Grind.{flat_map-append}
use Rattle.influxdb_line_protocol.specs.format.Dialects.{Dialect}
use Rattle.influxdb_line_protocol.specs.format.Readings.{Fault}
use Rattle.influxdb_line_protocol.specs.format.Lines.{Line}
use Rattle.influxdb_line_protocol.specs.format.Trimming.{trimmed}
use Rattle.influxdb_line_protocol.specs.format.Pieces.{Pieces}
use Rattle.influxdb_line_protocol.specs.format.Items.{answers_of, answers_of_piece, HasAnswers}
use Rattle.influxdb_line_protocol.specs.laws.Laws.{PiecesExist, PiecesAreUnique}
use Rattle.influxdb_line_protocol.specs.laws.StreamLaws.{HaveAnswers}
use Rattle.lp_cuts.specs.Cuts.{HavePieces, IsCutAt, JoinsPieces, parts_from}
use Rattle.lp_cuts.proofs.CutLemmas.{pieces_between, pieces_joined, take_between}
use Rattle.std.proofs.Common.{arith}

-- places that rise from a first one, each of them a cut
abbrev pub AreCutsFrom : Dialect → List ℕ → ℕ → List ℕ → Type 0
AreCutsFrom dialect text start [] = start ≤ length text
AreCutsFrom dialect text start (at ∷ ats) = (start ≤ at) × IsCutAt dialect text at × AreCutsFrom dialect text at ats

-- the pieces of parts, and of the part before them
have_more : (dialect : Dialect) (part next : List ℕ) (parts first others : List (List ℕ)) → Pieces dialect part (first ++ [] ∷ [])
    → HavePieces dialect (next ∷ parts) others → HavePieces dialect (part ∷ (next ∷ parts)) (first ++ others)
have_more dialect part next parts first others h k = (first, others, h, k, refl)

-- the part before them
part_before : PiecesExist → PiecesAreUnique → (dialect : Dialect) (text : List ℕ) (start at : ℕ) (next : List ℕ) (parts : List (List ℕ))
    → IsCutAt dialect text start → start ≤ at → IsCutAt dialect text at
    → ((pieces : List (List ℕ)) × HavePieces dialect (next ∷ parts) pieces × Pieces dialect (drop at text) pieces)
    → ((pieces : List (List ℕ)) × HavePieces dialect (slice_range text start at ∷ (next ∷ parts)) pieces
    × Pieces dialect (drop start text) pieces)
part_before exist unique dialect text start at next parts here up there after =
    let part = slice_range text start at in
    let b = pieces_between exist unique dialect (take start text) part here.pieces there.pieces here.are
    (subst (λ (l : List ℕ). Pieces dialect l (there.pieces ++ [] ∷ [])) (take_between text start at up) there.are) in (
      b.0 ++ after.0,
      have_more dialect part next parts b.0 after.0 b.1 after.1,
      subst (λ (l : List ℕ). Pieces dialect l (b.0 ++ after.0)) (sym (drop_split text start at up))
          (pieces_joined dialect part (drop at text) (b.0 ++ [] ∷ []) b.0 after.0 refl b.1 after.2),
    )

-- the parts after a cut, of which the last ends with the text
pub parts_after : PiecesExist → PiecesAreUnique → (dialect : Dialect) (text : List ℕ) (start : ℕ) (ats : List ℕ)
    → IsCutAt dialect text start → AreCutsFrom dialect text start ats
    → ((pieces : List (List ℕ)) × HavePieces dialect (parts_from start text (ats ++ length text ∷ [])) pieces
    × Pieces dialect (drop start text) pieces)
parts_after exist unique dialect text start [] here cuts =
    let p = exist dialect (drop start text) in
    (p.0, subst (λ (l : List ℕ). Pieces dialect l p.0) (sym (take_rest text start)) p.1, p.1)
parts_after exist unique dialect text start (at ∷ []) here cuts =
    part_before exist unique dialect text start at (slice_range text at (length text)) [] here cuts.0 cuts.1
    (parts_after exist unique dialect text at [] cuts.1 cuts.2)
parts_after exist unique dialect text start (at ∷ (next ∷ ats)) here cuts =
    part_before exist unique dialect text start at (slice_range text at next) (parts_from next text (ats ++ length text ∷ []))
    here cuts.0 cuts.1 (parts_after exist unique dialect text at (next ∷ ats) cuts.1 cuts.2)

-- an empty piece has no answer
no_answers : (dialect : Dialect) → answers_of_piece dialect [] ≡ []
unfolding answers_of_piece trimmed
no_answers dialect = refl

-- so the empty piece at the end of a part has none
answers_before : (dialect : Dialect) (pieces : List (List ℕ)) → answers_of dialect (pieces ++ [] ∷ []) ≡ answers_of dialect pieces
answers_before dialect pieces = grind (arith, flat_map-append, no_answers, append-nil)

-- the answers for a text are those of its pieces
answers_are : PiecesAreUnique → (dialect : Dialect) (text : List ℕ) (pieces : List (List ℕ)) (answers : List (Result Line Fault))
    → Pieces dialect text pieces → HasAnswers dialect text answers → answers ≡ answers_of dialect pieces
answers_are unique dialect text pieces answers h has = grind (arith)

-- the answers of parts, joined, are those of their pieces
answers_joined : PiecesAreUnique → (dialect : Dialect) (parts pieces : List (List ℕ)) (answers : List (Result Line Fault))
    → HavePieces dialect parts pieces → HaveAnswers dialect parts answers → answers ≡ answers_of dialect pieces
answers_joined unique dialect [] pieces answers h has = has ∙ ap (answers_of dialect) (sym h)
answers_joined unique dialect (part ∷ []) pieces answers h has = grind (arith, append-nil, answers_are)
answers_joined unique dialect (part ∷ (next ∷ parts)) pieces answers h has =
    let first : has.0 ≡ answers_of dialect h.0 =
    answers_are unique dialect part (h.0 ++ [] ∷ []) has.0 h.2 has.2 ∙ answers_before dialect h.0 in
    let others = answers_joined unique dialect (next ∷ parts) h.1 has.1 h.3 has.3 in
    has.4
    ∙ ap (λ (l : List (Result Line Fault)). l ++ has.1) first
    ∙ ap (λ (l : List (Result Line Fault)). answers_of dialect h.0 ++ l) others
    ∙ sym (flat_map-append (answers_of_piece dialect) h.0 h.1)
    ∙ ap (answers_of dialect) (sym h.4)

-- so they are the answers for the text
pub parts_answer : PiecesAreUnique → (dialect : Dialect) (text : List ℕ) (parts : List (List ℕ)) → JoinsPieces dialect text parts
    → (answers : List (Result Line Fault)) → HaveAnswers dialect parts answers → HasAnswers dialect text answers
parts_answer unique dialect text parts h answers has = grind (arith, answers_joined)
