-- The pieces of the parts of a text: an example that each relation covers, and one just outside.
use Rattle.std.proofs.Common.{[], ◌∷◌, length, refl, ap, codes, arith, pos}
use Rattle.lp_format.specs.format.{Strict, integer, Pieces.Pieces, Pieces.last, Pieces.cut}
use Rattle.lp_format.proofs.lemmas.split.SplitPieces.{same_pieces, IsLastPiece-nil}
use Rattle.lp_cuts.specs.Cuts.{HavePieces}
use Rattle.lp_relay.specs.Parts.{HaveEach}
use Rattle.lp_worked.proofs.{WorkedStreams.one_alone, WorkedTexts.on_texts, WorkedTexts.m_is_cut}

-- a line with its newline has an empty piece at its end
one_ended : Pieces Strict (codes "m f=1i\n") (codes "m f=1i" ∷ [] ∷ [])
unfolding on_texts
one_ended = cut (codes "m f=1i") [] ([] ∷ []) (m_is_cut (integer (pos 1)) refl) (last [] (IsLastPiece-nil Strict))

-- The parts `m f=1i⏎` and `m f=1i` have two pieces: the empty piece at the end of the first part is none.
pub parts_have_pieces : HavePieces Strict (codes "m f=1i\n" ∷ codes "m f=1i" ∷ []) (codes "m f=1i" ∷ codes "m f=1i" ∷ [])
parts_have_pieces = (codes "m f=1i" ∷ [], codes "m f=1i" ∷ [], one_ended, one_alone, refl)

-- A single part that holds `m f=1i` has a piece: it does not have no pieces.
pub a_part_has_its_piece : ¬ HavePieces Strict (codes "m f=1i" ∷ []) []
a_part_has_its_piece h = omega (arith, ap length (same_pieces Strict refl h one_alone))

-- Each of the parts has pieces of its own. The first part also has an empty piece.
pub each_part_has_pieces : HaveEach Strict (codes "m f=1i\n" ∷ codes "m f=1i" ∷ []) ((codes "m f=1i" ∷ [] ∷ []) ∷ (codes "m f=1i" ∷ []) ∷ [])
each_part_has_pieces = (one_ended, (one_alone, tt))

-- No part is left out: the second part has its piece.
pub no_part_is_left_out : ¬ HaveEach Strict (codes "m f=1i\n" ∷ codes "m f=1i" ∷ []) ((codes "m f=1i" ∷ [] ∷ []) ∷ [])
no_part_is_left_out h = h.1
