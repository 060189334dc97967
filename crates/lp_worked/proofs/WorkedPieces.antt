-- Worked lines about the ends of pieces and the pieces of a text: an example that each relation covers, and one just outside.
use Rattle.std.proofs.Common.{[], ◌∷◌, None, Some, refl, codes, arith, pos}
use Rattle.std.proofs.lemmas.Bool.{false≢true}
use Rattle.lp_format.specs.format.{Strict, NewlineDelimited, string, integer, HasNoNewline, IsCutPiece, IsLastPiece, IsFirstCut, PiecesLeft}
use Rattle.lp_format.specs.format.Pieces.{Pieces, Pieces.last, Pieces.cut}
use Rattle.lp_format.specs.laws.NamesOfLines.{IsOneLineIn}
use Rattle.lp_format.proofs.lemmas.split.SplitPieces.{no_cut_within, same_pieces, IsLastPiece-cut}
use Rattle.lp_portable.proofs.AnsweredAlike.{no_newline}
use Rattle.influxdb_line_protocol.proofs.lemmas.laws.OnOneLine.{one_line as test_of_line}
use Rattle.lp_worked.proofs.WorkedTexts.{on_texts, m_is_cut, never}

-- `m f=1i` holds no newline.
pub a_line_has_no_newline : HasNoNewline (codes "m f=1i")
a_line_has_no_newline = no_newline (codes "m f=1i") refl

-- With a newline in the string it holds one.
pub a_string_has_a_newline : ¬ HasNoNewline (codes "m f=\"a\nb\"")
a_string_has_a_newline h = absurd (false≢true (test_of_line (codes "m f=\"a\nb\"") h))

-- If each newline ends a line, `m f=1i` is one line.
pub a_line_is_one : IsOneLineIn NewlineDelimited (codes "m f=1i")
a_line_is_one is = a_line_has_no_newline

-- If each newline ends a line, a string with a newline is not one line.
pub two_lines_are_not_one : ¬ IsOneLineIn NewlineDelimited (codes "m f=\"a\nb\"")
two_lines_are_not_one h = a_string_has_a_newline (h refl)

-- The two lines of `m f="a⏎b"` are one line by the strict rules.
pub two_lines_are_one_strictly : IsOneLineIn Strict (codes "m f=\"a\nb\"")
two_lines_are_one_strictly never = cc

-- A newline after `m f="a⏎b"` ends a piece, since the quote is closed.
pub a_closed_quote_is_cut : IsCutPiece Strict (codes "m f=\"a\nb\"")
unfolding on_texts
a_closed_quote_is_cut = m_is_cut (string (codes "a\nb")) tt

-- A newline after `m f="a` ends none, since the quote is open.
pub an_open_quote_is_not_cut : ¬ IsCutPiece Strict (codes "m f=\"a")
an_open_quote_is_not_cut h =
    no_cut_within Strict (codes "m f=\"a") (codes "b\"") h (IsLastPiece-cut Strict (codes "m f=\"a\nb\"") a_closed_quote_is_cut)

-- `m f="a⏎b"` can be the last piece of a text: it has no cut.
pub a_closed_quote_is_last : IsLastPiece Strict (codes "m f=\"a\nb\"")
a_closed_quote_is_last = IsLastPiece-cut Strict (codes "m f=\"a\nb\"") a_closed_quote_is_cut

-- a line
one_is_cut : IsCutPiece Strict (codes "m f=1i")
unfolding on_texts
one_is_cut = m_is_cut (integer (pos 1)) refl

-- another line
two_is_cut : IsCutPiece Strict (codes "m f=2i")
unfolding on_texts
two_is_cut = m_is_cut (integer (pos 2)) refl

-- Two lines cannot be one last piece.
pub two_lines_are_not_last : ¬ IsLastPiece Strict (codes "m f=1i\nm f=2i")
two_lines_are_not_last h = no_cut_within Strict (codes "m f=1i") (codes "m f=2i") one_is_cut h

-- The newline at place 6 of `m f=1i⏎m f=2i` is the first cut of that text.
pub the_first_cut : IsFirstCut Strict (codes "m f=1i\nm f=2i") (Some 6)
the_first_cut = (omega arith, refl, one_is_cut)

-- The newline at place 6 of `m f="a⏎b"` is in a string, so it is no cut.
pub no_first_cut : ¬ IsFirstCut Strict (codes "m f=\"a\nb\"") (Some 6)
no_first_cut h = an_open_quote_is_not_cut h.2

-- `m f=1i⏎m f=2i` has two pieces.
pub two_pieces : Pieces Strict (codes "m f=1i\nm f=2i") (codes "m f=1i" ∷ codes "m f=2i" ∷ [])
two_pieces = cut (codes "m f=1i") (codes "m f=2i") _ one_is_cut (last (codes "m f=2i") (IsLastPiece-cut Strict (codes "m f=2i") two_is_cut))

-- `m f="a⏎b"` is one piece by the strict rules.
pub one_piece : Pieces Strict (codes "m f=\"a\nb\"") (codes "m f=\"a\nb\"" ∷ [])
one_piece = last (codes "m f=\"a\nb\"") a_closed_quote_is_last

-- The text `m f="a⏎b"` does not have the pieces `m f="a` and `b"`.
pub not_two_pieces : ¬ Pieces Strict (codes "m f=\"a\nb\"") (codes "m f=\"a" ∷ codes "b\"" ∷ [])
not_two_pieces h = let same = same_pieces Strict refl h one_piece in absurd (cc)

-- While the text `m f=1i⏎m f=2i` is left, its two pieces are left.
pub pieces_are_left : PiecesLeft (record { dialect = Strict; text = Some (codes "m f=1i\nm f=2i") }) (codes "m f=1i" ∷ codes "m f=2i" ∷ [])
pieces_are_left = two_pieces

-- Once the last piece was given, no piece is left.
pub no_piece_is_left : ¬ PiecesLeft (record { dialect = Strict; text = None }) (codes "m f=2i" ∷ [])
no_piece_is_left h = absurd (cc)
