-- Worked lines about streams, and about lines that are added to a text: an example that each relation covers, and one just outside.
use Rattle.std.proofs.Common.{◌≡◌, ℕ, List, [], ◌∷◌, length, Result, Ok, Err, refl, ap, codes, arith, pos, length-append}
use Rattle.lp_format.specs.format.{Strict, Fault, Point, integer, HasAnswers, HasItems, take_while1, HasNoNewline, Pieces.Pieces, Pieces.last}
use Rattle.lp_format.proofs.lemmas.split.SplitPieces.{pieces_exist, same_pieces, IsLastPiece-nil, IsLastPiece-cut, IsLastPiece-extend}
use Rattle.lp_portable.proofs.AnsweredAlike.{no_newline}
use Rattle.lp_split.specs.code.{Held, TakesPiece}
use Rattle.influxdb_line_protocol.specs.laws.AdmittedLines.{AddsPoints, AreClosedLines}
use Rattle.influxdb_line_protocol.specs.laws.StreamLaws.{HaveAnswers, Run, Run.begun, Run.pushed, Run.taken}
use Rattle.influxdb_line_protocol.proofs.lemmas.laws.AdmittedLines.{admitted_lines_add_points, ended_lines_are_closed, empty_text_is_closed}
use Rattle.influxdb_line_protocol.proofs.lemmas.stream.StreamRuns.{runs_give_pieces}
use Rattle.lp_worked.proofs.WorkedTexts.{on_texts, one, one_line, m_is_cut, is_point_of_m}
use Rattle.lp_worked.proofs.WorkedPieces.{an_open_quote_is_not_cut, one_piece}
use Rattle.lp_worked.proofs.WorkedAnswers.{items_are}

-- A stream to which `m f=1i⏎m f` was pushed gives the piece `m f=1i`, and holds `m f`.
pub a_stream_gives_a_piece : Run Strict (codes "m f=1i\nm f") (codes "m f=1i" ∷ []) (codes "m f")
unfolding on_texts
a_stream_gives_a_piece =
    taken (codes "m f=1i\nm f") [] (codes "m f=1i") (codes "m f") (pushed [] [] [] (codes "m f=1i\nm f") begun) (m_is_cut (integer (pos 1)) refl)

-- A stream to which `m f="a⏎b` was pushed gives no piece yet, because the quote is open.
pub an_open_quote_gives_none : ¬ Run Strict (codes "m f=\"a\nb") (codes "m f=\"a" ∷ []) (codes "b")
an_open_quote_gives_none h =
    let more = pieces_exist Strict (codes "b\"") in
    let is = runs_give_pieces Strict _ _ _ (codes "\"") more.0 h more.1 in
    let same : codes "m f=\"a" ∷ more.0 ≡ codes "m f=\"a\nb\"" ∷ [] = same_pieces Strict refl is one_piece in
    absurd (cc)

-- A stream of the strict dialect that holds these bytes.
abbrev pub holding : List ℕ → Held
holding bytes = record { dialect = Strict; bytes = bytes; capacity = 64; given = 0 }

-- A call takes `m f=1i` and its newline from the bytes that a stream holds.
pub a_piece_is_taken : TakesPiece (holding (codes "m f=1i\nm f")) (codes "m f=1i") (holding (codes "m f"))
unfolding on_texts
a_piece_is_taken = record { dialect = refl; bytes = refl; is_cut = m_is_cut (integer (pos 1)) refl }

-- A stream that holds `m f="a⏎b` does not take the piece `m f="a`.
pub an_open_quote_is_not_taken : ¬ TakesPiece (holding (codes "m f=\"a\nb")) (codes "m f=\"a") (holding (codes "b"))
an_open_quote_is_not_taken h = an_open_quote_is_not_cut h.is_cut

-- `m f=1i` is one piece
pub one_alone : Pieces Strict (codes "m f=1i") (codes "m f=1i" ∷ [])
unfolding on_texts
one_alone = last (codes "m f=1i") (IsLastPiece-cut Strict (codes "m f=1i") (m_is_cut (integer (pos 1)) refl))

-- The texts `m f=1i` and `m f=1i` have two answers.
pub two_texts_have_answers : HaveAnswers Strict (codes "m f=1i" ∷ codes "m f=1i" ∷ []) (Ok one_line ∷ Ok one_line ∷ [])
unfolding on_texts
two_texts_have_answers =
    let first : HasAnswers Strict (codes "m f=1i") (Ok one_line ∷ []) = record { pieces = codes "m f=1i" ∷ []; are = one_alone; answered = refl } in
    (Ok one_line ∷ [], Ok one_line ∷ [], first, (Ok one_line ∷ [], [], first, refl, refl), refl)

-- A list of no texts has no answer.
pub no_text_has_answers : ¬ HaveAnswers Strict [] (Ok one_line ∷ [])
no_text_has_answers h = omega (arith, ap length h)

-- A line with a newline after it is closed: no text after the line changes its item.
pub a_line_is_closed : AreClosedLines Strict (codes "m f=1i\n") (Ok one ∷ [])
unfolding on_texts
a_line_is_closed =
    ended_lines_are_closed Strict (codes "m f=1i") [] (codes "m f=1i") (Ok one ∷ []) one_alone (m_is_cut (integer (pos 1)) refl)
    (Ok one_line ∷ [], record { pieces = codes "m f=1i" ∷ []; are = one_alone; answered = refl }, refl)

-- the items of a text alone
nothing : HasItems Strict [] []
unfolding on_texts
nothing = ([], record { pieces = [] ∷ []; are = last [] (IsLastPiece-nil Strict); answered = refl }, refl)

-- The line adds its point.
pub a_line_adds_its_point : AddsPoints [] (one ∷ []) (codes "m f=1i\n")
unfolding on_texts
a_line_adds_its_point = admitted_lines_add_points [] (one ∷ []) (is_point_of_m (integer (pos 1)) refl, tt)

-- If nothing was written, no point was added.
pub nothing_adds_no_point : ¬ AddsPoints [] (one ∷ []) []
unfolding on_texts
nothing_adds_no_point h =
    let items = h Strict [] refl (empty_text_is_closed Strict) [] [] nothing in
    omega (arith, ap length (items_are (last [] (IsLastPiece-nil Strict)) items))

-- a text on one line, as the last piece
last_line : (text : List ℕ) → HasNoNewline text → Pieces Strict text (text ∷ [])
last_line text h = last text (IsLastPiece-extend Strict [] text (IsLastPiece-nil Strict) h)

-- A line without a newline after it is not closed: with `m` after it, it reads as something else, whatever it reads as.
pub a_line_without_newline_is_not_closed : (items : List (Result Point Fault)) → ¬ AreClosedLines Strict (codes "m f=1i") items
unfolding on_texts
a_line_without_newline_is_not_closed items h =
    let m_alone = last_line (codes "m") (no_newline (codes "m") refl) in
    let m_items : HasItems Strict (codes "m") (Err take_while1 ∷ []) = (_, record { pieces = codes "m" ∷ []; are = m_alone; answered = refl }, refl) in
    let alone = ap length (items_are one_alone (h [] [] nothing)) in
    let both = ap length (items_are (last_line (codes "m f=1im") (no_newline (codes "m f=1im") refl)) (h (codes "m") (Err take_while1 ∷ []) m_items)) in
    omega (arith, alone, both, length-append items [], length-append items (Err take_while1 ∷ []))
