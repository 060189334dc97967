-- A line with another time is read as that line with this time, and a newline ends its piece if one ended it before.
use Rattle.std.proofs.Common.{◌≡◌, ◌<◌, ℕ, ℤ, ◌==◌, List, [], ◌∷◌, ◌++◌, length, refl, sym, ap, ◌∙◌, arith, inl, inr, subst, true, Ok, Result, Option, append_assoc, length-append, ne_eqb}
use Rattle.std.proofs.lemmas.{Bool.cases_Bool, Bool.eqb-false, List.append_cancel_left}
use Rattle.lp_format.specs.format.{Dialect, Fault, answers_of, IsCutPiece, Line, Pieces.Pieces.cut, answer, answers_of_piece, fits_i64, space, trimmed}
use Rattle.lp_format.specs.laws.MeaningsOfAnswers.{IsAnswer, IsAnswer.all_read}
use Rattle.lp_format.proofs.lemmas.values.ValueLemmas.{fits_from_test}
use Rattle.lp_lines.proofs.lemmas.meanings.AnswerMeaning.{answer_is_by_rows}
use Rattle.lp_conditions.specs.LineTimes.{front_of, line_at, piece_at, text_at}
use Rattle.lp_relay.specs.TimeLaws.{TimedPiecesAreReadBack, TimesAreReadBack}
use Rattle.lp_relay.proofs.CutStays.{cut_stays}
use Rattle.lp_relay.proofs.LineFronts.{line_front}
use Rattle.lp_relay.proofs.NewStamps.{IsStamp, new_stamp}
use Rattle.lp_conditions.proofs.TimeLemmas.{front_and_text, front_stays}

-- The text of a line is a front and what follows its fields, and with another time the same front and another timestamp.
record TimedText (dialect : Dialect) (text : List ℕ) (line : Line) (time : ℤ) : Type 0 where
  front : List ℕ
  old : List ℕ
  more : List ℕ
  is : text ≡ front ++ old
  new : text_at line.timestamp time text ≡ front ++ space ∷ more
  old_bytes : IsStamp old
  new_bytes : IsStamp more
  reads_it : IsAnswer dialect (front ++ space ∷ more) (Ok (line_at time line))

-- Each line that is read by the last row of the table of answers has a front before its time, and is read with another time.
timed_row : (dialect : Dialect) (text : List ℕ) (line : Line) (time : ℤ) → fits_i64 time ≡ true → IsAnswer dialect text (Ok line)
    → TimedText dialect text line time
timed_row dialect text line time fits (all_read _ rest r stamp) =
    let new = new_stamp line.timestamp time rest stamp fits in
    let found = line_front dialect text line rest new.ends r in
    record {
      front = found.front;
      old = rest;
      more = new.more;
      is = found.is;
      new = ap (text_at line.timestamp time) found.is ∙ new.replaced found.front;
      old_bytes = new.old_bytes;
      new_bytes = new.new_bytes;
      reads_it = all_read (line_at time line) (space ∷ new.more) (found.again time new.more) new.reads_it;
    }

-- Each line that is read has a front before its time, and is read with another time.
timed_text : (dialect : Dialect) (text : List ℕ) (line : Line) (time : ℤ) → answer dialect text ≡ Ok line → fits_i64 time ≡ true
    → TimedText dialect text line time
timed_text dialect text line time read fits = timed_row dialect text line time fits ((answer_is_by_rows dialect text (Ok line)).0 read)

-- The text of a line with another time is read as that line with this time.
pub times_are_read_back : TimesAreReadBack
times_are_read_back dialect text line time read fits =
    let parts = timed_text dialect text line time read fits in
    ap (answer dialect) parts.new ∙ (answer_is_by_rows dialect (parts.front ++ space ∷ parts.more) (Ok (line_at time line))).1 parts.reads_it

-- A piece whose answer is a line holds a text that is read as this line.
record PieceText (dialect : Dialect) (piece : List ℕ) (line : Line) : Type 0 where
  some : 0 < length (trimmed piece)
  read : answer dialect (trimmed piece) ≡ Ok line

-- The text of each piece whose answer is a line is read as this line.
piece_text : (dialect : Dialect) (piece : List ℕ) (line : Line) → answers_of_piece dialect piece ≡ Ok line ∷ [] → PieceText dialect piece line
unfolding answers_of_piece
piece_text dialect piece line e = elim (cases_Bool (length (trimmed piece) == 0)) [
  | inl blank ↦ let never = rw blank at e in absurd (omega (arith, ap length never))
  | inr some ↦ record { some = omega (arith, eqb-false (length (trimmed piece)) 0 some); read = let same = rw some at e in cc }
]

-- A piece whose text is read as a line has this line as its one answer.
text_answers : (dialect : Dialect) (piece text : List ℕ) (line : Line) → trimmed piece ≡ text → 0 < length text → answer dialect text ≡ Ok line
    → Ok line ∷ [] ≡ answers_of_piece dialect piece
unfolding answers_of_piece
text_answers dialect piece text line is some read = rw (is, ne_eqb (length text) 0 (λ none. absurd (omega (arith, some, none))), read) refl

-- The trimmed text of the piece with another time is the text with this time.
pub trimmed_at : (came : Option ℤ) (time : ℤ) (piece : List ℕ) → fits_i64 time ≡ true → 0 < length (trimmed piece)
    → trimmed (piece_at came time piece) ≡ text_at came time (trimmed piece)
trimmed_at came time piece fits some =
    let new = piece_at came time piece in
    let front = front_stays came time piece (fits_from_test time fits) some in
    append_cancel_left (front_of piece) (trimmed new) (text_at came time (trimmed piece))
    (ap (λ (l : List ℕ). l ++ trimmed new) (sym front) ∙ sym (front_and_text new))

-- If a newline ends the piece of a line, a newline ends its piece with another time too.
piece_stays : (dialect : Dialect) (piece : List ℕ) (line : Line) (time : ℤ) → TimedText dialect (trimmed piece) line time → IsCutPiece dialect piece
    → IsCutPiece dialect (piece_at line.timestamp time piece)
piece_stays dialect piece line time parts is =
    let before = front_of piece in
    let front = before ++ parts.front in
    let old : piece ≡ front ++ parts.old =
    front_and_text piece ∙ ap (λ (l : List ℕ). before ++ l) parts.is ∙ sym (append_assoc before parts.front parts.old) in
    let new : front ++ space ∷ parts.more ≡ piece_at line.timestamp time piece =
    append_assoc before parts.front (space ∷ parts.more) ∙ ap (λ (l : List ℕ). before ++ l) (sym parts.new) in
    subst (IsCutPiece dialect) new (cut_stays dialect front parts.old parts.more parts.old_bytes parts.new_bytes (subst (IsCutPiece dialect) old is))

-- The piece of a line with another time, and a newline, are answered with the line with this time, before what follows them.
pub timed_pieces_are_read_back : TimedPiecesAreReadBack
timed_pieces_are_read_back dialect piece line time t answers is e fits others =
    let held = piece_text dialect piece line e in
    let text = trimmed piece in
    let parts = timed_text dialect text line time held.read fits in
    let new = piece_at line.timestamp time piece in
    let some : 0 < length (text_at line.timestamp time text) = omega (arith, ap length parts.new, length-append parts.front (space ∷ parts.more)) in
    let one = text_answers dialect new (text_at line.timestamp time text) (line_at time line) (trimmed_at line.timestamp time piece fits held.some) some
    (times_are_read_back dialect text line time held.read fits) in
    record {
      pieces = new ∷ others.pieces;
      are = cut new t others.pieces (piece_stays dialect piece line time parts is) others.are;
      answered = ap (λ (a : List (Result Line Fault)). Ok (line_at time line) ∷ a) others.answered ∙ ap (λ (a : List (Result Line Fault)). a ++ answers_of dialect others.pieces) one;
    }
