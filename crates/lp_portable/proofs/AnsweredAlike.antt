-- A line is answered alike in each dialect.
use Rattle.std.proofs.Common.{◌≡◌, ◌≢◌, ℕ, List, [], ◌∷◌, true, false, ◌==◌, refl, sym, ◌∙◌, subst, arith, inl, inr, Ok, ℤ, Option, eqb-true, ne_eqb}
use Rattle.std.proofs.Common.{append-nil}
use Rattle.std.specs.List.{AllByRecursion}
use Rattle.std.proofs.lemmas.{Bool.cases_Bool, Bool.eqb-false, Bool.or_parts, Grind.common_steps, Bool.false≢true}
use Rattle.std.proofs.lemmas.List.Elements.{All-head, All-tail, All-from_recursion}
use Rattle.lp_format.specs.format.{Dialect, Crate, Strict, NewlineDelimited, HasNoNewline, IsLastPiece, Line, Pair, Text, Value}
use Rattle.lp_format.specs.format.{answer, answers_of_piece, begins_comment, is_one_of, newline, timestamp, trimmed, without_comma}
use Rattle.lp_format.specs.format.Pieces.{Pieces.last}
use Rattle.lp_format.specs.laws.{NamesOfLines.IsNothingOrSpaced, NamesOfLines.IsOneLineIn}
use Rattle.lp_format.specs.laws.MeaningsOfAnswers.{IsAnswer, IsAnswer.all_read}
use Rattle.lp_format.proofs.lemmas.line.TrimLemmas.{left_of, skip_comment, trimmed_is}
use Rattle.lp_lines.proofs.lemmas.meanings.AnswerMeaning.{answer_is_by_rows}
use Rattle.lp_lines.proofs.lemmas.names.ParsedNames.{ok_same}
use Rattle.lp_portable.specs.{format.Portable.IsOneLine, laws.PortableLaws.LinesAreAnsweredAlike}

-- a byte that a text does not hold is none of its bytes
pub no_newline : (text : List ℕ) → is_one_of text newline ≡ false → HasNoNewline text
no_newline text h = All-from_recursion (λ b. b ≢ newline) text (each text h)
  where
    -- byte by byte
    each : (text : List ℕ) → is_one_of text newline ≡ false → AllByRecursion (λ b. b ≢ newline) text
    each [] h = tt
    each (b ∷ text) h = grind (arith, cases_Bool, eqb-false, or_parts, each text)

-- nothing is left of a comment
comment_left : (text : List ℕ) → begins_comment text ≡ true → HasNoNewline text → left_of false text ≡ []
comment_left [] e h = absurd (false≢true e)
comment_left (b ∷ text) e h =
    let on : (b == newline) ≡ false = ne_eqb b newline (All-head (λ c. c ≢ newline) b text h) in
    let rest = All-tail (λ c. c ≢ newline) b text h in
    let skipped : left_of true text ≡ [] = rw append-nil at (skip_comment text [] rest) in
    grind (arith, common_steps, cases_Bool, comment_left text)

-- a text that is a timestamp to its end begins with a space
stamp_begins : (text : List ℕ) (t : Option ℤ) → timestamp text ≡ Ok (record { value = t; rest = [] }) → IsNothingOrSpaced text
stamp_begins [] t h = inl refl
stamp_begins (b ∷ text) t h = grind (arith, cases_Bool, eqb-true, ok_same)

-- If nothing or a space follows the fields, no comma is there that the dialect of the crate takes.
no_comma : (fields : List (Pair Text (Value Text))) (rest : List ℕ) → IsNothingOrSpaced rest → rest ≡ without_comma Crate fields rest
no_comma [] rest h = refl
no_comma (f ∷ []) [] h = refl
no_comma (f ∷ []) (b ∷ rest) h = grind arith
no_comma (f ∷ g ∷ fields) rest h = refl

-- A line that is read by the strict rules is read as the same line by the rules of the crate.
pub read_by_crate : (text : List ℕ) (line : Line) → answer Strict text ≡ Ok line → answer Crate text ≡ Ok line
read_by_crate text line h = (answer_is_by_rows Crate text (Ok line)).1 (by_row ((answer_is_by_rows Strict text (Ok line)).0 h))
  where
    -- a row of a line that is read is one in both dialects
    by_row : IsAnswer Strict text (Ok line) → IsAnswer Crate text (Ok line)
    by_row (all_read _ rest r stamp) =
        let ends = stamp_begins rest line.timestamp stamp in
        all_read line rest (record {
          after_series = r.after_series;
          series_is = r.series_is;
          series_reads = r.series_reads;
          gap = r.gap;
          after_fields = r.after_fields;
          fields_read = r.fields_read;
          rest_is = r.rest_is ∙ no_comma line.fields r.after_fields (subst IsNothingOrSpaced r.rest_is ends);
        }) stamp

-- a line is one piece of each dialect, if it is one where each newline ends a line
last_piece : (dialect : Dialect) (text : List ℕ) (line : Line) → IsOneLine text line → IsOneLineIn dialect text
    → IsLastPiece dialect text
unfolding answers_of_piece
last_piece Crate text line is on = elim is.piece [
  | inl comment ↦
      let read = is.read in
      let none = trimmed_is text ∙ comment_left text comment.0 comment.1 in
      absurd (grind arith)
  | inr cut ↦ inl cut.1
]
last_piece Strict text line is on = elim is.piece [
  | inl comment ↦ inl comment
  | inr cut ↦ inr (cut.0, inl cut.1)
]
last_piece NewlineDelimited text line is on = on refl

-- A piece that the strict rules answer with a line has the same answer in each dialect.
same_answer : (dialect : Dialect) (text : List ℕ) (line : Line) → answers_of_piece Strict text ≡ Ok line ∷ []
    → answers_of_piece dialect text ≡ Ok line ∷ []
unfolding answers_of_piece answer
same_answer Crate text line read = let crate = read_by_crate (trimmed text) line in grind (arith, cases_Bool)
same_answer Strict text line read = read
same_answer NewlineDelimited text line read = read

-- A line that is one line in a dialect is the only answer for its text there.
pub lines_are_answered_alike : LinesAreAnsweredAlike
lines_are_answered_alike dialect text line is on = record {
  pieces = text ∷ [];
  are = last text (last_piece dialect text line is on);
  answered = sym (append-nil _ ∙ same_answer dialect text line is.read);
}
