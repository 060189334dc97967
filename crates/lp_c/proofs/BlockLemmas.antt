-- Rows that are filled one after another.
use Rattle.std.proofs.Common.{◌≡◌, ◌∙◌, ◌<◌, ◌≤◌, ◌+◌, ◌==◌, ℕ, List, [], ◌∷◌, ◌++◌, length, map, take, drop, sym, ap}
use Rattle.std.proofs.Common.{Option, Some, None, Result, Ok, Err}
use Rattle.std.proofs.Common.{arith, set, true, false, if◌then◌else◌, refl}
use Rattle.std.proofs.Math.Logic.{∥∥₁_map, ∥∥₁_map₂}
use Rattle.std.proofs.Math.Seq.{take-add}
use Rattle.std.proofs.lemmas.Bool.{false≢true}
use Rattle.std.proofs.lemmas.List.{drop_all, drop-set, drop-take, length-drop, length-set, length-take-le}
use Rattle.std.proofs.lemmas.List.{take-set, take_all, take-take, take_more_set}
use Rattle.std.proofs.lemmas.List.Sums.{sum_by-append}
use Rattle.std.specs.List.{sum_by}
use Rattle.std.specs.Option.{option_map}
use Rattle.influxdb_line_protocol.specs.format.Lines as format
use Rattle.influxdb_line_protocol.specs.format.Lines.{answer}
use Rattle.influxdb_line_protocol.specs.format.Readings.{Fault}
use Rattle.lp_c.specs.Blocks.{ReadsBlock, Rows, parts_of, more, none}
use Rattle.lp_c.specs.Crossing.{AnswersItem, AnswersLine, ReadsItem, ShowsLine, field_shown, is_item, tag_shown}
use Rattle.lp_offsets.specs.Numbers.{answer_number, dialect_of}
use Rattle.lp_c.specs.declared.blocks.Row.{Row}
use Rattle.lp_offsets.specs.declared.enums.Answer.{Answer}
use Rattle.lp_c.specs.declared.views.Line.{Line}
use Rattle.lp_c.specs.declared.views.Lines.{Lines}
use Rattle.lp_c.specs.declared.views.Part.{Part}

-- a line is shown by its own parts alone
shows_own : (read : format.Line) (line : Line) (xs : List Part) → ShowsLine read line xs
    → ShowsLine read line (take (line.tags + line.fields) xs)
shows_own read line xs h = record {
  series = h.series;
  measurement = h.measurement;
  has_tag_set = h.has_tag_set;
  tags = ap (map tag_shown) (take-take line.tags (line.tags + line.fields) xs (omega arith)) ∙ h.tags;
  fields = ap (λ l. map field_shown (take line.fields l)) (drop-take line.tags line.fields xs)
      ∙ (ap (map field_shown) (take-take line.fields line.fields (drop line.tags xs) (omega arith)) ∙ h.fields);
  timestamp = h.timestamp;
  no_timestamp = h.no_timestamp;
  series_is_base = h.series_is_base;
  fault = h.fault;
  side = h.side;
}

-- what is answered for a line that was passed rests on its own parts alone
line_own : (read : format.Line) (room : ℕ) (answer : Answer) (line : Line) (xs : List Part) (own : ℕ)
    → is_item (answer_number answer) ≡ true
    → own ≡ (if answer_number answer == answer_number Answer.Line then line.tags + line.fields else 0)
    → AnswersLine read room answer line xs → AnswersLine read room answer line (take own xs)
line_own read room Answer.Line line xs own item is h =
    let same : own ≡ line.tags + line.fields = is in
    rw same (shows_own read line xs h)
line_own read room Answer.MoreParts line xs own item is h = absurd (false≢true item)
line_own read room Answer.MoreRoom line xs own item is h = h
line_own read room Answer.End line xs own item is h = absurd h
line_own read room Answer.Fault line xs own item is h = absurd h
line_own read room Answer.OutOfMemory line xs own item is h = absurd h
line_own read room Answer.NotALine line xs own item is h = absurd h
line_own read room Answer.Written line xs own item is h = absurd h
line_own read room Answer.NotUtf8 line xs own item is h = absurd h
line_own read room Answer.Piece line xs own item is h = absurd h
line_own read room Answer.MoreText line xs own item is h = absurd h
line_own read room Answer.TooLong line xs own item is h = absurd h
line_own read room Answer.NotAdmitted line xs own item is h = absurd h
line_own read room Answer.NotADialect line xs own item is h = absurd h

-- the same of any item
item_own : (item : Option (Result format.Line Fault)) (room : ℕ) (answer : Answer) (line : Line) (xs : List Part) (own : ℕ)
    → is_item (answer_number answer) ≡ true
    → own ≡ (if answer_number answer == answer_number Answer.Line then line.tags + line.fields else 0)
    → AnswersItem item room answer line xs → AnswersItem item room answer line (take own xs)
item_own None room answer line xs own item is h = h
item_own (Some (Ok read)) room answer line xs own item is h = (h.0, line_own read room answer line xs own item is h.1)
item_own (Some (Err fault)) room answer line xs own item is h = h

-- a row is read from its own parts alone
reads_own : (before : Lines) (room left : ℕ) (row : Row) (xs : List Part) (after : Lines) → is_item row.answer ≡ true
    → ReadsItem before room left row.answer row.line xs after
    → ReadsItem before room left row.answer row.line (take (parts_of row) xs) after
reads_own before room left row xs after item h = record {
  text = h.text;
  answer = h.answer;
  passed = h.passed;
  numbered = h.numbered;
  gives = h.gives;
  moves = h.moves;
  stays = h.stays;
  taken = h.taken;
  shown = item_own (option_map (λ line. answer (dialect_of before.dialect) line.now) h.text) room h.answer row.line xs (parts_of row)
      (ap is_item (sym h.numbered) ∙ item)
      (ap (λ n. if n == answer_number Answer.Line then row.line.tags + row.line.fields else 0) h.numbered) h.shown;
}

-- one row more is filled
pub row_more : (before : Lines) (lent : ℕ) (rows : List Row) (row : Row) (parts now : List Part) (at used own room left : ℕ)
    (passed after : Lines)
    → at < length rows → used ≤ length parts → length now ≡ length parts → take used now ≡ take used parts → own ≡ parts_of row
    → used + own ≤ length now → row.parts_at ≡ used → is_item row.answer ≡ true
    → ∥ Rows before lent (take at rows) (take used parts) room passed ∥₁
    → ∥ ReadsItem passed room left row.answer row.line (drop used now) after ∥₁
    → ∥ Rows before lent (take (at + 1) (set rows at row)) (take (used + own) now) left after ∥₁
row_more before lent rows row parts now at used own room left passed after here fits size kept is room_for begins item chain reads =
    let rest : own ≤ length (drop used now) = rw (length-drop used now) (omega (arith, room_for)) in
    let begun : row.parts_at ≡ length (take used parts) = begins ∙ sym (length-take-le used parts fits) in
    let split : take (used + own) now ≡ take used parts ++ take own (drop used now) =
    take-add used own now ∙ ap (λ l. l ++ take own (drop used now)) kept in
    let pushed : take (at + 1) (set rows at row) ≡ take at rows ++ row ∷ [] = take_more_set rows at row here in
    ∥∥₁_map₂ chain reads (λ so_far next. rw (pushed, split)
    (more (take at rows) (take used parts) room passed row (take own (drop used now)) left after so_far begun (record {
      passes = item;
      has = length-take-le own (drop used now) rest ∙ is;
      reads = rw is (reads_own passed room left row (drop used now) after item next);
    })))

-- rows take so many bytes of the room as their lines tell
rows_taken : (before : Lines) (lent : ℕ) {rows : List Row} {parts : List Part} {room : ℕ} {passed : Lines}
    → Rows before lent rows parts room passed → room + sum_by (λ row. row.line.copied_len) rows ≡ lent
rows_taken before lent none = omega arith
rows_taken before lent (more rows parts room passed row own left after so_far begins is) =
    let others = rows_taken before lent so_far in
    let one : left + row.line.copied_len ≡ room = rw is.passes at is.reads.taken in
    omega (arith, others, one, sum_by-append (λ (row : Row). row.line.copied_len) rows (row ∷ []))

-- no more rows are filled, since the next item has none
pub stops_at : (before : Lines) (lent : ℕ) (rows : List Row) (row : Row) (parts now : List Part) (at used room left : ℕ)
    (passed after : Lines)
    → at < length rows → take used now ≡ take used parts → is_item row.answer ≡ false
    → ∥ Rows before lent (take at rows) (take used parts) room passed ∥₁
    → ∥ ReadsItem passed room left row.answer row.line (drop used now) after ∥₁
    → ∥ ReadsBlock before lent left (set rows at row) now at row.answer after ∥₁
stops_at before lent rows row parts now at used room left passed after here kept item chain reads =
    let others : take at (set rows at row) ≡ take at rows = take-set rows at row in
    let next_row : drop at (set rows at row) ≡ row ∷ drop (at + 1) rows = drop-set rows at row here in
    let size : length (set rows at row) ≡ length rows = length-set rows at row in
    ∥∥₁_map₂ chain reads (λ so_far next.
    let none_taken : left + 0 ≡ room = rw item at next.taken in
    record {
      used = used;
      passed = passed;
      room = room;
      fits = rw size (omega (arith, here));
      reads = rw (others, kept) so_far;
      stops = rw next_row (item, next);
      taken = rw others (omega (arith, none_taken, rows_taken before lent so_far));
    })

-- each row is filled
pub all_filled : (before : Lines) (lent room : ℕ) (rows : List Row) (parts : List Part) (at used : ℕ) (passed : Lines)
    → length rows ≤ at → ∥ Rows before lent (take at rows) (take used parts) room passed ∥₁
    → ∥ ReadsBlock before lent room rows parts (length rows) (answer_number Answer.Line) passed ∥₁
all_filled before lent room rows parts at used passed past chain =
    let same : take (length rows) rows ≡ take at rows = take_all (length rows) rows (omega arith) ∙ sym (take_all at rows past) in
    let no_row : drop (length rows) rows ≡ [] = drop_all (length rows) rows (omega arith) in
    ∥∥₁_map chain (λ so_far. record {
      used = used;
      passed = passed;
      room = room;
      fits = omega arith;
      reads = rw same so_far;
      stops = rw no_row (refl, refl, refl);
      taken = rw same (rows_taken before lent so_far);
    })
