-- What a caller in C sees of what was read.
use Rattle.std.specs.Prelude.{◌≡◌, ◌<◌, ◌+◌, ◌-◌, ◌^◌, ◌==◌, ◌&&◌, ◌||◌, ℕ, ℤ, pos, List, Bool, true, false, not, Option, Some, None}
use Rattle.std.specs.Prelude.{Result, Ok, Err, length, map, take, drop, min, if◌then◌else◌}
use Rattle.std.specs.Borrow.{Bor}
use Rattle.std.specs.List.{sum_by}
use Rattle.std.specs.Option.{option_map, is_some}
use Rattle.std.specs.Ordering.{int_eq}
use Rattle.influxdb_line_protocol.specs.format.Lines as format
use Rattle.influxdb_line_protocol.specs.format.Lines.{some_tags}
use Rattle.influxdb_line_protocol.specs.format.Pieces.{GivesPiece, Left}
use Rattle.influxdb_line_protocol.specs.format.Points.{Pair}
use Rattle.influxdb_line_protocol.specs.format.Readings.{Fault, Text}
use Rattle.influxdb_line_protocol.specs.format.Values.{Value, integer, unsigned, float, string, boolean}
use Rattle.influxdb_line_protocol.specs.code.OwnBases.{is_own_base}
use Rattle.influxdb_line_protocol.specs.code.ParseSteps.{GivesLine}
use Rattle.lp_offsets.specs.Numbers.{FaultSeen, answer_number, dialect_of, fault_number, fault_seen, is_more, kind_number, side_number}
use Rattle.lp_offsets.specs.declared.enums.Answer.{Answer}
use Rattle.lp_offsets.specs.declared.enums.FaultKind.{FaultKind}
use Rattle.lp_offsets.specs.declared.enums.Kind.{Kind}
use Rattle.lp_c.specs.declared.views.Line.{Line}
use Rattle.lp_c.specs.declared.views.Lines.{Lines}
use Rattle.lp_c.specs.declared.views.Part.{Part}
use Rattle.lp_offsets.specs.declared.enums.Side.{Side}
use Rattle.lp_c.specs.declared.views.View.{View}

-- the text that a cursor has left
abbrev pub left_text : Bool → List ℕ → Option (List ℕ)
left_text true rest = None
left_text false rest = Some rest

-- what a cursor has left
abbrev pub left_of : Lines → Left
left_of lines = record { dialect = dialect_of lines.dialect; text = left_text lines.ended lines.rest.now }

-- the text that a view shows: it is a part of the input if it is no copy
abbrev pub text_shown : View → Text
text_shown view = record { bytes = view.text.now; is_single = not view.copied }

-- whether a part has no text
abbrev pub has_no_text : Part → Bool
has_no_text part = length part.text.text.now == 0 && not part.text.copied

-- whether a part has no number
abbrev pub has_no_number : Part → Bool
has_no_number part = int_eq part.integer (pos 0) && part.unsigned == 0

-- whether the values of a part that are not of this kind are empty, zero and false
abbrev pub has_no_other : Kind → Part → Bool
has_no_other Kind.Tag part = has_no_number part && not part.boolean
has_no_other Kind.Integer part = has_no_text part && part.unsigned == 0 && not part.boolean
has_no_other Kind.Unsigned part = has_no_text part && int_eq part.integer (pos 0) && not part.boolean
has_no_other Kind.Float part = not part.text.copied && has_no_number part && not part.boolean
has_no_other Kind.String part = has_no_number part && not part.boolean
has_no_other Kind.Boolean part = has_no_text part && has_no_number part

-- whether a part is of this kind, and has no value of another
abbrev pub is_kind : Kind → Part → Bool
is_kind kind part = part.kind == kind_number kind && has_no_other kind part

-- the tag that a part shows, if it is one
abbrev pub tag_shown : Part → Option (Pair Text Text)
tag_shown part =
    if is_kind Kind.Tag part then Some (record { key = text_shown part.key; value = text_shown part.text }) else None

-- the value that a part shows, if it is a field
abbrev pub value_shown : Part → Option (Value Text)
value_shown part =
    if is_kind Kind.Integer part then Some (integer part.integer) else
    if is_kind Kind.Unsigned part then Some (unsigned part.unsigned) else
    if is_kind Kind.Float part then Some (float part.text.text.now) else
    if is_kind Kind.String part then Some (string (text_shown part.text)) else
    if is_kind Kind.Boolean part then Some (boolean part.boolean) else None

-- the field that a part shows, if it is one
abbrev pub field_shown : Part → Option (Pair Text (Value Text))
field_shown part = option_map (λ value. record { key = text_shown part.key; value = value }) (value_shown part)

-- the timestamp that a line shows
abbrev pub timestamp_shown : Line → Option ℤ
timestamp_shown line = if line.has_timestamp then Some line.timestamp else None

-- the line and its parts show all of this line, and nothing of an item before it
pub record ShowsLine (read : format.Line) (line : Line) (parts : List Part) : Type 0 where
  pub series : line.series.now ≡ read.series
  pub measurement : text_shown line.measurement ≡ read.measurement
  pub has_tag_set : line.has_tag_set ≡ is_some read.tags
  pub tags : map tag_shown (take line.tags parts) ≡ map Some (some_tags read.tags)
  pub fields : map field_shown (take line.fields (drop line.tags parts)) ≡ map Some read.fields
  pub timestamp : timestamp_shown line ≡ read.timestamp
  pub no_timestamp : line.has_timestamp ≡ false → line.timestamp ≡ pos 0
  pub series_is_base : line.series_is_base ≡ is_own_base read.measurement (some_tags read.tags)
  pub fault : line.fault ≡ fault_number FaultKind.None
  pub side : line.side ≡ side_number Side.Neither

-- how many bytes of room a text takes
abbrev pub copied_text : Text → ℕ
copied_text text = if text.is_single then 0 else length text.bytes

-- how many bytes of room a tag takes
abbrev pub copied_tag : Pair Text Text → ℕ
copied_tag tag = copied_text tag.key + copied_text tag.value

-- how many bytes of room a value takes
abbrev pub copied_value : Value Text → ℕ
copied_value (integer z) = 0
copied_value (unsigned n) = 0
copied_value (float t) = 0
copied_value (string t) = copied_text t
copied_value (boolean b) = 0

-- how many bytes of room a field takes
abbrev pub copied_field : Pair Text (Value Text) → ℕ
copied_field field = copied_text field.key + copied_value field.value

-- how many bytes of room a line takes
abbrev pub copied_in : format.Line → ℕ
copied_in read = copied_text read.measurement + sum_by copied_tag (some_tags read.tags) + sum_by copied_field read.fields

-- the line says how many parts and how many bytes of room this line takes; a `usize` that is too small for these is at its greatest
pub record CountsLine (read : format.Line) (line : Line) : Type 0 where
  pub tags : line.tags ≡ length (some_tags read.tags)
  pub fields : line.fields ≡ length read.fields
  pub copied_len : line.copied_len ≡ min (copied_in read) (2 ^ 64 - 1)

-- what is answered for a line: it is shown; or it takes more parts, or more room, than were lent
abbrev pub AnswersLine : format.Line → ℕ → Answer → Line → List Part → Type 0
AnswersLine read room Answer.Line line parts = ShowsLine read line parts
AnswersLine read room Answer.MoreParts line parts = length parts < line.tags + line.fields
AnswersLine read room Answer.MoreRoom line parts = room < copied_in read
AnswersLine read room answer line parts = ⊥

-- the line shows this fault, and how many bytes of room its text takes; it has no tags, no fields and no timestamp, and no
-- text is its base
pub record ShowsFault (fault : FaultSeen) (line : Line) : Type 0 where
  pub kind : line.fault ≡ fault_number fault.kind
  pub side : line.side ≡ side_number fault.side
  pub text : line.fault_text.now ≡ fault.text
  pub copied_len : line.copied_len ≡ length fault.text
  pub tags : line.tags ≡ 0
  pub fields : line.fields ≡ 0
  pub has_tag_set : line.has_tag_set ≡ false
  pub has_timestamp : line.has_timestamp ≡ false
  pub timestamp : line.timestamp ≡ pos 0
  pub series_is_base : line.series_is_base ≡ false

-- what is answered for a fault: it is shown, or its text takes more room than was lent
abbrev pub AnswersFault : FaultSeen → ℕ → Answer → Line → Type 0
AnswersFault fault room Answer.Fault line = ShowsFault fault line
AnswersFault fault room Answer.MoreRoom line = (line.copied_len ≡ length fault.text) × (room < length fault.text)
AnswersFault fault room answer line = ⊥

-- what is answered for an item: it is what the format answers for a line
abbrev pub AnswersItem : Option (Result format.Line Fault) → ℕ → Answer → Line → List Part → Type 0
AnswersItem None room answer line parts = answer ≡ Answer.End
AnswersItem (Some (Ok read)) room answer line parts = CountsLine read line × AnswersLine read room answer line parts
AnswersItem (Some (Err fault)) room answer line parts = AnswersFault (fault_seen fault) room answer line

-- whether an answer is for an item that was passed: a line or a fault
abbrev pub is_item : ℕ → Bool
is_item answer = answer == answer_number Answer.Line || answer == answer_number Answer.Fault

-- how many bytes of room an answer takes: those that the line tells, if an item was passed
abbrev pub taken_by : ℕ → Line → ℕ
taken_by answer line = if is_item answer then line.copied_len else 0

-- the number is that of the answer for the next item, which is what the format answers for the line of the next piece that is not
-- blank. The cursor moves past that piece, but stays where more is needed. All of the room is left but what the answer takes
pub record ReadsItem (before : Lines) (room left number : ℕ) (line : Line) (parts : List Part) (after : Lines) : Type 0 where
  pub text : Option (Bor (List ℕ))
  pub answer : Answer
  pub passed : Left
  pub numbered : number ≡ answer_number answer
  pub gives : GivesLine (left_of before) text passed
  pub shown : AnswersItem (option_map (λ line. format.answer (dialect_of before.dialect) line.now) text) room answer line parts
  pub moves : is_more answer ≡ false → left_of after ≡ passed
  pub stays : is_more answer ≡ true → after ≡ before
  pub taken : left + taken_by number line ≡ room

-- whether there was a piece; the view shows it, and what is left after it is left, as the splitter has it
abbrev pub GivesView : Left → Bool → View → Left → Type 0
GivesView before true view after = GivesPiece before (Some view.text) after × (view.copied ≡ false)
GivesView before false view after = GivesPiece before None after
