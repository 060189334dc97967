-- The faults of a relay as objects of JSON.
use Rattle.std.specs.Prelude.{ℕ, ◌+◌, ◌==◌, Bool, false, true, List, [], ◌∷◌, ◌++◌, codes, decimal, length, take, if◌then◌else◌}
use Rattle.std.specs.Prelude.{Option, Some, None, Result, Ok, Err, is_err, unwrap_or}
use Rattle.std.specs.Borrow.{Bor}
use Rattle.std.specs.Str.{is_utf8}
use Rattle.influxdb_line_protocol.specs.format.Bytes.{newline, newlines_in}
use Rattle.influxdb_line_protocol.specs.format.Dialects.{Dialect}
use Rattle.influxdb_line_protocol.specs.format.Lines.{answer, front_before}
use Rattle.influxdb_line_protocol.specs.format.Readings as fault
use Rattle.influxdb_line_protocol.specs.format.Trimming.{trimmed}
use Rattle.influxdb_line_protocol.specs.types.PieceTooLong.{PieceTooLong}
use Rattle.lp_rebuild.specs.Rebuilding.{is_carried_answer, refusal_text}
use Rattle.lp_conditions.specs.declared.kinds.Kind.{Kind}
use Rattle.lp_conditions.specs.declared.kinds.Kind.TheVariants.{CannotParseEntireLine, EndsWithBackslash, FieldSetMissing, FieldTypeConflict, GenericParsingError, IntegerValueInvalid}
use Rattle.lp_conditions.specs.declared.kinds.Kind.TheVariants.{MeasurementValueInvalid, NameNotAdmitted, NotAsWritten, NotPortable, NotUtf8}
use Rattle.lp_conditions.specs.declared.kinds.Kind.TheVariants.{TagSetMalformed, TimeMissing, TimeOutOfRange, TimeOverflow, TimestampValueInvalid, TooLong, TooManyFields, UintegerValueInvalid}
use Rattle.lp_conditions.specs.declared.field_types.TypeFault.{TypeFault, TheVariants.Conflict, TheVariants.TooMany}
use Rattle.lp_conditions.specs.declared.times.TimeFault.{TimeFault, TheVariants.Overflow, TheVariants.OutOfRange, TheVariants.Missing}
use Rattle.lp_conditions.specs.FieldTypes.{type_fault_text}
use Rattle.lp_conditions.specs.LineTimes.{time_fault_text}
use Rattle.lp_conditions.specs.declared.settings.Settings.{Settings}
use Rattle.lp_faults.specs.declared.telling.Place.{Place}
use Rattle.influxdb_line_protocol.specs.code.Rules.{rules_of}
use Rattle.lp_faults.specs.Relaying.{Item, answered, put_out, not_as_written, not_portable, not_of_type, not_of_time, not_utf8, too_long}
use Rattle.lp_faults.specs.Relaying.{is_too_long, kept_bytes, limit_of, line_of, long_text}
use Rattle.lp_events.specs.code.Stops.{reading_stop}
use Rattle.lp_escapes.specs.JsonTexts.{bytes_string, cut_json_text, json_text, utf8_front}
use Rattle.lp_conditions.specs.KindCounts.{kind_name}

-- the kind of the fault of a text
abbrev pub fault_kind : fault.Fault → Kind
fault_kind fault.measurement_value_invalid = MeasurementValueInvalid
fault_kind fault.field_set_missing = FieldSetMissing
fault_kind (fault.integer_value_invalid side value) = IntegerValueInvalid
fault_kind (fault.uinteger_value_invalid side value) = UintegerValueInvalid
fault_kind (fault.timestamp_value_invalid side value) = TimestampValueInvalid
fault_kind fault.ends_with_backslash = EndsWithBackslash
fault_kind (fault.cannot_parse_entire_line rest) = CannotParseEntireLine
fault_kind fault.tag_set_malformed = TagSetMalformed
fault_kind fault.take_while1 = GenericParsingError

-- the kind of the fault of a line with a field whose type does not stay
abbrev pub type_fault_kind : TypeFault → Kind
type_fault_kind (Conflict number is was) = FieldTypeConflict
type_fault_kind (TooMany number) = TooManyFields

-- the kind of the fault of a line that is refused for its time
abbrev pub time_fault_kind : TimeFault → Kind
time_fault_kind (Overflow came unit) = TimeOverflow
time_fault_kind (OutOfRange time) = TimeOutOfRange
time_fault_kind Missing = TimeMissing

-- the kind of fault for which an item is refused, if it is
abbrev pub item_kind : Item → Option Kind
item_kind (answered front (Ok line)) = if is_carried_answer (Ok line) then None else Some NameNotAdmitted
item_kind (answered front (Err fault)) = Some (fault_kind fault)
item_kind (put_out out) = None
item_kind (not_as_written front wrong) = Some NotAsWritten
item_kind (not_portable front wrong) = Some NotPortable
item_kind (not_of_type front fault) = Some (type_fault_kind fault)
item_kind (not_of_time front fault) = Some (time_fault_kind fault)
item_kind not_utf8 = Some NotUtf8
item_kind (too_long kept) = Some TooLong

-- what is wrong with an item that is not carried
abbrev pub item_text : Item → List ℕ
item_text (answered front answer) = refusal_text answer
item_text (put_out out) = []
item_text (not_as_written front wrong) = wrong
item_text (not_portable front wrong) = wrong
item_text (not_of_type front fault) = type_fault_text fault
item_text (not_of_time front fault) = time_fault_text fault
item_text not_utf8 = codes "the line is not UTF-8"
item_text (too_long kept) = long_text kept

-- what comes before the text of an item in its piece: nothing if the piece has no text
abbrev pub item_front : Item → List ℕ
item_front (answered front answer) = front
item_front (put_out out) = []
item_front (not_as_written front wrong) = front
item_front (not_portable front wrong) = front
item_front (not_of_type front fault) = front
item_front (not_of_time front fault) = front
item_front not_utf8 = []
item_front (too_long kept) = []

-- what is told of a piece whose item is refused: its bytes, or, if it is too long, its first bytes and the limit that it is longer
-- than. Also told are its line, without a carriage return that is dropped, and what comes before the byte of the line at which reading
-- stopped, if its text is no line, or at which it is not UTF-8
pub record Seen : Type 0 where
  pub bytes : List ℕ
  pub line : List ℕ
  pub over : Option ℕ
  pub stop : Option (List ℕ)

-- why an item is refused: the kind of its fault, what is wrong with it, what comes before its text in its piece, and its piece
pub record Reason : Type 0 where
  pub kind : Kind
  pub wrong : List ℕ
  pub front : List ℕ
  pub seen : Seen

-- what comes before the byte of the line of a piece at which reading stops, if its text is no line, or at which it is not UTF-8
abbrev pub stop_of_bytes : Dialect → List ℕ → Option (List ℕ)
stop_of_bytes dialect line =
    let text = trimmed line in
    if is_utf8 line then (if is_err (answer dialect text) then Some (front_before line (reading_stop dialect text).1) else None)
    else Some (utf8_front line)

-- the same of a piece that may be too long
unfoldable pub stop_of_piece : Settings → List ℕ → Option (List ℕ)
stop_of_piece s piece = if is_too_long (limit_of s.limit) piece then None else stop_of_bytes (rules_of s.dialect) (line_of s piece)

-- the limit of a piece that is too long
unfoldable pub over_of_piece : Settings → List ℕ → Option ℕ
over_of_piece s piece = if is_too_long (limit_of s.limit) piece then Some s.limit else None

-- the line of a piece, or the first bytes of one that is too long
unfoldable pub seen_line : Settings → List ℕ → List ℕ
seen_line s piece = if is_too_long (limit_of s.limit) piece then take s.limit piece else line_of s piece

-- what is told of a piece
abbrev pub seen_of_piece : Settings → List ℕ → Seen
seen_of_piece s piece =
    record { bytes = kept_bytes s piece; line = seen_line s piece; over = over_of_piece s piece; stop = stop_of_piece s piece }

-- the bytes of what a call gave: those of a piece, or the first ones of one that is too long
abbrev pub bytes_given : Result (Bor (List ℕ)) PieceTooLong → List ℕ
bytes_given (Ok piece) = piece.now
bytes_given (Err fault) = fault.front.now

-- the newlines of what a call gave
abbrev pub newlines_given : Result (Bor (List ℕ)) PieceTooLong → ℕ
newlines_given (Ok piece) = newlines_in piece.now
newlines_given (Err fault) = fault.newlines

-- the length of what a call gave
abbrev pub len_given : Result (Bor (List ℕ)) PieceTooLong → ℕ
len_given (Ok piece) = length piece.now
len_given (Err fault) = fault.len

-- the line of what a call gave, or the first bytes of a piece that is too long
abbrev pub line_given : Settings → Result (Bor (List ℕ)) PieceTooLong → List ℕ
line_given s (Ok piece) = line_of s piece.now
line_given s (Err fault) = fault.front.now

-- the limit, if what a call gave is too long
abbrev pub over_given : (limit : ℕ) → Result (Bor (List ℕ)) PieceTooLong → Option ℕ
over_given limit (Ok piece) = None
over_given limit (Err _) = Some limit

-- what comes before the byte of the line of what a call gave at which reading stops, or at which it is not UTF-8
abbrev pub stop_given : Settings → Result (Bor (List ℕ)) PieceTooLong → Option (List ℕ)
stop_given s (Ok piece) = stop_of_bytes (rules_of s.dialect) (line_of s piece.now)
stop_given s (Err _) = None

-- what is told of what a call gave
abbrev pub seen_given : Settings → Result (Bor (List ℕ)) PieceTooLong → Seen
seen_given s given =
    record { bytes = bytes_given given; line = line_given s given; over = over_given s.limit given; stop = stop_given s given }

-- the column after these bytes, from this one on: each newline begins a line
abbrev pub column_after : ℕ → List ℕ → ℕ
column_after column [] = column
column_after column (b ∷ bytes) = column_after (if b == newline then 1 else column + 1) bytes

-- a member of this name that tells a number
abbrev pub member : (name : List ℕ) → ℕ → List ℕ
member name value = codes ",\"" ++ name ++ codes "\":" ++ decimal value

-- the first members of an object: the name of the file, if one is named, and the number of the item
abbrev pub first_members : (file : Option (Bor (List ℕ))) → (number : ℕ) → List ℕ
first_members None number = codes "{\"item\":" ++ decimal number
first_members (Some name) number = codes "{\"file\":\"" ++ json_text name.now ++ codes "\",\"item\":" ++ decimal number

-- the line that is named, or 0 if none is
abbrev pub line_or_none : Option ℕ → ℕ
line_or_none line = unwrap_or line 0

-- the member that tells how long a piece of these bytes is: how many it has, or which limit it is longer than
abbrev pub length_member : (over : Option ℕ) → (bytes : List ℕ) → List ℕ
length_member None bytes = member (codes "length") (length bytes)
length_member (Some limit) bytes = member (codes "longer_than") limit

-- the start of an object, which names the item at this place, where its text begins, and where its piece does. These bytes of the piece
-- come before the text
abbrev pub object_start : Place → (front : List ℕ) → List ℕ
object_start place front =
    let line = line_or_none place.line in
    first_members place.file place.number
    ++ member (codes "line") (line + newlines_in front) ++ member (codes "offset") (place.offset + length front)
    ++ member (codes "piece_line") line ++ member (codes "piece_offset") place.offset

-- the members that tell the kind of a fault and its text
abbrev pub fault_members : Kind → (text : List ℕ) → List ℕ
fault_members kind text = codes ",\"kind\":\"" ++ kind_name kind ++ codes "\",\"text\":\"" ++ cut_json_text text ++ codes "\""

-- the members that tell where reading stopped, if it did, after these bytes of a piece, which begins on this line
abbrev pub stop_members : (line : ℕ) → Option (List ℕ) → List ℕ
stop_members line None = []
stop_members line (Some bytes) =
    member (codes "stop_line") (line + newlines_in bytes) ++ member (codes "stop_column") (column_after 1 bytes)

-- the name of the member that has a piece: another one if it has the first bytes alone
abbrev pub piece_name : (over : Option ℕ) → List ℕ
piece_name None = codes ",\"piece"
piece_name (Some limit) = codes ",\"piece_start"

-- the member that has a piece, if objects have it
abbrev pub piece_member : (has_piece : Bool) → (over : Option ℕ) → (bytes : List ℕ) → List ℕ
piece_member false over bytes = []
piece_member true over bytes = piece_name over ++ bytes_string bytes

-- the members that each object has: where its item is, how long the piece is, and the fault
abbrev pub object_head : Place → Reason → List ℕ
object_head place why =
    object_start place why.front ++ length_member why.seen.over why.seen.bytes ++ fault_members why.kind why.wrong

-- the object of an item at this place that is refused for this, and a newline
abbrev pub object : (has_piece : Bool) → Place → Reason → List ℕ
object has_piece place why =
    object_head place why ++ stop_members (line_or_none place.line) why.seen.stop
    ++ piece_member has_piece why.seen.over why.seen.bytes ++ codes "}" ++ newline ∷ []
