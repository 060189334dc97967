-- Why items are refused, and what is known of a piece whose item is.
use Rattle.std.specs.Prelude.{◌≡◌, ℕ, Bool, true, false, List, [], codes, string_bytes, Option, Some, None, Result, Ok, Err, if◌then◌else◌}
use Rattle.std.specs.Borrow.{Bor}
use Rattle.std.specs.Str.{IsUtf8}
use Rattle.influxdb_line_protocol.specs.format.Dialects.{Dialect}
use Rattle.influxdb_line_protocol.specs.format.Lines.{Line, front_before}
use Rattle.influxdb_line_protocol.specs.format.Readings.{Fault}
use Rattle.influxdb_line_protocol.specs.format.Trimming.{trimmed}
use Rattle.influxdb_line_protocol.specs.types.PieceTooLong.{PieceTooLong}
use Rattle.lp_rebuild.specs.declared.refusals.LineRefusal.TheVariants as line
use Rattle.lp_rebuild.specs.RebuildSteps.{line_refusal_text}
use Rattle.lp_values.specs.code.SpelledParts.{spelled_fault}
use Rattle.lp_conditions.specs.declared.kinds.Kind.{Kind}
use Rattle.lp_conditions.specs.declared.kinds.Kind.TheVariants as kind
use Rattle.lp_faults.specs.declared.pieces.Piece.{Piece}
use Rattle.lp_faults.specs.declared.pieces.Piece.TheVariants.{Text, NoText, TooLong}
use Rattle.lp_faults.specs.declared.refusals.Refusal.{Refusal}
use Rattle.lp_faults.specs.declared.refusals.Refusal.TheVariants as why
use Rattle.lp_conditions.specs.declared.settings.Settings.{Settings}
use Rattle.lp_conditions.specs.FieldTypes.{type_fault_text}
use Rattle.lp_conditions.specs.LineTimes.{time_fault_text, front_of}
use Rattle.lp_faults.specs.Objects.{Reason, bytes_given, fault_kind, item_kind, item_text, over_given, time_fault_kind, type_fault_kind}
use Rattle.lp_escapes.specs.JsonTexts.{utf8_front}
use Rattle.lp_events.specs.code.Stops.{reading_stop}
use Rattle.lp_faults.specs.Relaying.{Item, answered, is_carried_item, line_of, long_text}
use Rattle.lp_conditions.specs.Portables.{not_portable_text}

-- what is wrong with an item that is refused for this
abbrev pub wrong_of : Refusal → List ℕ
wrong_of (why.Line refusal) = line_refusal_text refusal
wrong_of (why.NotAsWritten wrong) = string_bytes wrong
wrong_of (why.NotPortable to told) = not_portable_text to told
wrong_of (why.NotOfType fault) = type_fault_text fault
wrong_of (why.NotOfTime fault) = time_fault_text fault
wrong_of why.NotUtf8 = codes "the line is not UTF-8"
wrong_of (why.TooLong kept) = long_text kept

-- the kind of its fault
abbrev pub refusal_kind : Refusal → Kind
refusal_kind (why.Line (line.Fault fault)) = fault_kind (spelled_fault fault)
refusal_kind (why.Line line.NotAdmitted) = kind.NameNotAdmitted
refusal_kind (why.NotAsWritten wrong) = kind.NotAsWritten
refusal_kind (why.NotPortable to told) = kind.NotPortable
refusal_kind (why.NotOfType fault) = type_fault_kind fault
refusal_kind (why.NotOfTime fault) = time_fault_kind fault
refusal_kind why.NotUtf8 = kind.NotUtf8
refusal_kind (why.TooLong kept) = kind.TooLong

-- whether it is a fault of the text
abbrev pub is_fault : Refusal → Bool
is_fault (why.Line (line.Fault fault)) = true
is_fault other = false

-- whether an item is a fault of a text
abbrev pub has_fault : Item → Bool
has_fault (answered front (Err fault)) = true
has_fault other = false

-- an item is refused for this
pub record IsRefusal (refusal : Refusal) (item : Item) : Type 0 where
  pub refused : is_carried_item item ≡ false
  pub wrong : item_text item ≡ wrong_of refusal
  pub kind : item_kind item ≡ Some (refusal_kind refusal)
  pub fault : has_fault item ≡ is_fault refusal

-- what a call gave, as which a piece is known
abbrev pub given_of : Piece → Result (Bor (List ℕ)) PieceTooLong
given_of (Text text) = Ok text
given_of (NoText bytes) = Ok bytes
given_of (TooLong fault) = Err fault

-- its line, if it is not too long
abbrev pub line_piece : Settings → Piece → Piece
line_piece s (Text piece) = Text (record piece { now = line_of s piece.now })
line_piece s (NoText bytes) = NoText (record bytes { now = line_of s bytes.now })
line_piece s (TooLong fault) = TooLong fault

-- what comes before its text
abbrev pub front_in : Piece → List ℕ
front_in (Text text) = front_of text.now
front_in other = []

-- what comes before the byte of it at which reading stops, if its text is at fault, or at which it is not UTF-8
abbrev pub stop_in : (fault : Bool) → Dialect → Piece → Option (List ℕ)
stop_in fault dialect (Text text) = if fault then Some (front_before text.now (reading_stop dialect (trimmed text.now)).1) else None
stop_in fault dialect (NoText bytes) = Some (utf8_front bytes.now)
stop_in fault dialect (TooLong long) = None

-- why the item of a piece with this line is refused by this dialect and this limit, if it is for this
abbrev pub reason_of : Dialect → (limit : ℕ) → (piece line : Piece) → Refusal → Reason
reason_of dialect limit piece line refusal = record {
  kind = refusal_kind refusal;
  wrong = wrong_of refusal;
  front = front_in line;
  seen = record {
    bytes = bytes_given (given_of piece);
    line = bytes_given (given_of line);
    over = over_given limit (given_of piece);
    stop = stop_in (is_fault refusal) dialect line;
  };
}

-- a piece is the line of another
abbrev pub IsLineOf : Settings → (piece line : Piece) → Type 0
IsLineOf s (Text piece) (Text line) = line.now ≡ line_of s piece.now
IsLineOf s (NoText bytes) (NoText line) = line.now ≡ line_of s bytes.now
IsLineOf s (TooLong fault) (TooLong line) = line ≡ fault
IsLineOf s piece other = ⊥

-- it is known for what it is
abbrev pub IsKnown : Piece → Type 0
IsKnown (Text text) = IsUtf8 text.now
IsKnown (NoText bytes) = ¬ IsUtf8 bytes.now
IsKnown (TooLong fault) = Unit {0}

-- two calls gave the same bytes
abbrev pub GaveSame : Result (Bor (List ℕ)) PieceTooLong → Result (Bor (List ℕ)) PieceTooLong → Type 0
GaveSame (Ok bytes) (Ok others) = bytes.now ≡ others.now
GaveSame (Err fault) (Err other) = fault ≡ other
GaveSame given other = ⊥

-- this is the piece that a call gave
abbrev pub IsPieceOf : Result (Bor (List ℕ)) PieceTooLong → Piece → Type 0
IsPieceOf given piece = GaveSame (given_of piece) given × IsKnown piece
