-- What bytes give when they are relayed: the items of their pieces, of which one that is too long, or is not UTF-8, is one item
-- without an answer, and what goes out for these items.
use Rattle.std.specs.Prelude.{◌&&◌, ℕ, ◌-◌, ◌%◌, ◌^◌, ◌==◌, nat_lt, max, Bool, true, false, not, List, [], ◌∷◌, ◌++◌, length, take, codes, decimal, map}
use Rattle.std.specs.Prelude.{Option, Some, None, Result, Ok, Err, if◌then◌else◌, fold}
use Rattle.std.specs.List.{flat_map, count_by}
use Rattle.std.specs.Result.{result_unwrap_or}
use Rattle.std.specs.Str.{bytes_eq, is_utf8}
use Rattle.std.specs.Str.Lines.{strip_carriage_return}
use Rattle.influxdb_line_protocol.specs.format.Bytes.{newline, tab}
use Rattle.influxdb_line_protocol.specs.format.Dialects.{Dialect}
use Rattle.influxdb_line_protocol.specs.format.Readings.{Fault}
use Rattle.influxdb_line_protocol.specs.format.Points.{Point, built, built_all, is_admitted_point}
use Rattle.influxdb_line_protocol.specs.format.Lines.{Line, point_of}
use Rattle.influxdb_line_protocol.specs.format.Items.{answers_of_piece}
use Rattle.influxdb_line_protocol.specs.format.Trimming.{trimmed}
use Rattle.lp_rebuild.specs.Rebuilding.{carried_point, is_carried_answer}
use Rattle.influxdb_line_protocol.specs.code.{Keys.hash_of, Keys.series_key, Rules.rules_of}
use Rattle.lp_conditions.specs.declared.portable.Portable.{Portable}
use Rattle.lp_conditions.specs.declared.settings.LineForm.{LineForm}
use Rattle.lp_conditions.specs.declared.settings.LineForm.TheVariants.{Rebuilt, Verbatim, Canonical, Keyed, OfShard}
use Rattle.lp_conditions.specs.declared.settings.Settings.{Settings}
use Rattle.lp_conditions.specs.declared.settings.Shard.{Shard}
use Rattle.lp_conditions.specs.declared.field_types.{StrictTypes.StrictTypes, TypeFault.TypeFault}
use Rattle.lp_conditions.specs.Differing.{differing_part, part_text}
use Rattle.lp_conditions.specs.declared.times.TimeFault.{TimeFault}
use Rattle.lp_conditions.specs.FieldTypes.{Types, after_point}
use Rattle.lp_conditions.specs.LineEnds.{ends_at_newline}
use Rattle.lp_conditions.specs.LineTimes.{Timed, relayed, time_fault, timed, front_of}
use Rattle.lp_conditions.specs.Portables.{is_shown_portable, not_portable_text, told_of_bytes}

-- an item: an answer; a line that is carried, and all that goes out for it; a line that is refused, with what is wrong with it; or a piece that
-- has no answer. That line is not as it would be written, or is not portable, or is refused for the type of a field, or for its time. That
-- piece is not UTF-8 or is too long, and then as many bytes of it are kept, if any are. What may be refused for its text has what comes before
-- that in its piece
pub data Item : Type 0 where
  answered : (front : List ℕ) → Result Line Fault → Item
  put_out : (out : List ℕ) → Item
  not_as_written : (front wrong : List ℕ) → Item
  not_portable : (front wrong : List ℕ) → Item
  not_of_type : (front : List ℕ) → TypeFault → Item
  not_of_time : (front : List ℕ) → TimeFault → Item
  not_utf8 : Item
  too_long : (kept : Option ℕ) → Item

-- the item of a line that comes after this front and whose text is this. If a name of it is not admitted, it is its answer, which
-- is refused. If the builder writes the text as it came, and a newline, for the point of the line, these go out. Else it is what
-- is wrong with the line
abbrev pub canonical_item : (front text : List ℕ) → Line → Item
canonical_item front text line =
    if is_admitted_point (point_of line)
    then if bytes_eq (built (point_of line)) (text ++ newline ∷ []) then put_out (text ++ newline ∷ [])
    else not_as_written front (part_text (differing_part text (built (point_of line))))
    else answered front (Ok line)

-- the key of the series of a point
abbrev pub key_of : Point → List ℕ
key_of p = series_key p.measurement p.tags

-- the item of a line that comes after this front and whose text is this: if a name of it is not admitted, its answer, which is
-- refused; and else the key of its series, a tab, and the text
abbrev pub keyed_item : (front text : List ℕ) → Line → Item
keyed_item front text line =
    if is_admitted_point (point_of line) then put_out (key_of (point_of line) ++ tab ∷ (text ++ newline ∷ []))
    else answered front (Ok line)

-- the shard of a point, of so many: the hash of the key of its series, modulo that number
abbrev pub shard_of : (count : ℕ) → Point → ℕ
shard_of count p = hash_of (key_of p) % max 1 count

-- whether a point is of a shard
abbrev pub is_of_shard : Shard → Point → Bool
is_of_shard shard p = shard_of shard.count p == shard.number

-- the item of a line that goes out as it came: its piece, if a newline after it ends it. If none does, since what comes after that newline
-- would be taken for a part of a string, the line is written again
abbrev pub unchanged_item : Dialect → List ℕ → Line → Item
unchanged_item dialect piece line = if ends_at_newline dialect piece then put_out (piece ++ newline ∷ []) else answered (front_of piece) (Ok line)

-- the item of an answer for a piece, by the rules of a dialect. Of a line there goes out its piece as it came: whatever its names are, or if it
-- is of a shard. Or there goes out the line that is left of the piece once it is trimmed: if it is as it would be written, or after its key
abbrev pub item_of : Dialect → LineForm → List ℕ → Result Line Fault → Item
item_of dialect Rebuilt piece answer = answered (front_of piece) answer
item_of dialect Verbatim piece (Ok line) = unchanged_item dialect piece line
item_of dialect Verbatim piece (Err fault) = answered (front_of piece) (Err fault)
item_of dialect Canonical piece (Ok line) = canonical_item (front_of piece) (trimmed piece) line
item_of dialect Canonical piece (Err fault) = answered (front_of piece) (Err fault)
item_of dialect Keyed piece (Ok line) = keyed_item (front_of piece) (trimmed piece) line
item_of dialect Keyed piece (Err fault) = answered (front_of piece) (Err fault)
item_of dialect (OfShard shard) piece (Ok line) = if is_of_shard shard (point_of line) then unchanged_item dialect piece line else put_out []
item_of dialect (OfShard shard) piece (Err fault) = answered (front_of piece) (Err fault)

-- whether an item is carried
abbrev pub is_carried_item : Item → Bool
is_carried_item (answered front answer) = is_carried_answer answer
is_carried_item (put_out out) = true
is_carried_item (not_as_written front wrong) = false
is_carried_item (not_portable front wrong) = false
is_carried_item (not_of_type front fault) = false
is_carried_item (not_of_time front fault) = false
is_carried_item not_utf8 = false
is_carried_item (too_long kept) = false

-- what goes out for an item: the line that is written again, or the text that goes out as it came and a newline
abbrev pub item_line : Item → List ℕ
item_line (answered front answer) = built_all (carried_point answer)
item_line (put_out out) = out
item_line (not_as_written front wrong) = []
item_line (not_portable front wrong) = []
item_line (not_of_type front fault) = []
item_line (not_of_time front fault) = []
item_line not_utf8 = []
item_line (too_long kept) = []

-- the line in what goes out for a piece: without its newline, and without the key before it
abbrev pub line_in : LineForm → (piece out : List ℕ) → List ℕ
line_in Keyed piece out = trimmed piece
line_in other piece out = take (length out - 1) out

-- an item whose line goes out only if it is portable: what is told of that line decides
abbrev pub if_portable : Portable → (front line : List ℕ) → Item → Item
if_portable p front line item =
    let told = told_of_bytes p line in if is_shown_portable told then item else not_portable front (not_portable_text p.to told)

-- whether something goes out for an item
abbrev pub goes_out : Item → Bool
goes_out item = is_carried_item item && nat_lt 0 (length (item_line item))

-- an item of a piece, if its line may go out: each may, or those that are portable
abbrev pub allowed : Option Portable → LineForm → (piece : List ℕ) → Item → Item
allowed None lines piece item = item
allowed (Some p) lines piece item =
    if goes_out item then if_portable p (front_of piece) (line_in lines piece (item_line item)) item else item

-- the item of an answer for a piece, whatever the types of its fields are
abbrev pub item_by : Settings → List ℕ → Result Line Fault → Item
item_by s piece answer = allowed s.portable s.lines piece (item_of (rules_of s.dialect) s.lines piece answer)

-- the types that fields have once an item of an answer is taken: if types stay, and something goes out for it, those of its fields too
abbrev pub after_item : Option StrictTypes → Types → Result Line Fault → Item → Result Types TypeFault
after_item None types answer item = Ok types
after_item (Some strict) types (Ok line) item = if goes_out item then after_point strict.max_fields types (point_of line) else Ok types
after_item (Some strict) types (Err fault) item = Ok types

-- an item, if no field of its line is of another type
abbrev pub if_typed : (front : List ℕ) → Item → Result Types TypeFault → Item
if_typed front item (Ok types) = item
if_typed front item (Err fault) = not_of_type front fault

-- the item of an answer for a piece, by the settings and the types that fields have before it
abbrev pub typed_item : Settings → Types → List ℕ → Result Line Fault → Item
typed_item s types piece answer =
    if_typed (front_of piece) (item_by s piece answer) (after_item s.types types answer (item_by s piece answer))

-- the types that fields have after it: a line that is refused changes none
abbrev pub types_after_answer : Settings → List ℕ → Types → Result Line Fault → Types
types_after_answer s piece types answer = result_unwrap_or (after_item s.types types answer (item_by s piece answer)) types

-- the item of what is relayed of a piece that has this before its text
abbrev pub item_in : Settings → Types → (front : List ℕ) → Timed → Item
item_in s types front (relayed piece answer) = typed_item s types piece answer
item_in s types front (time_fault fault) = not_of_time front fault

-- the types that fields have after it
abbrev pub types_in_after : Settings → Types → Timed → Types
types_in_after s types (relayed piece answer) = types_after_answer s piece types answer
types_in_after s types (time_fault fault) = types

-- the item of an answer for a piece, once its line has its time
abbrev pub timed_item : Settings → Types → List ℕ → Result Line Fault → Item
timed_item s types piece answer = item_in s types (front_of piece) (timed s.times piece answer)

-- the types that fields have after it
abbrev pub types_after_timed : Settings → List ℕ → Types → Result Line Fault → Types
types_after_timed s piece types answer = types_in_after s types (timed s.times piece answer)

-- whether a line that is as the builder writes it goes out as it is
abbrev pub copies : LineForm → Bool
copies Rebuilt = true
copies Verbatim = false
copies Canonical = true
copies Keyed = false
copies (OfShard shard) = false

-- the greatest length of a piece, if it has one: `usize::MAX` is none
abbrev pub limit_of : ℕ → Option ℕ
limit_of limit = if limit == 2 ^ 64 - 1 then None else Some limit

-- the number of the first item or line that fault lines name: 0 is taken as 1
abbrev pub first_of : ℕ → ℕ
first_of first = max 1 first

-- whether a piece has more bytes than it may have
abbrev pub is_too_long : Option ℕ → List ℕ → Bool
is_too_long None piece = false
is_too_long (Some limit) piece = nat_lt limit (length piece)

-- the line of a piece: the piece as it came, or without the carriage return at its end, if there is one and it is no byte of a line
unfoldable pub line_of : Settings → List ℕ → List ℕ
line_of s piece = if s.drops_returns then strip_carriage_return piece else piece

-- the items of the line of a piece that is not too long: those of its answers if it is UTF-8, and else one item without an answer
unfoldable pub items_of_bytes : Settings → Types → List ℕ → List Item
items_of_bytes s types line =
    if is_utf8 line then map (timed_item s types line) (answers_of_piece (rules_of s.dialect) line) else not_utf8 ∷ []

-- the types that fields have after such a line
unfoldable pub types_of_bytes : Settings → Types → List ℕ → Types
types_of_bytes s types line =
    if is_utf8 line then fold (types_after_timed s line) types (answers_of_piece (rules_of s.dialect) line) else types

-- how many bytes are kept of a piece that is too long: as many as the limit, if refused pieces go out
abbrev pub kept_of : Settings → Option ℕ
kept_of s = if s.puts_refused then Some s.limit else None

-- the items of a piece: if it is too long, with the carriage return at its end, one item without an answer, whatever its bytes are
unfoldable pub items_of_piece : Settings → Types → List ℕ → List Item
items_of_piece s types piece =
    if is_too_long (limit_of s.limit) piece then too_long (kept_of s) ∷ [] else items_of_bytes s types (line_of s piece)

-- the types that fields have after a piece, by those that they have before it
unfoldable pub types_after : Settings → Types → List ℕ → Types
types_after s types piece = if is_too_long (limit_of s.limit) piece then types else types_of_bytes s types (line_of s piece)

-- the types that fields have after pieces
abbrev pub types_past : Settings → Types → List (List ℕ) → Types
types_past s types [] = types
types_past s types (piece ∷ pieces) = types_past s (types_after s types piece) pieces

-- the items of pieces, in order, by the types that fields have before the first one
abbrev pub items_of : Settings → Types → List (List ℕ) → List Item
items_of s types [] = []
items_of s types (piece ∷ pieces) = items_of_piece s types piece ++ items_of s (types_after s types piece) pieces

-- what goes out for items, in order
abbrev pub items_batch : List Item → List ℕ
items_batch items = flat_map item_line items

-- what is wrong with a piece that is too long, of which so many bytes are kept, if any are
abbrev pub long_text : Option ℕ → List ℕ
long_text None = codes "the line is too long"
long_text (Some kept) = codes "the line is too long: its first " ++ decimal kept ++ codes " bytes are kept"

-- the refused lines of a piece with these items, if refused pieces go out: for each item that is not carried, the piece as it came,
-- or what is kept of it, and a newline
abbrev pub refused_lines : Bool → List ℕ → List Item → List ℕ
refused_lines goes_out piece items =
    if goes_out then flat_map (λ item. if is_carried_item item then [] else piece ++ newline ∷ []) items else []

-- what is kept of a piece: of one that is too long its first bytes, as many as the limit
abbrev pub kept_bytes : Settings → List ℕ → List ℕ
kept_bytes s piece = if is_too_long (limit_of s.limit) piece then take s.limit piece else piece

-- what goes out of a piece as refused: what is kept of it
unfoldable pub refused_piece : Settings → Types → List ℕ → List ℕ
refused_piece s types piece = refused_lines s.puts_refused (kept_bytes s piece) (items_of_piece s types piece)

-- what goes out of pieces as refused, in order
abbrev pub refused_pieces : Settings → Types → List (List ℕ) → List ℕ
refused_pieces s types [] = []
refused_pieces s types (piece ∷ pieces) = refused_piece s types piece ++ refused_pieces s (types_after s types piece) pieces

-- how many items are carried
abbrev pub carried_items : List Item → ℕ
carried_items items = count_by is_carried_item items

-- how many items are not carried
abbrev pub refused_items : List Item → ℕ
refused_items items = count_by (λ item. not (is_carried_item item)) items
