-- What the views of a line hold, as the definitions of the library have it.
use Rattle.std.specs.Prelude.{◌≡◌, ◌+◌, ◌<◌, ◌≤◌, ◌==◌, ◌&&◌, Bool, false, not, List, length, take, drop, map}
use Rattle.std.specs.Prelude.{Option, Some, None, if◌then◌else◌, IsUtf8}
use Rattle.std.specs.List.{AllByRecursion}
use Rattle.influxdb_line_protocol.specs.format.Readings.{Text}
use Rattle.influxdb_line_protocol.specs.format.Values.{IsFloat, Value, integer, unsigned, float, string, boolean}
use Rattle.influxdb_line_protocol.specs.format.Points.{Pair}
use Rattle.influxdb_line_protocol.specs.format.Lines as format
use Rattle.influxdb_line_protocol.specs.types.Series.{Series}
use Rattle.influxdb_line_protocol.specs.code.Parsed as code
use Rattle.influxdb_line_protocol.specs.code.Texts.{read_of}
use Rattle.std.specs.Option.{option_map}
use Rattle.lp_offsets.specs.declared.enums.Answer.{Answer}
use Rattle.lp_offsets.specs.declared.enums.Answer.TheVariants.{NotALine, OutOfMemory}
use Rattle.lp_offsets.specs.declared.enums.Kind.TheVariants as kind
use Rattle.lp_c.specs.declared.views.View.{View}
use Rattle.lp_c.specs.declared.views.Part.{Part}
use Rattle.lp_c.specs.declared.views.Line.{Line}
use Rattle.lp_offsets.specs.Numbers.{kind_number}

-- the text of a view; if copies are told apart, a copy is no part of the input
abbrev pub text_in : Bool → View → Text
text_in copies v = record { bytes = v.text.now; is_single = not (copies && v.copied) }

-- the tag of a part
abbrev pub tag_in : Bool → Part → Pair Text Text
tag_in copies p = record { key = text_in copies p.key; value = text_in copies p.text }

-- the value of a part that is a field
abbrev pub value_in : Bool → Part → Value Text
value_in copies p =
    if p.kind == kind_number kind.Integer then integer p.integer
    else if p.kind == kind_number kind.Unsigned then unsigned p.unsigned
    else if p.kind == kind_number kind.Float then float p.text.text.now
    else if p.kind == kind_number kind.String then string (text_in copies p.text)
    else boolean p.boolean

-- the field of a part
abbrev pub field_in : Bool → Part → Pair Text (Value Text)
field_in copies p = record { key = text_in copies p.key; value = value_in copies p }

-- the parts that are tags
abbrev pub tags_of : Line → List Part → List Part
tags_of l parts = take l.tags parts

-- the parts that are fields
abbrev pub fields_of : Line → List Part → List Part
fields_of l parts = take l.fields (drop l.tags parts)

-- the tag set: it may be empty, or missing
abbrev pub tag_set_in : Bool → Line → List Part → Option (List (Pair Text Text))
tag_set_in copies l parts = if l.has_tag_set then Some (map (tag_in copies) (tags_of l parts)) else None

-- the line that views hold
abbrev pub line_in : Bool → Line → List Part → format.Line
line_in copies l parts =
    record {
      series = l.series.now;
      measurement = text_in copies l.measurement;
      tags = tag_set_in copies l parts;
      fields = map (field_in copies) (fields_of l parts);
      timestamp = if l.has_timestamp then Some l.timestamp else None;
    }

-- a series of the code is the one that views hold
pub record IsSeriesRead (copies : Bool) (l : Line) (parts : List Part) (s : Series) : Type 0 where
  pub raw : s.raw_input.now ≡ l.series.now
  pub measurement : read_of s.measurement ≡ text_in copies l.measurement
  pub tag_set : option_map code.tags_of s.tag_set ≡ tag_set_in copies l parts

-- a part is a tag: it says so, and its texts are UTF-8
pub record IsTagIn (p : Part) : Type 0 where
  pub kind : p.kind ≡ kind_number kind.Tag
  pub key : IsUtf8 p.key.text.now
  pub value : IsUtf8 p.text.text.now

-- a part has the value of a field: of a kind that there is; a literal is that of a float, and a string is UTF-8
pub record IsValueIn (p : Part) : Type 0 where
  pub field : kind_number kind.Integer ≤ p.kind
  pub known : p.kind ≤ kind_number kind.Boolean
  pub text : p.kind ≡ kind_number kind.Float → IsUtf8 p.text.text.now
  pub literal : p.kind ≡ kind_number kind.Float → IsFloat p.text.text.now
  pub string : p.kind ≡ kind_number kind.String → IsUtf8 p.text.text.now

-- a part is a field
pub record IsFieldIn (p : Part) : Type 0 where
  pub key : IsUtf8 p.key.text.now
  pub value : IsValueIn p

-- views hold a series: its texts are UTF-8, its tags are there, and none if it has no tag set
pub record IsSeriesIn (l : Line) (parts : List Part) : Type 0 where
  pub series : IsUtf8 l.series.now
  pub measurement : IsUtf8 l.measurement.text.now
  pub fits : l.tags ≤ length parts
  pub tags : AllByRecursion IsTagIn (tags_of l parts)
  pub tag_set : l.has_tag_set ≡ false → l.tags ≡ 0

-- views hold a line: a series, and at least one field
pub record IsLineIn (l : Line) (parts : List Part) : Type 0 where
  pub series : IsSeriesIn l parts
  pub fits : l.tags + l.fields ≤ length parts
  pub fields : AllByRecursion IsFieldIn (fields_of l parts)
  pub some_field : 0 < l.fields

-- what was handed in was refused so: it is not what it must be, or a request for memory was refused
abbrev pub RefusesFor : Type 0 → Answer → Type 0
RefusesFor Is NotALine = ¬ Is
RefusesFor Is OutOfMemory = Unit {0}
RefusesFor Is other = ⊥
