-- Parsed lines of the code, as lines of the definitions.
use Rattle.std.specs.Prelude.{◌≡◌, ℕ, List, map, Result, Ok, Err, option_map}
use Rattle.smallvec.specs.SmallVec.{SmallVec}
use Rattle.lp_format.specs.format.{Dialect, Fault, Text, Value, Pair, Point, Line, point_of, answer, trimmed}
use Rattle.lp_values.specs.declared.{error.Error.Error, escaped.EscapedStr.EscapedStr, values.FieldValue.FieldValue}
use Rattle.lp_lines.specs.declared.parsed.ParsedLine.{ParsedLine}
use Rattle.lp_values.specs.code.{Outcomes.IsFault, Texts.read_of, ReadValues.value_of}

-- the field of the definitions that a field of the code is
abbrev pub field_of : EscapedStr × FieldValue → Pair Text (Value Text)
field_of f = record { key = read_of f.0; value = value_of f.1 }

-- the tag of the definitions that a tag of the code is
abbrev pub tag_of : EscapedStr × EscapedStr → Pair Text Text
tag_of t = record { key = read_of t.0; value = read_of t.1 }

-- the tags of the definitions that a tag set of the code is
abbrev pub tags_of : SmallVec (EscapedStr × EscapedStr) → List (Pair Text Text)
tags_of tags = map tag_of tags.items

-- the line of the definitions that a parsed line of the code is
abbrev pub line_read : ParsedLine → Line
line_read l =
    record {
      series = l.series.raw_input.now;
      measurement = read_of l.series.measurement;
      tags = option_map tags_of l.series.tag_set;
      fields = map field_of l.field_set.items;
      timestamp = l.timestamp;
    }

-- the point of a parsed line, made of its logical texts
abbrev pub parsed_point : ParsedLine → Point
parsed_point l = point_of (line_read l)

-- a parsed line that was read: it is the answer for the trimmed text of some text
pub record IsReadLine (l : ParsedLine) : Type 0 where
  pub dialect : Dialect
  pub text : List ℕ
  pub answered : answer dialect (trimmed text) ≡ Ok (line_read l)

-- the result of the code is this answer, or is `OutOfMemory`
abbrev pub Answers : Result ParsedLine Error → Result Line Fault → Type 0
Answers (Ok line) answer = answer ≡ Ok (line_read line)
Answers (Err e) answer = IsFault e (λ fault. answer ≡ Err fault)

-- the line that was filled in is the answer, or the error is the fault of the answer or is `OutOfMemory`
abbrev pub FillsLine : {X : Type 0} → ParsedLine → Result X Error → Result Line Fault → Type 0
FillsLine parsed (Ok done) answer = answer ≡ Ok (line_read parsed)
FillsLine parsed (Err e) answer = IsFault e (λ fault. answer ≡ Err fault)
