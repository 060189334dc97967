-- The texts that the builder writes for the parts of a parsed line.
use Rattle.std.specs.Prelude.{ℕ, List, [], ◌∷◌, ◌++◌, map, flat_map}
use Rattle.lp_values.specs.declared.{escaped.EscapedStr.EscapedStr, values.FieldValue.FieldValue}
use Rattle.lp_values.specs.code.{Texts.text_of, ReadValues.value_of}
use Rattle.lp_lines.specs.declared.parsed.ParsedLine.{ParsedLine}
use Rattle.lp_lines.specs.code.{Lookups.some_items, Parsed.tag_of, Parsed.field_of}
use Rattle.lp_format.specs.format.{newline, space, a_measurement, Tag, spelling, built_tag, built_value, built_fields}
use Rattle.lp_format.specs.format.{built_timestamp, logical_tag, logical_field, logical_value}

-- the text of a value
abbrev pub value_text : FieldValue → List ℕ
value_text v = built_value (logical_value (value_of v))

-- a tag by its logical texts
abbrev pub point_tag : EscapedStr × EscapedStr → Tag
point_tag t = logical_tag (tag_of t)

-- the text of a tag, with the comma before it
abbrev pub tag_text : EscapedStr × EscapedStr → List ℕ
tag_text t = built_tag (point_tag t)

-- the texts of the fields, the first after this byte and each other after a comma
abbrev pub fields_text : ℕ → List (EscapedStr × FieldValue) → List ℕ
fields_text before fields = built_fields before (map logical_field (map field_of fields))

-- the text of a parsed line, with its newline, from the texts of its parts
unfoldable pub line_text : ParsedLine → List ℕ
line_text l =
    spelling a_measurement (text_of l.series.measurement) ++ flat_map tag_text (some_items l.series.tag_set)
    ++ fields_text space l.field_set.items ++ built_timestamp l.timestamp ++ newline ∷ []
