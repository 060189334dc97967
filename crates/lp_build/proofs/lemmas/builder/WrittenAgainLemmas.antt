-- Parsed lines that are written again: their points, and the texts of their parts.
use Rattle.std.proofs.Common.{◌≡◌, List, [], ◌∷◌, length, refl, arith}
use Rattle.std.proofs.lemmas.List.Folds.{flat_map-map, list_all-map}
use Rattle.lp_values.specs.declared.{escaped.EscapedStr.EscapedStr, values.FieldValue.FieldValue}
use Rattle.lp_lines.specs.{declared.parsed.ParsedLine.ParsedLine, code.Parsed.parsed_point}
use Rattle.lp_format.specs.format.{comma, space, built, line_of}
use Rattle.lp_build.specs.code.WrittenAgain.{fields_text, line_text}

-- The length of the fields does not depend on the byte before the first field.
pub length_fields_after : (fields : List (EscapedStr × FieldValue))
    → length (fields_text space fields) ≡ length (fields_text comma fields)
length_fields_after [] = refl
length_fields_after (f ∷ fields) = refl

-- whether all are admitted, by the parsed ones
pub ruleset sets = (list_all-map)

-- The text of a parsed line is the text of its point.
pub line_text_is : (line : ParsedLine) → line_text line ≡ built (parsed_point line)
unfolding line_text line_of
line_text_is line = grind (arith, flat_map-map)
