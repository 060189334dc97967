-- Whether a newline after a piece ends it.
use Rattle.std.specs.Prelude.{ℕ, ◌+◌, ◌==◌, ◌&&◌, Bool, false, true, not, nat_lt, List, [], ◌∷◌, if◌then◌else◌}
use Rattle.std.specs.List.{list_all}
use Rattle.influxdb_line_protocol.specs.format.Bytes.{backslash, comma, equals, newline, quote, space}
use Rattle.influxdb_line_protocol.specs.format.Dialects.{Dialect, Crate, Strict, NewlineDelimited}
use Rattle.influxdb_line_protocol.specs.format.Pieces.{begins_comment}
use Rattle.lp_split.specs.declared.split.resumed.Region.{Region, TheVariants.Head, TheVariants.Plain, TheVariants.Quoted}

-- the count of a byte, after one byte more
abbrev pub counted_on : (byte count b : ℕ) → ℕ
counted_on byte count b = count + (if b == byte then 1 else 0)

-- whether a newline after these bytes ends a piece that begins before them: they begin in this region of it, escaped or not, and its plain
-- stretches before them have so many bare `=` and `,`
abbrev pub ends_from : Region → (is_escaped : Bool) → (equal_signs commas : ℕ) → List ℕ → Bool
ends_from Quoted is_escaped equal_signs commas [] = false
ends_from region is_escaped equal_signs commas [] = not is_escaped
ends_from region true equal_signs commas (b ∷ bytes) = ends_from region false equal_signs commas bytes
ends_from Head false equal_signs commas (b ∷ bytes) =
    not (b == newline) && ends_from (if b == space then Plain else Head) (b == backslash) equal_signs commas bytes
ends_from Plain false equal_signs commas (b ∷ bytes) =
    not (b == newline)
    && ends_from (if b == quote && nat_lt commas equal_signs then Quoted else Plain) (b == backslash)
    (counted_on equals equal_signs b) (counted_on comma commas b) bytes
ends_from Quoted false equal_signs commas (b ∷ bytes) =
    ends_from (if b == quote then Plain else Quoted) (b == backslash) equal_signs commas bytes

-- whether bytes are on one line
abbrev pub are_on_one_line : List ℕ → Bool
are_on_one_line bytes = list_all (λ b. not (b == newline)) bytes

-- whether a newline after a piece ends it: if it is no comment and any newline can be within a line, no string is open there, and nothing is
-- escaped
abbrev pub ends_at_newline : Dialect → List ℕ → Bool
ends_at_newline Crate piece = ends_from Head false 0 0 piece
ends_at_newline Strict piece = if begins_comment piece then are_on_one_line piece else ends_from Head false 0 0 piece
ends_at_newline NewlineDelimited piece = are_on_one_line piece
