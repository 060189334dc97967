-- The faults of a relay for editors: each on one line, after the name of the file, the line and the column, as compilers tell theirs.
use Rattle.std.specs.Prelude.{ℕ, ◌+◌, ◌==◌, ◌||◌, not, nat_lt, Bool, List, [], ◌∷◌, ◌++◌, codes, decimal, drop, length, take, if◌then◌else◌}
use Rattle.std.specs.Prelude.{Option, Some, None, unwrap_or}
use Rattle.std.specs.Borrow.{Bor}
use Rattle.std.specs.List.{flat_map, position}
use Rattle.influxdb_line_protocol.specs.format.Bytes.{newline, newlines_in, space, tab}
use Rattle.lp_faults.specs.declared.telling.Place.{Place}
use Rattle.lp_faults.specs.Objects.{Reason, line_or_none}
use Rattle.lp_escapes.specs.Told.{on_one_line, told_byte}

-- whether a byte is the first of a character
abbrev pub begins_character : ℕ → Bool
begins_character b = nat_lt b 128 || not (nat_lt b 192)

-- the column, in characters, after these bytes, from this one on: each newline begins a line
abbrev pub character_column : ℕ → List ℕ → ℕ
character_column column [] = column
character_column column (b ∷ bytes) =
    character_column (if b == newline then 1 else (if begins_character b then column + 1 else column)) bytes

-- whether a byte ends what is told of the bytes where reading stopped: a space, a tab, a comma or a newline
abbrev pub ends_found : ℕ → Bool
ends_found b = b == space || b == tab || b == 44 || b == newline

-- what is found at the start of these bytes: all before a space, a tab, a comma or a newline
abbrev pub found_at : List ℕ → List ℕ
found_at bytes = take (unwrap_or (position ends_found bytes) (length bytes)) bytes

-- what is told of what is found: nothing if nothing is there
abbrev pub told_found : List ℕ → List ℕ
told_found [] = []
told_found (b ∷ found) = codes " (at \"" ++ on_one_line (b ∷ found) ++ codes "\")"

-- what is told of a line after these bytes of it, if reading stopped there
abbrev pub found_after : (stop : Option (List ℕ)) → (line : List ℕ) → List ℕ
found_after None line = []
found_after (Some stop) line = told_found (found_at (drop (length stop) line))

-- the name of a file, as it is told on one line: a dash if it is standard input
abbrev pub file_or_dash : Option (Bor (List ℕ)) → List ℕ
file_or_dash None = codes "-"
file_or_dash (Some name) = flat_map told_byte name.now

-- the line and the column after these bytes of a piece, which begins on this line
abbrev pub where_after : (line : ℕ) → List ℕ → List ℕ
where_after line bytes = codes ":" ++ decimal (line + newlines_in bytes) ++ codes ":" ++ decimal (character_column 1 bytes) ++ codes ": "

-- what is told for editors of an item at this place that is refused for this, and a newline: where reading stopped, or else where its text
-- begins, what is wrong with it, and what was found where reading stopped
abbrev pub editor_line : Place → Reason → List ℕ
editor_line place why =
    file_or_dash place.file ++ where_after (line_or_none place.line) (unwrap_or why.seen.stop why.front)
    ++ on_one_line why.wrong ++ found_after why.seen.stop why.seen.line ++ newline ∷ []
