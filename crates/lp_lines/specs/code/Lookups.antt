-- Values of a line, found by their keys.
use Rattle.std.specs.Prelude.{ℕ, ◌+◌, Bool, List, [], length, max, nat_eq, option_map, Option, Some, None, find}
use Rattle.std.specs.Cmp.Lexicographic.{pointwise}
use Rattle.smallvec.specs.SmallVec.{SmallVec}
use Rattle.lp_values.specs.{declared.escaped.EscapedStr.EscapedStr, code.Texts.text_of}
use Rattle.lp_format.specs.code.Light.{inline_tags}
use Rattle.lp_lines.specs.declared.parsed.ParsedLine.{ParsedLine}

-- whether a pair has a key of this text
abbrev pub has_key : {V : Type 0} → List ℕ → EscapedStr × V → Bool
has_key text pair = pointwise nat_eq (text_of pair.0) text

-- the value of the first pair whose key has this text
abbrev pub value_by_key : {V : Type 0} → List ℕ → List (EscapedStr × V) → Option V
value_by_key text pairs = option_map (λ pair. pair.1) (find (has_key text) pairs)

-- the elements of a set, or no elements if there is no set
abbrev pub some_items : {T : Type 0} → Option (SmallVec T) → List T
some_items None = []
some_items (Some set) = set.items

-- how many elements a set can hold without memory, and 0 if there is no set
abbrev pub room_of : {T : Type 0} → Option (SmallVec T) → ℕ
room_of None = 0
room_of (Some set) = set.capacity

-- how many tags fit without memory: a set that does not exist yet is made with room for `inline_tags`
abbrev pub tag_room : {T : Type 0} → Option (SmallVec T) → ℕ
tag_room set = max inline_tags (room_of set)

-- how many columns a line has: one for the timestamp, and one for each field and each tag
abbrev pub columns : ParsedLine → ℕ
columns line = 1 + length line.field_set.items + length (some_items line.series.tag_set)
