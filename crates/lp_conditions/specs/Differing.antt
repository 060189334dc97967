-- The first part of a line that is not as the builder writes it.
use Rattle.std.specs.Prelude.{◌≡◌, ◌≢◌, ℕ, zero, suc, ◌==◌, ◌&&◌, ◌||◌, nat_lt, Bool, List, ◌∷◌, ◌++◌, codes, decimal, length, slice_index, take}
use Rattle.std.specs.{Prelude.if◌then◌else◌, Str.IsCharBoundary}
use Rattle.influxdb_line_protocol.specs.format.{Bytes.newline, Bytes.space, Bytes.comma, Dialects.Strict}
use Rattle.lp_events.specs.code.Stops.{reading_stop}
use Rattle.lp_events.specs.declared.stops.LinePart.{LinePart}
use Rattle.lp_events.specs.declared.stops.LinePart.TheVariants.{Measurement, TagKey, TagValue, FieldKey, FieldValue, Timestamp}
use Rattle.lp_conditions.specs.declared.differing.Part.{Part}
use Rattle.lp_conditions.specs.declared.differing.Part.TheVariants.{In, Spaces, Comma}

-- how many bytes at the start both have
abbrev pub common_len : (line written : List ℕ) → ℕ
common_len (b ∷ line) (c ∷ written) = if b == c then suc (common_len line written) else zero
common_len line written = zero

-- whether a character goes on at this byte of a text
abbrev pub goes_on : List ℕ → ℕ → Bool
goes_on text n = nat_lt n (length text) && nat_lt 127 (slice_index text n) && nat_lt (slice_index text n) 192

-- where the character begins that goes on at this byte, or this byte
abbrev pub char_start : List ℕ → ℕ → ℕ
char_start text zero = zero
char_start text (suc n) = if goes_on text (suc n) then char_start text n else suc n

-- the part in which reading stops of so many bytes of a line, without those of a character that goes on after them
abbrev pub part_after : List ℕ → ℕ → LinePart
part_after line at = (reading_stop Strict (take (char_start line at) line)).0

-- what is not as written if a line has the first byte in this part where the builder writes the second. A space where a key or a
-- timestamp begins, or after the timestamp, is one too many, and a comma after the last field has no field after it
abbrev pub part_at : LinePart → (b written : ℕ) → Part
part_at (FieldKey n) b written = if b == space then Spaces else In (FieldKey n)
part_at Timestamp b written = if b == space then Spaces else In Timestamp
part_at (FieldValue n) b written = if b == comma && (written == space || written == newline) then Comma else In (FieldValue n)
part_at other b written = In other

-- the part in which a line first differs from the line that the builder writes: the one in which reading stops of the front that
-- both have
abbrev pub differing_part : (line written : List ℕ) → Part
differing_part line written =
    let at = common_len line written in
    let part = part_after line at in
    if nat_lt at (length line) && nat_lt at (length written) then part_at part (slice_index line at) (slice_index written at) else In part

-- what is wrong with a line whose first part that is not as it is written is this one
abbrev pub part_text : Part → List ℕ
part_text (In Measurement) = codes "not as written: the measurement"
part_text (In (TagKey n)) = codes "not as written: the key of tag " ++ decimal n
part_text (In (TagValue n)) = codes "not as written: the value of tag " ++ decimal n
part_text (In (FieldKey n)) = codes "not as written: the key of field " ++ decimal n
part_text (In (FieldValue n)) = codes "not as written: the value of field " ++ decimal n
part_text (In Timestamp) = codes "not as written: the timestamp"
part_text Spaces = codes "not as written: the spaces"
part_text Comma = codes "not as written: the comma after the fields"

-- Reading of a front that two texts have, before other bytes, stops in the part in which they differ, if a character begins there.
abbrev pub FrontsStopInThePart : Type 0
FrontsStopInThePart =
    (front line written : List ℕ) (b c : ℕ) → b ≢ c → IsCharBoundary (front ++ b ∷ line) (length front)
    → differing_part (front ++ b ∷ line) (front ++ c ∷ written) ≡ part_at (reading_stop Strict front).0 b c
