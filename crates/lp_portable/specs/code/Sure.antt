-- Notes about a line while its events come, and when these notes show that the line breaks no clause.
use Rattle.std.specs.Prelude.{◌≡◌, ℕ, ℤ, pos, negsuc, ◌+◌, ◌-◌, ◌*◌, ◌==◌, ◌&&◌, Bool, true, false, not, List, [], ◌∷◌, length, map, ◌≤◌, codes, Ok, nat_lt, bytes_eq, slice_index, slice_index_or, Option, None, if◌then◌else◌}
use Rattle.std.specs.{Cmp.Lexicographic.slice_cmp, Ordering.is_lt, Ordering.nat_cmp, List.AllByRecursion}
use Rattle.lp_format.specs.format.{Line, Pair, Strict, Text, answer, is_one_of, some_tags, space, tab, Value}
use Rattle.lp_portable.specs.code.Marks.{held, is_mark}
use Rattle.lp_events.specs.code.Events.{Event, named, tagged, valued, ended, failed}
use Rattle.lp_portable.specs.declared.plain.Noting.{Noting}
use Rattle.lp_portable.specs.format.Portable.{has_repeats, is_finite, is_outside, is_rounded, is_unsigned}
use Rattle.lp_portable.specs.code.{Bits.bits_of, Clauses.Breaks}
use Rattle.lp_portable.specs.declared.{broken.Broken.Broken, broken.TheConstants.NOTHING, limits.Limits.Limits}

-- Whether a name begins with an underscore.
abbrev pub begins_own : List ℕ → Bool
begins_own [] = false
begins_own (b ∷ name) = b == 95

-- Whether a key without marks surely breaks no clause, neither as a tag key nor as a field key.
abbrev pub is_sure_key : List ℕ → Bool
is_sure_key key = not (begins_own key) && not (bytes_eq key (codes "time"))

-- Whether a tag key without marks surely breaks no clause.
abbrev pub is_sure_tag : List ℕ → Bool
is_sure_tag key = not (nat_lt 256 (length key)) && is_sure_key key

-- Whether a value surely breaks no clause.
abbrev pub is_sure_value : Value Text → Bool
is_sure_value v = not (is_unsigned v) && (not (is_rounded v) && is_finite v)

-- The notes about a line.
pub record Noted : Type 0 where
  pub is_sure : Bool
  pub is_ended : Bool
  pub tags : ℕ
  pub fields : ℕ
  pub last_tag : List ℕ
  pub last_field : List ℕ
  pub timestamp : Option ℤ

-- The notes that the code holds.
abbrev pub noted : Noting → Noted
noted n =
    record {
      is_sure = n.is_sure;
      is_ended = n.is_ended;
      tags = n.tags;
      fields = n.fields;
      last_tag = n.last_tag.now;
      last_field = n.last_field.now;
      timestamp = n.timestamp;
    }

-- The notes before the first event.
abbrev pub none_noted : Noted
none_noted = record { is_sure = true; is_ended = false; tags = 0; fields = 0; last_tag = []; last_field = []; timestamp = None }

-- Whether a key is greater than the last key.
abbrev pub rises : List ℕ → List ℕ → Bool
rises last key = is_lt (slice_cmp nat_cmp last key)

-- The notes about a line that may break a clause.
abbrev pub unsure : Noted
unsure = record none_noted { is_sure = false }

-- The notes after one more tag with this key.
abbrev pub note_tag : Noted → List ℕ → Noted
note_tag n key = if n.is_sure && (nat_lt n.tags 29 && (rises n.last_tag key && is_sure_tag key)) then record n { tags = n.tags + 1; last_tag = key } else unsure

-- The notes after one more field with this key and this value.
abbrev pub note_field : Noted → List ℕ → Value Text → Noted
note_field n key value =
    if n.is_sure && (nat_lt n.fields 4000 && (rises n.last_field key && (is_sure_key key && is_sure_value value)))
    then record n { fields = n.fields + 1; last_field = key } else unsure

-- The notes after an event.
abbrev pub note : Noted → Event → Noted
note n (named m) = if n.is_sure && (m.is_single && not (begins_own m.bytes)) then n else unsure
note n (tagged t) = if t.key.is_single && t.value.is_single then note_tag n t.key.bytes else unsure
note n (valued f) = if f.key.is_single then note_field n f.key.bytes f.value else unsure
note n (ended series timestamp) = if n.is_sure then record n { is_ended = true; timestamp = timestamp } else unsure
note n (failed fault) = unsure

-- A sink notes an event.
abbrev pub TakesNoted : Noting → Event → Noting → Type 0
TakesNoted old event new = noted new ≡ note (noted old) event

-- The key of the tag surely breaks no clause, if it holds no mark.
pub record SureTag (t : Pair Text Text) : Type 0 where
  pub tag : is_sure_tag t.key.bytes ≡ true

-- The key and the value of the field surely break no clause, if the key holds no mark.
pub record SureField (f : Pair Text (Value Text)) : Type 0 where
  pub key : is_sure_key f.key.bytes ≡ true
  pub value : is_sure_value f.value ≡ true

-- The notes agree with a line that was read.
pub record LineNoted (line : Line) (n : Noted) : Type 0 where
  pub measurement : begins_own line.measurement.bytes ≡ false
  pub tags : AllByRecursion SureTag (some_tags line.tags)
  pub tags_once : has_repeats (map (λ t. t.key.bytes) (some_tags line.tags)) ≡ false
  pub fields : AllByRecursion SureField line.fields
  pub fields_once : has_repeats (map (λ f. f.key.bytes) line.fields) ≡ false
  pub count : n.tags ≡ length (some_tags line.tags)
  pub few : n.tags ≤ 29
  pub count_fields : n.fields ≡ length line.fields
  pub few_fields : n.fields ≤ 4000
  pub timestamp : n.timestamp ≡ line.timestamp

-- The text is read as a line, and the notes agree with this line.
abbrev pub IsLineNoted : List ℕ → Noted → Type 0
IsLineNoted line n = (l : Line) × (answer Strict line ≡ Ok l) × LineNoted l n

-- If a trimmed text was noted to its end, the text is a line, and the notes agree with this line.
abbrev pub IsNotedOf : List ℕ → Noting → Type 0
IsNotedOf line noting = noting.is_ended ≡ true → IsLineNoted line (noted noting)

-- The notes about a line with these numbers of tags and fields and this timestamp.
abbrev pub counted : ℕ → ℕ → Option ℤ → Noted
counted tags fields timestamp =
    record none_noted { is_ended = true; tags = tags; fields = fields; timestamp = timestamp }

-- A text is short, holds no more marks than this number of parts needs, and begins and ends with no blank.
pub record IsBare (text : List ℕ) (parts : ℕ) : Type 0 where
  pub short : length text ≤ 8000
  pub begins : is_one_of (space ∷ tab ∷ []) (slice_index_or text 0 0) ≡ false
  pub ends : (slice_index text (length text - 1) == space) ≡ false
  pub marks : held is_mark text + 1 ≡ 2 * parts

-- The clauses that a line with this number of tags and this timestamp breaks, if it breaks only clauses about its time, its number of tags
-- and its length.
abbrev pub broken_by_noted : Limits → List ℕ → ℕ → Option ℤ → Broken
broken_by_noted limits text tags timestamp =
    record NOTHING {
      time_out_of_range = is_outside (negsuc 9223372036854775805) (pos 9223372036854775806) timestamp;
      too_many_tags = nat_lt limits.tags tags;
      long_line = nat_lt limits.line (length text);
      time_not_kept = is_outside limits.earliest limits.latest timestamp;
    }

-- The text is one line, and the bits are the bits of the clauses that it breaks.
abbrev pub AreBitsOf : Limits → List ℕ → ℕ → Type 0
AreBitsOf limits text bits = (broken : Broken) × Breaks limits text broken × (bits ≡ bits_of broken)
