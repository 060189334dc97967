-- The place where reading a line stops: the part of the line, and the text that is left there.
use Rattle.std.specs.Prelude.{◌≡◌, ◌+◌, ◌==◌, ◌||◌, Bool, true, false, ℕ, zero, suc, ℤ, List, [], ◌∷◌, ◌++◌, length, drop, if◌then◌else◌}
use Rattle.std.specs.Prelude.{Option, Some, None, Result, Ok, Err}
use Rattle.std.specs.Borrow.{Bor}
use Rattle.lp_format.specs.format.{comma, equals, space, Dialect, Fault, Pair, Read, Reading, Text, Value, fatal, reads, NameKind, a_field_key}
use Rattle.lp_format.specs.format.{a_measurement, a_tag_key, after_comma, byte, field, name, spaces, tag, timestamp, without_comma}
use Rattle.lp_events.specs.declared.stops.LinePart.{LinePart}
use Rattle.lp_events.specs.declared.stops.PairKind.{PairKind}
use Rattle.lp_events.specs.declared.stops.PairKind.TheVariants.{Tag, Field}
use Rattle.lp_events.specs.declared.stops.LinePart.TheVariants.{Measurement, TagKey, TagValue, FieldKey, FieldValue, Timestamp}

-- a place in a line: its part there, and the text that is left
abbrev pub Place : Type 0
Place = LinePart × List ℕ

-- the place after a part that reads, or this place if the part does not read
abbrev pub after : {A : Type 0} → Reading A → Place → (Read A → Place) → Place
after (reads x rest) here next = next (record { value = x; rest = rest })
after other here next = here

-- whether a part is fatal
abbrev pub is_fatal : {A : Type 0} → Reading A → Bool
is_fatal (fatal e) = true
is_fatal other = false

-- the place where a tag or a field that does not read stops: its key, the place of its equals sign, or its value
abbrev pub pair_stop : NameKind → (key value : LinePart) → List ℕ → Place
pair_stop kind key value text =
    after (name kind text) (key, text) (λ sign. after (byte equals sign.rest) (key, sign.rest) (λ x. (value, x.rest)))

-- the place where the tag of this number stops, if it does not read
abbrev pub tag_stop : ℕ → List ℕ → Place
tag_stop number text = pair_stop a_tag_key (TagKey number) (TagValue number) text

-- the place where the field of this number stops, if it does not read
abbrev pub field_stop : ℕ → List ℕ → Place
field_stop number text = pair_stop a_field_key (FieldKey number) (FieldValue number) text

-- the place where the tag or the field of this number stops, if it does not read
abbrev pub stop_of : PairKind → ℕ → List ℕ → Place
stop_of Tag = tag_stop
stop_of Field = field_stop

-- the type of a tag or a field that was read
abbrev pub PairRead : PairKind → Type 0
PairRead Tag = Pair Text Text
PairRead Field = Pair Text (Value Text)

-- reads a comma and then a tag or a field
abbrev pub next_pair : (kind : PairKind) → List ℕ → Reading (PairRead kind)
next_pair Tag = after_comma tag
next_pair Field = after_comma field

-- a reading that does not read: it misses, or is fatal
abbrev pub DoesNotRead : {A : Type 0} → Reading A → Type 0
DoesNotRead (reads x rest) = ⊥
DoesNotRead other = Unit {0}

-- the reading leaves this rest, or does not read
abbrev pub Leaves : {A : Type 0} → Reading A → Option (Bor (List ℕ)) → Type 0
Leaves reading None = DoesNotRead reading
Leaves {A} reading (Some rest) = (x : A) × (reading ≡ reads x rest.now)

-- these parts, before the parts that are read after them
abbrev pub before : {A : Type 0} → List A → Read (List A) → Read (List A)
before parts others = record { value = parts ++ others.value; rest = others.rest }

-- no parts if the reading of one part does not read; else this part and the parts that are read after it
abbrev pub and_more : {A : Type 0} → Reading A → List ℕ → (List ℕ → Read (List A)) → Read (List A)
and_more (reads x rest) text more = before (x ∷ []) (more rest)
and_more other text more = record { value = []; rest = text }

-- the most parts that read at the start of a text, at most `n`, and the rest after them
abbrev pub most : {A : Type 0} → (List ℕ → Reading A) → ℕ → List ℕ → Read (List A)
most one zero text = record { value = []; rest = text }
most one (suc n) text = and_more (one text) text (λ rest. most one n rest)

-- the code counted these parts, and has the rest after them
abbrev pub AreMany : {A : Type 0} → ℕ × Bor (List ℕ) → Read (List A) → Type 0
AreMany p parts = (p.0 ≡ length parts.value) × (p.1.now ≡ parts.rest)

-- the last part of a series with this number of tags
abbrev pub series_part : ℕ → LinePart
series_part zero = Measurement
series_part (suc n) = TagValue (suc n)

-- the place where reading stops if no tag reads after `tags` tags and a comma: in the tag that is fatal or that is the first, and else at the
-- comma
abbrev pub late_tag_stop : ℕ → (rest place : List ℕ) → Place
late_tag_stop tags rest place =
    let stop = tag_stop (tags + 1) place in
    if tags == 0 || is_fatal (tag place) then stop else (stop.0, rest)

-- the text that is left after a timestamp, or from the number of the timestamp on if it is out of range
abbrev pub after_time : List ℕ → List ℕ
after_time left = by_time (timestamp left)
  where
    by_time : Result (Read (Option ℤ)) Fault → List ℕ
    by_time (Ok time) = time.rest
    by_time (Err fault) = drop (spaces left) left

-- the place where reading stops if `left` is left after the fields: after the timestamp, or in `part` if no timestamp begins there
abbrev pub end_stop : LinePart → List ℕ → Place
end_stop part left = (if spaces left == 0 then part else Timestamp, after_time left)

-- the place where reading stops if no field reads after these: in a field after a comma that is fatal, and else in the text that is left of
-- the line
abbrev pub last_stop : Dialect → List (Pair Text (Value Text)) → List ℕ → Place
last_stop dialect fields rest =
    let left = without_comma dialect fields rest in
    after (byte comma rest) (end_stop (FieldValue (length fields)) left) (λ place.
    let stop = field_stop (length fields + 1) place.rest in
    if is_fatal (field place.rest) then stop else end_stop stop.0 left)

-- the place where reading stops from the fields on
abbrev pub fields_stop : Dialect → List ℕ → Place
fields_stop dialect text =
    after (field text) (field_stop 1 text) (λ first.
    let others = most (after_comma field) (length first.rest) first.rest in
    last_stop dialect (first.value ∷ others.value) others.rest)

-- the place where reading stops after the measurement and the most tags
abbrev pub series_stop : Dialect → Read (List (Pair Text Text)) → Place
series_stop dialect tags =
    after (byte comma tags.rest)
    (after (byte space tags.rest) (series_part (length tags.value), tags.rest)
    (λ gap. fields_stop dialect (drop (spaces tags.rest) tags.rest)))
    (λ place. late_tag_stop (length tags.value) tags.rest place.rest)

-- the place where reading a trimmed text stops
abbrev pub reading_stop : Dialect → List ℕ → Place
reading_stop dialect line =
    after (name a_measurement line) (Measurement, line) (λ start.
    series_stop dialect (most (after_comma tag) (length start.rest) start.rest))

-- the rest, if the code tells one, is the text that is left of the line where reading stops
abbrev pub IsStopOf : Dialect → List ℕ → Option (Bor (List ℕ)) → Type 0
IsStopOf dialect line None = Unit {0}
IsStopOf dialect line (Some rest) = rest.now ≡ (reading_stop dialect line).1
