-- The place where reading stops, by the row of the answer, and the text that is left there.
use Rattle.std.specs.Prelude.{◌≡◌, ◌+◌, ℕ, List, [], ◌∷◌, ◌++◌, length, Result, Ok}
use Rattle.lp_format.specs.format.{comma, equals, space, Dialect, Fault, Line, Text, NameKind, a_field_key, a_tag_key, answer, name, reads}
use Rattle.lp_format.specs.format.{some_tags}
use Rattle.lp_format.specs.laws.MeaningsOfAnswers.{after_spaces, BeginsWith, IsAnswer}
use Rattle.lp_format.specs.laws.MeaningsOfAnswers.IsAnswer.{fatal_measurement, no_measurement, fatal_tag, no_tag, no_space, fatal_field, no_field}
use Rattle.lp_format.specs.laws.MeaningsOfAnswers.IsAnswer.{fatal_timestamp, left, all_read}
use Rattle.lp_events.specs.code.Stops.{Place, reading_stop, series_part}
use Rattle.lp_events.specs.declared.stops.LinePart.{LinePart}
use Rattle.lp_events.specs.declared.stops.LinePart.TheVariants.{Measurement, TagKey, TagValue, FieldKey, FieldValue, Timestamp}

-- The place where reading of a tag or a field stops that cannot be read: at its key, at the missing equals sign, or at its value.
pub data IsStopInPair (kind : NameKind) (key value : LinePart) (text : List ℕ) : Place → Type 0 where
  -- no key is read
  at_key : ((k : Text) (rest : List ℕ) → ¬ (name kind text ≡ reads k rest)) → IsStopInPair kind key value text (key, text)
  -- no equals sign follows the key
  at_sign : (k : Text) (rest : List ℕ) → name kind text ≡ reads k rest → ¬ BeginsWith equals rest
      → IsStopInPair kind key value text (key, rest)
  -- the key and an equals sign are read, and the value is not
  at_value : (k : Text) (rest : List ℕ) → name kind text ≡ reads k (equals ∷ rest) → IsStopInPair kind key value text (value, rest)

-- The place where reading of the tag of this number stops.
abbrev pub IsStopInTag : ℕ → List ℕ → Place → Type 0
IsStopInTag number text place = IsStopInPair a_tag_key (TagKey number) (TagValue number) text place

-- The place where reading of the field of this number stops.
abbrev pub IsStopInField : ℕ → List ℕ → Place → Type 0
IsStopInField number text place = IsStopInPair a_field_key (FieldKey number) (FieldValue number) text place

-- The place where reading of the next tag or field stops, after the ones that were read. If none was read, it begins at the front of the
-- text; otherwise it begins after a comma.
abbrev pub IsStopInNext : {A : Type 0} → (ℕ → List ℕ → Place → Type 0) → List A → List ℕ → Place → Type 0
IsStopInNext IsStop [] last place = IsStop 1 last place
IsStopInNext IsStop (x ∷ xs) last place = (after : List ℕ) × (last ≡ comma ∷ after) × IsStop (length (x ∷ xs) + 1) after place

-- If the text that is left begins with a comma, the part is the part in which the tag or field of this number stops after the comma.
abbrev pub IsPartAtComma : (ℕ → List ℕ → Place → Type 0) → ℕ → List ℕ → LinePart → Type 0
IsPartAtComma IsStop number last part = (after : List ℕ) → last ≡ comma ∷ after → (rest : List ℕ) × IsStop number after (part, rest)

-- The part of the line in which reading stops after the fields: the timestamp if a space follows; otherwise the last value, or the part
-- after a comma if a comma follows.
abbrev pub IsPartAfter : ℕ → (last rest : List ℕ) → LinePart → Type 0
IsPartAfter fields last rest part =
    (BeginsWith space rest → part ≡ Timestamp)
    × (¬ BeginsWith space rest → (¬ BeginsWith comma last → part ≡ FieldValue fields) × IsPartAtComma IsStopInField (fields + 1) last part)

-- The place where reading stops, for each row of the table of answers.
abbrev pub IsStopByRow : {dialect : Dialect} {text : List ℕ} {a : Result Line Fault} → IsAnswer dialect text a → Place → Type 0
IsStopByRow {text = text} (fatal_measurement e h) place = place ≡ (Measurement, text)
IsStopByRow {text = text} (no_measurement h) place = place ≡ (Measurement, text)
IsStopByRow (fatal_tag m after tags last e named most next) place = IsStopInNext IsStopInTag tags last place
IsStopByRow (no_tag m after named h) place = IsStopInTag 1 after place
IsStopByRow (no_space m tags last series gap) place =
    (place.1 ≡ last) × (¬ BeginsWith comma last → place.0 ≡ series_part (length (some_tags tags)))
    × IsPartAtComma IsStopInTag (length (some_tags tags) + 1) last place.0
IsStopByRow (fatal_field m tags after fields last e series gap most next) place = IsStopInNext IsStopInField fields last place
IsStopByRow (no_field m tags after series gap h) place = IsStopInField 1 (after_spaces after) place
IsStopByRow (fatal_timestamp line last side number r stamp) place = place ≡ (Timestamp, after_spaces last)
IsStopByRow (left line last b more r stamp) place = (place.1 ≡ b ∷ more) × IsPartAfter (length line.fields) r.after_fields last place.0
IsStopByRow (all_read line last r stamp) place = (place.1 ≡ []) × IsPartAfter (length line.fields) r.after_fields last place.0

-- Reading stops at the place that the row of the answer names.
abbrev pub StopsAreByRows : Type 0
StopsAreByRows =
    (dialect : Dialect) (text : List ℕ) (a : Result Line Fault) (row : IsAnswer dialect text a) → IsStopByRow row (reading_stop dialect text)

-- The text that is left where reading stops is an end of the whole text.
abbrev pub StopsAreInText : Type 0
StopsAreInText = (dialect : Dialect) (text : List ℕ) → (front : List ℕ) × (text ≡ front ++ (reading_stop dialect text).1)

-- If a text is read as a line, no text is left.
abbrev pub LinesAreReadWhole : Type 0
LinesAreReadWhole = (dialect : Dialect) (text : List ℕ) (line : Line) → answer dialect text ≡ Ok line → (reading_stop dialect text).1 ≡ []
