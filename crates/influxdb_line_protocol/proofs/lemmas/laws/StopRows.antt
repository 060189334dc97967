-- Reading stops at the place that the row of the answer names.
use Rattle.std.proofs.Common.{◌≡◌, ℕ, zero, suc, ◌≤◌, ◌==◌, ◌||◌, Bool, true, false, List, [], ◌∷◌, ◌++◌, length, refl, sym, ap, ◌∙◌, arith, inl, inr}
use Rattle.std.proofs.Common.{Option, Result, Ok, Err, cond, eqb-true, length-append, ◌+◌, codes}
use Rattle.std.proofs.lemmas.Bool.{cases_Bool}
use Rattle.std.proofs.lemmas.Bool.Decides.{nat_tests}
use Rattle.lp_format.specs.format.{comma, equals, space, Dialect, Fault, Line, NameKind, Pair, Reading, Text, Value, a_field_key, a_tag_key, fatal}
use Rattle.lp_format.specs.format.{Crate, escaped, first_bare, is_escaped_after, without_escapes, value, integer_at, unsigned_at, float_at}
use Rattle.lp_format.specs.format.{boolean_at, string_at}
use Rattle.lp_format.specs.format.{after_comma, byte, field, miss, name, reads, some_tags, spaces, tag, timestamp, timestamp_value_invalid, without_comma}
use Rattle.lp_format.specs.laws.Meanings.{LongestList, NextHasFault, SeparatedAfterComma, WholeList}
use Rattle.lp_format.specs.laws.MeaningsOfAnswers.{after_spaces, BeginsWith, IsAnswer, ReadsFields, ReadsSeries, ReadsSeries.alone, ReadsSeries.tagged}
use Rattle.lp_format.specs.laws.MeaningsOfAnswers.IsAnswer.{fatal_measurement, no_measurement, fatal_tag, no_tag, no_space, fatal_field, no_field}
use Rattle.lp_format.specs.laws.MeaningsOfAnswers.IsAnswer.{fatal_timestamp, left, all_read}
use Rattle.lp_format.proofs.lemmas.meanings.ShorterRests.{field_no_longer, tag_no_longer}
use Rattle.lp_lines.proofs.lemmas.meanings.AnswerMeaning.{answer_is_by_rows}
use Rattle.lp_values.proofs.lemmas.fields.ReadingLemmas.{byte_parts}
use Rattle.lp_events.specs.code.Stops.{DoesNotRead, Place, end_stop, field_stop, fields_stop, is_fatal, last_stop, most, pair_stop, reading_stop, series_part, series_stop}
use Rattle.lp_events.specs.declared.stops.LinePart.{LinePart}
use Rattle.lp_events.specs.declared.stops.LinePart.TheVariants.{FieldValue, TagKey, Timestamp}
use Rattle.lp_events.proofs.lemmas.fields.ManyLemmas.{comma_cases}
use Rattle.influxdb_line_protocol.specs.laws.StopLaws.{IsPartAfter, IsPartAtComma, IsStopByRow, IsStopInField, IsStopInNext, IsStopInPair, IsStopInPair.at_key}
use Rattle.influxdb_line_protocol.specs.laws.StopLaws.{IsStopInPair.at_sign, IsStopInPair.at_value, IsStopInTag, LinesAreReadWhole, StopsAreByRows}

-- A text that does not begin with a byte does not read as this byte.
no_byte : (b : ℕ) (text : List ℕ) → ¬ BeginsWith b text → byte b text ≡ miss
no_byte b text none = grind (arith, cases_Bool, eqb-true)

-- A test or `true` is `true`.
or_true : (test : Bool) → (test || true) ≡ true
or_true true = refl
or_true false = refl

-- a part without a fault is not fatal
not_fatal : {A : Type 0} (r : Reading A) → ((e : Fault) → ¬ (r ≡ fatal e)) → is_fatal r ≡ false
not_fatal miss none = refl
not_fatal (fatal e) none = absurd (none e refl)
not_fatal (reads x rest) none = refl

-- At a comma, the part in which reading stops is the part of the stop after the comma.
late_part : (b : Bool) (stop : Place) (rest : List ℕ) → (cond b stop (stop.0, rest)).0 ≡ stop.0
late_part true stop rest = refl
late_part false stop rest = refl

-- An element that is read after a comma comes after a comma in the text.
comma_there : {A : Type 0} {one : List ℕ → Reading A} (text : List ℕ) (x : A) (after : List ℕ) → after_comma one text ≡ reads x after
    → (place : List ℕ) × (text ≡ comma ∷ place) × (one place ≡ reads x after)
comma_there text x after e = grind (arith, comma_cases, byte_parts)

-- where a pair stops
module _ (kind : NameKind) (key value : LinePart) (text : List ℕ) where
  -- After the key of a pair, reading stops as the definition of a pair says.
  after_key : (k : Text) (rest : List ℕ) → name kind text ≡ reads k rest → IsStopInPair kind key value text (pair_stop kind key value text)
  after_key k [] e = rw e (at_sign k [] e (λ s. s))
  after_key k (c ∷ more) e = elim (cases_Bool (c == equals)) [
    | inl sign ↦ rw (e, sign) (at_value k more (e ∙ ap (λ (b : ℕ). reads k (b ∷ more)) (eqb-true c equals sign)))
    | inr other ↦ rw (e, other) (at_sign k (c ∷ more) e (λ is. grind (arith, nat_tests)))
  ]

  -- Reading stops in a pair as its definition says, by what the key is read as.
  pair_stops_by : (r : Reading Text) → name kind text ≡ r → IsStopInPair kind key value text (pair_stop kind key value text)
  pair_stops_by miss e = rw e (at_key (λ k rest is. cc))
  pair_stops_by (fatal d) e = rw e (at_key (λ k rest is. cc))
  pair_stops_by (reads k rest) e = after_key k rest e

  -- where it stops
  pair_stops : IsStopInPair kind key value text (pair_stop kind key value text)
  pair_stops = pair_stops_by (name kind text) refl

module _ {A : Type 0} (one : List ℕ → Reading A)
    (no_longer : (text : List ℕ) (x : A) (rest : List ℕ) → one text ≡ reads x rest → length rest ≤ length text) where
  -- where none reads, none are the most
  none_is : (n : ℕ) (text : List ℕ) → DoesNotRead (after_comma one text) → most (after_comma one) n text ≡ record { value = []; rest = text }
  none_is zero text none = refl
  none_is (suc n) text none = grind arith

  -- the parts before one that does not read are the most
  most_is : (n : ℕ) (xs : List A) (text rest : List ℕ) → SeparatedAfterComma one xs text rest → DoesNotRead (after_comma one rest)
      → length text ≤ n → most (after_comma one) n text ≡ record { value = xs; rest = rest }
  most_is n [] text rest h none room = rw h (none_is n rest none)
  most_is zero (x ∷ xs) text rest h none room = absurd (omega (arith, room, ap length h.2))
  most_is (suc n) (x ∷ xs) text rest h none room =
      let shorter = no_longer h.0 x h.1 h.3 in
      let others = most_is n xs h.1 rest h.4 none (omega (arith, room, shorter, ap length h.2)) in
      rw (h.2, h.3, others) refl

  -- An element that reads after a comma extends the list of elements that were read.
  one_more : (xs : List A) (text rest after : List ℕ) (y : A) → SeparatedAfterComma one xs text rest → after_comma one rest ≡ reads y after
      → SeparatedAfterComma one (xs ++ y ∷ []) text after
  one_more [] text rest after y h e = let sign = comma_there rest y after e in (sign.0, after, h ∙ sign.1, sign.2, refl)
  one_more (x ∷ xs) text rest after y h e = (h.0, h.1, h.2, h.3, one_more xs h.1 rest after y h.4 e)

  -- After the longest list of elements, no further element reads.
  longest_end : (x : A) (xs : List A) (text rest : List ℕ) → LongestList one text (x ∷ xs) rest → DoesNotRead (after_comma one rest)
  longest_end x xs text rest h = by_next (after_comma one rest) refl
    where
      -- After the longest list of elements, the next element does not read, by what it is read as.
      by_next : (r : Reading A) → after_comma one rest ≡ r → DoesNotRead r
      by_next (reads y after) e =
          let first = h.separated in
          let fewer = h.most (x ∷ xs ++ y ∷ []) after (first.0, first.1, one_more xs first.0 rest after y first.2 e) in
          absurd (omega (arith, fewer, length-append xs (y ∷ [])))
      by_next other e = tt {0}

  -- the one after a whole list is not fatal
  whole_fine : (x : A) (xs : List A) (text rest place : List ℕ) → WholeList one text (x ∷ xs) rest → rest ≡ comma ∷ place
      → is_fatal (one place) ≡ false
  whole_fine x xs text rest place h is = not_fatal (one place) (λ e bad. h.no_fault e (place, is, bad))

-- After a tag is read, the text that is left is no longer than the text before.
tag_longer : (text : List ℕ) (t : Pair Text Text) (rest : List ℕ) → tag text ≡ reads t rest → length rest ≤ length text
tag_longer text t rest e = (tag_no_longer text).holds t rest e

-- After a field is read, the text that is left is no longer than the text before.
field_longer : (text : List ℕ) (f : Pair Text (Value Text)) (rest : List ℕ) → field text ≡ reads f rest → length rest ≤ length text
field_longer text f rest e = (field_no_longer text).holds f rest e

-- a space makes what follows the fields a timestamp
space_part : (part : LinePart) (rest : List ℕ) → BeginsWith space rest → (end_stop part rest).0 ≡ Timestamp
space_part part [] gap = absurd gap
space_part part (c ∷ rest) gap = rw gap (grind arith)

-- If no space is left, reading stops in the part that was being read.
bare_part : (part : LinePart) (rest : List ℕ) → ¬ BeginsWith space rest → (end_stop part rest).0 ≡ part
bare_part part [] none = refl
bare_part part (c ∷ rest) none = grind (arith, cases_Bool, eqb-true)

-- The part in which reading stops after the fields, from the part without a comma and the part at a comma.
part_after : (fields : ℕ) (last rest : List ℕ) (part : LinePart) → (¬ BeginsWith comma last → part ≡ FieldValue fields)
    → IsPartAtComma IsStopInField (fields + 1) last part → IsPartAfter fields last rest (end_stop part rest).0
part_after fields last rest part is at = (space_part part rest, λ bare. rw (bare_part part rest bare) (is, at))

-- reading stops at the number of a timestamp that is at fault
number_stops : (part : LinePart) (rest : List ℕ) (e : Fault) → timestamp rest ≡ Err e → end_stop part rest ≡ (Timestamp, after_spaces rest)
number_stops part rest e stamp = elim (cases_Bool (spaces rest == 0)) [
  | inl bare ↦ let never = rw bare at stamp in absurd (cc)
  | inr gap ↦ rw (stamp, gap) refl
]

-- After the longest list of tags, the series is read as the row of the answer says.
module _ (dialect : Dialect) where
  -- where reading goes on from
  series_is : {text : List ℕ} {m : Text} {tags : Option (List (Pair Text Text))} {rest : List ℕ} → ReadsSeries text m tags rest
      → reading_stop dialect text ≡ series_stop dialect (record { value = some_tags tags; rest = rest })
  series_is (alone m rest named bare) =
      rw (named, none_is tag tag_longer (length rest) rest (rw (no_byte comma rest bare) (tt {0}))) refl
  series_is (tagged m [] after rest named whole) = absurd (let some = whole.some in omega arith)
  series_is (tagged m (t ∷ tags) after rest named whole) =
      let first = whole.longest.separated in
      let end = longest_end tag tag_longer t tags after rest whole.longest in
      rw (named, most_is tag tag_longer (suc (length after)) (t ∷ tags) (comma ∷ after) rest (after, first.0, refl, first.1, first.2) end (omega arith))
      refl

  -- a space leads to the fields
  after_gap : (tags : List (Pair Text Text)) (rest : List ℕ) → BeginsWith space rest
      → series_stop dialect (record { value = tags; rest = rest }) ≡ fields_stop dialect (after_spaces rest)
  after_gap tags [] gap = absurd gap
  after_gap tags (c ∷ rest) gap = rw gap refl

  -- without one reading stops after the series
  no_gap : {text : List ℕ} {m : Text} {tags : Option (List (Pair Text Text))} {rest : List ℕ} → ReadsSeries text m tags rest
      → ¬ BeginsWith space rest
      → (let place : Place = series_stop dialect (record { value = some_tags tags; rest = rest }) in
      (place.1 ≡ rest) × (¬ BeginsWith comma rest → place.0 ≡ series_part (length (some_tags tags)))
      × IsPartAtComma IsStopInTag (length (some_tags tags) + 1) rest place.0)
  no_gap (alone m rest named bare) none =
      rw (no_byte comma rest bare, no_byte space rest none) (refl, λ no. refl, λ after is. absurd (bare (rw is refl)))
  no_gap (tagged m [] after rest named whole) none = absurd (let some = whole.some in omega arith)
  no_gap (tagged m (t ∷ tags) after rest named whole) none =
      elim (comma_cases rest) [
        | inl bare ↦ rw (bare, no_byte space rest none) (refl, λ no. refl, λ place is. absurd (let never = rw is at bare in cc))
        | inr sign ↦
            let is = (byte_parts comma rest comma sign.0 sign.1).1 in
            rw (sign.1, whole_fine tag tag_longer t tags after rest sign.0 whole is) (
              grind arith,
              λ no. absurd (no (rw is refl)),
              λ place at. let same : place ≡ sign.0 = cc (is, at) in rw (same, late_part) (_, pair_stops a_tag_key _ _ sign.0),
            )
      ]

  -- a tag that is fatal
  tags_next : (after : List ℕ) (tags : List (Pair Text Text)) (last : List ℕ) (e : Fault) → LongestList tag after tags last
      → NextHasFault tag tags last e
      → IsStopInNext IsStopInTag tags last (series_stop dialect (most (after_comma tag) (suc (length after)) (comma ∷ after)))
  tags_next after [] last e longest next =
      let here = rw (sym longest.separated) at next in
      rw (none_is tag tag_longer (suc (length after)) (comma ∷ after) (rw here (tt {0})), sym longest.separated)
      (pair_stops a_tag_key _ _ after)
  tags_next after (t ∷ tags) last e longest next =
      let first = longest.separated in
      let end : DoesNotRead (after_comma tag last) = rw (next.1, next.2) (tt {0}) in
      let parts = most_is tag tag_longer (suc (length after)) (t ∷ tags) (comma ∷ after) last (after, first.0, refl, first.1, first.2) end (omega arith) in
      (next.0, next.1, rw (parts, next.1, next.2, or_true (length (t ∷ tags) == 0)) (pair_stops a_tag_key _ _ next.0))

  -- a field that is fatal
  fields_next : (text : List ℕ) (fields : List (Pair Text (Value Text))) (last : List ℕ) (e : Fault) → LongestList field text fields last
      → NextHasFault field fields last e → IsStopInNext IsStopInField fields last (fields_stop dialect text)
  fields_next text [] last e longest next =
      let here = rw (sym longest.separated) at next in
      rw (here, sym longest.separated) (pair_stops a_field_key _ _ text)
  fields_next text (f ∷ fields) last e longest next =
      let first = longest.separated in
      let end : DoesNotRead (after_comma field last) = rw (next.1, next.2) (tt {0}) in
      let parts = most_is field field_longer (length first.0) fields first.0 last first.2 end (omega arith) in
      (next.0, next.1, rw (first.1, parts, next.1, next.2) (pair_stops a_field_key _ _ next.0))

  -- the timestamp comes after these fields, in a part that is the last value if no comma follows, and else the one at the comma
  abbrev Ends : ℕ → (last rest : List ℕ) → Place → Type 0
  Ends fields last rest place =
      (part : LinePart) × (place ≡ end_stop part rest) × (¬ BeginsWith comma last → part ≡ FieldValue fields)
      × IsPartAtComma IsStopInField (fields + 1) last part

  -- if the next field is not fatal, it does
  last_ends : (fields : List (Pair Text (Value Text))) (last : List ℕ)
      → ((place : List ℕ) → last ≡ comma ∷ place → is_fatal (field place) ≡ false)
      → Ends (length fields) last (without_comma dialect fields last) (last_stop dialect fields last)
  last_ends fields last fine =
      elim (comma_cases last) [
        | inl bare ↦ (FieldValue (length fields), rw bare refl, λ no. refl, λ place is. absurd (let never = rw is at bare in cc))
        | inr sign ↦
            let is = (byte_parts comma last comma sign.0 sign.1).1 in (
              (field_stop (length fields + 1) sign.0).0,
              rw (sign.1, fine sign.0 is) refl,
              λ no. absurd (no (rw is refl)),
              λ place at. let same : place ≡ sign.0 = cc (is, at) in rw same (_, pair_stops a_field_key _ _ sign.0),
            )
      ]

  -- After a whole list of fields, reading stops as the row of the answer says.
  fields_end : (text : List ℕ) (fields : List (Pair Text (Value Text))) (last : List ℕ) → WholeList field text fields last
      → Ends (length fields) last (without_comma dialect fields last) (fields_stop dialect text)
  fields_end text [] last whole = absurd (let some = whole.some in omega arith)
  fields_end text (f ∷ fields) last whole =
      let first = whole.longest.separated in
      let end = longest_end field field_longer f fields text last whole.longest in
      let parts = most_is field field_longer (length first.0) fields first.0 last first.2 end (omega arith) in
      rw (first.1, parts) (last_ends (f ∷ fields) last (λ place is. whole_fine field field_longer f fields text last place whole is))

  -- Reading stops as the row of the answer says, in a line whose fields were all read.
  line_ends : {text : List ℕ} {line : Line} {rest : List ℕ} (r : ReadsFields dialect text line rest)
      → Ends (length line.fields) r.after_fields rest (reading_stop dialect text)
  line_ends {line = line} r =
      rw (r.rest_is, series_is r.series_reads, after_gap _ r.after_series r.gap)
      (fields_end (after_spaces r.after_series) line.fields r.after_fields r.fields_read)

  -- each row
  row_stops : (text : List ℕ) {a : Result Line Fault} (row : IsAnswer dialect text a) → IsStopByRow row (reading_stop dialect text)
  row_stops text (fatal_measurement e h) = rw h refl
  row_stops text (no_measurement h) = rw h refl
  row_stops text (fatal_tag m after tags last e named longest next) = rw named (tags_next after tags last e longest next)
  row_stops text (no_tag m after named h) =
      rw (named, none_is tag tag_longer (suc (length after)) (comma ∷ after) (rw h (tt {0}))) (pair_stops a_tag_key _ _ after)
  row_stops text (no_space m tags last series gap) = rw (series_is series) (no_gap series gap)
  row_stops text (fatal_field m tags after fields last e series gap longest next) =
      rw (series_is series, after_gap _ after gap) (fields_next (after_spaces after) fields last e longest next)
  row_stops text (no_field m tags after series gap h) =
      rw (series_is series, after_gap _ after gap, h) (pair_stops a_field_key _ _ (after_spaces after))
  row_stops text (fatal_timestamp line last side number r stamp) =
      let end = line_ends r in end.1 ∙ number_stops end.0 last (timestamp_value_invalid side number) stamp
  row_stops text (left line last b more r stamp) = let end = line_ends r in rw end.1 (rw stamp refl, part_after _ _ last end.0 end.2 end.3)
  row_stops text (all_read line last r stamp) = let end = line_ends r in rw end.1 (rw stamp refl, part_after _ _ last end.0 end.2 end.3)

-- reading stops where the row says
pub stops_are_by_rows : StopsAreByRows
stops_are_by_rows dialect text a row = row_stops dialect text row

-- Only the last row of the table of answers answers a text with a line, and no text is left then.
line_left : {dialect : Dialect} {text : List ℕ} {a : Result Line Fault} (line : Line) (row : IsAnswer dialect text a) → a ≡ Ok line
    → (place : Place) → IsStopByRow row place → place.1 ≡ []
line_left line (all_read l last r stamp) is place h = h.0
line_left line row is place h = absurd (cc)

-- nothing is left of a line that reads
pub lines_are_read_whole : LinesAreReadWhole
lines_are_read_whole dialect text line is =
    let row = (answer_is_by_rows dialect text (Ok line)).0 is in
    line_left line row refl (reading_stop dialect text) (row_stops dialect text row)

-- Reading `m,t=x,u a=1i` stops at its last comma, in the key of its second tag.
a_comma_is_left : reading_stop Crate (codes "m,t=x,u a=1i") ≡ (TagKey 2, codes ",u a=1i")
unfolding tag name without_escapes is_escaped_after escaped first_bare
a_comma_is_left = refl

-- Reading `m a=1i,b=x` stops after the comma of its first field, in the value of its second field.
a_comma_is_taken : reading_stop Crate (codes "m a=1i,b=x") ≡ (FieldValue 2, codes "b=x")
unfolding field name without_escapes is_escaped_after escaped first_bare value integer_at unsigned_at float_at string_at boolean_at
a_comma_is_taken = refl
