-- Each text is answered by exactly one row of the table.
use Rattle.std.proofs.Common.{◌≡◌, ◌⊎◌, ℕ, ◌==◌, List, [], ◌∷◌, ◌++◌, refl, sym, ap, ◌∙◌, subst, inl, inr, Option, Some, None, Ok, Err}
use Rattle.std.proofs.Common.{Result, arith, ℤ, eqb-true, eq-eqb}
use Rattle.std.proofs.lemmas.Bool.{cases_Bool, both_ways}
use Rattle.lp_format.specs.format.{Dialect, comma, space, Side, Fault, measurement_value_invalid, field_set_missing, ends_with_backslash}
use Rattle.lp_format.specs.format.{tag_set_malformed, take_while1, timestamp_value_invalid, cannot_parse_entire_line, Text, Read, Reading}
use Rattle.lp_format.specs.format.{miss, fatal, reads, NameKind, a_measurement, name, Value, Pair, Line, byte, tag, field}
use Rattle.lp_format.specs.format.{separated_list, tag_set, without_comma, timestamp, answer}
use Rattle.lp_format.specs.laws.Meanings.{WholeList}
use Rattle.lp_format.specs.laws.MeaningsOfAnswers.{BeginsWith, after_spaces, ReadsSeries, ReadsSeries.alone, ReadsSeries.tagged}
use Rattle.lp_format.specs.laws.MeaningsOfAnswers.{ReadsFields, IsAnswer, IsAnswer.fatal_measurement, IsAnswer.no_measurement}
use Rattle.lp_format.specs.laws.MeaningsOfAnswers.{IsAnswer.fatal_tag, IsAnswer.no_tag, IsAnswer.no_space, IsAnswer.fatal_field}
use Rattle.lp_format.specs.laws.MeaningsOfAnswers.{IsAnswer.no_field, IsAnswer.fatal_timestamp, IsAnswer.left, IsAnswer.all_read}
use Rattle.lp_format.specs.laws.MeaningsOfAnswers.{AnswerIsByRows}
use Rattle.lp_format.proofs.lemmas.meanings.JoinedMeaning.{the_most_is_read, the_next_has_the_fault, the_first_misses}
use Rattle.lp_format.proofs.lemmas.meanings.ShorterRests.{tag_no_longer, field_no_longer}
use Rattle.lp_events.proofs.lemmas.fields.ManyLemmas.{tag_set_ends}
use Rattle.lp_lines.proofs.lemmas.read_back.LineReadsBack.{front_is}
use Rattle.lp_values.proofs.lemmas.fields.ReadingLemmas.{EndsIn, EndsIn-end, name_ends}

-- a reading is fatal only if a name ends in a backslash
abbrev FailsByBackslash : {A : Type 0} → Reading A → Type 0
FailsByBackslash r = (e : Fault) → r ≡ fatal e → e ≡ ends_with_backslash

-- a name is fatal only if it ends in a backslash
name_fault : (kind : NameKind) (text : List ℕ) → FailsByBackslash (name kind text)
unfolding name
name_fault kind text e h = grind (arith, cases_Bool)

-- a tag is fatal only if a name of it ends in a backslash
tag_fault : (text : List ℕ) → FailsByBackslash (tag text)
unfolding tag
tag_fault text = grind (arith, cases_Bool, name_fault)

-- a timestamp is at fault only if it is out of range
stamp_fault : (text : List ℕ) (e : Fault) → timestamp text ≡ Err e → (side : Side) × (number : List ℕ)
    × (e ≡ timestamp_value_invalid side number)
stamp_fault text e h = grind (arith, cases_Bool)

-- a whole list of tags is the reading of tags that are joined by commas
tags_read : (text : List ℕ) (tags : List (Pair Text Text)) (rest : List ℕ) → WholeList tag text tags rest
    → separated_list tag text ≡ reads tags rest
tags_read text tags rest h = (the_most_is_read tag (λ t. (tag_no_longer t).holds) text tags rest).1 h

-- a whole list of fields is the reading of fields that are joined by commas
pub fields_read : (text : List ℕ) (fields : List (Pair Text (Value Text))) (rest : List ℕ) → WholeList field text fields rest
    → separated_list field text ≡ reads fields rest
fields_read text fields rest h = (the_most_is_read field (λ t. (field_no_longer t).holds) text fields rest).1 h

-- a byte misses in a text that does not begin with it
no_byte : (b : ℕ) (text : List ℕ) → ¬ BeginsWith b text → byte b text ≡ miss
no_byte b rest h = grind (arith, cases_Bool, eqb-true)

-- a series that is read: the reading of its measurement and of its tag set
pub record Series (text : List ℕ) (m : Text) (tags : Option (List (Pair Text Text))) (rest : List ℕ) : Type 0 where
  pub after : List ℕ
  pub named : name a_measurement text ≡ reads m after
  pub set : tag_set after ≡ Ok (record { value = tags; rest = rest })

-- each series of a row is read as `Series` says
pub series_parts : {text : List ℕ} {m : Text} {tags : Option (List (Pair Text Text))} {rest : List ℕ} → ReadsSeries text m tags rest
    → Series text m tags rest
series_parts h = grind (arith, no_byte, tags_read)

-- a text that begins with a space has a rest after this space
space_here : (text : List ℕ) → BeginsWith space text → (after : List ℕ) × (byte space text ≡ reads space after)
space_here [] h = absurd h
space_here (c ∷ rest) h = let e = eq-eqb c space h in (rest, rw e refl)

-- a text begins with this byte or does not
begins : (b : ℕ) (text : List ℕ) → ((rest : List ℕ) × (text ≡ b ∷ rest)) ⊎ ¬ BeginsWith b text
begins b [] = inr (λ s. s)
begins b (c ∷ rest) = elim (cases_Bool (c == b)) [
  | inl here ↦ inl (rest, ap (λ (x : ℕ). x ∷ rest) (eqb-true c b here))
  | inr other ↦ inr (λ s. both_ways (c == b) other (eq-eqb c b s))
]

module _ (dialect : Dialect) (text : List ℕ) where
  -- each row gives the answer that it has, by the readings of its parts
  row_answers : {a : Result Line Fault} → IsAnswer dialect text a → answer dialect text ≡ a
  unfolding answer
  row_answers (fatal_measurement e h) = grind (arith, name_fault)
  row_answers (no_measurement h) = rw h refl
  row_answers (fatal_tag m after tags rest e named most next) =
      let fault = (the_next_has_the_fault tag (λ t. (tag_no_longer t).holds) after e).1 (tags, rest, most, next) in
      grind (arith, tag_fault)
  row_answers (no_tag m after named h) = rw (named, h) refl
  row_answers (no_space m tags rest series gap) = let s = series_parts series in rw (s.named, s.set, no_byte space rest gap) refl
  row_answers (fatal_field m tags after fields rest e series gap most next) =
      let s = series_parts series in
      let fault = (the_next_has_the_fault field (λ t. (field_no_longer t).holds) (after_spaces after) e).1 (fields, rest, most, next) in
      rw (s.named, s.set, (space_here after gap).1, fault) refl
  row_answers (no_field m tags after series gap h) =
      let s = series_parts series in
      rw (s.named, s.set, (space_here after gap).1, h) refl
  row_answers (fatal_timestamp line rest side number r stamp) =
      let s = series_parts r.series_reads in
      let fields = fields_read (after_spaces r.after_series) line.fields r.after_fields r.fields_read in
      rw (s.named, s.set, (space_here r.after_series r.gap).1, fields, ap timestamp (sym r.rest_is) ∙ stamp) refl
  row_answers (left line rest b more r stamp) =
      let s = series_parts r.series_reads in
      let fields = fields_read (after_spaces r.after_series) line.fields r.after_fields r.fields_read in
      rw (s.named, s.set, (space_here r.after_series r.gap).1, fields, ap timestamp (sym r.rest_is) ∙ stamp) refl
  row_answers (all_read line rest r stamp) =
      let s = series_parts r.series_reads in
      let g = space_here r.after_series r.gap in
      let fields = fields_read (after_spaces r.after_series) line.fields r.after_fields r.fields_read in
      rw (s.named, s.set, g.1, fields, ap timestamp (sym r.rest_is) ∙ stamp, front_is text line.series r.after_series r.series_is) refl

  -- some row of the table holds
  abbrev SomeRow : Type 0
  SomeRow = (a : Result Line Fault) × IsAnswer dialect text a

  -- some row holds after all fields are read
  by_stamp : (series : List ℕ) (m : Text) (tags : Option (List (Pair Text Text))) (fields : List (Pair Text (Value Text))) (rest : List ℕ)
      → (let line : Option ℤ → Line = λ t. record { series = series; measurement = m; tags = tags; fields = fields; timestamp = t } in
      ((t : Option ℤ) → ReadsFields dialect text (line t) rest) → (r : Result (Read (Option ℤ)) Fault) → timestamp rest ≡ r → SomeRow)
  by_stamp series m tags fields rest h (Err e) stamp =
      let f = stamp_fault rest e stamp in
      (Err (timestamp_value_invalid f.0 f.1), fatal_timestamp _ rest f.0 f.1 (h None) (stamp ∙ ap Err f.2))
  by_stamp series m tags fields rest h (Ok r) stamp = whole r.value r.rest stamp
    where
      -- a row of the table holds of a line with all its parts
      whole : (t : Option ℤ) (last : List ℕ) → timestamp rest ≡ Ok (record { value = t; rest = last }) → SomeRow
      whole t [] e = (Ok _, all_read _ rest (h t) e)
      whole t (b ∷ more) e = (Err (cannot_parse_entire_line (b ∷ more)), left _ rest b more (h t) e)

  -- some row holds after a series is read and a space follows it
  by_fields : (series : List ℕ) (m : Text) (tags : Option (List (Pair Text Text))) (after : List ℕ) → text ≡ series ++ after
      → ReadsSeries text m tags after → BeginsWith space after
      → (r : Reading (List (Pair Text (Value Text)))) → separated_list field (after_spaces after) ≡ r → SomeRow
  by_fields series m tags after is h gap miss e = (
    Err field_set_missing,
    no_field m tags after h gap ((the_first_misses field (λ t. (field_no_longer t).holds) (after_spaces after)).0 e),
  )
  by_fields series m tags after is h gap (fatal d) e =
      let f = (the_next_has_the_fault field (λ t. (field_no_longer t).holds) (after_spaces after) d).0 e in
      (Err d, fatal_field m tags after f.0 f.1 d h gap f.2 f.3)
  by_fields series m tags after is h gap (reads fields last) e =
      let rest = without_comma dialect fields last in
      let read = (the_most_is_read field (λ t. (field_no_longer t).holds) (after_spaces after) fields last).0 e in
      by_stamp series m tags fields rest (λ t. grind arith) (timestamp rest) refl

  -- some row holds after a series is read
  by_series : (m : Text) (tags : Option (List (Pair Text Text))) (after : List ℕ) → ReadsSeries text m tags after → SomeRow
  by_series m tags after h = elim (begins space after) [
    | inl here ↦
        let parts = series_parts h in
        let ends : EndsIn text after = EndsIn-end text parts.after after (name_ends a_measurement text m parts.after parts.named)
        (tag_set_ends parts.after (record { value = tags; rest = after }) parts.set) in
        by_fields ends.front m tags after ends.is h (subst (BeginsWith space) (sym here.1) refl)
        (separated_list field (after_spaces after)) refl
    | inr none ↦ (Err take_while1, no_space m tags after h none)
  ]

  -- some row holds after a measurement and a comma are read
  by_tags : (m : Text) (after : List ℕ) → name a_measurement text ≡ reads m (comma ∷ after) → (r : Reading (List (Pair Text Text)))
      → separated_list tag after ≡ r → SomeRow
  by_tags m after named miss e =
      (Err tag_set_malformed, no_tag m after named ((the_first_misses tag (λ t. (tag_no_longer t).holds) after).0 e))
  by_tags m after named (fatal d) e =
      let f = (the_next_has_the_fault tag (λ t. (tag_no_longer t).holds) after d).0 e in
      (Err ends_with_backslash, fatal_tag m after f.0 f.1 d named f.2 f.3)
  by_tags m after named (reads tags rest) e = by_series m (Some tags) rest
      (tagged m tags after rest named ((the_most_is_read tag (λ t. (tag_no_longer t).holds) after tags rest).0 e))

  -- some row holds after a measurement is read
  by_comma : (m : Text) (suffix : List ℕ) → name a_measurement text ≡ reads m suffix → SomeRow
  by_comma m suffix named = elim (begins comma suffix) [
    | inl here ↦ by_tags m here.0 (named ∙ ap (reads m) here.1) (separated_list tag here.0) refl
    | inr none ↦ by_series m None suffix (alone m suffix named none)
  ]

  -- some row holds, by the reading of the measurement
  by_name : (r : Reading Text) → name a_measurement text ≡ r → SomeRow
  by_name miss e = (Err measurement_value_invalid, no_measurement e)
  by_name (fatal d) e = (Err ends_with_backslash, fatal_measurement d e)
  by_name (reads m suffix) e = by_comma m suffix e

-- the answer of each text is the answer of a row
pub answer_is_by_rows : AnswerIsByRows
answer_is_by_rows dialect text a =
    let some = by_name dialect text (name a_measurement text) refl in (
      (λ e. subst (IsAnswer dialect text) (sym (row_answers dialect text some.1) ∙ e) some.1),
      row_answers dialect text,
    )
