-- The text that is left where reading a line stops is an end of the line.
use Rattle.std.proofs.Common.{◌≡◌, ◌⊎◌, ◌==◌, ℕ, zero, suc, List, [], ◌∷◌, drop, length, refl, arith, Bool, true, false, cond, ℤ, Option, Result, Ok, Err, inl, inr}
use Rattle.std.proofs.lemmas.Bool.{cases_Bool}
use Rattle.lp_format.specs.format.{comma, equals, space, Dialect, Fault, NameKind, Pair, Read, Reading, Text, Value, a_field_key, a_measurement, a_tag_key}
use Rattle.lp_format.specs.format.{after_comma, byte, fatal, field, miss, name, reads, spaces, tag, timestamp, without_comma}
use Rattle.lp_format.specs.format.{Crate, Strict, NewlineDelimited, integer_len}
use Rattle.lp_format.specs.laws.MeaningsOfAnswers.{after_spaces}
use Rattle.lp_values.proofs.lemmas.fields.ReadingLemmas.{EndsIn, EndsIn-drop, EndsIn-end, EndsIn-self, after_comma_ends, byte_ends, name_ends, tag_ends}
use Rattle.lp_events.specs.code.Stops.{Place, after, after_time, and_more, fields_stop, is_fatal, last_stop, most, pair_stop, reading_stop, series_stop}
use Rattle.lp_events.specs.declared.stops.LinePart.{LinePart}
use Rattle.lp_portable.proofs.FieldEnds.{field_ends}
use Rattle.influxdb_line_protocol.specs.laws.StopLaws.{StopsAreInText}
use Rattle.influxdb_line_protocol.proofs.lemmas.laws.StopRows.{lines_are_read_whole, stops_are_by_rows}

-- If a part reads, an end is left after it, and else here: then an end is left in each case.
after_ends : {A : Type 0} (text : List ℕ) (r : Reading A) (here : Place) (next : Read A → Place) → EndsIn text here.1
    → ((x : A) (rest : List ℕ) → r ≡ reads x rest → EndsIn text (next (record { value = x; rest = rest })).1)
    → EndsIn text (after r here next).1
after_ends text miss here next h k = h
after_ends text (fatal e) here next h k = h
after_ends text (reads x rest) here next h k = k x rest refl

-- An end is left in either of two places, so it is left in the one that a test chooses.
cond_ends : (test : Bool) (text : List ℕ) (a b : Place) → EndsIn text a.1 → EndsIn text b.1 → EndsIn text (cond test a b).1
cond_ends true text a b h k = h
cond_ends false text a b h k = k

-- where a pair stops
pair_ends : (kind : NameKind) (key value : LinePart) (text : List ℕ) → EndsIn text (pair_stop kind key value text).1
pair_ends kind key value text =
    after_ends text (name kind text) _ _ (EndsIn-self text) (λ k sign e.
    let named = name_ends kind text k sign e in
    after_ends text (byte equals sign) _ _ named (λ b last at. EndsIn-end text sign last named (byte_ends equals sign b last at)))

module _ {A : Type 0} (one : List ℕ → Reading A) (ends : (text : List ℕ) (x : A) (rest : List ℕ) → one text ≡ reads x rest → EndsIn text rest) where
  -- After the longest list of parts, an end of the text is left.
  most_ends : (n : ℕ) (text : List ℕ) → EndsIn text (most one n text).rest
  most_ends zero text = EndsIn-self text
  most_ends (suc n) text = by_first (λ rest. most_ends n rest) (one text) refl
    where
      -- After the first part and the longest list of parts that follow, an end of the text is left, by what the first part is read as.
      by_first : ((rest : List ℕ) → EndsIn rest (most one n rest).rest) → (r : Reading A) → one text ≡ r
          → EndsIn text (and_more r text (λ rest. most one n rest)).rest
      by_first others miss e = EndsIn-self text
      by_first others (fatal f) e = EndsIn-self text
      by_first others (reads x rest) e = EndsIn-end text rest _ (ends text x rest e) (others rest)

-- After spaces, an end of the text is left.
spaces_end : (text : List ℕ) → EndsIn text (after_spaces text)
spaces_end text = EndsIn-drop (spaces text) text (after_spaces text) refl

-- After a comma that may be taken, an end of the text is left.
taken_end : (dialect : Dialect) (fields : List (Pair Text (Value Text))) (last : List ℕ) → EndsIn last (without_comma dialect fields last)
taken_end Strict fields last = EndsIn-self last
taken_end NewlineDelimited fields last = EndsIn-self last
taken_end Crate [] last = EndsIn-self last
taken_end Crate (f ∷ g ∷ fields) last = EndsIn-self last
taken_end Crate (f ∷ []) [] = EndsIn-self []
taken_end Crate (f ∷ []) (b ∷ last) = elim (cases_Bool (b == comma)) [
  | inl sign ↦ rw sign (EndsIn-drop 1 (b ∷ last) last refl)
  | inr other ↦ rw other (EndsIn-self (b ∷ last))
]

-- After a timestamp is read, the text that is left is the text itself or the text after spaces and an integer.
time_rest : (text : List ℕ) (t : Option ℤ) (rest : List ℕ) → timestamp text ≡ Ok (record { value = t; rest = rest })
    → (rest ≡ text) ⊎ (rest ≡ after_spaces (drop (integer_len (after_spaces text)) (after_spaces text)))
time_rest text t rest e = grind (arith, cases_Bool)

-- After a timestamp is read, an end of the text is left.
time_end : (text : List ℕ) (t : Option ℤ) (rest : List ℕ) → timestamp text ≡ Ok (record { value = t; rest = rest }) → EndsIn text rest
time_end text t rest e = elim (time_rest text t rest e) [
  | inl same ↦ rw same (EndsIn-self text)
  | inr is ↦
      let number = after_spaces text in
      let last = drop (integer_len number) number in
      rw is
      (EndsIn-end text number (after_spaces last) (spaces_end text)
      (EndsIn-end number last (after_spaces last) (EndsIn-drop (integer_len number) number last refl) (spaces_end last)))
]

-- where reading stops after the fields, also if the timestamp is at fault
stamp_ends : (text : List ℕ) → EndsIn text (after_time text)
stamp_ends text = by_stamp (timestamp text) refl
  where
    -- After a timestamp, an end of the text is left, by what the timestamp is read as.
    by_stamp : (r : Result (Read (Option ℤ)) Fault) → timestamp text ≡ r → EndsIn text (after_time text)
    by_stamp (Ok time) e = rw e (time_end text time.value time.rest e)
    by_stamp (Err f) e = rw e (spaces_end text)

module _ (dialect : Dialect) where
  -- where it stops after these fields
  last_ends : (fields : List (Pair Text (Value Text))) (rest : List ℕ) → EndsIn rest (last_stop dialect fields rest).1
  last_ends fields rest =
      let left = without_comma dialect fields rest in
      let end = EndsIn-end rest left (after_time left) (taken_end dialect fields rest) (stamp_ends left) in
      after_ends rest (byte comma rest) _ _ end (λ b place at.
      cond_ends (is_fatal (field place)) rest _ _ (EndsIn-end rest place _ (byte_ends comma rest b place at) (pair_ends a_field_key _ _ place)) end)

  -- where it stops from the fields on
  fields_end : (text : List ℕ) → EndsIn text (fields_stop dialect text).1
  fields_end text =
      after_ends text (field text) _ _ (pair_ends a_field_key _ _ text) (λ first rest e.
      let others = most (after_comma field) (length rest) rest in
      EndsIn-end text rest _ (field_ends text first rest e)
      (EndsIn-end rest others.rest _ (most_ends (after_comma field) (after_comma_ends field field_ends) (length rest) rest)
      (last_ends (first ∷ others.value) others.rest)))

  -- where it stops after the measurement and the tags
  series_end : (tags : Read (List (Pair Text Text))) → EndsIn tags.rest (series_stop dialect tags).1
  series_end tags =
      let rest = tags.rest in
      after_ends rest (byte comma rest) _ _
      (after_ends rest (byte space rest) _ _ (EndsIn-self rest) (λ b gap at.
      EndsIn-end rest (after_spaces rest) _ (spaces_end rest) (fields_end (after_spaces rest))))
      (λ b place at.
      cond_ends _ rest _ _ (EndsIn-end rest place _ (byte_ends comma rest b place at) (pair_ends a_tag_key _ _ place)) (EndsIn-self rest))

-- The text that is left where reading stops is an end of the text.
pub stops_are_in_text : StopsAreInText
stops_are_in_text dialect text =
    let end : EndsIn text (reading_stop dialect text).1 =
    after_ends text (name a_measurement text) _ _ (EndsIn-self text) (λ m start e.
    let tags = most (after_comma tag) (length start) start in
    EndsIn-end text start _ (name_ends a_measurement text m start e)
    (EndsIn-end start tags.rest _ (most_ends (after_comma tag) (after_comma_ends tag tag_ends) (length start) start) (series_end dialect tags))) in
    (end.front, end.is)

-- The laws about the text that is left where reading stops.
pub ruleset stop_laws = (stops_are_by_rows, stops_are_in_text, lines_are_read_whole)
