-- Tags, fields, timestamps and lines as the builder writes them.
use Rattle.std.proofs.Common.{◌≡◌, ℕ, ◌<◌, ◌≤◌, Bool, true, false, List, [], ◌∷◌, ◌++◌, length, slice_index, refl, sym, ap, subst}
use Rattle.std.proofs.Common.{◌∙◌, arith, append_assoc, append-nil, length-append, Option, Some, None, ◌↔◌, ℤ, IfSome, MatchOption, codes}
use Rattle.std.proofs.Common.{Bor, flat_map, take_all}
use Rattle.std.specs.{Fmt.signed_decimal, List.AllByRecursion, List.list_all}
use Rattle.std.proofs.lemmas.Bool.{and_from, false≢true}
use Rattle.lp_format.specs.format.{comma, equals, space, NameKind, a_measurement, a_tag_key, a_tag_value, is_stop, byte, miss, reads}
use Rattle.lp_format.specs.format.{IsSigned, integer_len, fits_i64, Field, Point, IsAsWritten, IsValue, built_field, built_fields}
use Rattle.lp_format.specs.format.{built_tag, built_timestamp, is_admitted_field, is_admitted_point, is_admitted_tag, spelling}
use Rattle.lp_format.proofs.lemmas.{literals.FloatLemmas.signed_front, read_back.IntegerReadsBack.integer_written}
use Rattle.lp_format.proofs.lemmas.{values.ValueForms.byte_missing}
use Rattle.lp_written.specs.code.AsWritten.{AreItems, no_item, an_item, AreWrittenFields, EndsName, EndsValue, IsFollowed, IsOnlyRest}
use Rattle.lp_written.specs.code.AsWritten.{IsPair, IsWritten, IsWrittenAfterField, IsWrittenAfterName, IsWrittenAfterTags, IsWrittenField}
use Rattle.lp_written.specs.code.AsWritten.{IsWrittenName, IsWrittenTag, IsWrittenTimestamp, is_written_integer, pair_text}
use Rattle.lp_written.proofs.lemmas.parts.WrittenNames.{byte_left, stop_ends}
use Rattle.lp_written.proofs.lemmas.parts.WrittenNumbers.{integer_tells, integer_told}
use Rattle.lp_lines.proofs.lemmas.read_back.LinePieces.{AdmittedField, AdmittedTag, admitted_point, line_parts}

module _ {V : Type 0} (kind : NameKind) (stops : is_stop kind equals ≡ true) (print : V → List ℕ) (Is : V → Type 0) (Ends : List ℕ → Type 0) where
  -- a pair, without the byte before it
  abbrev Pairs : List ℕ → List ℕ → Type 0
  Pairs = IsWritten (pair_text kind print) (IsPair kind Is)

  -- the key of a pair is written before its sign
  key_of : (text rest : List ℕ) (w : Pairs text rest) → IsWrittenName kind text (equals ∷ (print w.thing.value ++ rest))
  key_of text rest w = grind (arith, append_assoc)

  -- the sign after a key ends the key
  sign_ends : (after : List ℕ) → EndsName kind (equals ∷ after)
  sign_ends after = stop_ends kind equals after stops (λ e. omega (arith, e))

  -- no pair is read if no key is
  pub pair_no_key : (text : List ℕ) (o : Option (Bor (List ℕ))) → o ≡ None
      → ((rest : List ℕ) → IsWrittenName kind text rest → EndsName kind rest → ⊥) → IsOnlyRest (Pairs text) Ends o
  pair_no_key text o e none = rw e (λ rest w ends. none _ (key_of text rest w) (sign_ends _))

  -- No pair is read if no equals sign follows the key.
  pub pair_no_sign : (text key_end : List ℕ) (o : Option (Bor (List ℕ))) → o ≡ None
      → ((rest : List ℕ) → IsWrittenName kind text rest → EndsName kind rest → rest ≡ key_end) → byte equals key_end ≡ miss
      → IsOnlyRest (Pairs text) Ends o
  pair_no_sign text key_end o e only missed =
      rw e (λ rest w ends. byte_missing equals key_end missed _ (sym (only _ (key_of text rest w) (sign_ends _))))

  -- The rest after a key, an equals sign and a value is the only rest after a pair.
  pub pair_answer : (text key_end after : List ℕ) (o : Option (Bor (List ℕ)))
      → IsWrittenName kind text key_end × ((rest : List ℕ) → IsWrittenName kind text rest → EndsName kind rest → rest ≡ key_end)
      → byte equals key_end ≡ reads equals after → IsOnlyRest (IsWritten print Is after) Ends o → IsOnlyRest (Pairs text) Ends o
  pair_answer text key_end after o key sign value = go o value
    where
      -- the sign is there
      left : key_end ≡ equals ∷ after
      left = byte_left equals key_end after sign

      -- The value that follows the key and the equals sign is the value of the pair.
      again : (rest : List ℕ) → Pairs text rest → IsWritten print Is after rest
      again rest w =
          let same = key.1 _ (key_of text rest w) (sign_ends _) in record { thing = w.thing.value; is = w.is.1; written = cc (same, left) }

      -- The answer for the pair, by the answer for the value.
      go : (o : Option (Bor (List ℕ))) → IsOnlyRest (IsWritten print Is after) Ends o → IsOnlyRest (Pairs text) Ends o
      go None none = λ rest w ends. none rest (again rest w) ends
      go (Some r) only = (
        record { thing = record { key = key.0.thing; value = only.0.thing }; is = (key.0.is, only.0.is); written = grind (arith, append_assoc) },
        λ rest w ends. only.1 rest (again rest w) ends,
      )

-- The rest after a thing is no longer than the text.
pub written_less : {X : Type 0} (print : X → List ℕ) (Is : X → Type 0) (text rest : List ℕ) → IsWritten print Is text rest
    → length rest ≤ length text
written_less print is text rest w = omega (arith, ap length w.written, length-append (print w.thing) rest)

-- if the only rest of the front is known, the whole is of its form if the rest is
followed_step : (Front : List ℕ → List ℕ → Type 0) (After Ends : List ℕ → Type 0) → ((text : List ℕ) → After text → Ends text)
    → (Whole : Type 0) (text : List ℕ) → Whole ↔ IsFollowed Front After text → (o : Option (Bor (List ℕ))) → IsOnlyRest (Front text) Ends o
    → MatchOption o (Whole → ⊥) (λ r. After r.now ↔ Whole)
followed_step front after e ends whole text parts None none = λ w. let f = parts.0 w in none f.rest f.front (ends f.rest f.after)
followed_step front after e ends whole text parts (Some r) only = (
  λ a. parts.1 (record { rest = r.now; front = only.0; after = a }),
  λ w. let f = parts.0 w in subst after (only.1 f.rest f.front (ends f.rest f.after)) f.after,
)

-- The text after items ends an item, as a comma does, and begins with no comma.
record ItemsEnd (After Ends : List ℕ → Type 0) : Type 0 where
  comma_ends : (after : List ℕ) → Ends (comma ∷ after)
  after_ends : (text : List ℕ) → After text → Ends text
  no_comma : (after : List ℕ) → After (comma ∷ after) → ⊥

-- The answers of a reader of items: after an item, the answer for the rest is the answer for the whole; if no item follows a comma, there
-- is no answer; and without a comma, the answer is the answer for the text after the items.
pub record ItemSteps (Item : List ℕ → List ℕ → Type 0) (After Ends : List ℕ → Type 0) : Type 0 where
  pub kept : (whole left text : List ℕ) (r : Bor (List ℕ)) → AreItems Item After left ↔ AreItems Item After whole
      → byte comma left ≡ reads comma text → Item text r.now × ((rest : List ℕ) → Item text rest → Ends rest → rest ≡ r.now)
      → AreItems Item After r.now ↔ AreItems Item After whole
  pub none : (whole left text : List ℕ) → AreItems Item After left ↔ AreItems Item After whole
      → byte comma left ≡ reads comma text → ((rest : List ℕ) → Item text rest → Ends rest → ⊥) → (false ≡ true) ↔ AreItems Item After whole
  pub last : (left : List ℕ) → byte comma left ≡ miss → After left ↔ AreItems Item After left

module _ (Item : List ℕ → List ℕ → Type 0) {After Ends : List ℕ → Type 0} (end : ItemsEnd After Ends) where
  -- items end the item before them
  items_end : (text : List ℕ) → AreItems Item After text → Ends text
  items_end text more = grind (arith, end.comma_ends, end.after_ends)

  -- After a comma, an item and then more items follow.
  after_comma : (left text : List ℕ) → left ≡ comma ∷ text → AreItems Item After left → IsFollowed Item (AreItems Item After) text
  after_comma left text e more = grind (arith, end.no_comma)

  -- a step of a reader of items: after a comma
  items_step : (left text : List ℕ) (o : Option (Bor (List ℕ))) → byte comma left ≡ reads comma text → IsOnlyRest (Item text) Ends o
      → MatchOption o (AreItems Item After left → ⊥) (λ r. AreItems Item After r.now ↔ AreItems Item After left)
  items_step left text o read =
      let e = byte_left comma left text read in
      followed_step Item (AreItems Item After) Ends items_end (AreItems Item After left) text
      (after_comma left text e, λ f. an_item text f.rest e f.front f.after) o

  -- A reader of items keeps its answer from step to step.
  items_read : ItemSteps Item After Ends
  items_read = record {
    kept = λ whole left text r same read only.
        let step = items_step left text (Some r) read only in (λ w. same.0 (step.0 w), λ w. step.1 (same.1 w));
    none = λ whole left text same read none. (λ h. absurd (false≢true h), λ w. absurd (items_step left text None read none (same.1 w)));
    last = λ left missed. (λ w. no_item w, λ more. grind (arith, byte_missing));
  }

-- a timestamp comes after fields
fields_end : ItemsEnd IsWrittenTimestamp EndsValue
fields_end = record { comma_ends = λ after. refl; after_ends = λ text w. grind (arith); no_comma = λ after w. grind (arith) }

-- the steps of a reader of the fields after the first
pub later_fields : ItemSteps IsWrittenField IsWrittenTimestamp EndsValue
later_fields = items_read IsWrittenField fields_end

-- A text is written fields exactly if it begins with a written field and its rest is written after a field.
pub first_step : (text : List ℕ) (o : Option (Bor (List ℕ))) → IsOnlyRest (IsWrittenField text) EndsValue o
    → MatchOption o (AreWrittenFields text → ⊥) (λ r. IsWrittenAfterField r.now ↔ AreWrittenFields text)
first_step text = followed_step IsWrittenField IsWrittenAfterField EndsValue (items_end IsWrittenField fields_end)
    (AreWrittenFields text) text (λ w. w, λ w. w)

-- the space before the fields comes after a name, or after tags
gap_end : (kind : NameKind) → is_stop kind comma ≡ true → is_stop kind space ≡ true → ItemsEnd IsWrittenAfterTags (EndsName kind)
gap_end kind at_comma at_space = record {
  comma_ends = λ after. stop_ends kind comma after at_comma (λ e. omega (arith, e));
  after_ends = λ text w. subst (EndsName kind) (sym w.front) (stop_ends kind space w.rest at_space (λ e. omega (arith, e)));
  no_comma = λ after w. omega (arith, ap (λ (xs : List ℕ). slice_index xs 0) w.front);
}

-- the steps of a reader of tags
pub all_tags : ItemSteps IsWrittenTag IsWrittenAfterTags (EndsName a_tag_value)
all_tags = items_read IsWrittenTag (gap_end a_tag_value refl refl)

-- if neither a comma nor a space is, nothing is after a name
pub no_gap : (text : List ℕ) → byte comma text ≡ miss → byte space text ≡ miss → IsWrittenAfterName text → ⊥
no_gap text no_comma no_space w = let g = (all_tags.last text no_comma).1 w in byte_missing space text no_space g.rest g.front

-- After a space, the fields follow.
pub fields_after : (text fields : List ℕ) → byte comma text ≡ miss → byte space text ≡ reads space fields
    → AreWrittenFields fields ↔ IsWrittenAfterName text
fields_after text fields no_comma read =
    let left = byte_left space text fields read in
    let gap = all_tags.last text no_comma in
    (λ w. gap.0 (record { rest = fields; front = left; after = w }), λ w. let f = gap.1 w in subst AreWrittenFields (cc (f.front, left)) f.after)

-- a timestamp after its space
timestamp_number : (number : List ℕ) → IsWrittenTimestamp (space ∷ number) → (z : ℤ) × (fits_i64 z ≡ true) × (signed_decimal z ≡ number)
timestamp_number number w = grind (arith)

-- A number that takes the whole text has a sign or none, and digits.
pub whole_number : (number : List ℕ) → 0 < integer_len number → length number ≤ integer_len number → IsSigned (codes "-") number
whole_number number some whole =
    subst (IsSigned (codes "-")) (take_all (integer_len number) number whole) (signed_front (codes "-") number some)

-- a space and a number are a timestamp if that is an integer to its end, which the builder writes so
pub timestamp_tells : (text number : List ℕ) → byte space text ≡ reads space number → IsWrittenTimestamp text
    ↔ ((0 < integer_len number) × (integer_len number ≡ length number) × (is_written_integer number ≡ true))
timestamp_tells text number read =
    rw (byte_left space text number read) (
      (λ w.
          let t = timestamp_number number w in
          let written = integer_written t.0 t.1 in
          let len : integer_len (signed_decimal t.0) ≡ length (signed_decimal t.0) = rw append-nil at (written.len [] refl) in
          rw (← t.2) (omega (arith, len, written.some), len, integer_tells t.0 t.1)),
      (λ h.
          let t = integer_told number (whole_number number h.0 (omega arith)) h.2 in
          (Some t.0, t.1, ap (λ (xs : List ℕ). space ∷ xs) t.2)),
    )

module _ {X : Type 0} (print : X → List ℕ) (Is : X → Type 0) (After : List ℕ → Type 0) where
  -- The texts of these things, each after a comma.
  abbrev texts : List X → List ℕ
  texts xs = flat_map (λ x. comma ∷ print x) xs

  -- are items
  items_of : (xs : List X) (rest : List ℕ) → AllByRecursion Is xs → After rest → AreItems (IsWritten print Is) After (texts xs ++ rest)
  items_of [] rest all after = no_item after
  items_of (x ∷ xs) rest all after = an_item _ (texts xs ++ rest) (append_assoc (comma ∷ print x) (texts xs) rest)
      (record { thing = x; is = all.0; written = refl }) (items_of xs rest all.1 after)

  -- Items that are written after commas are the written text of a list of things.
  listed : (text : List ℕ) → AreItems (IsWritten print Is) After text → IsFollowed (IsWritten texts (AllByRecursion Is)) After text
  listed text (no_item after) = record { rest = text; front = record { thing = []; is = tt; written = refl }; after = after }
  listed text (an_item after rest e item more) =
      let m = listed rest more in
      record {
        rest = m.rest;
        front = record {
          thing = item.thing ∷ m.front.thing;
          is = (item.is, m.front.is);
          written = append_assoc (comma ∷ print item.thing) (texts m.front.thing) m.rest ∙ rw (m.front.written, item.written) (sym e);
        };
        after = m.after;
      }

-- the fields after the first, each after a comma
commas : (fs : List Field) → built_fields comma fs ≡ flat_map (λ f. comma ∷ built_field f) fs
commas [] = refl
commas (f ∷ fs) = ap (λ (xs : List ℕ). comma ∷ (built_field f ++ xs)) (commas fs)

-- the fields of a point and its timestamp come after its tags
after_tags : (fs : List Field) (t : Option ℤ) → 0 < length fs → AllByRecursion AdmittedField fs → IfSome t (λ z. fits_i64 z ≡ true)
    → IsWrittenAfterTags (built_fields space fs ++ built_timestamp t)
after_tags [] t some all fits = absurd (omega (arith, some))
after_tags (f ∷ fs) t some all fits = record {
  rest = built_field f ++ (built_fields comma fs ++ built_timestamp t);
  front = append_assoc (space ∷ built_field f) (built_fields comma fs) (built_timestamp t);
  after = record {
    rest = built_fields comma fs ++ built_timestamp t;
    front = record { thing = f; is = all.0; written = refl };
    after = rw (commas fs) (items_of built_field AdmittedField IsWrittenTimestamp fs (built_timestamp t) all.1 (t, fits, refl));
  };
}

-- If each thing of a list passes a test, the list passes the test of all its things.
all_pass : {X : Type 0} (test : X → Bool) (P : X → Type 0) → ((x : X) → P x → test x ≡ true) → (xs : List X) → AllByRecursion P xs
    → list_all test xs ≡ true
all_pass test P each [] all = refl
all_pass test P each (x ∷ xs) all = rw (each x all.0, all_pass test P each xs all.1) refl

-- the values of admitted fields
field_values : (fs : List Field) → AllByRecursion AdmittedField fs → AllByRecursion (λ f. IsValue f.value) fs
field_values [] all = tt
field_values (f ∷ fs) all = (all.0.1, field_values fs all.1)

-- A line is as written exactly if it is a written measurement and a rest that is written after a measurement.
line_is : (line : List ℕ) → IsAsWritten line ↔ IsFollowed (IsWrittenName a_measurement) IsWrittenAfterName line
unfolding is_admitted_point
line_is line = (there, back)
  where
    -- the parts of the line of a point
    there : IsAsWritten line → IsFollowed (IsWrittenName a_measurement) IsWrittenAfterName line
    there w =
        let p = w.point in
        let ok = admitted_point p w.is_point w.admitted in
        let after = built_fields space p.fields ++ built_timestamp p.timestamp in
        record {
          rest = flat_map built_tag p.tags ++ after;
          front = record { thing = p.measurement; is = ok.measurement; written = sym (line_parts p) ∙ w.written };
          after = items_of (pair_text a_tag_key (spelling a_tag_value)) AdmittedTag IsWrittenAfterTags p.tags after ok.tags
              (after_tags p.fields p.timestamp ok.some_field ok.fields ok.timestamp);
        }

    -- A text with a measurement and the parts after it is the text of the point that has these parts.
    back : IsFollowed (IsWrittenName a_measurement) IsWrittenAfterName line → IsAsWritten line
    back w =
        let named = listed (pair_text a_tag_key (spelling a_tag_value)) AdmittedTag IsWrittenAfterTags w.rest w.after in
        let tags = named.front in
        let gap = named.after in
        let f = gap.after.front in
        let more = listed built_field AdmittedField IsWrittenTimestamp gap.after.rest gap.after.after in
        let fs = more.front in
        let t = more.after in
        let p : Point = record { measurement = w.front.thing; tags = tags.thing; fields = f.thing ∷ fs.thing; timestamp = t.0 } in
        let tagged = all_pass is_admitted_tag AdmittedTag (λ t ok. and_from _ _ ok.0 ok.1) tags.thing tags.is in
        let fielded = all_pass is_admitted_field AdmittedField (λ f ok. ok.0) fs.thing fs.is in
        let fields : built_fields space p.fields ++ built_timestamp p.timestamp ≡ named.rest =
        append_assoc (space ∷ built_field f.thing) (built_fields comma fs.thing) (built_timestamp t.0)
        ∙ rw (commas fs.thing, t.2, fs.written, f.written) (sym gap.front) in
        record {
          point = p;
          is_point = record { some_field = omega arith; values = (f.is.1, field_values fs.thing fs.is); timestamp = t.1 };
          admitted = and_from _ _ (and_from _ _ w.front.is tagged) (and_from _ _ f.is.0 fielded);
          written = line_parts p ∙ rw (fields, tags.written) w.front.written;
        }

-- a line that is as written begins with a measurement
pub line_step : (line : List ℕ) (o : Option (Bor (List ℕ))) → IsOnlyRest (IsWrittenName a_measurement line) (EndsName a_measurement) o
    → MatchOption o (IsAsWritten line → ⊥) (λ r. IsWrittenAfterName r.now ↔ IsAsWritten line)
line_step line = followed_step (IsWrittenName a_measurement) IsWrittenAfterName (EndsName a_measurement)
    (items_end IsWrittenTag (gap_end a_measurement refl refl))
    (IsAsWritten line) line (line_is line)

-- the steps of a reader of tags
pub ruleset tag_steps = (written_less, no_gap, fields_after, all_tags)

-- the steps of a reader of a pair
pub ruleset pair_steps = (pair_no_key, pair_no_sign, pair_answer)

-- the steps of a reader of a timestamp
pub ruleset stamp_steps = (whole_number, timestamp_tells)

-- the steps of a reader of fields
pub ruleset field_steps = (written_less, later_fields)
