-- A text breaks one set of clauses, and the first of them is unique.
use Rattle.std.proofs.Common.{◌≡◌, ℕ, List, [], ◌∷◌, length, drop, Option, None, Some, true, false, ◌&&◌, Bool, not, inl, inr, ◌<◌, get_or, refl, sym, ◌∙◌, ap, subst, arith, IsTrue, ◌↔◌}
use Rattle.std.proofs.lemmas.{Bool.cases_Bool, Bool.false≢true, List.Folds.list_all_at}
use Rattle.std.specs.{List.list_all, Option.is_some}
use Rattle.lp_format.specs.format.{Line, Reading, spaces, trimmed}
use Rattle.lp_values.proofs.lemmas.fields.ReadingLemmas.{reads_parts}
use Rattle.lp_portable.specs.declared.{broken.Broken.Broken, broken.Clause.Clause, broken.TheConstants.CLAUSES, limits.Limits.Limits, limits.Servers.Servers}
use Rattle.lp_portable.specs.format.Portable as format
use Rattle.lp_portable.specs.format.Portable.{IsOneLine, IsPortable, breaks, concerns}
use Rattle.lp_portable.specs.code.Clauses.{Breaks, clause_of, first_broken, first_of, is_broken_for, limits_of, servers_of}
use Rattle.lp_portable.specs.format.Spellings.{AreAfterCommas, AreJoined, IsSpelled, Spelling, key_text, tag_text}

module _ {A : Type 0} (one : List ℕ → Reading A) where
  -- Two lists of as many parts after commas, read from one text, are the same and leave the same rest.
  after_once : (xs ys : List A) (text r s : List ℕ) → AreAfterCommas one xs text r → AreAfterCommas one ys text s
      → length xs ≡ length ys → (xs ≡ ys) × (r ≡ s)
  after_once [] [] text r s h k n = (refl, sym h ∙ k)
  after_once [] (y ∷ ys) text r s h k n = absurd (omega (arith, n))
  after_once (x ∷ xs) [] text r s h k n = absurd (omega (arith, n))
  after_once (x ∷ xs) (y ∷ ys) text r s h k n =
      let same = reads_parts x y h.0 k.0 (sym h.1 ∙ k.1) in
      let others = after_once xs ys k.0 r s (rw same.1 at h.2) k.2 (omega (arith, n)) in
      (rw (same.0, others.0) refl, others.1)

  -- Two lists of parts, of the same length and with commas between the parts, that are read from one text are the same.
  by_once : (xs ys : List A) (text r s : List ℕ) → AreJoined one xs text r → AreJoined one ys text s
      → length xs ≡ length ys → (xs ≡ ys) × (r ≡ s)
  by_once [] [] text r s h k n = (refl, sym h ∙ k)
  by_once [] (y ∷ ys) text r s h k n = absurd (omega (arith, n))
  by_once (x ∷ xs) [] text r s h k n = absurd (omega (arith, n))
  by_once (x ∷ xs) (y ∷ ys) text r s h k n =
      let same = reads_parts x y h.0 k.0 (sym h.1 ∙ k.1) in
      let others = after_once xs ys k.0 r s (rw same.1 at h.2) k.2 (omega (arith, n)) in
      (rw (same.0, others.0) refl, others.1)

-- the names of a line have one spelling
pub spelled_once : (text : List ℕ) (line : Line) (a b : Spelling) → IsSpelled text line a → IsSpelled text line b → a ≡ b
spelled_once text line a b h k =
    let first = reads_parts a.measurement b.measurement h.after_name k.after_name (sym h.measurement ∙ k.measurement) in
    let tags = after_once tag_text a.tags b.tags k.after_name h.after_tags k.after_tags (rw first.1 at h.tags) k.tags (h.all_tags ∙ sym k.all_tags) in
    let keys = by_once key_text a.keys b.keys (drop (spaces k.after_tags) k.after_tags) h.rest k.rest (rw tags.1 at h.keys) k.keys
    (h.all_keys ∙ sym k.all_keys) in
    rw (first.0, tags.0, keys.0) refl

-- A text is read as at most one line.
line_once : (text : List ℕ) (a b : Line) → IsOneLine text a → IsOneLine text b → a ≡ b
line_once text a b h k = let same = sym h.read ∙ k.read in cc

-- If none of these clauses is the first that passes a test, no clause passes it.
none_passes : (passes : Clause → Bool) (clauses : List Clause) → first_of passes clauses ≡ None → list_all (λ c. not (passes c)) clauses ≡ true
none_passes passes [] none = refl
none_passes passes (c ∷ clauses) none = elim (cases_Bool (passes c)) [
  | inl is ↦ absurd (let some : first_of passes (c ∷ clauses) ≡ Some c = rw is refl in cc)
  | inr not ↦ rw not (none_passes passes clauses (rw not at none))
]

-- the second of two is not, if both are not and the first is
and_second : {a b : Bool} → a ≡ true → (a && b) ≡ false → b ≡ false
and_second is both = rw is at both

-- both are not, if the second is not where the first is
and_false : {a b : Bool} → (a ≡ true → b ≡ false) → (a && b) ≡ false
and_false {a = false} h = refl
and_false {a = true} h = h refl

-- Each clause of the definitions is a clause that the code lists.
listed : (clause : format.Clause) → (c : Clause) × (n : ℕ) × (clause_of c ≡ clause) × (n < length CLAUSES.now) × (get_or CLAUSES.now n c ≡ c)
listed format.leading_blank = (Clause.LeadingBlank, 0, refl, omega arith, refl)
listed format.trailing_space = (Clause.TrailingSpace, 1, refl, omega arith, refl)
listed format.newline = (Clause.Newline, 2, refl, omega arith, refl)
listed format.measurement_equals = (Clause.MeasurementEquals, 3, refl, omega arith, refl)
listed format.measurement_escape = (Clause.MeasurementEscape, 4, refl, omega arith, refl)
listed format.tag_escape = (Clause.TagEscape, 5, refl, omega arith, refl)
listed format.tag_key_comma = (Clause.TagKeyComma, 6, refl, omega arith, refl)
listed format.tag_value_equals = (Clause.TagValueEquals, 7, refl, omega arith, refl)
listed format.repeated_tag = (Clause.RepeatedTag, 8, refl, omega arith, refl)
listed format.field_key_escape = (Clause.FieldKeyEscape, 9, refl, omega arith, refl)
listed format.field_key_comma = (Clause.FieldKeyComma, 10, refl, omega arith, refl)
listed format.field_key_quote = (Clause.FieldKeyQuote, 11, refl, omega arith, refl)
listed format.long_series = (Clause.LongSeries, 12, refl, omega arith, refl)
listed format.unsigned = (Clause.Unsigned, 13, refl, omega arith, refl)
listed format.infinite_float = (Clause.InfiniteFloat, 14, refl, omega arith, refl)
listed format.rounded_float = (Clause.RoundedFloat, 15, refl, omega arith, refl)
listed format.leading_nul = (Clause.LeadingNul, 16, refl, omega arith, refl)
listed format.time_out_of_range = (Clause.TimeOutOfRange, 17, refl, omega arith, refl)
listed format.tag_count = (Clause.TagCount, 18, refl, omega arith, refl)
listed format.time_name = (Clause.TimeName, 19, refl, omega arith, refl)
listed format.system_name = (Clause.SystemName, 20, refl, omega arith, refl)
listed format.repeated_field = (Clause.RepeatedField, 21, refl, omega arith, refl)
listed format.key_separator = (Clause.KeySeparator, 22, refl, omega arith, refl)
listed format.control_byte = (Clause.ControlByte, 23, refl, omega arith, refl)
listed format.name_label = (Clause.NameLabel, 24, refl, omega arith, refl)
listed format.long_tag_key = (Clause.LongTagKey, 25, refl, omega arith, refl)
listed format.long_tag_value = (Clause.LongTagValue, 26, refl, omega arith, refl)
listed format.long_metric_name = (Clause.LongMetricName, 27, refl, omega arith, refl)
listed format.long_labels = (Clause.LongLabels, 28, refl, omega arith, refl)
listed format.too_many_tags = (Clause.TooManyTags, 29, refl, omega arith, refl)
listed format.long_line = (Clause.LongLine, 30, refl, omega arith, refl)
listed format.time_not_kept = (Clause.TimeNotKept, 31, refl, omega arith, refl)

-- if no clause is the first that is broken, each that is listed is kept
kept_at : (to : Servers) (broken : Broken) → first_broken to broken ≡ None → (c : Clause) (n : ℕ) → n < length CLAUSES.now → get_or CLAUSES.now n c ≡ c
    → is_broken_for to broken c ≡ false
unfolding first_broken
kept_at to broken none c n within at =
    let all = none_passes (is_broken_for to broken) CLAUSES.now none in
    elim (cases_Bool (is_broken_for to broken c)) [
      | inl is ↦
          let fails = subst (λ (d : Clause). not (is_broken_for to broken d) ≡ false) (sym at) (ap not is) in
          absurd (false≢true (sym (list_all_at (λ d. not (is_broken_for to broken d)) CLAUSES.now n c within fails) ∙ all))
      | inr not ↦ not
    ]

-- If no broken clause concerns the servers, there is no first broken clause.
none_first : (to : Servers) (broken : Broken) → ((c : Clause) → is_broken_for to broken c ≡ false) → first_broken to broken ≡ None
unfolding first_broken
none_first to broken none = each CLAUSES.now
  where
    -- In any list of clauses, no clause is the first that is broken.
    each : (clauses : List Clause) → first_of (is_broken_for to broken) clauses ≡ None
    each [] = refl
    each (c ∷ clauses) = rw (none c) (each clauses)

-- a text is portable exactly if the clauses that it breaks have no first one
pub portable_is : (to : Servers) (limits : Limits) (text : List ℕ) (broken : Broken) → Breaks limits text broken
    → (first_broken to broken ≡ None) ↔ IsPortable (servers_of to) (limits_of limits) text
portable_is to limits text broken h = (forth, back)
  where
    -- if none is the first, each that concerns the servers is kept
    forth : first_broken to broken ≡ None → IsPortable (servers_of to) (limits_of limits) text
    forth none = record {
      line = h.line;
      names = h.names;
      is_line = h.is_line;
      are_names = h.are_names;
      keeps = λ clause concerned.
          let (c, n, is, within, at) = listed clause in
          let kept = kept_at to broken none c n within at in
          let asked : concerns (servers_of to) (clause_of c) ≡ true = rw is concerned in
          subst (λ (d : format.Clause). breaks (limits_of limits) text h.line h.names d ≡ false) is (sym (h.tells c) ∙ and_second asked kept);
    }

    -- If a line keeps each clause that concerns the servers, there is no first broken clause.
    back : IsPortable (servers_of to) (limits_of limits) text → first_broken to broken ≡ None
    back p =
        let line = line_once text h.line p.line h.is_line p.is_line in
        let names = spelled_once (trimmed text) p.line h.names p.names (rw line at h.are_names) p.are_names in
        none_first to broken (λ c. and_false (λ concerned. h.tells c ∙ rw (line, names) (p.keeps (clause_of c) concerned)))

-- An option is `None` exactly if the test for `None` holds.
pub none_is : {A : Type 0} (o : Option A) (none : Bool) → is_some o ≡ not none → (IsTrue none → o ≡ None) × (o ≡ None → IsTrue none)
none_is None true is = (λ yes. refl, λ same. refl)
none_is None false is = absurd (false≢true is)
none_is (Some x) true is = absurd (false≢true (sym is))
none_is (Some x) false is = (λ never. absurd (false≢true never), λ same. absurd (cc))
