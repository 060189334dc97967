-- Points whose lines hold no newline: points that are read from a text without a newline, and points that are admitted in the
-- newline-delimited dialect.
use Rattle.std.proofs.Common.{codes}
use Rattle.std.proofs.Common.{◌≡◌, ◌≢◌, ℕ, length, ℤ, List, [], ◌∷◌, ◌++◌, drop, take, Bool, cond, true, false, not, ◌==◌}
use Rattle.std.proofs.Common.{refl, sym, ap, ◌∙◌, subst, arith, Option, Some, None, Ok, Err, Result, IfSome, Contains, flat_map, take-append-drop}
use Rattle.std.proofs.Common.{decimal, ne_eqb}
use Rattle.std.proofs.lemmas.{Grind.common_steps, List.Folds.list_all-append}
use Rattle.std.proofs.lemmas.Bool.{and_from, and_parts, cases_Bool, eqb-false, not-true}
use Rattle.std.proofs.Common.{inl, inr, eqb-true}
use Rattle.std.proofs.lemmas.List.Elements.{All-contains, All-from_recursion, All-head, All-tail}
use Rattle.std.specs.{List.AllByRecursion, List.list_all, Fmt.signed_decimal}
use Rattle.lp_format.specs.format.{answer, answers_of, answers_of_piece, a_field_key, a_measurement, a_tag_key, a_tag_value, boolean, boolean_at}
use Rattle.lp_format.specs.format.{built_field, escaped_byte, built_fields, built_tag, built_timestamp, built_value, comma, Dialect, equals, escaped, Fault, Field}
use Rattle.lp_format.specs.format.{field, fits_i64, float, float_at, HasAnswers, HasNoNewline, integer, integer_at, IsPoint, IsValue}
use Rattle.lp_format.specs.format.{is_admitted_name, is_admitted_point, is_on_one_line, is_one_of, is_value_on_one_line, letter_i}
use Rattle.lp_format.specs.format.{letter_u, Line, line_of, logical_field, logical_value, name, NameKind, newline, NewlineDelimited, Pair, Point}
use Rattle.lp_format.specs.format.{point_of, quotable, logical_tag, Reading, reads, miss, fatal, some_tags, space, spaces, spelling, string, string_at}
use Rattle.lp_format.specs.format.{Tag, tag, Text, trimmed, unsigned, unsigned_at, Value, value, without_escapes, ◌otherwise◌, quote}
use Rattle.lp_format.specs.format.Pieces.{Pieces}
use Rattle.lp_format.specs.laws.Laws.{IsAdmittedIn, StringsAreOnOneLine}
use Rattle.lp_format.specs.laws.Meanings.{SeparatedAfterComma, SeparatedBy}
use Rattle.lp_format.proofs.lemmas.{line.TrimLemmas.left_of, line.TrimLemmas.trimmed_is, literals.FloatLemmas.float_bytes}
use Rattle.lp_format.proofs.lemmas.{split.SplitPieces.pieces_on_one_line, split.SplitPieces.lines_are_pieces, meanings.JoinedMeaning.the_most_is_read}
use Rattle.lp_format.proofs.lemmas.meanings.ShorterRests.{field_no_longer}
use Rattle.lp_values.proofs.lemmas.fields.ReadingLemmas.{EndsIn, name_ends, pair_parts, tag_ends}
use Rattle.lp_events.proofs.lemmas.fields.ManyLemmas.{fields_joined, set_separated, tag_set_ends}
use Rattle.lp_lines.proofs.lemmas.names.ParsedNames.{all_made, answer_parts}
use Rattle.lp_lines.proofs.lemmas.read_back.LinePieces.{AdmittedField, AdmittedTag, admitted_point, IsSimple, is_simple, line_parts}
use Rattle.lp_lines.proofs.lemmas.read_back.LinePieces.{simple_decimal, simple_number, simple_signed}
use Rattle.lp_format.proofs.lemmas.read_back.NameReadsBack.{admitted_parts, may_hold}
use Rattle.lp_written.proofs.lemmas.points.LinesArePoints.{lines_are_points}
use Rattle.lp_portable.proofs.FieldEnds.{field_ends}

-- a text without a newline, as a test
abbrev pub OnOne : List ℕ → Type 0
OnOne text = is_on_one_line text ≡ true

-- the test of a byte
abbrev is_other : ℕ → Bool
is_other b = not (b == newline)

-- the test and the property
pub one_line : (text : List ℕ) → HasNoNewline text → OnOne text
one_line [] h = refl
one_line (b ∷ text) h =
    rw (ne_eqb b newline (All-head (λ c. c ≢ newline) b text h)) (one_line text (All-tail (λ c. c ≢ newline) b text h))

-- A text that passes the test for one line holds no newline.
pub no_newline : (text : List ℕ) → OnOne text → HasNoNewline text
no_newline text h = All-from_recursion (λ c. c ≢ newline) text (each text h)
  where
    -- byte by byte
    each : (text : List ℕ) → OnOne text → AllByRecursion (λ c. c ≢ newline) text
    each [] h = tt
    each (b ∷ text) h =
        let parts = and_parts (is_other b) (is_on_one_line text) h in
        (eqb-false b newline (not-true (b == newline) parts.0), each text parts.1)

-- two texts after another
pub joined : (xs ys : List ℕ) → OnOne xs → OnOne ys → OnOne (xs ++ ys)
joined xs ys h k = list_all-append is_other xs ys ∙ and_from _ _ h k

-- both parts of a text
parts_of : (xs ys : List ℕ) → OnOne (xs ++ ys) → OnOne xs × OnOne ys
parts_of xs ys h = and_parts _ _ (sym (list_all-append is_other xs ys) ∙ h)

-- an end of a text
end_of : (text rest : List ℕ) → EndsIn text rest → OnOne text → OnOne rest
end_of text rest e h = (parts_of e.front rest (subst OnOne e.is h)).1

-- a front of a text
front_of : (n : ℕ) (text : List ℕ) → OnOne text → OnOne (take n text)
front_of n text h = (parts_of (take n text) (drop n text) (subst OnOne (sym (take-append-drop n text)) h)).0

-- the logical text of a text
logical_of : (known text : List ℕ) → OnOne text → OnOne (without_escapes known text)
unfolding without_escapes
logical_of known [] h = h
logical_of known (b ∷ []) h = h
logical_of known (b ∷ c ∷ rest) h =
    let first = and_parts (is_other b) (is_on_one_line (c ∷ rest)) h in
    let second = and_parts (is_other c) (is_on_one_line rest) first.1 in
    grind (arith, cases_Bool, and_from, first.0, second.0, logical_of known rest second.1, logical_of known (c ∷ rest) first.1)

-- a name that is read
name_read : (kind : NameKind) (text : List ℕ) (x : Text) (rest : List ℕ) → name kind text ≡ reads x rest → OnOne text → OnOne x.bytes
unfolding name
name_read kind text x rest e h = grind (arith, cases_Bool, front_of, logical_of)

-- A value that a reading gives is on one line.
record GivesOn {A : Type 0} (Q : A → Type 0) (r : Reading A) : Type 0 where
  holds : (x : A) (rest : List ℕ) → r ≡ reads x rest → Q x

module _ {A : Type 0} (Q : A → Type 0) where
  -- a miss gives nothing
  none_given : GivesOn Q miss
  none_given = record { holds = λ x rest e. absurd (cc) }

  -- A reading that gives a fault gives no value, so each value that it gives is on one line.
  fault_given : (f : Fault) → GivesOn Q (fatal f)
  fault_given f = record { holds = λ x rest e. absurd (cc) }

  -- A reading that gives this value gives a value on one line, if this value is.
  this_given : (x : A) (rest : List ℕ) → Q x → GivesOn Q (reads x rest)
  this_given x rest q = record { holds = λ y after e. let same : x ≡ y = cc in subst Q same q }

  -- either of two
  either : (b : Bool) (r s : Reading A) → GivesOn Q r → GivesOn Q s → GivesOn Q (cond b r s)
  either b r s h k = grind arith

  -- the first of two that does not miss
  one_of_two : (r s : Reading A) → GivesOn Q r → GivesOn Q s → GivesOn Q (r otherwise s)
  one_of_two r s h k = grind arith

-- The logical value of a value that was read is on one line.
abbrev IsOn : Value Text → Type 0
IsOn v = is_value_on_one_line (logical_value v) ≡ true

-- a string
string_read : (text : List ℕ) → OnOne text → GivesOn IsOn (string_at text)
unfolding string_at
string_read [] h = none_given IsOn
string_read (b ∷ after) h =
    let rest = (and_parts (is_other b) (is_on_one_line after) h).1 in
    either IsOn _ _ _ (this_given IsOn _ _ (logical_of _ _ (front_of _ after rest))) (none_given IsOn)

-- a value
value_read : (text : List ℕ) → OnOne text → GivesOn IsOn (value text)
unfolding value integer_at unsigned_at float_at boolean_at
value_read text h = grind (arith, either IsOn, none_given IsOn, this_given IsOn, fault_given IsOn, one_of_two IsOn, string_read text h)

-- a tag on one line
abbrev TagOn : Pair Text Text → Type 0
TagOn t = OnOne t.key.bytes × OnOne t.value.bytes

-- a field on one line
abbrev FieldOn : Pair Text (Value Text) → Type 0
FieldOn f = OnOne f.key.bytes × IsOn f.value

-- The text that is left after a key and its equals sign is on one line, if the whole text is.
after_key : (kind : NameKind) (text mid : List ℕ) (k : Text) → name kind text ≡ reads k (equals ∷ mid) → OnOne text → OnOne mid
after_key kind text mid k e h = (and_parts true (is_on_one_line mid) (end_of text (equals ∷ mid) (name_ends kind text k (equals ∷ mid) e) h)).1

-- a tag that is read
tag_read : (text : List ℕ) (t : Pair Text Text) (rest : List ℕ) → tag text ≡ reads t rest → OnOne text → TagOn t
unfolding tag
tag_read text t rest e h =
    let p = pair_parts a_tag_key (name a_tag_value) text t rest e in
    (name_read a_tag_key text t.key (equals ∷ p.mid) p.key h, name_read a_tag_value p.mid t.value rest p.value (after_key a_tag_key text p.mid t.key p.key h))

-- a field that is read
field_read : (text : List ℕ) (f : Pair Text (Value Text)) (rest : List ℕ) → field text ≡ reads f rest → OnOne text → FieldOn f
unfolding field
field_read text f rest e h =
    let p = pair_parts a_field_key value text f rest e in (
      name_read a_field_key text f.key (equals ∷ p.mid) p.key h,
      (value_read p.mid (after_key a_field_key text p.mid f.key p.key h)).holds f.value rest p.value,
    )

module _ {A : Type 0} (P : A → Type 0) (one : List ℕ → Reading A)
    (ends : (text : List ℕ) (x : A) (rest : List ℕ) → one text ≡ reads x rest → EndsIn text rest)
    (each : (text : List ℕ) (x : A) (rest : List ℕ) → one text ≡ reads x rest → OnOne text → P x) where
  -- parts that come after commas
  many_read : (xs : List A) (text rest : List ℕ) → SeparatedAfterComma one xs text rest → OnOne text → AllByRecursion P xs
  many_read [] text rest h on = tt
  many_read (x ∷ xs) text rest h on =
      let place = (and_parts true (is_on_one_line h.0) (subst OnOne h.2 on)).1 in
      (each h.0 x h.1 h.3 place, many_read xs h.1 rest h.4 (end_of h.0 h.1 (ends h.0 x h.1 h.3) place))

  -- parts that commas join
  list_read : (xs : List A) (text rest : List ℕ) → SeparatedBy one xs text rest → OnOne text → AllByRecursion P xs
  list_read [] text rest h on = tt
  list_read (x ∷ xs) text rest h on =
      (each text x h.0 h.1 on, many_read xs h.0 rest h.2 (end_of text h.0 (ends text x h.0 h.1) on))

-- A point whose names and strings hold no newline.
pub record PointOn (p : Point) : Type 0 where
  measurement : OnOne p.measurement
  tags : AllByRecursion (λ t. OnOne t.key × OnOne t.value) p.tags
  fields : AllByRecursion (λ f. OnOne f.key × (is_value_on_one_line f.value ≡ true)) p.fields

-- each line that is read from one line
pub line_read : (dialect : Dialect) (text : List ℕ) (line : Line) → answer dialect text ≡ Ok line → OnOne text → PointOn (point_of line)
line_read dialect text line e h =
    let p = answer_parts dialect text line e in
    let tags_text = end_of text p.measurement_rest (name_ends a_measurement text line.measurement p.measurement_rest p.measurement) h in
    let rest = end_of p.measurement_rest p.tags_rest (tag_set_ends p.measurement_rest _ p.tags) tags_text in
    let after = drop (spaces p.tags_rest) p.tags_rest in
    let fields_text = (parts_of (take (spaces p.tags_rest) p.tags_rest) after (subst OnOne (sym (take-append-drop (spaces p.tags_rest) p.tags_rest)) rest)).1 in
    let joined = fields_joined dialect after p.fields_rest line.fields p.fields in
    let are = ((the_most_is_read field (λ t. (field_no_longer t).holds) after line.fields joined.0).0 joined.1).longest.separated in
    record {
      measurement = name_read a_measurement text line.measurement p.measurement_rest p.measurement h;
      tags = all_made TagOn _ logical_tag (λ t on. on) (some_tags line.tags)
          (many_read TagOn tag tag_ends tag_read (some_tags line.tags) p.measurement_rest p.tags_rest
          (set_separated p.measurement_rest p.tags_rest line.tags p.tags) tags_text);
      fields = all_made FieldOn _ logical_field (λ f on. on) line.fields
          (list_read FieldOn field field_ends field_read line.fields after joined.0 are fields_text);
    }

-- a text with backslashes before some bytes
escaped_on : (bytes text : List ℕ) → OnOne text → OnOne (escaped bytes text)
unfolding escaped
escaped_on bytes [] h = refl
escaped_on bytes (b ∷ text) h =
    let parts = and_parts (is_other b) (is_on_one_line text) h in
    elim (cases_Bool (is_one_of bytes b)) [
      | inl found ↦ rw (found, parts.0) (escaped_on bytes text parts.1)
      | inr plain ↦ rw (plain, parts.0) (escaped_on bytes text parts.1)
    ]

-- a text of bytes that mean nothing
simple_on : (text : List ℕ) → IsSimple text → OnOne text
simple_on [] h = refl
simple_on (b ∷ text) h =
    let parts = and_parts (is_simple b) (list_all is_simple text) h in
    and_from _ _ (elim (cases_Bool (b == newline)) [
      | inl is ↦ absurd (let line : b ≡ newline = eqb-true b newline is in cc (parts.0, ap is_simple line))
      | inr other ↦ rw other refl
    ]) (simple_on text parts.1)

-- a value as it is written
value_on : (v : Value (List ℕ)) → IsValue v → is_value_on_one_line v ≡ true → OnOne (built_value v)
value_on (integer z) fits h = joined (signed_decimal z) (letter_i ∷ []) (simple_on (signed_decimal z) (simple_signed z fits)) refl
value_on (unsigned n) fits h = joined (decimal n) (letter_u ∷ []) (simple_on (decimal n) (simple_decimal n fits)) refl
value_on (float t) ok h = simple_on t (simple_number t (float_bytes t ok))
value_on (string s) ok h = joined (escaped quotable s) (quote ∷ []) (escaped_on quotable s h) refl
value_on (boolean true) ok h = refl
value_on (boolean false) ok h = refl

-- a tag as it is written
tag_on : (t : Tag) → OnOne t.key → OnOne t.value → OnOne (built_tag t)
tag_on t k v = joined (spelling a_tag_key t.key) _ (escaped_on _ t.key k) (escaped_on _ t.value v)

-- The texts of all tags are on one line, if all keys and values are.
tags_on : (ts : List Tag) → AllByRecursion (λ t. OnOne t.key × OnOne t.value) ts → OnOne (flat_map built_tag ts)
tags_on [] all = refl
tags_on (t ∷ ts) all = joined (built_tag t) (flat_map built_tag ts) (tag_on t all.0.0 all.0.1) (tags_on ts all.1)

-- a field as it is written
field_on : (f : Field) → IsValue f.value → OnOne f.key → is_value_on_one_line f.value ≡ true → OnOne (built_field f)
field_on f is k v = joined (spelling a_field_key f.key) (equals ∷ built_value f.value) (escaped_on _ f.key k) (value_on f.value is v)

-- The texts of all fields are on one line, if all keys and values are.
fields_on : (b : ℕ) (fs : List Field) → is_other b ≡ true → AllByRecursion (λ f. IsValue f.value) fs
    → AllByRecursion (λ f. OnOne f.key × (is_value_on_one_line f.value ≡ true)) fs → OnOne (built_fields b fs)
fields_on b [] h values all = refl
fields_on b (f ∷ fs) h values all =
    and_from _ _ h (joined (built_field f) (built_fields comma fs) (field_on f values.0 all.0.0 all.0.1) (fields_on comma fs refl values.1 all.1))

-- a timestamp as it is written
stamp_on : (t : Option ℤ) → IfSome t (λ z. fits_i64 z ≡ true) → OnOne (built_timestamp t)
stamp_on None ok = refl
stamp_on (Some z) ok = simple_on (signed_decimal z) (simple_signed z ok)

-- The line of a point whose names and strings are on one line holds no newline.
pub point_on : (p : Point) → IsPoint p → PointOn p → HasNoNewline (line_of p)
point_on p is on = no_newline (line_of p) (subst OnOne (sym (line_parts p))
    (joined (spelling a_measurement p.measurement) _ (escaped_on _ p.measurement on.measurement)
    (joined (flat_map built_tag p.tags) _ (tags_on p.tags on.tags)
    (joined (built_fields space p.fields) _ (fields_on space p.fields refl is.values on.fields) (stamp_on p.timestamp is.timestamp)))))

-- a name that is admitted
name_on : (kind : NameKind) (n : List ℕ) → is_admitted_name kind n ≡ true → OnOne n
name_on kind n h = bytes n (admitted_parts kind n h).may
  where
    -- a byte that a name may hold
    byte_on : (kind : NameKind) (b : ℕ) → may_hold kind b ≡ true → is_other b ≡ true
    byte_on kind b h = grind (arith, common_steps, cases_Bool)

    -- A name whose bytes are all allowed for its kind is on one line.
    bytes : (n : List ℕ) → list_all (may_hold kind) n ≡ true → OnOne n
    bytes [] all = refl
    bytes (b ∷ n) all =
        let parts = and_parts (may_hold kind b) (list_all (may_hold kind) n) all in
        and_from _ _ (byte_on kind b parts.0) (bytes n parts.1)

-- tags that are admitted
admitted_tags_on : (ts : List Tag) → AllByRecursion AdmittedTag ts → AllByRecursion (λ t. OnOne t.key × OnOne t.value) ts
admitted_tags_on [] all = tt
admitted_tags_on (t ∷ ts) all = ((name_on a_tag_key t.key all.0.0, name_on a_tag_value t.value all.0.1), admitted_tags_on ts all.1)

-- fields that are admitted
admitted_fields_on : (fs : List Field) → AllByRecursion AdmittedField fs → list_all (λ f. is_value_on_one_line f.value) fs ≡ true
    → AllByRecursion (λ f. OnOne f.key × (is_value_on_one_line f.value ≡ true)) fs
admitted_fields_on [] all h = tt
admitted_fields_on (f ∷ fs) all h =
    let parts = and_parts (is_value_on_one_line f.value) (list_all (λ f. is_value_on_one_line f.value) fs) h in
    ((name_on a_field_key f.key all.0.0, parts.0), admitted_fields_on fs all.1 parts.1)

-- the line of a point that is admitted if each newline ends a line
pub admitted_on : (p : Point) → IsAdmittedIn NewlineDelimited p → HasNoNewline (line_of p)
admitted_on p h =
    let parts = and_parts (is_admitted_point p) (list_all (λ f. is_value_on_one_line f.value) p.fields) h.admitted in
    let ok = admitted_point p h.is_point parts.0 in
    point_on p h.is_point (record {
      measurement = name_on a_measurement p.measurement ok.measurement;
      tags = admitted_tags_on p.tags ok.tags;
      fields = admitted_fields_on p.fields ok.fields parts.1;
    })

-- a text that was escaped
unescaped_on : (bytes text : List ℕ) → OnOne (escaped bytes text) → OnOne text
unfolding escaped
unescaped_on bytes [] h = refl
unescaped_on bytes (b ∷ text) h =
    let parts = parts_of (escaped_byte bytes b) (escaped bytes text) h in
    and_from _ _ (first bytes b parts.0) (unescaped_on bytes text parts.1)
  where
    -- A byte whose escaped text is on one line is no newline.
    first : (bytes : List ℕ) (b : ℕ) → OnOne (escaped_byte bytes b) → is_other b ≡ true
    first bytes b h = grind (arith, cases_Bool, and_parts)

-- the strings of fields that are written without a newline
fields_of : (b : ℕ) (fs : List Field) → OnOne (built_fields b fs) → list_all (λ f. is_value_on_one_line f.value) fs ≡ true
fields_of b [] h = refl
fields_of b (f ∷ fs) h =
    let parts = parts_of (built_field f) (built_fields comma fs) (and_parts (is_other b) _ h).1 in
    let written = (and_parts true _ (parts_of (spelling a_field_key f.key) (equals ∷ built_value f.value) parts.0).1).1 in
    and_from _ _ (value_of f.value written) (fields_of comma fs parts.1)
  where
    -- a string by its text
    value_of : (v : Value (List ℕ)) → OnOne (built_value v) → is_value_on_one_line v ≡ true
    value_of (string s) h = unescaped_on quotable s (parts_of (escaped quotable s) (quote ∷ []) h).0
    value_of (integer z) h = refl
    value_of (unsigned n) h = refl
    value_of (float t) h = refl
    value_of (boolean b) h = refl

-- All strings of a point are on one line, if the line of the point holds no newline.
pub strings_on : (p : Point) → HasNoNewline (line_of p) → list_all (λ f. is_value_on_one_line f.value) p.fields ≡ true
strings_on p h =
    let whole = subst OnOne (line_parts p) (one_line (line_of p) h) in
    let after_name = (parts_of (spelling a_measurement p.measurement) _ whole).1 in
    let after_tags = (parts_of (flat_map built_tag p.tags) _ after_name).1 in
    fields_of space p.fields (parts_of (built_fields space p.fields) _ after_tags).0

-- The text that is left after blanks and comments is on one line, if the whole text is.
trimmed_on : (in_comment : Bool) (text : List ℕ) → OnOne text → OnOne (left_of in_comment text)
trimmed_on in_comment [] h = refl
trimmed_on in_comment (b ∷ text) h =
    let rest = (and_parts (is_other b) (is_on_one_line text) h).1 in
    grind (arith, cases_Bool, h, trimmed_on true text rest, trimmed_on false text rest)

-- the points that are answered for lines
abbrev AnswerOn : Result Line Fault → Type 0
AnswerOn (Ok line) = IsPoint (point_of line) × PointOn (point_of line)
AnswerOn (Err fault) = Unit {0}

-- The answer for a trimmed text that is on one line is on one line.
answer_on : (text : List ℕ) (a : Result Line Fault) → answer NewlineDelimited text ≡ a → OnOne text → AnswerOn a
answer_on text (Ok line) e h = (lines_are_points NewlineDelimited text line e, line_read NewlineDelimited text line e h)
answer_on text (Err fault) e h = tt

-- The answers for all lines without a newline are on one line.
answers_on : (lines : List (List ℕ)) → AllByRecursion HasNoNewline lines → AllByRecursion AnswerOn (answers_of NewlineDelimited lines)
unfolding answers_of_piece
answers_on [] all = tt
answers_on (line ∷ lines) all =
    let others = answers_on lines all.1 in
    let left : OnOne (trimmed line) = subst OnOne (sym (trimmed_is line)) (trimmed_on false line (one_line line all.0)) in
    elim (cases_Bool (length (trimmed line) == 0)) [
      | inl none ↦ rw none others
      | inr some ↦ rw some (answer_on (trimmed line) (answer NewlineDelimited (trimmed line)) refl left, others)
    ]

-- The line that is built for each line of a text that is answered holds no newline.
pub answered_on : (text : List ℕ) (answers : List (Result Line Fault)) (line : Line) → HasAnswers NewlineDelimited text answers
    → Contains answers (Ok line) → HasNoNewline (line_of (point_of line))
answered_on text answers line has here =
    let all = subst (AllByRecursion AnswerOn) (sym has.answered) (answers_on has.pieces (pieces_on_one_line has.are)) in
    let on = All-contains AnswerOn answers (Ok line) (All-from_recursion AnswerOn answers all) here in
    point_on (point_of line) on.0 on.1

-- No string of a line that is answered holds a newline.
pub strings_are_on_one_line : StringsAreOnOneLine
strings_are_on_one_line text answers line has here = strings_on (point_of line) (answered_on text answers line has here)

-- a quote that is left open ends with its line
an_open_quote_ends : Pieces NewlineDelimited (codes "m a=\"\nm b=1i") (codes "m a=\"" ∷ codes "m b=1i" ∷ [])
an_open_quote_ends = lines_are_pieces (codes "m a=\"") (codes "m b=1i" ∷ [])
    (no_newline (codes "m a=\"") refl, (no_newline (codes "m b=1i") refl, tt))

-- two lines in the place of one give the next line another number
a_newline_is_another_line : Pieces NewlineDelimited (codes "x\ny\nm b=1i") (codes "x" ∷ codes "y" ∷ codes "m b=1i" ∷ [])
a_newline_is_another_line = lines_are_pieces (codes "x") (codes "y" ∷ codes "m b=1i" ∷ [])
    (no_newline (codes "x") refl, (no_newline (codes "y") refl, (no_newline (codes "m b=1i") refl, tt)))
