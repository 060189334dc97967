-- The names that lines can have: each name of a line is a parsed name, and each parsed name is in some line.
use Rattle.std.proofs.Common.{◌≡◌, ◌≢◌, ℕ, List, [], ◌∷◌, drop, map, slice_index, Bool, true, false, refl, subst, arith, inl, inr}
use Rattle.std.proofs.Common.{Option, Ok, Result, ℤ, Contains, eqb-true}
use Rattle.std.proofs.lemmas.{Bool.cases_Bool, Bool.or_parts, Bool.eqb-false, List.Elements.Contains-append_cases}
use Rattle.std.proofs.lemmas.List.Elements.{All-contains, All-from_recursion}
use Rattle.std.specs.List.{AllByRecursion}
use Rattle.lp_format.specs.format.{Dialect, Strict, Fault, Text, reads, NameKind, a_measurement, a_tag_key, a_tag_value}
use Rattle.lp_format.specs.format.{a_field_key, name, Value, Pair, Point, Tag, Line, point_of, logical_tag, logical_field}
use Rattle.lp_format.specs.format.{some_tags, tag, field, tag_set, field_set, spaces, timestamp, front_before, answer, HasAnswers}
use Rattle.lp_format.specs.format.{answers_of_piece, answers_of, hash}
use Rattle.lp_format.specs.laws.NamesOfLines.{names_of, IsParsedName, IsNothingOrSpaced}
use Rattle.lp_format.specs.laws.Laws.{NamesAreParsed, StrictFieldsEnd}
use Rattle.lp_format.specs.laws.MeaningsOfAnswers.{after_spaces, IsAnswer, IsAnswer.all_read}
use Rattle.lp_format.proofs.lemmas.{line.TrimLemmas.left_of, line.TrimLemmas.trimmed_is, names.Inversions.after_all}
use Rattle.lp_format.proofs.lemmas.{names.Inversions.joined_of, meanings.ShorterRests.field_no_longer}
use Rattle.lp_format.proofs.lemmas.{lists.Elements.first_or_later}
use Rattle.lp_lines.proofs.lemmas.names.KeptNames.{name_parsed}
use Rattle.lp_lines.proofs.lemmas.meanings.AnswerMeaning.{answer_is_by_rows, fields_read, series_parts}
use Rattle.lp_lines.proofs.lemmas.read_back.LineReadsBack.{front_is}
use Rattle.lp_events.proofs.lemmas.fields.ManyLemmas.{fields_joined, set_separated}
use Rattle.lp_values.proofs.lemmas.fields.ReadingLemmas.{pair_parts}

-- both names of a tag are parsed names
abbrev pub HasParsedNames : Tag → Type 0
HasParsedNames t = IsParsedName a_tag_key t.key × IsParsedName a_tag_value t.value

-- the key of a field is a parsed name
abbrev ParsedField : Pair Text (Value Text) → Type 0
ParsedField f = IsParsedName a_field_key f.key.bytes

-- both names of each tag that is read are parsed names
tag_parsed : (line : List ℕ) (t : Pair Text Text) (rest : List ℕ) → tag line ≡ reads t rest → HasParsedNames (logical_tag t)
unfolding tag
tag_parsed line t rest h = grind (arith, pair_parts, name_parsed)

-- the key of each field that is read is a parsed name
field_parsed : (line : List ℕ) (f : Pair Text (Value Text)) (rest : List ℕ) → field line ≡ reads f rest → ParsedField f
unfolding field
field_parsed line f rest h = grind (arith, pair_parts, name_parsed)

-- the results of two parts are equal only if the parts are
pub ok_same : {A : Type 0} (x y : A) → (let f : Result A Fault = Ok x in f) ≡ Ok y → x ≡ y
ok_same x y h = cc

-- the readings of the parts of a line that is answered
pub record Parts (dialect : Dialect) (line : List ℕ) (l : Line) : Type 0 where
  pub measurement_rest : List ℕ
  pub tags_rest : List ℕ
  pub fields_rest : List ℕ
  pub series : l.series ≡ front_before line tags_rest
  pub measurement : name a_measurement line ≡ reads l.measurement measurement_rest
  pub tags : tag_set measurement_rest ≡ Ok (record { value = l.tags; rest = tags_rest })
  pub fields : field_set dialect (drop (spaces tags_rest) tags_rest) ≡ reads l.fields fields_rest
  pub stamp : timestamp fields_rest ≡ Ok (record { value = l.timestamp; rest = [] })

-- each line that is answered has its parts read as `Parts` says
pub answer_parts : (dialect : Dialect) (line : List ℕ) (l : Line) → answer dialect line ≡ Ok l → Parts dialect line l
answer_parts dialect line l h = by_row ((answer_is_by_rows dialect line (Ok l)).0 h)
  where
    -- a line that is read by a row has its parts read as `Parts` says
    by_row : IsAnswer dialect line (Ok l) → Parts dialect line l
    by_row (all_read _ rest r stamp) =
        let s = series_parts r.series_reads in
        let fields = fields_read (after_spaces r.after_series) l.fields r.after_fields r.fields_read in
        let front = front_is line l.series r.after_series r.series_is in
        let is = r.rest_is in
        grind arith

-- a text that is a timestamp to its end is empty or begins with a space
stamp_begins : (text : List ℕ) (t : Option ℤ) → timestamp text ≡ Ok (record { value = t; rest = [] }) → IsNothingOrSpaced text
stamp_begins [] t h = inl refl
stamp_begins (b ∷ text) t h = grind (arith, cases_Bool, eqb-true, ok_same)

-- in the strict dialect, the fields of a line are followed by nothing or by a space
pub strict_fields_end : StrictFieldsEnd
strict_fields_end text line h =
    let parts = answer_parts Strict text line h in
    record {
      measurement_rest = parts.measurement_rest;
      tags_rest = parts.tags_rest;
      fields_rest = parts.fields_rest;
      measurement = parts.measurement;
      tags = parts.tags;
      fields = parts.fields;
      ends = stamp_begins parts.fields_rest line.timestamp parts.stamp;
    }

-- the text that is left after blanks and comments does not begin with `#`
left_begins : (in_comment : Bool) (text : List ℕ) → slice_index (left_of in_comment text) 0 ≢ hash
left_begins in_comment [] = omega arith
left_begins in_comment (b ∷ rest) = grind (arith, cases_Bool, or_parts, eqb-false, left_begins false rest, left_begins true rest)

-- the empty list has no elements
pub nothing_in_nil : {X : Type 0} (x : X) → Contains [] x → ⊥
nothing_in_nil x h = omega (arith, h.1)

-- a property of elements gives a property of the elements that are made of them
pub all_made : {X Y : Type 0} (P : X → Type 0) (Q : Y → Type 0) (make : X → Y) → ((x : X) → P x → Q (make x)) → (xs : List X)
    → AllByRecursion P xs → AllByRecursion Q (map make xs)
all_made P Q make part [] all = tt
all_made P Q make part (x ∷ xs) all = (part x all.0, all_made P Q make part xs all.1)

-- a point whose names are all parsed names
pub record ParsedPoint (p : Point) : Type 0 where
  pub measurement : IsParsedName a_measurement p.measurement
  pub tags : AllByRecursion HasParsedNames p.tags
  pub fields : AllByRecursion (λ f. IsParsedName a_field_key f.key) p.fields

-- the point of each line that is answered has parsed names
pub line_parsed : (dialect : Dialect) (text : List ℕ) (line : Line) → slice_index text 0 ≢ hash
    → answer dialect text ≡ Ok line → ParsedPoint (point_of line)
line_parsed dialect text line begins h =
    let parts = answer_parts dialect text line h in
    let after = drop (spaces parts.tags_rest) parts.tags_rest in
    let joined = fields_joined dialect after parts.fields_rest line.fields parts.fields in
    record {
      measurement = name_parsed a_measurement text parts.measurement_rest line.measurement parts.measurement begins;
      tags = all_made (λ t. HasParsedNames (logical_tag t)) HasParsedNames logical_tag (λ t h. h) (some_tags line.tags)
          (after_all (λ t. HasParsedNames (logical_tag t)) tag tag_parsed (some_tags line.tags) parts.measurement_rest parts.tags_rest
          (set_separated parts.measurement_rest parts.tags_rest line.tags parts.tags));
      fields = all_made ParsedField (λ f. IsParsedName a_field_key f.key) logical_field (λ f h. h) line.fields
          (joined_of ParsedField field field_parsed (λ t. (field_no_longer t).holds) after joined.0 line.fields joined.1);
    }

-- the names of a point with parsed names are parsed names
point_names : (kind : NameKind) (p : Point) → ParsedPoint p → AllByRecursion (IsParsedName kind) (names_of kind p)
point_names a_measurement p h = (h.measurement, tt)
point_names a_tag_key p h = all_made HasParsedNames (IsParsedName a_tag_key) (λ t. t.key) (λ t both. both.0) p.tags h.tags
point_names a_tag_value p h = all_made HasParsedNames (IsParsedName a_tag_value) (λ t. t.value) (λ t both. both.1) p.tags h.tags
point_names a_field_key p h =
    all_made (λ f. IsParsedName a_field_key f.key) (IsParsedName a_field_key) (λ f. f.key) (λ f h. h) p.fields h.fields

-- the text for which a line is answered: it does not begin with `#`
pub record Answered (dialect : Dialect) (line : Line) : Type 0 where
  pub text : List ℕ
  pub begins : slice_index text 0 ≢ hash
  pub answered : answer dialect text ≡ Ok line

-- a line that is answered for a piece is answered for a text that does not begin with `#`
piece_answered : (dialect : Dialect) (piece : List ℕ) (line : Line)
    → Contains (answers_of_piece dialect piece) (Ok line) → Answered dialect line
unfolding answers_of_piece
piece_answered dialect piece line h = grind (arith, cases_Bool, nothing_in_nil, first_or_later, trimmed_is, left_begins)

-- a line that is answered for pieces is answered for a text that does not begin with `#`
answered_in : (dialect : Dialect) (pieces : List (List ℕ)) (line : Line)
    → Contains (answers_of dialect pieces) (Ok line) → Answered dialect line
answered_in dialect [] line h = absurd (nothing_in_nil (Ok line) h)
answered_in dialect (piece ∷ pieces) line h =
    elim (Contains-append_cases (answers_of_piece dialect piece) (answers_of dialect pieces) (Ok line) h) [
      | inl first ↦ piece_answered dialect piece line first
      | inr later ↦ answered_in dialect pieces line later
    ]

-- the point of each line that is answered for a text has parsed names
pub answers_parsed : (dialect : Dialect) (text : List ℕ) (answers : List (Result Line Fault)) (line : Line)
    → HasAnswers dialect text answers → Contains answers (Ok line)
    → ParsedPoint (point_of line)
answers_parsed dialect text answers line has here =
    let piece = answered_in dialect has.pieces line (subst (λ xs. Contains xs (Ok line)) has.answered here) in
    line_parsed dialect piece.text line piece.begins piece.answered

-- each name of each line that is answered for a text is a parsed name
pub names_are_parsed : NamesAreParsed
names_are_parsed dialect text answers line kind n has here named =
    let names = names_of kind (point_of line) in
    let all = point_names kind (point_of line) (answers_parsed dialect text answers line has here) in
    All-contains (IsParsedName kind) names n (All-from_recursion (IsParsedName kind) names all) named
