-- Batches of admitted points read back, and batches with another point do not.
use Rattle.std.proofs.Common.{◌≡◌, [], ◌∷◌, ◌++◌, refl, ap, subst, append_assoc, Ok, ℕ, ◌+◌, List, map, true, false, ◌&&◌, sym, ◌∙◌, arith}
use Rattle.std.proofs.Common.{inl, inr, Err, Result, Contains, flat_map}
use Rattle.lp_format.specs.format.{Dialect, Crate, Strict, NewlineDelimited, HasNoNewline, HasItems, is_admitted_in, Point, line_of, built_all, IsPoint, Tag, Field, IsValue, is_admitted_name, is_admitted_tag}
use Rattle.lp_format.specs.format.{is_admitted_field, is_admitted_point, spelling, built_tag, built_field, built_fields, built_value}
use Rattle.lp_format.specs.format.{built_timestamp, answers_of_piece, HasAnswers, item_of, answers_of, newline, equals, space, comma, Fault}
use Rattle.lp_format.specs.format.{ends_with_backslash, a_measurement, a_field_key, a_tag_key, a_tag_value}
use Rattle.lp_format.specs.format.{EndsPlain, Line, point_of, field, spaces, answer, Pieces.Pieces, Pieces.Pieces.cut}
use Rattle.lp_format.specs.laws.Laws.{IsAdmittedIn, AdmittedBatchesReadBack, OtherBatchesDoNotReadBack, ItemsHaveReadableNames}
use Rattle.lp_format.specs.laws.Laws.{OtherPointsEndWithBackslash}
use Rattle.lp_format.specs.laws.NamesOfLines.{IsParsedName, IsOneLineIn, IsReadableIn, names_of, HasReadableNames}
use Rattle.lp_lines.proofs.lemmas.read_back.LinePieces.{IsAdmitted, admitted_point, line_begins, line_is_cut_piece, reaches_tags}
use Rattle.lp_lines.proofs.lemmas.read_back.LinePieces.{reaches_field, AdmittedTag, admitted_tags, line_parts}
use Rattle.lp_lines.proofs.lemmas.read_back.LineReadsBack.{line_reads_back, measurement_reads_back, tag_set_reads_back, field_reads_back}
use Rattle.lp_format.proofs.lemmas.read_back.NameReadsBack.{read_line, read_line_is, admitted_parts, read_field}
use Rattle.lp_lines.proofs.lemmas.names.Spellings.{line_trimmed, line_some, admitted_spelled, name_reads_back, measurement_begins}
use Rattle.lp_lines.proofs.lemmas.names.Spellings.{spelled_spaces, reaches_name, reaches_other, reaches_gap, reaches_field_key, Reaches}
use Rattle.lp_lines.proofs.lemmas.names.Spellings.{reaches_start, Leads, leads_then, turns}
use Rattle.lp_lines.proofs.lemmas.names.ParsedNames.{names_are_parsed, nothing_in_nil}
use Rattle.std.specs.List.{AllByRecursion, list_all}
use Rattle.std.proofs.lemmas.Bool.{and_parts, cases_Bool, and_from, both_ways}
use Rattle.influxdb_line_protocol.proofs.lemmas.laws.OnOneLine.{admitted_on, answered_on, strings_on}
use Rattle.std.proofs.lemmas.{List.length-map, List.get_or-map, List.map-append, Simd.map-map}
use Rattle.std.proofs.lemmas.List.Elements.{All-contains, All-from_recursion, Contains-append_left, Contains-append_right}
use Rattle.lp_split.specs.code.{Head, Plain}
use Rattle.lp_split.proofs.lemmas.split.SplitWalk.{Plain-comma}
use Rattle.lp_format.proofs.lemmas.split.SplitPieces.{pieces_exist, same_pieces}
use Rattle.influxdb_line_protocol.proofs.lemmas.laws.FatalLines.{Fails, first_fails, name_stops, measurement_fails, StopsEarly}
use Rattle.influxdb_line_protocol.proofs.lemmas.laws.FatalLines.{and_more, and_before, stops_as, ManyFail, first_of_many, later_of_many}
use Rattle.influxdb_line_protocol.proofs.lemmas.laws.FatalLines.{first_failing, second_fails, TagsFail, tags_fail, elements_fail}
use Rattle.std.proofs.lemmas.Grind.{flat_map-append}
use Rattle.lp_format.proofs.lemmas.lists.Elements.{first_element, first_or_later, later_element}

-- the line of an admitted point has one answer
line_answers : (dialect : Dialect) (p : Point) → IsAdmitted p → answers_of_piece dialect (line_of p) ≡ Ok (read_line p) ∷ []
unfolding answers_of_piece
line_answers dialect p ok = grind (arith, line_begins, line_trimmed, line_some, line_reads_back)

-- the names of a point that is admitted in a dialect
admitted_names : (dialect : Dialect) (p : Point) → is_admitted_in dialect p ≡ true → is_admitted_point p ≡ true
admitted_names Crate p h = h
admitted_names Strict p h = h
admitted_names NewlineDelimited p h = (and_parts (is_admitted_point p) _ h).0

-- The line of a point that is admitted in a dialect is one line in this dialect.
admitted_line : (dialect : Dialect) (p : Point) → IsAdmittedIn dialect p → IsOneLineIn dialect (line_of p)
admitted_line dialect p h e = admitted_on p (subst (λ d. IsAdmittedIn d p) e h)

-- batches of admitted points read back
pub admitted_batches_read_back : AdmittedBatchesReadBack
admitted_batches_read_back dialect [] t answers all h = ([], refl, h)
admitted_batches_read_back dialect (p ∷ points) t answers all h =
    let more = admitted_batches_read_back dialect points t answers all.1 h in
    let ok = admitted_point p all.0.is_point (admitted_names dialect p all.0.admitted) in
    let pieces = more.2.pieces in
    let regrouped : line_of p ++ newline ∷ (built_all points ++ t) ≡ built_all (p ∷ points) ++ t = simp append_assoc in (
      read_line p ∷ more.0,
      rw more.1 (ap (λ q. q ∷ points) (read_line_is p)),
      record {
        pieces = line_of p ∷ pieces;
        are = subst (λ x. Pieces dialect x (line_of p ∷ pieces)) regrouped
            (cut (line_of p) (built_all points ++ t) pieces
            (line_is_cut_piece dialect p ok (admitted_line dialect p all.0)) more.2.are);
        answered = rw (line_answers dialect p ok) (ap (λ xs. Ok (read_line p) ∷ xs) more.2.answered);
      },
    )

-- a line whose tags stop too early
tags_line_fails : (m : List ℕ) (ts : List Tag) (more : List ℕ) → is_admitted_name a_measurement m ≡ true
    → TagsFail ts → Fails (spelling a_measurement m ++ (flat_map built_tag ts ++ more))
unfolding answer
tags_line_fails m ts more named f =
    let first = spelling a_measurement m in
    let sign = reaches_other comma (omega arith) (omega arith) (omega arith) first (reaches_name a_measurement m named [] reaches_start) in
    subst Fails (ap (λ (xs : List ℕ). first ++ (xs ++ more)) (sym f.1))
    (and_before first comma
    (λ front r. inl (subst (Reaches Head 0 0) (append_assoc first (comma ∷ []) front) (r (first ++ comma ∷ []) sign)).1.0)
    (λ front rest r e. (
      measurement_begins m (comma ∷ (front ++ rest)) named,
      λ dialect. rw (name_reads_back a_measurement m (front ++ rest) comma named refl, e.at_first) refl,
    )) (and_more more f.2))

-- a text that ends in a plain stretch
abbrev InPlain : List ℕ → Type 0
InPlain piece = (counted : List ℕ) × EndsPlain piece counted

-- Reading one of these fields stops too early, in the text of the fields without the byte before them.
abbrev FieldsFail : List Field → Type 0
FieldsFail fs = (text : List ℕ) × (built_fields comma fs ≡ comma ∷ text)
    × StopsEarly (λ front. (m : ℕ) → Leads (Reaches Plain m m) InPlain front) (λ at. (spaces at ≡ 0) × ManyFail field at) text

-- Reading fields fails early if their keys are parsed names and not all of them are admitted.
fields_fail : (fs : List Field) → ((f : Field) → Contains fs f → IsParsedName a_field_key f.key × IsValue f.value)
    → list_all is_admitted_field fs ≡ false → FieldsFail fs
unfolding field
fields_fail fs known bad = elements_fail is_admitted_field built_field (built_fields comma) (λ f more. refl)
    (λ f known refused. and_more (equals ∷ built_value f.value)
    (stops_as (λ front r m piece h. let named = reaches_field_key m r.spelled piece h in (named.1.0, named.1.1))
    (λ front rest r e. (spelled_spaces r.spelled r.some rest, first_of_many field (front ++ rest) (rw e refl)))
    (name_stops a_field_key f.key known.0 refused)))
    (λ f known ok front r m. leads_then InPlain (built_field f) (comma ∷ front) (reaches_field m f (ok, known.1))
    (leads_then InPlain (comma ∷ []) front
    (turns Plain (m + 1) m Plain (m + 1) (m + 1) comma (omega arith) (Plain-comma (m + 1) m)) (r (m + 1))))
    (λ f known ok more e. (
      ap spaces (append_assoc (spelling a_field_key f.key) (equals ∷ built_value f.value) (comma ∷ more))
          ∙ spelled_spaces (admitted_spelled a_field_key f.key ok) (admitted_parts a_field_key f.key ok).some _,
      later_of_many field (built_field f) more (read_field f) (field_reads_back f (comma ∷ more) (ok, known.1) refl) e.1,
    ))
    fs known bad

-- a line whose fields stop too early
fields_line_fails : (m : List ℕ) (ts : List Tag) (fs : List Field) (more : List ℕ)
    → is_admitted_name a_measurement m ≡ true → AllByRecursion AdmittedTag ts → FieldsFail fs
    → Fails (spelling a_measurement m ++ (flat_map built_tag ts ++ (built_fields space fs ++ more)))
unfolding answer
fields_line_fails m ts [] more named tagged f = absurd (let is = f.1 in cc)
fields_line_fails m ts (g ∷ fs) more named tagged f =
    let first = spelling a_measurement m in
    let tags = flat_map built_tag ts in
    let head = reaches_tags ts tagged first (reaches_name a_measurement m named [] reaches_start) in
    let regrouped : (first ++ tags) ++ space ∷ (f.0 ++ more) ≡ first ++ (tags ++ (built_fields space (g ∷ fs) ++ more)) =
    let is = f.1 in grind (arith, append_assoc) in
    subst Fails regrouped
    (and_before (first ++ tags) space
    (λ front r. inr (subst InPlain (append_assoc (first ++ tags) (space ∷ []) front)
    (r 0 ((first ++ tags) ++ space ∷ []) (reaches_gap (first ++ tags) head))))
    (λ front rest r e.
    rw append_assoc (
      measurement_begins m (tags ++ space ∷ (front ++ rest)) named,
      λ dialect. rw (
        measurement_reads_back m ts (front ++ rest) named,
        tag_set_reads_back ts (front ++ rest) tagged,
        e.0,
        e.1.at_first,
      ) refl,
    )) (and_more more f.2))

-- If a list contains an element, the list of the images of its elements contains the image of this element.
made_element : {X Y : Type 0} (make : X → Y) (xs : List X) (x : X) → Contains xs x → Contains (map make xs) (make x)
made_element make xs x h = grind (arith, length-map, get_or-map)

-- Reading the line of a point fails early if its names are parsed names and not all of them are admitted.
pub point_fails : (p : Point) → IsPoint p → HasReadableNames p → is_admitted_point p ≡ false → Fails (line_of p)
unfolding is_admitted_point
point_fails p h names bad =
    let end = built_timestamp p.timestamp in
    let parts : Fails (spelling a_measurement p.measurement ++ (flat_map built_tag p.tags ++ (built_fields space p.fields ++ end))) =
    elim (cases_Bool (is_admitted_name a_measurement p.measurement)) [
      | inl named ↦ elim (cases_Bool (list_all is_admitted_tag p.tags)) [
        | inl tagged ↦
            let last = second_fails (is_admitted_name a_measurement p.measurement && list_all is_admitted_tag
            p.tags) (list_all is_admitted_field p.fields) bad (and_from _ _ named tagged) in
            fields_line_fails p.measurement p.tags p.fields end named (admitted_tags p.tags tagged)
            (fields_fail p.fields (λ f here. (
              names a_field_key f.key (made_element (λ f. f.key) p.fields f here),
              All-contains (λ f. IsValue f.value) p.fields f (All-from_recursion (λ f. IsValue f.value) p.fields h.values) here,
            )) last)
        | inr refused ↦
            tags_line_fails p.measurement p.tags (built_fields space p.fields ++ end) named (tags_fail p.tags (λ t here. (
              names a_tag_key t.key (made_element (λ t. t.key) p.tags t here),
              names a_tag_value t.value (made_element (λ t. t.value) p.tags t here),
            )) refused)
      ]
      | inr refused ↦
          let first = names a_measurement p.measurement (first_element p.measurement []) in
          measurement_fails p.measurement (flat_map built_tag p.tags ++ (built_fields space p.fields ++ end)) first
          (name_stops a_measurement p.measurement first refused)
    ] in
    subst Fails (sym (line_parts p)) parts

-- the line of a point among the items
line_of_item : (answers : List (Result Line Fault)) (p : Point) → Contains (map item_of answers) (Ok p) → (line : Line)
    × Contains answers (Ok line) × (point_of line ≡ p)
line_of_item [] p h = absurd (nothing_in_nil _ h)
line_of_item (first ∷ answers) p h = elim (first_or_later (item_of first) (Ok p) (map item_of answers) h) [
  | inl same ↦ here first same
  | inr later ↦ let more = line_of_item answers p later in (more.0, later_element first (Ok more.0) answers more.1, more.2)
]
  where
    -- an answer whose item is a point is a line
    here : (first : Result Line Fault) → item_of first ≡ Ok p → (line : Line) × Contains (first ∷ answers) (Ok line) × (point_of line ≡ p)
    here (Ok line) is = (line, first_element (Ok line) answers, cc)
    here (Err fault) is = absurd (cc)

-- The names of each point among the items of a text are names that lines can have.
items_have_names : (dialect : Dialect) (text : List ℕ) (items : List (Result Point Fault)) (p : Point) → HasItems dialect text items
    → Contains items (Ok p) → HasReadableNames p
items_have_names dialect text items p h here kind n named =
    let found = line_of_item h.0 p (subst (λ xs. Contains xs (Ok p)) h.2 here) in
    names_are_parsed dialect text h.0 found.0 kind n h.1 found.1 (subst (λ q. Contains (names_of kind q) n) (sym found.2) named)

-- The names of each point among the items of a text are names that lines can have, and if each newline ends a line, the line of the point
-- holds no newline.
pub items_have_readable_names : ItemsHaveReadableNames
items_have_readable_names dialect text items p h here =
    let found = line_of_item h.0 p (subst (λ xs. Contains xs (Ok p)) h.2 here) in (
      items_have_names dialect text items p h here,
      λ e. subst (λ q. HasNoNewline (line_of q)) found.2 (answered_on text h.0 found.0 (subst (λ d. HasAnswers d text h.0) e h.1) found.1),
    )

-- A point that has readable names and is not admitted in a dialect has a name that is not admitted.
bad_name : (dialect : Dialect) (p : Point) → IsPoint p → IsReadableIn dialect p → is_admitted_in dialect p ≡ false → is_admitted_point p ≡ false
bad_name Crate p is h bad = bad
bad_name Strict p is h bad = bad
bad_name NewlineDelimited p is h bad = elim (cases_Bool (is_admitted_point p)) [
  | inl good ↦ absurd (both_ways _ bad (and_from _ _ good (strings_on p (h.1 refl))))
  | inr is ↦ is
]

-- the first point that is not admitted is answered in its place
pub other_points_end_with_backslash : OtherPointsEndWithBackslash
other_points_end_with_backslash dialect before p after t answers ok is_point bad can h =
    let u = built_all (p ∷ after) ++ t in
    let suffix = pieces_exist dialect u in
    let more = answers_of dialect suffix.0 in
    let alone : HasAnswers dialect u more = record { pieces = suffix.0; are = suffix.1; answered = refl } in
    let batch = admitted_batches_read_back dialect before u more ok alone in
    let joined : built_all before ++ u ≡ built_all (before ++ p ∷ after) ++ t = grind (arith, flat_map-append, append_assoc) in
    let same : answers ≡ map Ok batch.0 ++ more =
    h.answered ∙ ap (answers_of dialect) (same_pieces dialect (sym joined) h.are batch.2.are) ∙ sym batch.2.answered in
    let f = point_fails p is_point can.0 bad in
    let is : u ≡ f.front ++ f.stop ∷ (f.after ++ newline ∷ (built_all after ++ t)) = grind (arith, append_assoc, f.is) in
    let one = first_fails dialect (line_of p) f can.1 (f.after ++ newline ∷ (built_all after ++ t)) is suffix.1 in
    (batch.0, one.0, batch.1, same ∙ ap (λ xs. map Ok batch.0 ++ xs) one.1)

-- points before one that is not admitted, which all are
admitted_before : (dialect : Dialect) (before : List Point) (p : Point) (after : List Point) → AllByRecursion IsPoint (before ++ p ∷ after)
    → list_all (is_admitted_in dialect) before ≡ true → AllByRecursion (IsAdmittedIn dialect) before × IsPoint p
admitted_before dialect [] p after all pass = (tt, all.0)
admitted_before dialect (q ∷ before) p after all pass =
    let parts = and_parts (is_admitted_in dialect q) (list_all (is_admitted_in dialect) before) pass in
    let others = admitted_before dialect before p after all.1 parts.1 in
    ((record { is_point = all.0; admitted = parts.0 }, others.0), others.1)

-- points before one that is answered with a fault are not all points
not_all : (before : List Point) (p : Point) (after : List Point) (fault : Fault) (more others : List (Result Point Fault))
    → map Ok before ++ Err fault ∷ more ≡ map Ok (before ++ p ∷ after) ++ others → ⊥
not_all [] p after fault more others e = cc
not_all (q ∷ before) p after fault more others e = not_all before p after fault more others (cc)

-- No batch that has a point which is not admitted reads back.
pub other_batches_do_not : OtherBatchesDoNotReadBack
other_batches_do_not dialect points t items others all bad h k e =
    let f = first_failing (is_admitted_in dialect) points bad in
    let points_are = admitted_before dialect f.front f.stop f.after (subst (AllByRecursion IsPoint) f.is all) f.pass in
    let are : items ≡ map Ok (f.front ++ f.stop ∷ f.after) ++ others = e ∙ ap (λ ps. map Ok ps ++ others) f.is in
    let stop = made_element Ok _ f.stop (Contains-append_right f.front (f.stop ∷ f.after) f.stop (first_element f.stop f.after)) in
    let here = subst (λ xs. Contains xs (Ok f.stop)) (sym are) (Contains-append_left _ others (Ok f.stop) stop) in
    let can = items_have_readable_names dialect (built_all points ++ t) items f.stop h here in
    let named = bad_name dialect f.stop points_are.1 can f.fails in
    let has = subst (λ ps. HasAnswers dialect (built_all ps ++ t) h.0) f.is h.1 in
    let w = other_points_end_with_backslash dialect f.front f.stop f.after t h.0 points_are.0 points_are.1 named can has in
    not_all f.front f.stop f.after ends_with_backslash (map item_of w.1) others
    (grind (arith, map-append, map-map))
