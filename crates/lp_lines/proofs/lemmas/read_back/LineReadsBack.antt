-- Values, tags, fields, timestamps and lines read back as they were written.
use Rattle.std.proofs.Common.{◌≡◌, ℕ, ◌+◌, ◌^◌, ◌<◌, List, [], ◌∷◌, ◌++◌, length, take, drop, slice_index, Bool, true, false, refl, sym, ap}
use Rattle.std.proofs.Common.{◌∙◌, arith, zero, suc, ◌≤◌, map, Ok, Option, Some, None, ◌-◌, ◌==◌, ℤ, decimal, nat_lt, codes}
use Rattle.std.proofs.Common.{IfSome, ne_eqb, lt-ltb, append_assoc, take_at, drop_at, length-append, drop-drop, append-nil, take_all}
use Rattle.std.proofs.Common.{flat_map}
use Rattle.std.proofs.Math.Seq.{take-append_seam}
use Rattle.std.specs.{Fmt.signed_decimal, List.AllByRecursion}
use Rattle.std.proofs.lemmas.{Bool.cases_Bool, Fmt.decimal_is_IsNumeral, Grind.common_steps, List.get_or_at, List.drop_all}
use Rattle.lp_format.specs.format.{quote, comma, equals, space, Reading, reads, Text, miss, IsValue, built_value}
use Rattle.lp_format.specs.format.{Pair, Tag, Field, built_tag, built_field, built_fields, built_timestamp, spelling, Point, line_of}
use Rattle.lp_format.specs.format.{is_admitted_name, escaped, Value, value, integer, unsigned, string, boolean, integer_at, unsigned_at}
use Rattle.lp_format.specs.format.{float_at, string_at, boolean_at, body_len, digits_len, integer_len, fits_i64, quotable, Dialect}
use Rattle.lp_format.specs.format.{a_tag_key, a_tag_value, a_field_key, is_stop, a_measurement, name, byte, tag, field, after_comma, many}
use Rattle.lp_format.specs.format.{tag_set, field_set, timestamp, without_comma, answer, front_before, separated_list, spaces}
use Rattle.lp_format.specs.format.Bytes.{letter_u}
use Rattle.lp_format.proofs.lemmas.read_back.NameReadsBack.{read_value, read_tag, read_tags, read_field, read_line, admitted_parts}
use Rattle.lp_format.proofs.lemmas.read_back.NameReadsBack.{read_name}
use Rattle.lp_format.proofs.lemmas.read_back.IntegerReadsBack.{unsigned_len, integer_reads_back, integer_written}
use Rattle.lp_format.proofs.lemmas.values.ValueLemmas.{integer_unmarked}
use Rattle.lp_format.proofs.lemmas.literals.FloatLemmas.{Ends, float_reads_back, digits_before}
use Rattle.lp_split.proofs.lemmas.split.ScanLemmas.{bare_len, first_bare_len}
use Rattle.lp_lines.proofs.lemmas.names.Spellings.{name_reads_back, admitted_spelled, spelled_spaces}
use Rattle.lp_lines.proofs.lemmas.read_back.LinePieces.{AdmittedTag, AdmittedField, IsAdmitted, line_parts}

-- the body of a string ends at the quote after it
body_ends : (s rest : List ℕ) → bare_len (λ b. b == quote) false (escaped quotable s ++ quote ∷ rest) ≡ length (escaped quotable s)
unfolding escaped
body_ends [] rest = refl
body_ends (b ∷ s) rest = grind (arith, common_steps, cases_Bool, body_ends s rest)

-- a string reads back
pub string_reads_back : (s rest : List ℕ) → string_at (quote ∷ (escaped quotable s ++ quote ∷ rest)) ≡ reads (read_value (string s)) rest
unfolding string_at
string_reads_back s rest =
    let suffix = escaped quotable s ++ quote ∷ rest in
    let len : body_len suffix ≡ length (escaped quotable s) = first_bare_len (λ b. b == quote) suffix ∙ body_ends s rest in
    let closed : nat_lt (body_len suffix) (length suffix) ≡ true =
    rw len (lt-ltb _ _ (omega (arith, length-append (escaped quotable s) (quote ∷ rest)))) in
    let body : take (body_len suffix) suffix ≡ escaped quotable s = rw len (take_at (escaped quotable s) (quote ∷ rest) _ refl) in
    let after : drop (body_len suffix) suffix ≡ quote ∷ rest = rw len (drop_at (escaped quotable s) (quote ∷ rest) _ refl) in
    let last : drop (body_len suffix + 1) suffix ≡ rest = sym (drop-drop 1 (body_len suffix) suffix)
    ∙ ap (λ (xs : List ℕ). drop 1 xs) after in
    rw (closed, body, last) refl

-- an unsigned number and its mark read back
unsigned_reads_back : (n : ℕ) (rest : List ℕ) → n < 2 ^ 64 → value (built_value (unsigned n) ++ rest) ≡ reads (unsigned n) rest
unfolding value unsigned_at
unsigned_reads_back n rest fits =
    let written = decimal_is_IsNumeral n fits in
    let text = decimal n ++ letter_u ∷ rest in
    let len : integer_len text ≡ length (decimal n) = unsigned_len (decimal n) (letter_u ∷ rest) written.0 refl in
    let digits : digits_len text ≡ length (decimal n) = omega (arith, digits_before (decimal n) (letter_u ∷ rest) written.0.1) in
    let mark : slice_index text (length (decimal n)) ≡ letter_u = get_or_at (decimal n) letter_u rest 0 (length (decimal n)) refl in
    let no_integer = integer_unmarked text (rw (len, mark) (λ e. absurd (omega arith))) in
    let some : (length (decimal n) == 0) ≡ false = ne_eqb _ 0 (λ e. absurd (omega (arith, written.0.0))) in
    let front : take (length (decimal n)) text ≡ decimal n = take_at (decimal n) (letter_u ∷ rest) _ refl in
    let after : drop (length (decimal n)) text ≡ letter_u ∷ rest = drop_at (decimal n) (letter_u ∷ rest) _ refl in
    let last : drop (length (decimal n) + 1) text ≡ rest = sym (drop-drop 1 (length (decimal n)) text)
    ∙ ap (λ (xs : List ℕ). drop 1 xs) after in
    rw ((append_assoc (decimal n) (codes "u") rest), no_integer, digits, some, mark, front, written.1, lt-ltb n (2 ^ 64) fits, last) refl

-- an integer and its mark read back as a value
integer_value_reads : (z : ℤ) (rest : List ℕ) → fits_i64 z ≡ true → value (built_value (integer z) ++ rest) ≡ reads (integer z) rest
unfolding value
integer_value_reads z rest fits = rw (append_assoc (signed_decimal z) (codes "i") rest, integer_reads_back z rest fits) refl

-- a string reads back as a value, because it is no number
string_value_reads : (s rest : List ℕ) → value (built_value (string s) ++ rest) ≡ reads (read_value (string s)) rest
unfolding value integer_at unsigned_at float_at
string_value_reads s rest = rw (append_assoc (escaped quotable s) (quote ∷ []) rest, string_reads_back s rest) refl

-- a Boolean reads back as a value, because it is no number and no string
boolean_value_reads : (b : Bool) (rest : List ℕ) → value (built_value (boolean b) ++ rest) ≡ reads (boolean b) rest
unfolding value integer_at unsigned_at float_at string_at boolean_at
boolean_value_reads x0 rest = grind (arith)

-- a value reads back before the end, a comma or a space
pub value_reads_back : (v : Value (List ℕ)) (rest : List ℕ) → IsValue v → Ends rest
    → value (built_value v ++ rest) ≡ reads (read_value v) rest
value_reads_back b rest fits ends = grind (arith, integer_value_reads, unsigned_reads_back, float_reads_back, string_value_reads, boolean_value_reads)

-- the text of a tag without the comma before it
abbrev pub tag_text : Tag → List ℕ
tag_text t = spelling a_tag_key t.key ++ equals ∷ spelling a_tag_value t.value

-- a tag reads back before each byte that ends its value
pub tag_reads_back : (t : Tag) (rest : List ℕ) (stop : ℕ) → AdmittedTag t → is_stop a_tag_value stop ≡ true
    → tag (tag_text t ++ stop ∷ rest) ≡ reads (read_tag t) (stop ∷ rest)
unfolding tag
tag_reads_back t rest stop ok ends = grind (arith, append_assoc, name_reads_back)

-- a tag reads back before other tags and before the fields
tag_before : (t : Tag) (ts : List Tag) (rest : List ℕ) → AdmittedTag t
    → tag (tag_text t ++ (flat_map built_tag ts ++ space ∷ rest)) ≡ reads (read_tag t) (flat_map built_tag ts ++ space ∷ rest)
tag_before t [] rest ok = tag_reads_back t rest space ok refl
tag_before t (u ∷ us) rest ok = grind (arith, append_assoc, tag_reads_back)

module _ {X Y : Type 0} (one : List ℕ → Reading Y) (text : X → List ℕ) (read : X → Y) (Admitted : X → Type 0) (after : List X → List ℕ)
    (begins : (x : X) (xs : List X) → after (x ∷ xs) ≡ comma ∷ (text x ++ after xs)) (ends : byte comma (after []) ≡ miss)
    (each : (x : X) (xs : List X) → Admitted x → one (text x ++ after xs) ≡ reads (read x) (after xs)) where
  -- parts after commas read back
  more_read : (xs : List X) (n : ℕ) → AllByRecursion Admitted xs → length xs ≤ n
      → many (after_comma one) n (after xs) ≡ reads (map read xs) (after [])
  more_read [] zero all room = refl
  more_read [] (suc n) all room = rw ends refl
  more_read (x ∷ xs) zero all room = absurd (omega arith)
  more_read (x ∷ xs) (suc n) all room = rw (begins x xs, each x xs all.0, more_read xs n all.1 (omega arith)) refl

  -- the text of a part has at least one byte
  parts_room : (xs : List X) → length xs ≤ length (after xs)
  parts_room [] = omega arith
  parts_room (x ∷ xs) = omega (arith, parts_room xs, ap length (begins x xs), length-append (text x) (after xs))

  -- parts that are joined by commas read back
  joined_read : (x : X) (xs : List X) → Admitted x → AllByRecursion Admitted xs
      → separated_list one (text x ++ after xs) ≡ reads (map read (x ∷ xs)) (after [])
  joined_read x xs ok all = rw (each x xs ok, more_read xs (length (after xs)) all (parts_room xs)) refl

-- the tags of a line read back before its fields
pub tag_set_reads_back : (ts : List Tag) (rest : List ℕ) → AllByRecursion AdmittedTag ts
    → tag_set (flat_map built_tag ts ++ space ∷ rest) ≡ Ok (record { value = read_tags ts; rest = space ∷ rest })
tag_set_reads_back [] rest all = refl
tag_set_reads_back (t ∷ ts) rest all =
    let joined = joined_read tag tag_text read_tag AdmittedTag (λ us. flat_map built_tag us ++ space ∷ rest)
    (λ u us. append_assoc (built_tag u) (flat_map built_tag us) (space ∷ rest)) refl (λ u us ok. tag_before u us rest ok) t ts all.0 all.1 in
    grind (arith, append_assoc)

-- a field reads back before the end, a comma or a space
pub field_reads_back : (f : Field) (rest : List ℕ) → AdmittedField f → Ends rest → field (built_field f ++ rest) ≡ reads (read_field f) rest
unfolding field
field_reads_back f rest ok ends = grind (arith, append_assoc, name_reads_back, value_reads_back)

-- the text after a field is an end if the text after all fields is
fields_end : (fs : List Field) (rest : List ℕ) → Ends rest → Ends (built_fields comma fs ++ rest)
fields_end [] rest ends = ends
fields_end (f ∷ fs) rest ends = refl

-- the text after the fields of a built line does not begin with a comma
timestamp_ends : (dialect : Dialect) (fs : List (Pair Text (Value Text))) (t : Option ℤ)
    → (byte comma (built_timestamp t) ≡ miss) × Ends (built_timestamp t)
    × (without_comma dialect fs (built_timestamp t) ≡ built_timestamp t)
timestamp_ends dialect fs z = grind arith

-- the fields of a line read back before its timestamp
pub field_set_reads_back : (dialect : Dialect) (f : Field) (fs : List Field) (t : Option ℤ) → AdmittedField f
    → AllByRecursion AdmittedField fs
    → field_set dialect (built_field f ++ (built_fields comma fs ++ built_timestamp t)) ≡ reads
    (map read_field (f ∷ fs)) (built_timestamp t)
field_set_reads_back dialect f fs t ok all =
    let ends = timestamp_ends dialect (map read_field (f ∷ fs)) t in
    let joined = joined_read field built_field read_field AdmittedField (λ gs. built_fields comma gs ++ built_timestamp t)
    (λ g gs. ap (λ (xs : List ℕ). comma ∷ xs) (append_assoc (built_field g) (built_fields comma gs) (built_timestamp t))) ends.0
    (λ g gs good. field_reads_back g (built_fields comma gs ++ built_timestamp t) good (fields_end gs (built_timestamp t) ends.1)) f fs ok all in
    rw (joined, ends.2) refl

-- a timestamp at the end of a line reads back
pub timestamp_reads_back : (t : Option ℤ) → IfSome t (λ z. fits_i64 z ≡ true)
    → timestamp (built_timestamp t) ≡ Ok (record { value = t; rest = [] })
timestamp_reads_back None ok = refl
timestamp_reads_back (Some z) ok =
    let written = integer_written z ok in
    let number = signed_decimal z in
    let some : (length number == 0) ≡ false = ne_eqb (length number) 0 (λ e. absurd (omega (arith, written.some))) in
    rw (
      written.no_space,
      (rw append-nil at (written.len [] refl)),
      some,
      take_all (length number) number (omega arith),
      drop_all (length number) number (omega arith),
      written.value,
      ok,
    ) refl

-- the front of a line before a rest is the text before this rest
pub front_is : (line front rest : List ℕ) → line ≡ front ++ rest → front_before line rest ≡ front
front_is line front rest e =
    let n : length (front ++ rest) - length rest ≡ length front = omega (arith, length-append front rest) in
    rw (e, n) (take-append_seam front rest)

-- the measurement reads back before the tags and before the fields
pub measurement_reads_back : (m : List ℕ) (ts : List Tag) (rest : List ℕ) → is_admitted_name a_measurement m ≡ true
    → name a_measurement (spelling a_measurement m ++ (flat_map built_tag ts ++ space ∷ rest)) ≡ reads
    (read_name a_measurement m) (flat_map built_tag ts ++ space ∷ rest)
measurement_reads_back m [] rest ok = name_reads_back a_measurement m rest space ok refl
measurement_reads_back m (t ∷ ts) rest ok = grind (arith, append_assoc, name_reads_back)

-- the readings of all parts of a line give its answer
pub answer_from_parts : (dialect : Dialect) (line front after tagged end : List ℕ) (m : Text)
    (ts : Option (List (Pair Text Text))) (fs : List (Pair Text (Value Text))) (t : Option ℤ)
    → name a_measurement line ≡ reads m tagged
    → tag_set tagged ≡ Ok (record { value = ts; rest = space ∷ after })
    → front_before line (space ∷ after) ≡ front
    → spaces after ≡ 0
    → field_set dialect after ≡ reads fs end
    → timestamp end ≡ Ok (record { value = t; rest = [] })
    → answer dialect line ≡ Ok (record { series = front; measurement = m; tags = ts; fields = fs; timestamp = t })
unfolding answer
answer_from_parts dialect line front after tagged end m ts fs t named tags series gap fields stamped =
    rw (named, tags, gap, fields, stamped, series) refl

-- the line of each admitted point reads back as the point
pub line_reads_back : (dialect : Dialect) (p : Point) → IsAdmitted p → answer dialect (line_of p) ≡ Ok (read_line p)
line_reads_back dialect p ok = ap (answer dialect) (line_parts p)
    ∙ parts_read_back p.measurement p.tags p.fields p.timestamp ok.measurement ok.tags ok.fields ok.some_field ok.timestamp
  where
    -- the parts of an admitted point read back from its line
    parts_read_back : (m : List ℕ) (ts : List Tag) (fs : List Field) (t : Option ℤ)
        → is_admitted_name a_measurement m ≡ true → AllByRecursion AdmittedTag ts → AllByRecursion AdmittedField fs
        → 0 < length fs → IfSome t (λ z. fits_i64 z ≡ true)
        → answer dialect (spelling a_measurement m ++ (flat_map built_tag ts ++ (built_fields space fs ++ built_timestamp t)))
        ≡ Ok (read_line (record { measurement = m; tags = ts; fields = fs; timestamp = t }))
    parts_read_back m ts [] t named tagged fielded some stamped = absurd (omega arith)
    parts_read_back m ts (f ∷ fs) t named tagged fielded some stamped =
        let after = built_field f ++ (built_fields comma fs ++ built_timestamp t) in
        let front = spelling a_measurement m ++ flat_map built_tag ts in
        let line = spelling a_measurement m ++ (flat_map built_tag ts ++ space ∷ after) in
        let regrouped : spelling a_measurement m ++
        (flat_map built_tag ts ++ (built_fields space (f ∷ fs) ++ built_timestamp t)) ≡ line = simp append_assoc in
        ap (answer dialect) regrouped
        ∙ answer_from_parts dialect line front after (flat_map built_tag ts ++ space ∷ after) (built_timestamp t)
        (read_name a_measurement m) (read_tags ts) (map read_field (f ∷ fs)) t
        (measurement_reads_back m ts after named)
        (tag_set_reads_back ts after tagged)
        (front_is line front (space ∷ after) (sym (append_assoc (spelling a_measurement m) (flat_map built_tag ts) (space ∷ after))))
        (ap spaces (append_assoc (spelling a_field_key f.key) (equals ∷ built_value f.value) (built_fields comma fs ++ built_timestamp t))
        ∙ spelled_spaces (admitted_spelled a_field_key f.key fielded.0.0) (admitted_parts a_field_key f.key fielded.0.0).some _)
        (field_set_reads_back dialect f fs t fielded.0 fielded.1)
        (timestamp_reads_back t stamped)
