-- The line of an admitted point is a piece that a newline ends.
use Rattle.std.proofs.Common.{◌≡◌, ◌≢◌, ℕ, ◌+◌, ◌^◌, ◌<◌, List, [], ◌∷◌, ◌++◌, length, Bool, true, false, refl, sym, ap, ◌∙◌, subst}
use Rattle.std.proofs.Common.{arith, inl, inr, append_assoc, Option, Some, None, ℤ, not, codes, decimal, IfSome, flat_map}
use Rattle.std.specs.{List.AllByRecursion, List.list_all, Fmt.signed_decimal}
use Rattle.std.proofs.lemmas.Bool.{cases_Bool, and_parts, and_from}
use Rattle.std.proofs.lemmas.List.Sums.{AllPass-from_list_all, list_all-from_AllPass}
use Rattle.std.specs.List.{AllPass}
use Rattle.std.proofs.lemmas.{Grind.common_steps, Fmt.decimal_is_IsNumeral, List.Folds.list_all-append}
use Rattle.lp_split.specs.code.{Head, Plain, Quoted}
use Rattle.lp_split.proofs.lemmas.split.SplitWalk.{Plain-equals, Plain-comma, Plain-opens, Plain-other, Quoted-closes, Quoted-other}
use Rattle.lp_format.specs.format.{Dialect, Crate, Strict, NewlineDelimited, HasNoNewline, backslash, is_one_of, newline, quote, escaped, a_measurement, a_tag_key, a_tag_value}
use Rattle.lp_format.specs.format.{a_field_key, Value, integer, unsigned, float, string, boolean, quotable, fits_i64}
use Rattle.lp_format.specs.format.{Point, IsPoint, Tag, Field, IsValue, is_admitted_tag, is_admitted_field, is_admitted_point}
use Rattle.lp_format.specs.format.{line_of, built_tag, built_field, built_fields, built_timestamp, built_value, spelling, is_admitted_name}
use Rattle.lp_format.specs.format.{IsCutPiece, begins_comment, Bytes.comma, Bytes.equals, Bytes.letter_i, Bytes.letter_u, Bytes.space}
use Rattle.lp_format.proofs.lemmas.{literals.FloatLemmas.digits_float, literals.FloatLemmas.float_bytes, literals.FloatLemmas.in_float}
use Rattle.lp_format.specs.laws.NamesOfLines.{IsOneLineIn}
use Rattle.lp_format.proofs.lemmas.values.ValueLemmas.{fits_from_test}
use Rattle.lp_lines.proofs.lemmas.names.Spellings.{Leads, leads_by_none, leads_then, turns, reaches_gap, reaches_other, Reaches}
use Rattle.lp_lines.proofs.lemmas.names.Spellings.{reaches_start, ChangesNothing, reaches_byte, reaches_pair, admitted_spelled}
use Rattle.lp_lines.proofs.lemmas.names.Spellings.{measurement_begins, reaches_name, reaches_field_key, BeginsLine, line_no_comment}

-- whether a byte is simple: no backslash, equals sign, comma, newline or quote, which have a meaning in a plain stretch
abbrev pub is_simple : ℕ → Bool
is_simple b = not (is_one_of (backslash ∷ equals ∷ comma ∷ newline ∷ quote ∷ []) b)

-- a simple byte changes nothing in a plain stretch
simple_same : (e c b : ℕ) → is_simple b ≡ true → ChangesNothing Plain e c b
simple_same e c b simple =
    let differs : (k : ℕ) → is_simple k ≡ false → b ≢ k = λ k no i. cc (simple, no, ap is_simple i) in (
      differs backslash refl,
      λ q f h. Plain-other e c q b f (differs equals refl) (differs comma refl) (differs newline refl)
          (λ i. absurd (differs quote refl i)) h,
    )

abbrev pub IsSimple : List ℕ → Type 0
IsSimple text = list_all is_simple text ≡ true

-- two simple texts together are simple
IsSimple-append : (xs ys : List ℕ) → IsSimple xs → IsSimple ys → IsSimple (xs ++ ys)
IsSimple-append xs ys h k = list_all-append is_simple xs ys ∙ and_from _ _ h k

-- a simple text leads from a place in a plain stretch to itself
pub reaches_simple : (e c : ℕ) (text : List ℕ) → IsSimple text → Leads (Reaches Plain e c) (Reaches Plain e c) text
reaches_simple e c [] all = leads_by_none (Reaches Plain e c)
reaches_simple e c (b ∷ text) all =
    let parts = and_parts (is_simple b) (list_all is_simple text) all in
    leads_then (Reaches Plain e c) (b ∷ []) text (reaches_byte Plain e c b (simple_same e c b parts.0)) (reaches_simple e c text parts.1)

-- a text of bytes that a float can hold is simple
pub simple_number : (text : List ℕ) → AllPass in_float text → IsSimple text
simple_number text all =
    list_all-from_AllPass is_simple text (λ i d within. let held = all i d within in grind (arith, common_steps))

-- the decimal text of a number is simple
pub simple_decimal : (n : ℕ) → n < 2 ^ 64 → IsSimple (decimal n)
simple_decimal n fits =
    simple_number (decimal n) (AllPass-from_list_all in_float (decimal n) (digits_float (decimal n) (decimal_is_IsNumeral n fits).0.1))

-- the decimal text of a signed number is simple
pub simple_signed : (z : ℤ) → fits_i64 z ≡ true → IsSimple (signed_decimal z)
simple_signed n fits = grind (arith, fits_from_test, simple_decimal, and_from)

-- the escaped text of a string stays in the quoted stretch
reaches_quotable : (e c : ℕ) (s : List ℕ) → Leads (Reaches Quoted e c) (Reaches Quoted e c) (escaped quotable s)
unfolding escaped
reaches_quotable e c [] = leads_by_none (Reaches Quoted e c)
reaches_quotable e c (b ∷ s) = elim (cases_Bool (is_one_of quotable b)) [
  | inl found ↦
      rw found (leads_then (Reaches Quoted e c) _ (escaped quotable s) (reaches_pair Quoted e c b) (reaches_quotable e c s))
  | inr plain ↦
      let none : b ≢ backslash = λ i. cc (plain, ap (is_one_of quotable) i) in
      let same = reaches_byte Quoted e c b (none, λ q f h. Quoted-other e c q b f (λ i. cc (plain, ap (is_one_of quotable) i)) h) in
      rw plain (leads_then (Reaches Quoted e c) (b ∷ []) (escaped quotable s) same (reaches_quotable e c s))
]

-- a string after an `=` opens a quoted stretch and closes it
reaches_string : (m : ℕ) (s : List ℕ) → Leads (Reaches Plain (m + 1) m) (Reaches Plain (m + 1) m) (built_value (string s))
reaches_string m s = leads_then (Reaches Plain (m + 1) m) (quote ∷ []) _
    (turns Plain (m + 1) m Quoted (m + 1) m quote (omega arith) (λ q f h. Plain-opens (m + 1) m q f (omega arith) h))
    (leads_then (Reaches Plain (m + 1) m) (escaped quotable s) _ (reaches_quotable (m + 1) m s)
    (turns Quoted (m + 1) m Plain (m + 1) m quote (omega arith) (Quoted-closes (m + 1) m)))

-- a value after its `=` stays in the plain stretch
reaches_value : (m : ℕ) (v : Value (List ℕ)) → IsValue v → Leads (Reaches Plain (m + 1) m) (Reaches Plain (m + 1) m) (built_value v)
reaches_value m (integer z) fits = reaches_simple (m + 1) m _ (IsSimple-append (signed_decimal z) (letter_i ∷ []) (simple_signed z fits) refl)
reaches_value m (unsigned n) fits = reaches_simple (m + 1) m _ (IsSimple-append (decimal n) (letter_u ∷ []) (simple_decimal n fits) refl)
reaches_value m (float t) ok = reaches_simple (m + 1) m t (simple_number t (float_bytes t ok))
reaches_value m (string s) ok = reaches_string m s
reaches_value m (boolean true) ok = reaches_simple (m + 1) m (codes "true") refl
reaches_value m (boolean false) ok = reaches_simple (m + 1) m (codes "false") refl

abbrev pub AdmittedTag : Tag → Type 0
AdmittedTag t = (is_admitted_name a_tag_key t.key ≡ true) × (is_admitted_name a_tag_value t.value ≡ true)

abbrev pub AdmittedField : Field → Type 0
AdmittedField f = (is_admitted_name a_field_key f.key ≡ true) × IsValue f.value

-- a field leads to one more `=` than `,`, from as many of both
pub reaches_field : (m : ℕ) (f : Field) → AdmittedField f → Leads (Reaches Plain m m) (Reaches Plain (m + 1) m) (built_field f)
reaches_field m f ok =
    leads_then (Reaches Plain (m + 1) m) (spelling a_field_key f.key) _ (reaches_field_key m (admitted_spelled a_field_key f.key ok.0))
    (leads_then (Reaches Plain (m + 1) m) (equals ∷ []) _ (turns Plain m m Plain (m + 1) m equals (omega arith) (Plain-equals m m))
    (reaches_value m f.value ok.1))

-- a place in a plain stretch after a field: one more `=` than `,` was counted
abbrev pub AfterFields : List ℕ → Type 0
AfterFields piece = (m : ℕ) × Reaches Plain (m + 1) m piece

-- fields after commas lead from a place after a field to a place after a field
pub reaches_fields : (fs : List Field) → AllByRecursion AdmittedField fs → Leads AfterFields AfterFields (built_fields comma fs)
reaches_fields [] all = leads_by_none AfterFields
reaches_fields (f ∷ fs) all = leads_then AfterFields (comma ∷ built_field f) _ (λ q h.
    let m = h.0 + 1 in
    let turn = turns Plain m h.0 Plain m m comma (omega arith) (Plain-comma m h.0) in
    (m, leads_then (Reaches Plain (m + 1) m) (comma ∷ []) _ turn (reaches_field m f all.0) q h.1))
    (reaches_fields fs all.1)

-- a timestamp leads from a place after a field to itself
reaches_timestamp : (t : Option ℤ) → IfSome t (λ z. fits_i64 z ≡ true) → Leads AfterFields AfterFields (built_timestamp t)
reaches_timestamp None ok = leads_by_none AfterFields
reaches_timestamp (Some z) ok = λ piece r. (r.0, reaches_simple (r.0 + 1) r.0 _ (simple_signed z ok) piece r.1)

-- tags stay in the head
pub reaches_tags : (ts : List Tag) → AllByRecursion AdmittedTag ts → Leads (Reaches Head 0 0) (Reaches Head 0 0) (flat_map built_tag ts)
reaches_tags [] all = leads_by_none (Reaches Head 0 0)
reaches_tags (t ∷ ts) all = leads_then (Reaches Head 0 0) (comma ∷ []) _ (reaches_other comma (omega arith) (omega arith) (omega arith))
    (leads_then (Reaches Head 0 0) (spelling a_tag_key t.key ++ equals ∷ spelling a_tag_value t.value) _
    (leads_then (Reaches Head 0 0) (spelling a_tag_key t.key) _ (reaches_name a_tag_key t.key all.0.0)
    (leads_then (Reaches Head 0 0) (equals ∷ []) _ (reaches_other equals (omega arith) (omega arith) (omega arith))
    (reaches_name a_tag_value t.value all.0.1)))
    (reaches_tags ts all.1))

-- a newline can end a text that is after fields, in each dialect
is_cut_piece : (dialect : Dialect) (text : List ℕ) → IsOneLineIn dialect text → begins_comment text ≡ false → AfterFields text
    → IsCutPiece dialect text
is_cut_piece Crate text one none r = grind (arith)
is_cut_piece Strict text one none r = grind (arith)
is_cut_piece NewlineDelimited text one none r = one refl

-- an admitted point: its names are admitted, its values are in range, and it has a field
pub record IsAdmitted (p : Point) : Type 0 where
  pub measurement : is_admitted_name a_measurement p.measurement ≡ true
  pub tags : AllByRecursion AdmittedTag p.tags
  pub fields : AllByRecursion AdmittedField p.fields
  pub some_field : 0 < length p.fields
  pub timestamp : IfSome p.timestamp (λ t. fits_i64 t ≡ true)

-- tags that pass the test are admitted tags
pub admitted_tags : (ts : List Tag) → list_all is_admitted_tag ts ≡ true → AllByRecursion AdmittedTag ts
admitted_tags [] all = tt
admitted_tags (t ∷ ts) all = grind (arith, and_parts, admitted_tags ts)

-- fields that pass the test and have values in range are admitted fields
admitted_fields : (fs : List Field) → list_all is_admitted_field fs ≡ true
    → AllByRecursion (λ f. IsValue f.value) fs → AllByRecursion AdmittedField fs
admitted_fields [] all values = tt
admitted_fields (f ∷ fs) all values = grind (arith, and_parts, admitted_fields fs)

-- a point with values in range that passes the test is an admitted point
pub admitted_point : (p : Point) → IsPoint p → is_admitted_point p ≡ true → IsAdmitted p
unfolding is_admitted_point
admitted_point p h ok = grind (arith, and_parts, admitted_tags, admitted_fields)

-- the line of a point is the text of its measurement, tags, fields and timestamp
pub line_parts : (p : Point) → line_of p ≡ spelling a_measurement p.measurement ++
    (flat_map built_tag p.tags ++ (built_fields space p.fields ++ built_timestamp p.timestamp))
unfolding line_of
line_parts p = simp append_assoc

-- the line of an admitted point is a piece that a newline ends
pub line_is_cut_piece : (dialect : Dialect) (p : Point) → IsAdmitted p → IsOneLineIn dialect (line_of p)
    → IsCutPiece dialect (line_of p)
line_is_cut_piece dialect p ok one = subst (IsCutPiece dialect) (sym (line_parts p))
    (whole p.measurement p.tags p.fields p.timestamp ok.measurement ok.tags ok.fields ok.some_field ok.timestamp
    (λ each. subst HasNoNewline (line_parts p) (one each)))
  where
    -- the text of the parts of an admitted point is a piece that a newline can end
    whole : (n : List ℕ) (ts : List Tag) (fs : List Field) (t : Option ℤ)
        → is_admitted_name a_measurement n ≡ true → AllByRecursion AdmittedTag ts → AllByRecursion AdmittedField fs
        → 0 < length fs → IfSome t (λ z. fits_i64 z ≡ true)
        → IsOneLineIn dialect (spelling a_measurement n ++ (flat_map built_tag ts ++ (built_fields space fs ++ built_timestamp t)))
        → IsCutPiece dialect (spelling a_measurement n ++ (flat_map built_tag ts ++ (built_fields space fs ++ built_timestamp t)))
    whole n ts [] t named tagged fielded some stamped one = absurd (omega arith)
    whole n ts (f ∷ fs) t named tagged fielded some stamped one = is_cut_piece dialect _ one (line_no_comment _ (measurement_begins n _ named))
        (leads_then AfterFields (spelling a_measurement n) _ (reaches_name a_measurement n named)
        (leads_then AfterFields (flat_map built_tag ts) _ (reaches_tags ts tagged)
        (leads_then AfterFields (built_fields space (f ∷ fs)) _
        (leads_then AfterFields (space ∷ []) _ reaches_gap
        (leads_then AfterFields (built_field f) _ (λ q h. (0, reaches_field 0 f fielded.0 q h)) (reaches_fields fs fielded.1)))
        (reaches_timestamp t stamped))) [] reaches_start)

-- the line of an admitted point begins with no blank, no newline and no `#`
pub line_begins : (p : Point) → IsAdmitted p → BeginsLine (line_of p)
line_begins p ok = subst BeginsLine (sym (line_parts p)) (measurement_begins p.measurement _ ok.measurement)
