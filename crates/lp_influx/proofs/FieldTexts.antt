-- Fields as they are spelled, and the two scans of InfluxDB's reader over them.
use Rattle.std.proofs.Common.{◌≡◌, ℕ, ◌+◌, ◌-◌, ◌<◌, ◌≤◌, List, [], ◌∷◌, ◌++◌, length, take, drop, map, Bool, true, false, ◌==◌, ◌||◌, ◌&&◌, refl, sym, ap, ◌∙◌, arith, inl, inr}
use Rattle.std.proofs.Common.{append_assoc, eqb-true, eq-eqb, ne_eqb, nat_lt, lt-ltb, le-ltb, Some, length-append}
use Rattle.std.proofs.Math.Seq.{drop-append_seam, take-append_seam}
use Rattle.std.proofs.lemmas.{Bool.cases_Bool, Bool.and_parts, Bool.false≢true, Bool.not-true}
use Rattle.std.specs.List.{AllByRecursion, list_all}
use Rattle.lp_format.specs.format.{Pair, Text, Value, backslash, comma, ends_in_backslash, equals, is_one_of, quotable, quote, read_text, reads}
use Rattle.lp_format.specs.format.{space, string}
use Rattle.lp_portable.specs.format.Spellings.{AreAfterCommas, holds}
use Rattle.lp_portable.specs.format.Portable.{begins_with}
use Rattle.lp_portable.proofs.HeldBytes.{neither}
use Rattle.lp_influx.specs.format.InfluxFields.{Before, Before.a_backslash, Before.a_byte, Before.a_divider, Before.an_escape, after_fields, has_value, influx_field, influx_fields, influx_string, influx_value}
use Rattle.lp_influx.specs.format.InfluxFields.{is_literal_end, value_text, whole_fields}
use Rattle.lp_influx.proofs.NameFronts.{bare_by, many_reads, until_name}
use Rattle.lp_influx.proofs.Tags.{last_after}
use Rattle.lp_influx.proofs.Strings.{is_body}
use Rattle.lp_influx.proofs.LiteralTexts.{LiteralText, is_plain}

-- the text of a value
pub data IsValueText (text : List ℕ) (v : Value Text) : Type 0 where
  plain_value : LiteralText text v → IsValueText text v
  in_quotes : (body : List ℕ) → is_body false body ≡ true → text ≡ quote ∷ (body ++ quote ∷ []) → v ≡ string (read_text quotable body) → IsValueText text v

-- A field by its spelled key, the text of its value, and the value.
pub record FieldText : Type 0 where
  pub key : List ℕ
  pub text : List ℕ
  pub value : Value Text

-- A field text of a portable line.
pub record IsFieldText (f : FieldText) : Type 0 where
  pub some : 0 < length f.key
  pub pairs : holds (backslash ∷ []) [] f.key ≡ false
  pub bare_bytes : holds [] (equals ∷ comma ∷ space ∷ []) f.key ≡ false
  pub last : ends_in_backslash f.key ≡ false
  pub is_value : IsValueText f.text f.value

-- fields after commas, and this after them
abbrev pub after_commas : List FieldText → List ℕ → List ℕ
after_commas [] rest = rest
after_commas (f ∷ fs) rest = comma ∷ (f.key ++ equals ∷ (f.text ++ after_commas fs rest))

-- Two different bytes are different in the other order too.
pub flip : (a b : ℕ) → (a == b) ≡ false → (b == a) ≡ false
flip a b h = ne_eqb b a (λ is. false≢true (sym h ∙ eq-eqb a b (sym is)))

-- The thing before a key: a comma or the gap, or a byte of the key.
abbrev pub start : Bool → Before
start true = a_divider
start false = a_byte

module _ (n : ℕ) where
  -- A quote opens no string if as many commas as equals signs came before it.
  no_string : (b : ℕ) → (b == quote && nat_lt n n) ≡ false
  no_string b = elim (cases_Bool (b == quote)) [
    | inl is ↦ rw is (le-ltb n n (omega arith))
    | inr other ↦ rw other refl
  ]

  -- a byte of a key is passed over
  step : (b : ℕ) (rest : List ℕ) (g : Bool) → (b == backslash) ≡ false → is_one_of (equals ∷ comma ∷ space ∷ []) b ≡ false
      → after_fields n n false (start g) (b ∷ rest) ≡ after_fields n n false a_byte rest
  unfolding after_fields
  step b rest true plain none =
      let sign = neither (equals == b) (comma == b || (space == b || false)) none in
      let mark = neither (comma == b) (space == b || false) sign.1 in
      let gap = neither (space == b) false mark.1 in
      rw (plain, no_string b, flip equals b sign.0, flip space b gap.0, flip comma b mark.0) refl
  step b rest false plain none =
      let sign = neither (equals == b) (comma == b || (space == b || false)) none in
      let mark = neither (comma == b) (space == b || false) sign.1 in
      let gap = neither (space == b) false mark.1 in
      rw (plain, no_string b, flip equals b sign.0, flip space b gap.0, flip comma b mark.0) refl

  -- The first scan passes a backslash and the byte after it.
  pair_step : (b : ℕ) (rest : List ℕ) (g : Bool) → (b == backslash) ≡ false
      → after_fields n n false (start g) (backslash ∷ b ∷ rest) ≡ after_fields n n false a_byte rest
  unfolding after_fields
  pair_step b rest true plain = rw plain refl
  pair_step b rest false plain = rw plain refl

  -- The first scan passes a key that is not empty at its start.
  key_scan : (key rest : List ℕ) (g : Bool) → (g ≡ true → 0 < length key) → holds (backslash ∷ []) [] key ≡ false
      → holds [] (equals ∷ comma ∷ space ∷ []) key ≡ false → ends_in_backslash key ≡ false
      → after_fields n n false (start g) (key ++ rest) ≡ after_fields n n false a_byte rest
  unfolding holds
  key_scan [] rest true some pairs bare last = absurd (omega (arith, some refl))
  key_scan [] rest false some pairs bare last = refl
  key_scan (b ∷ []) rest g some pairs bare last = step b rest g last bare
  key_scan (b ∷ c ∷ key) rest g some pairs bare last = elim (cases_Bool (b == backslash)) [
    | inl slash ↦
        let is = eqb-true b backslash slash in
        let pair = neither (is_one_of (backslash ∷ []) c) (holds (backslash ∷ []) [] key) (rw slash at pairs) in
        let plain = flip backslash c (neither (backslash == c) false pair.0).0 in
        rw is (pair_step c (key ++ rest) g plain)
        ∙ key_scan key rest false (λ e. absurd (false≢true e)) pair.1 (rw slash at bare) (last_after c key (last_after b (c ∷ key) last))
    | inr plain ↦
        let here = neither (is_one_of (equals ∷ comma ∷ space ∷ []) b) (holds [] (equals ∷ comma ∷ space ∷ []) (c ∷ key)) (rw plain at bare) in
        step b (c ∷ (key ++ rest)) g plain here.0
        ∙ key_scan (c ∷ key) rest false (λ e. absurd (false≢true e)) (rw plain at pairs) here.1 (last_after b (c ∷ key) last)
  ]

module _ (signs commas : ℕ) where
  -- plain bytes are passed over
  plain_scan : (text rest : List ℕ) → list_all is_plain text ≡ true
      → after_fields signs commas false a_byte (text ++ rest) ≡ after_fields signs commas false a_byte rest
  unfolding after_fields
  plain_scan [] rest all = refl
  plain_scan (b ∷ text) rest all =
      let both = and_parts (is_plain b) (list_all is_plain text) all in
      let none = not-true (is_one_of (backslash ∷ quote ∷ equals ∷ comma ∷ space ∷ []) b) both.0 in
      let slash = neither (backslash == b) (quote == b || (equals == b || (comma == b || (space == b || false)))) none in
      let mark = neither (quote == b) (equals == b || (comma == b || (space == b || false))) slash.1 in
      let sign = neither (equals == b) (comma == b || (space == b || false)) mark.1 in
      let divides = neither (comma == b) (space == b || false) sign.1 in
      let gap = neither (space == b) false divides.1 in
      rw (flip backslash b slash.0, flip quote b mark.0, flip equals b sign.0, flip space b gap.0, flip comma b divides.0) (plain_scan text rest both.1)

  -- The thing before a byte in quotes.
  abbrev quoted_before : Bool → Bool → Before
  quoted_before true slash = an_escape
  quoted_before false true = a_backslash
  quoted_before false false = a_byte

  -- The first scan passes the body of a string and the quote that closes it.
  body_scan : (body rest : List ℕ) (escaped slash : Bool) → nat_lt commas signs ≡ true → is_body escaped body ≡ true
      → after_fields signs commas true (quoted_before escaped slash) (body ++ quote ∷ rest) ≡ after_fields signs commas false a_byte rest
  unfolding after_fields
  body_scan [] rest true slash more is = absurd (false≢true is)
  body_scan [] rest false true more is = rw more refl
  body_scan [] rest false false more is = rw more refl
  body_scan (b ∷ body) rest true slash more is = elim (cases_Bool (b == backslash)) [
    | inl here ↦ rw here (body_scan body rest false true more is)
    | inr other ↦ rw other (body_scan body rest false false more is)
  ]
  body_scan (b ∷ body) rest false true more is = elim (cases_Bool (b == quote)) [
    | inl here ↦ absurd (false≢true (rw here at is))
    | inr inside ↦ elim (cases_Bool (b == backslash)) [
      | inl here ↦ rw here (body_scan body rest true false more (rw (inside, here) at is))
      | inr plain ↦ rw (plain, inside) (body_scan body rest false false more (rw (inside, plain) at is))
    ]
  ]
  body_scan (b ∷ body) rest false false more is = elim (cases_Bool (b == quote)) [
    | inl here ↦ absurd (false≢true (rw here at is))
    | inr inside ↦ elim (cases_Bool (b == backslash)) [
      | inl here ↦ rw here (body_scan body rest true false more (rw (inside, here) at is))
      | inr plain ↦ rw (plain, inside) (body_scan body rest false false more (rw (inside, plain) at is))
    ]
  ]

  -- The first scan passes a value.
  value_scan : (text rest : List ℕ) (v : Value Text) → nat_lt commas signs ≡ true → IsValueText text v
      → after_fields signs commas false a_byte (text ++ rest) ≡ after_fields signs commas false a_byte rest
  unfolding after_fields
  value_scan text rest v more (plain_value l) = plain_scan text rest l.plain
  value_scan text rest v more (in_quotes body is whole reads_it) =
      rw (whole, append_assoc body (quote ∷ []) rest, more) (body_scan body rest false false more is)

-- a text after which a value ends is there
or_true : (b : Bool) → (b || true) ≡ true
or_true true = refl
or_true false = refl

-- a value is there
value_there : (text rest : List ℕ) (v : Value Text) → is_literal_end rest ≡ true → IsValueText text v → has_value (text ++ rest) ≡ true
value_there text rest v ends (plain_value l) = rw (l.reads_it rest ends) (or_true (begins_with quote (text ++ rest)))
value_there text rest v ends (in_quotes body is whole reads_it) = rw whole refl

-- The text after the fields of a line: nothing, or a space and more.
pub data IsAfterFields : List ℕ → Type 0 where
  nothing : IsAfterFields []
  a_space : (rest : List ℕ) → IsAfterFields (space ∷ rest)

-- each value of fields that commas join ends there
ends_there : (fs : List FieldText) (rest : List ℕ) → IsAfterFields rest → is_literal_end (after_commas fs rest) ≡ true
ends_there [] _ nothing = refl
ends_there [] _ (a_space rest) = refl
ends_there (f ∷ fs) rest is = refl

-- the first scan passes over a field
field_scan : (n : ℕ) (f : FieldText) (rest : List ℕ) (g : Bool) → IsFieldText f → is_literal_end rest ≡ true
    → after_fields n n false (start g) (f.key ++ equals ∷ (f.text ++ rest)) ≡ after_fields (n + 1) n false a_byte rest
unfolding after_fields
field_scan n f rest g is ends =
    let text = f.text ++ rest in
    let sign : after_fields n n false a_byte (equals ∷ text) ≡ after_fields (n + 1) n false a_byte text = rw (value_there f.text rest f.value ends is.is_value) refl in
    key_scan n f.key (equals ∷ text) g (λ e. is.some) is.pairs is.bare_bytes is.last ∙ sign
    ∙ value_scan (n + 1) n f.text rest f.value (lt-ltb n (n + 1) (omega arith)) is.is_value

-- The first scan passes all fields.
pub fields_scan : (n : ℕ) (f : FieldText) (fs : List FieldText) (rest : List ℕ) (g : Bool) → AllByRecursion IsFieldText (f ∷ fs) → IsAfterFields rest
    → after_fields n n false (start g) (f.key ++ equals ∷ (f.text ++ after_commas fs rest)) ≡ Some rest
unfolding after_fields
fields_scan n f [] _ g all nothing = field_scan n f [] g all.0 refl ∙ rw (eq-eqb (n + 1) (n + 1) refl) refl
fields_scan n f [] _ g all (a_space rest) = field_scan n f (space ∷ rest) g all.0 refl ∙ rw (eq-eqb (n + 1) (n + 1) refl) refl
fields_scan n f (h ∷ fs) rest g all is =
    field_scan n f (after_commas (h ∷ fs) rest) g all.0 refl ∙ fields_scan (n + 1) h fs rest true all.1 is

-- The text after a field in the second scan: nothing, or a comma and more.
data IsAfterField : List ℕ → Type 0 where
  nothing_more : IsAfterField []
  one_more : (rest : List ℕ) → IsAfterField (comma ∷ rest)

-- a literal ends there
ends_literal : (rest : List ℕ) → IsAfterField rest → is_literal_end rest ≡ true
ends_literal _ nothing_more = refl
ends_literal _ (one_more rest) = refl

-- a value ends before what follows it
body_text : (body rest : List ℕ) (escaped : Bool) → is_body escaped body ≡ true → IsAfterField rest
    → value_text true escaped (body ++ quote ∷ rest) ≡ body ++ quote ∷ []
unfolding value_text
body_text [] rest true is after = absurd (false≢true is)
body_text [] _ false is nothing_more = refl
body_text [] _ false is (one_more rest) = refl
body_text (b ∷ body) rest true is after = ap (λ (t : List ℕ). b ∷ t) (body_text body rest false is after)
body_text (b ∷ body) rest false is after = elim (cases_Bool (b == quote)) [
  | inl here ↦ absurd (false≢true (rw here at is))
  | inr inside ↦ rw inside (ap (λ (t : List ℕ). b ∷ t) (body_text body rest (b == backslash) (rw inside at is) after))
]

-- a string is read
string_reads : (body rest : List ℕ) → is_body false body ≡ true → IsAfterField rest
    → influx_string (quote ∷ (body ++ quote ∷ rest)) ≡ reads (string (read_text quotable body)) rest
unfolding value_text
string_reads body rest is after =
    let front = quote ∷ (body ++ quote ∷ []) in
    let whole : front ++ rest ≡ quote ∷ (body ++ quote ∷ rest) = ap (λ (t : List ℕ). quote ∷ t) (append_assoc body (quote ∷ []) rest) in
    let len : length (body ++ quote ∷ []) ≡ length body + 1 = length-append body (quote ∷ []) in
    let long : nat_lt (length front) 2 ≡ false = le-ltb (length front) 2 (omega (arith, len)) in
    let n : length front - 2 ≡ length body = omega (arith, len) in
    let end : drop (length front) (quote ∷ (body ++ quote ∷ rest)) ≡ rest = ap (λ (t : List ℕ). drop (length front) t) (sym whole) ∙ drop-append_seam front rest in
    rw (body_text body rest false is after, long, n, take-append_seam body (quote ∷ []), end) refl

-- The second scan reads a value.
value_reads : (text rest : List ℕ) (v : Value Text) → IsValueText text v → IsAfterField rest → influx_value (text ++ rest) ≡ reads v rest
unfolding influx_value
value_reads text rest v (plain_value l) after = rw (no_quote text l.some l.plain, l.reads_it rest (ends_literal rest after)) refl
  where
    -- a literal begins with no quote
    no_quote : (text : List ℕ) → 0 < length text → list_all is_plain text ≡ true → begins_with quote (text ++ rest) ≡ false
    no_quote [] some all = absurd (omega arith)
    no_quote (b ∷ text) some all =
        let here = not-true (is_one_of (backslash ∷ quote ∷ equals ∷ comma ∷ space ∷ []) b) (and_parts (is_plain b) (list_all is_plain text) all).0 in
        let mark = neither (quote == b) (equals == b || (comma == b || (space == b || false)))
        (neither (backslash == b) (quote == b || (equals == b || (comma == b || (space == b || false)))) here).1 in
        flip quote b mark.0
value_reads text rest v (in_quotes body is whole reads_it) after =
    rw (whole, append_assoc body (quote ∷ []) rest, string_reads body rest is after, reads_it) refl

-- a field, as it is read
abbrev pub read_of : FieldText → Pair (List ℕ) (Value Text)
read_of f = record { key = f.key; value = f.value }

-- the second scan reads a field
field_reads : (f : FieldText) (rest : List ℕ) → IsFieldText f → IsAfterField rest
    → influx_field (f.key ++ equals ∷ (f.text ++ rest)) ≡ reads (read_of f) rest
field_reads f rest is after =
    let bare = bare_by (equals ∷ comma ∷ space ∷ []) (equals ∷ comma ∷ space ∷ []) (equals ∷ []) f.key
    (λ b h k. rw (neither (equals == b) (comma == b || (space == b || false)) h).0 refl) is.bare_bytes is.bare_bytes in
    rw (until_name (equals ∷ []) f.key (f.text ++ rest) equals refl refl is.pairs bare is.last, drop-append_seam f.key (equals ∷ (f.text ++ rest)), value_reads f.text rest f.value is.is_value after) refl

-- fields after commas are read so
after_reads : (fs : List FieldText) → AllByRecursion IsFieldText fs → AreAfterCommas influx_field (map read_of fs) (after_commas fs []) []
after_reads [] all = refl
after_reads (f ∷ fs) all = (after_commas fs [], field_reads f (after_commas fs []) all.0 (next fs), after_reads fs all.1)
  where
    -- a comma comes next, or nothing
    next : (fs : List FieldText) → IsAfterField (after_commas fs [])
    next [] = nothing_more
    next (f ∷ fs) = one_more _

-- The fields after commas are no more than the bytes of their text.
after_fewer : (fs : List FieldText) → length (map read_of fs) ≤ length (after_commas fs [])
after_fewer [] = omega arith
after_fewer (f ∷ fs) =
    omega (arith, after_fewer fs, length-append f.key (equals ∷ (f.text ++ after_commas fs [])), length-append f.text (after_commas fs []))

-- the second scan reads all
pub fields_read : (f : FieldText) (fs : List FieldText) → AllByRecursion IsFieldText (f ∷ fs)
    → whole_fields (f.key ++ equals ∷ (f.text ++ after_commas fs [])) ≡ Some (map read_of (f ∷ fs))
fields_read f fs all =
    let rest = after_commas fs [] in
    let others = after_reads fs all.1 in
    let more = many_reads influx_field (map read_of fs) (length rest) rest [] (after_fewer fs) others refl in
    rw (field_reads f rest all.0 (next fs), more) refl
  where
    -- a comma comes next, or nothing
    next : (fs : List FieldText) → IsAfterField (after_commas fs [])
    next [] = nothing_more
    next (f ∷ fs) = one_more _

-- The text of fields before a rest is the text of these fields and the rest.
joined_end : (fs : List FieldText) (rest : List ℕ) → after_commas fs rest ≡ after_commas fs [] ++ rest
joined_end [] rest = refl
joined_end (f ∷ fs) rest =
    ap (λ (t : List ℕ). comma ∷ t) (rw (joined_end fs rest, append_assoc f.key (equals ∷ (f.text ++ after_commas fs [])) rest, append_assoc f.text (after_commas fs []) rest) refl)

-- both scans read the fields of a text
pub influx_fields_read : (gap : ℕ) (f : FieldText) (fs : List FieldText) (rest : List ℕ) → AllByRecursion IsFieldText (f ∷ fs) → IsAfterFields rest
    → influx_fields gap (f.key ++ equals ∷ (f.text ++ after_commas fs rest)) ≡ reads (map read_of (f ∷ fs)) rest
influx_fields_read gap f fs rest all is =
    let text = f.key ++ equals ∷ (f.text ++ after_commas fs rest) in
    let front = f.key ++ equals ∷ (f.text ++ after_commas fs []) in
    let whole : front ++ rest ≡ text = rw (append_assoc f.key (equals ∷ (f.text ++ after_commas fs [])) rest, append_assoc f.text (after_commas fs []) rest, ← joined_end fs rest) refl in
    let n : length text - length rest ≡ length front = omega (arith, ap length whole, length-append front rest) in
    let block : take (length text - length rest) text ≡ front = rw (n, ← whole) (take-append_seam front rest) in
    elim (cases_Bool (gap == space)) [
      | inl here ↦ rw (here, fields_scan 0 f fs rest true all is, block, fields_read f fs all) refl
      | inr other ↦ rw (other, fields_scan 0 f fs rest false all is, block, fields_read f fs all) refl
    ]
