-- A line that is noted to its end, of a plain text, breaks no clause.
use Rattle.std.proofs.Common.{◌≡◌, ℕ, pos, negsuc, ◌+◌, ◌≤◌, ◌==◌, ◌||◌, Bool, true, false, not, List, [], ◌∷◌, ◌++◌, length, map, codes, nat_lt}
use Rattle.std.proofs.Common.{bytes_eq, Ok, refl, sym, ◌∙◌, ap, subst, arith, length-append, ne_eqb, ◌-◌, slice_index, slice_index_or}
use Rattle.std.specs.{List.AllByRecursion, List.list_any}
use Rattle.std.proofs.lemmas.{Bool.and_parts, Bool.eqb-false, Bool.le-ltb, Bool.false≢true, Bool.not-true, List.Folds.list_any-append}
use Rattle.lp_format.specs.format.{Line, Pair, Strict, Text, Value, backslash, comma, equals, hash, is_one_of, logical, logical_tag, newline, nul, quote, some_tags}
use Rattle.lp_format.specs.format.{a_field_key, space, tab, trimmed, without_escapes}
use Rattle.lp_portable.specs.declared.broken.Clause.{Clause}
use Rattle.memchr.specs.Find.{is_byte3}
use Rattle.lp_portable.specs.code.Marks.{held, is_special}
use Rattle.lp_portable.proofs.MarksCounted.{BareNames, bare_names, cuts_special, held_nowhere, none_held, some_read}
use Rattle.lp_format.proofs.lemmas.line.TrimLemmas.{trimmed_is_after}
use Rattle.lp_portable.specs.declared.limits.Limits as code
use Rattle.lp_portable.specs.{code.Clauses.Breaks, code.Clauses.clause_of, code.Clauses.is_broken, code.Clauses.limits_of}
use Rattle.lp_portable.proofs.{Lines.line_is_read, Lines.no_mark_cut, LinesSpelled.line_spelled}
use Rattle.lp_portable.specs.code.Sure.{IsBare, IsLineNoted, LineNoted, Noted, SureField, SureTag, begins_own, is_sure_key, is_sure_tag, is_sure_value, broken_by_noted}
use Rattle.lp_portable.specs.format.Portable as format
use Rattle.lp_portable.specs.format.Portable.{Limits, begins_with_nul, breaks, has_bare_comma, has_comma, has_control, has_escape, is_rounded, has_marked_escape}
use Rattle.lp_portable.specs.format.Portable.{has_repeats, has_sign, holds_text, is_finite, is_hundreds, is_long_after, is_outside, is_system_key, is_system_measurement}
use Rattle.lp_portable.specs.format.Portable.{is_unsigned}
use Rattle.lp_portable.specs.format.Spellings.{IsSpelled, Spelling, holds}
use Rattle.lp_portable.specs.laws.PortableLaws.{logical_names}
use Rattle.std.proofs.Common.{take, take-append-drop}
use Rattle.lp_format.specs.format.{answer}
use Rattle.lp_lines.proofs.lemmas.names.ParsedNames.{answer_parts}
use Rattle.lp_portable.proofs.{PlainNames.names_have, Spelled.any_map, SpellingsRead.spellings_are_read}

-- a text without this byte
abbrev pub Lacks : ℕ → List ℕ → Type 0
Lacks b text = is_one_of text b ≡ false

-- neither of two
or_none : (a b : Bool) → (a || b) ≡ false → (a ≡ false) × (b ≡ false)
or_none true b h = absurd (false≢true (sym h))
or_none false b h = (refl, h)

-- both parts of a text lack it
lacks_parts : (b : ℕ) (xs ys : List ℕ) → Lacks b (xs ++ ys) → Lacks b xs × Lacks b ys
lacks_parts b xs ys h = or_none _ _ (sym (list_any-append (λ c. c == b) xs ys) ∙ h)

-- a short text without bytes that mean something to a server
pub record PlainText (text : List ℕ) : Type 0 where
  pub no_backslash : Lacks backslash text
  pub no_quote : Lacks quote text
  pub no_nul : Lacks nul text
  pub no_return : Lacks 13 text
  pub no_hash : Lacks hash text
  pub short : length text ≤ 8000

-- Both parts of a plain text are plain.
pub plain_parts : (xs ys : List ℕ) → PlainText (xs ++ ys) → PlainText xs × PlainText ys
plain_parts xs ys h =
    let a = lacks_parts backslash xs ys h.no_backslash in
    let b = lacks_parts quote xs ys h.no_quote in
    let c = lacks_parts nul xs ys h.no_nul in
    let d = lacks_parts 13 xs ys h.no_return in
    let e = lacks_parts hash xs ys h.no_hash in
    let n = length-append xs ys in (
      record { no_backslash = a.0; no_quote = b.0; no_nul = c.0; no_return = d.0; no_hash = e.0; short = omega (arith, n, h.short) },
      record { no_backslash = a.1; no_quote = b.1; no_nul = c.1; no_return = d.1; no_hash = e.1; short = omega (arith, n, h.short) },
    )

-- A text without a backslash is its own logical text.
own_logical : (known text : List ℕ) → Lacks backslash text → without_escapes known text ≡ text
unfolding without_escapes
own_logical known [] h = refl
own_logical known (b ∷ []) h = refl
own_logical known (b ∷ c ∷ rest) h =
    let parts = or_none (b == backslash) _ h in
    rw parts.0 (ap (λ (xs : List ℕ). b ∷ xs) (own_logical known (c ∷ rest) parts.1))

-- A text without a backslash holds some bytes exactly if it holds them bare: it holds nothing escaped.
holds_bare : (escaped marks text : List ℕ) → Lacks backslash text → holds escaped marks text ≡ list_any (is_one_of marks) text
unfolding holds
holds_bare escaped marks [] h = refl
holds_bare escaped marks (b ∷ []) h = sym (or_false (is_one_of marks b))
  where
    -- A test or `false` is the test.
    or_false : (x : Bool) → (x || false) ≡ x
    or_false true = refl
    or_false false = refl
holds_bare escaped marks (b ∷ c ∷ rest) h =
    let parts = or_none (b == backslash) _ h in
    rw parts.0 (ap (λ (x : Bool). is_one_of marks b || x) (holds_bare escaped marks (c ∷ rest) parts.1))

-- No byte of a text is among no bytes.
none_of_none : (text : List ℕ) → list_any (is_one_of []) text ≡ false
none_of_none [] = refl
none_of_none (b ∷ text) = none_of_none text

-- A text that lacks a byte holds no byte of the list of this byte alone.
one_alone : (m : ℕ) (text : List ℕ) → Lacks m text → list_any (is_one_of (m ∷ [])) text ≡ false
one_alone m [] h = refl
one_alone m (b ∷ text) h =
    let parts = or_none (b == m) _ h in rw (ne_eqb m b (λ e. eqb-false b m parts.0 (sym e))) (one_alone m text parts.1)

-- a tag that breaks nothing
pub record GoodTag (t : Pair Text Text) : Type 0 where
  pub key : PlainText t.key.bytes
  pub val : PlainText t.value.bytes
  pub no_comma : Lacks comma t.key.bytes
  pub no_sign : Lacks equals t.value.bytes
  pub sure : is_sure_tag t.key.bytes ≡ true

-- a field that does not
pub record GoodField (f : Pair Text (Value Text)) : Type 0 where
  pub key : PlainText f.key.bytes
  pub no_comma : Lacks comma f.key.bytes
  pub name : is_sure_key f.key.bytes ≡ true
  pub val : is_sure_value f.value ≡ true

-- a test that fails of each
any_none : {X : Type 0} (p : X → Bool) (P : X → Type 0) → ((x : X) → P x → p x ≡ false) → (xs : List X) → AllByRecursion P xs → list_any p xs ≡ false
any_none p P fails [] all = refl
any_none p P fails (x ∷ xs) all = rw (fails x all.0) (any_none p P fails xs all.1)

-- A sure key begins with no underscore and is not `time`.
key_parts : (k : List ℕ) → is_sure_key k ≡ true → (begins_own k ≡ false) × (bytes_eq k (codes "time") ≡ false)
key_parts k h =
    let one = and_parts (not (begins_own k)) _ h in
    (not-true _ one.0, not-true _ one.1)

-- The key of a sure tag is not too long, begins with no underscore and is not `time`.
tag_parts : (k : List ℕ) → is_sure_tag k ≡ true → (nat_lt 256 (length k) ≡ false) × (begins_own k ≡ false) × (bytes_eq k (codes "time") ≡ false)
tag_parts k h =
    let one = and_parts (not (nat_lt 256 (length k))) _ h in
    let two = key_parts k one.1 in
    (not-true _ one.0, two.0, two.1)

-- A sure value is no unsigned integer, is not rounded and is finite.
value_parts : (v : Value Text) → is_sure_value v ≡ true → (is_unsigned v ≡ false) × (is_rounded v ≡ false) × (is_finite v ≡ true)
value_parts v h =
    let one = and_parts (not (is_unsigned v)) _ h in
    let two = and_parts (not (is_rounded v)) _ one.1 in
    (not-true _ one.0, not-true _ two.0, two.1)

-- a name that begins with no underscore is no other that does
no_own : (w name : List ℕ) → begins_own name ≡ false → bytes_eq name (95 ∷ w) ≡ false
no_own w [] h = refl
no_own w (b ∷ name) h = rw h refl

-- a text without `#` holds none that begins with it
no_hash_text : (w text : List ℕ) → Lacks hash text → holds_text (hash ∷ w) text ≡ false
no_hash_text w [] h = refl
no_hash_text w (b ∷ text) h =
    let parts = or_none (b == hash) _ h in
    rw (ne_eqb hash b (λ e. eqb-false b hash parts.0 (sym e)), no_hash_text w text parts.1) refl

-- a text without either byte
no_control : (text : List ℕ) → Lacks nul text → Lacks 13 text → has_control text ≡ false
no_control [] h k = refl
no_control (b ∷ text) h k =
    let a = or_none (b == nul) _ h in
    let c = or_none (b == 13) _ k in
    rw (ne_eqb nul b (λ e. eqb-false b nul a.0 (sym e)), ne_eqb 13 b (λ e. eqb-false b 13 c.0 (sym e))) (no_control text a.1 c.1)

-- At most 29 tags are fewer than the tags that make InfluxDB panic.
few_hundreds : (n : ℕ) → n ≤ 29 → is_hundreds n ≡ false
few_hundreds n few = rw (
  ne_eqb 100 n (λ e. omega (arith, e, few)),
  ne_eqb 200 n (λ e. omega (arith, e, few)),
  ne_eqb 400 n (λ e. omega (arith, e, few)),
  ne_eqb 800 n (λ e. omega (arith, e, few)),
  ne_eqb 1600 n (λ e. omega (arith, e, few)),
  ne_eqb 3200 n (λ e. omega (arith, e, few)),
  ne_eqb 6400 n (λ e. omega (arith, e, few)),
  ne_eqb 12800 n (λ e. omega (arith, e, few)),
) refl

-- The logical texts of plain names of tags are these names.
tags_same : (names : List (Pair (List ℕ) (List ℕ))) → AllByRecursion (λ t. PlainText t.key × PlainText t.value) names → map logical_names names ≡ names
tags_same [] all = refl
tags_same (t ∷ names) all = rw (
  own_logical _ t.key all.0.0.no_backslash,
  own_logical _ t.value all.0.1.no_backslash,
  tags_same names all.1,
) refl

-- The logical texts of plain field keys are these keys.
keys_same : (keys : List (List ℕ)) → AllByRecursion PlainText keys → map (logical a_field_key) keys ≡ keys
keys_same [] all = refl
keys_same (k ∷ keys) all = rw (own_logical _ k all.0.no_backslash, keys_same keys all.1) refl

-- the names of a tag that are plain, and bare where that counts
abbrev IsGoodNames : Pair (List ℕ) (List ℕ) → Type 0
IsGoodNames t = (PlainText t.key × PlainText t.value) × (Lacks comma t.key × Lacks equals t.value)

-- If all elements of a list have two properties, each element has both.
both_are : {A : Type 0} (P Q : A → Type 0) (xs : List A) → AllByRecursion P xs → AllByRecursion Q xs → AllByRecursion (λ x. P x × Q x) xs
both_are P Q [] p q = tt
both_are P Q (x ∷ xs) p q = ((p.0, q.0), both_are P Q xs p.1 q.1)

-- Tags with good names that are sure break no clause.
good_tags : (tags : List (Pair Text Text)) → AllByRecursion IsGoodNames (map logical_tag tags) → AllByRecursion SureTag tags
    → AllByRecursion GoodTag tags
good_tags [] plain sure = tt
good_tags (t ∷ tags) plain sure = (
  record { key = plain.0.0.0; val = plain.0.0.1; no_comma = plain.0.1.0; no_sign = plain.0.1.1; sure = sure.0.tag },
  good_tags tags plain.1 sure.1,
)

-- fields that break nothing
good_fields : (fields : List (Pair Text (Value Text))) → AllByRecursion (λ k. PlainText k × Lacks comma k) (map (λ f. f.key.bytes) fields)
    → AllByRecursion SureField fields → AllByRecursion GoodField fields
good_fields [] plain sure = tt
good_fields (f ∷ fields) plain sure =
    (record { key = plain.0.0; no_comma = plain.0.1; name = sure.0.key; val = sure.0.value }, good_fields fields plain.1 sure.1)

-- both are not
either_none : {a b : Bool} → a ≡ false → b ≡ false → (a || b) ≡ false
either_none h k = rw h k

-- A measurement that begins with no underscore is no measurement of the server's own.
no_system : (name : List ℕ) → begins_own name ≡ false → is_system_measurement name ≡ false
no_system name h = rw (
  no_own (codes "series") name h,
  no_own (codes "fieldKeys") name h,
  no_own (codes "tagKeys") name h,
  no_own (codes "measurements") name h,
  no_own (codes "name") name h,
  no_own (codes "tagKey") name h,
  no_own (codes "tags") name h,
) refl

-- A field key that begins with no underscore is no field key of the server's own.
no_system_key : (key : List ℕ) → begins_own key ≡ false → is_system_key key ≡ false
no_system_key key h = rw (
  no_own (codes "name") key h,
  no_own (codes "tagKey") key h,
  no_own (codes "tagValue") key h,
  no_own (codes "fieldKey") key h,
  no_own (codes "seriesKey") key h,
) refl

-- The first field key does not begin with a byte 0, if the fields are good.
no_nul : (fields : List (Pair Text (Value Text))) → AllByRecursion GoodField fields → begins_with_nul fields ≡ false
no_nul [] all = refl
no_nul (f ∷ fields) all = first f.key.bytes all.0.key.no_nul
  where
    -- A key that lacks the byte 0 does not begin with it.
    first : (key : List ℕ) → Lacks nul key → format.begins_with nul key ≡ false
    first [] h = refl
    first (b ∷ key) h = (or_none (b == nul) _ h).0

-- Facts about a plain text whose line is noted to its end.
pub record PlainLine (text : List ℕ) (line : Line) (names : Spelling) : Type 0 where
  pub begins : is_one_of (space ∷ tab ∷ []) (slice_index_or text 0 0) ≡ false
  pub ends : (slice_index text (length text - 1) == space) ≡ false
  pub no_newline : Lacks newline text
  pub short : length text ≤ 8000
  pub measurement : PlainText line.measurement.bytes
  pub own : begins_own line.measurement.bytes ≡ false
  pub measurement_is : names.measurement ≡ line.measurement.bytes
  pub tags : AllByRecursion GoodTag (some_tags line.tags)
  pub tags_are : names.tags ≡ map logical_tag (some_tags line.tags)
  pub tags_once : has_repeats (map (λ t. t.key.bytes) (some_tags line.tags)) ≡ false
  pub few : length (some_tags line.tags) ≤ 29
  pub fields : AllByRecursion GoodField line.fields
  pub keys_are : names.keys ≡ map (λ f. f.key.bytes) line.fields
  pub fields_once : has_repeats (map (λ f. f.key.bytes) line.fields) ≡ false
  pub series : PlainText line.series

-- A plain line breaks only clauses about its time, its tags and its length, and the notes have these facts.
pub plain_breaks : (limits : code.Limits) (text : List ℕ) (line : Line) (names : Spelling) (n : Noted) → PlainLine text line names
    → length (some_tags line.tags) ≡ n.tags → line.timestamp ≡ n.timestamp
    → (clause : Clause) → breaks (limits_of limits) text line names (clause_of clause) ≡ is_broken (broken_by_noted limits text n.tags n.timestamp) clause
plain_breaks limits text line names n h tags time Clause.LeadingBlank =
    h.begins
plain_breaks limits text line names n h tags time Clause.TrailingSpace =
    h.ends
plain_breaks limits text line names n h tags time Clause.Newline =
    h.no_newline
plain_breaks limits text line names n h tags time Clause.MeasurementEquals =
    rw h.measurement_is (holds_bare _ [] line.measurement.bytes h.measurement.no_backslash ∙ none_of_none line.measurement.bytes)
plain_breaks limits text line names n h tags time Clause.MeasurementEscape =
    rw h.measurement_is (holds_bare _ [] line.measurement.bytes h.measurement.no_backslash ∙ none_of_none line.measurement.bytes)
plain_breaks limits text line names n h tags time Clause.TagEscape =
    rw h.tags_are (any_map has_escape logical_tag (some_tags line.tags) ∙ any_none (λ t. has_escape (logical_tag t)) GoodTag (λ t g. rw (holds_bare (backslash ∷ []) [] t.key.bytes g.key.no_backslash, none_of_none t.key.bytes) (holds_bare _ [] t.value.bytes g.val.no_backslash ∙ none_of_none t.value.bytes)) (some_tags line.tags) h.tags)
plain_breaks limits text line names n h tags time Clause.TagKeyComma =
    rw h.tags_are (any_map has_comma logical_tag (some_tags line.tags) ∙ any_none (λ t. has_comma (logical_tag t)) GoodTag (λ t g. holds_bare [] _ t.key.bytes g.key.no_backslash ∙ one_alone comma t.key.bytes g.no_comma) (some_tags line.tags) h.tags)
plain_breaks limits text line names n h tags time Clause.TagValueEquals =
    rw h.tags_are (any_map has_sign logical_tag (some_tags line.tags) ∙ any_none (λ t. has_sign (logical_tag t)) GoodTag (λ t g. holds_bare [] _ t.value.bytes g.val.no_backslash ∙ one_alone equals t.value.bytes g.no_sign) (some_tags line.tags) h.tags)
plain_breaks limits text line names n h tags time Clause.RepeatedTag =
    h.tags_once
plain_breaks limits text line names n h tags time Clause.FieldKeyEscape =
    rw h.keys_are (any_map (has_marked_escape) (λ f. f.key.bytes) line.fields ∙ any_none (λ f. has_marked_escape f.key.bytes) GoodField (λ f g. holds_bare _ [] f.key.bytes g.key.no_backslash ∙ none_of_none f.key.bytes) line.fields h.fields)
plain_breaks limits text line names n h tags time Clause.FieldKeyComma =
    rw h.keys_are (any_map (has_bare_comma) (λ f. f.key.bytes) line.fields ∙ any_none (λ f. has_bare_comma f.key.bytes) GoodField (λ f g. holds_bare [] _ f.key.bytes g.key.no_backslash ∙ one_alone comma f.key.bytes g.no_comma) line.fields h.fields)
plain_breaks limits text line names n h tags time Clause.FieldKeyQuote =
    any_none (λ f. is_one_of f.key.bytes quote) GoodField (λ f g. g.key.no_quote) line.fields h.fields
plain_breaks limits text line names n h tags time Clause.LongSeries =
    rw h.keys_are (any_map (is_long_after (length line.series)) (λ f. f.key.bytes) line.fields ∙ any_none (λ f. is_long_after (length line.series) f.key.bytes) GoodField (λ f g. le-ltb 65535 _ (omega (arith, g.key.short, h.series.short))) line.fields h.fields)
plain_breaks limits text line names n h tags time Clause.Unsigned =
    any_none (λ f. is_unsigned f.value) GoodField (λ f g. (value_parts f.value g.val).0) line.fields h.fields
plain_breaks limits text line names n h tags time Clause.InfiniteFloat =
    any_none (λ f. not (is_finite f.value)) GoodField (λ f g. ap not (value_parts f.value g.val).2) line.fields h.fields
plain_breaks limits text line names n h tags time Clause.RoundedFloat =
    any_none (λ f. is_rounded f.value) GoodField (λ f g. (value_parts f.value g.val).1) line.fields h.fields
plain_breaks limits text line names n h tags time Clause.LeadingNul =
    no_nul line.fields h.fields
plain_breaks limits text line names n h tags time Clause.TimeOutOfRange =
    ap (is_outside (negsuc 9223372036854775805) (pos 9223372036854775806)) time
plain_breaks limits text line names n h tags time Clause.TagCount =
    few_hundreds _ h.few
plain_breaks limits text line names n h tags time Clause.TimeName =
    either_none (any_none (λ t. bytes_eq t.key.bytes (codes "time")) GoodTag (λ t g. (tag_parts t.key.bytes g.sure).2) (some_tags line.tags) h.tags)
    (any_none (λ f. bytes_eq f.key.bytes (codes "time")) GoodField (λ f g. (key_parts f.key.bytes g.name).1) line.fields h.fields)
plain_breaks limits text line names n h tags time Clause.SystemName =
    either_none (no_system line.measurement.bytes h.own) (any_none (λ f. is_system_key f.key.bytes) GoodField (λ f g. no_system_key f.key.bytes (key_parts f.key.bytes g.name).0) line.fields h.fields)
plain_breaks limits text line names n h tags time Clause.RepeatedField =
    h.fields_once
plain_breaks limits text line names n h tags time Clause.KeySeparator =
    no_hash_text (33 ∷ 126 ∷ []) line.series h.series.no_hash
plain_breaks limits text line names n h tags time Clause.ControlByte =
    either_none (no_control line.measurement.bytes h.measurement.no_nul h.measurement.no_return)
    (any_none (λ f. has_control f.key.bytes) GoodField (λ f g. no_control f.key.bytes g.key.no_nul g.key.no_return) line.fields h.fields)
plain_breaks limits text line names n h tags time Clause.NameLabel =
    any_none (λ t. bytes_eq t.key.bytes (codes "__name__")) GoodTag (λ t g. no_own _ t.key.bytes (tag_parts t.key.bytes g.sure).1) (some_tags line.tags) h.tags
plain_breaks limits text line names n h tags time Clause.LongTagKey =
    any_none (λ t. nat_lt 256 (length t.key.bytes)) GoodTag (λ t g. (tag_parts t.key.bytes g.sure).0) (some_tags line.tags) h.tags
plain_breaks limits text line names n h tags time Clause.LongTagValue =
    any_none (λ t. nat_lt 16384 (length t.value.bytes)) GoodTag (λ t g. le-ltb 16384 _ (omega (arith, g.val.short))) (some_tags line.tags) h.tags
plain_breaks limits text line names n h tags time Clause.LongMetricName =
    any_none (λ f. nat_lt 16384 (length line.measurement.bytes + 1 + length f.key.bytes)) GoodField (λ f g. le-ltb 16384 _ (omega (arith, g.key.short, h.measurement.short))) line.fields h.fields
plain_breaks limits text line names n h tags time Clause.LongLabels =
    any_none (λ f. nat_lt 32000 (length line.series + 1 + length f.key.bytes)) GoodField (λ f g. le-ltb 32000 _ (omega (arith, g.key.short, h.series.short))) line.fields h.fields
plain_breaks limits text line names n h tags time Clause.TooManyTags =
    ap (nat_lt limits.tags) tags
plain_breaks limits text line names n h tags time Clause.LongLine =
    refl
plain_breaks limits text line names n h tags time Clause.TimeNotKept =
    ap (is_outside limits.earliest limits.latest) time

-- A bare text whose line is noted to its end is a plain line.
pub plain_line : (text : List ℕ) (line : Line) (names : Spelling) (n : Noted) → PlainText (trimmed text) → answer Strict (trimmed text) ≡ Ok line
    → IsSpelled (trimmed text) line names → BareNames text names → LineNoted line n
    → is_one_of (space ∷ tab ∷ []) (slice_index_or text 0 0) ≡ false → (slice_index text (length text - 1) == space) ≡ false → Lacks newline text
    → length text ≤ 8000 → PlainLine text line names
plain_line text line names n plain read are bare noted begins ends no_newline short =
    let spells = spellings_are_read (trimmed text) line names read are in
    let have = names_have PlainText plain_parts (trimmed text) line names are plain in
    let parts = answer_parts Strict (trimmed text) line read in
    let measurement_is = sym (own_logical _ names.measurement have.0.no_backslash) ∙ spells.measurement in
    let tags_are = sym (tags_same names.tags have.1) ∙ spells.tags in
    let keys_are = sym (keys_same names.keys have.2) ∙ spells.keys in
    let series : PlainText line.series = subst PlainText (sym parts.series)
    (plain_parts (take (length (trimmed text) - length parts.tags_rest) (trimmed text)) _
    (subst PlainText (sym (take-append-drop (length (trimmed text) - length parts.tags_rest) (trimmed text))) plain)).0 in
    record {
      begins = begins;
      ends = ends;
      no_newline = no_newline;
      short = short;
      measurement = subst PlainText measurement_is have.0;
      own = noted.measurement;
      measurement_is = measurement_is;
      tags = good_tags (some_tags line.tags) (subst (AllByRecursion IsGoodNames) tags_are (both_are _ _ names.tags have.1 bare.tags)) noted.tags;
      tags_are = tags_are;
      tags_once = noted.tags_once;
      few = subst (λ (k : ℕ). k ≤ 29) noted.count noted.few;
      fields = good_fields line.fields (subst (AllByRecursion (λ k. PlainText k × Lacks comma k)) keys_are (both_are _ _ names.keys have.2 bare.keys)) noted.fields;
      keys_are = keys_are;
      fields_once = noted.fields_once;
      series = series;
    }

-- a text that holds no mark but joints is plain
pub plain_is : (text : List ℕ) → length text ≤ 8000 → held is_special text ≡ 0 → PlainText text
plain_is text short none =
    record {
      no_backslash = none_held is_special backslash text refl none;
      no_quote = none_held is_special quote text refl none;
      no_nul = none_held is_special nul text refl none;
      no_return = none_held is_special 13 text refl none;
      no_hash = none_held is_special hash text refl none;
      short = short;
    }

-- A bare text with these notes is one line that breaks the clauses which the notes show, and no other clause.
pub noted_breaks : (limits : code.Limits) (text : List ℕ) (n : Noted) → IsBare text (n.tags + n.fields) → IsLineNoted (trimmed text) n
    → Breaks limits text (broken_by_noted limits text n.tags n.timestamp)
noted_breaks limits text n bare (line, read, are) =
    let (names, spelled, _) = line_spelled (trimmed text) line read in
    let after = trimmed_is_after text in
    let marks = bare_names text after.0 (trimmed text) line names after.1 spelled
    (omega (arith, bare.marks, are.count, are.count_fields, spelled.all_tags, spelled.all_keys)) in
    let plain = plain_is text bare.short marks.special in
    let piece = no_mark_cut text (held_nowhere is_special (is_byte3 backslash newline quote) cuts_special text marks.special) in
    let left = (plain_parts after.0 (trimmed text) (subst PlainText after.1 plain)).1 in
    let no_newline = none_held is_special newline text refl marks.special in
    let whole = plain_line text line names n left read spelled marks are bare.begins bare.ends no_newline bare.short in
    record {
      line = line;
      names = names;
      is_line = record { piece = piece; read = line_is_read text line (some_read (trimmed text) line read) read };
      are_names = spelled;
      tells = λ clause. sym (plain_breaks limits text line names n whole (sym are.count) (sym are.timestamp) clause);
    }
