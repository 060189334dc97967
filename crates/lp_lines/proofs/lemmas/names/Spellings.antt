-- Spellings of names: a reader reads each spelling back, and a splitter stays in its stretch along each spelling.
use Rattle.std.proofs.Common.{◌≡◌, ◌≢◌, ℕ, List, [], ◌∷◌, ◌++◌, true, false, refl, ap, subst, append_assoc, ◌<◌, length, drop, slice_index}
use Rattle.std.proofs.Common.{◌||◌, sym, arith, inl, inr, append-nil, ◌==◌, eqb-true, ne_eqb, take_at, drop_at}
use Rattle.std.proofs.lemmas.{List.Elements.All-nil, Bool.cases_Bool, Bool.and_parts, Bool.and_right, Grind.common_steps}
use Rattle.std.proofs.Math.Bool.{or-false}
use Rattle.std.specs.List.{list_all}
use Rattle.lp_format.specs.format.{IsBareAfter, escaped, without_escapes, NameKind, a_measurement, a_field_key}
use Rattle.lp_format.specs.format.{is_escapable, ends_in_backslash, escapable, is_stop, logical, name, read_text, spelled, spelled_len}
use Rattle.lp_format.specs.format.{newline, space, backslash, comma, equals, hash, is_one_of, tab, fatal, reads, ends_with_backslash}
use Rattle.lp_format.specs.format.{is_admitted_name, never_in, spelling, begins_comment, trimmed, spaces}
use Rattle.lp_format.proofs.lemmas.split.SplitBare.{is_escaped-nil, is_escaped-push_backslash, is_escaped-push_escaped}
use Rattle.lp_format.proofs.lemmas.split.SplitBare.{is_escaped-push_other}
use Rattle.lp_format.proofs.lemmas.names.NameLemmas.{escapable_backslash, without_escapes_plain_byte, without_escapes_known, logical_ends}
use Rattle.lp_format.proofs.lemmas.names.NameLemmas.{name_fatal, name_reads}
use Rattle.lp_format.proofs.lemmas.read_back.NameReadsBack.{may_hold, space_escapable, stop_escapable, backslash_no_stop, escaped_found}
use Rattle.lp_format.proofs.lemmas.read_back.NameReadsBack.{escaped_plain, admitted_parts, begins_otherwise, read_name}
use Rattle.lp_format.proofs.lemmas.line.TrimLemmas.{is_blank, trimmed_is}
use Rattle.lp_split.specs.code.{Region, Head, Plain, EndsIn as IsIn}
use Rattle.lp_split.proofs.lemmas.split.SplitWalk.{IsIn-escaped, IsIn-backslash, Head-other, Head-space, Plain-other}
use Rattle.lp_split.proofs.lemmas.split.ScanLemmas.{bare_len, first_bare_len}
use Rattle.lp_lines.proofs.lemmas.names.KeptNames.{is_kept}

-- the byte after `piece` is bare, and `piece` ends in this region with these counts
abbrev pub Reaches : Region → ℕ → ℕ → List ℕ → Type 0
Reaches region e c piece = IsBareAfter piece × IsIn region e c piece

-- the splitter is in a head before the first byte
pub reaches_start : Reaches Head 0 0 []
reaches_start = (is_escaped-nil, (All-nil (λ b. (b ≢ space) × (b ≢ newline)), record { equals_is = refl; commas_is = refl }))

-- a text leads from one state of a piece to another, whatever was read before it
abbrev pub Leads : (List ℕ → Type 0) → (List ℕ → Type 0) → List ℕ → Type 0
Leads From To text = (piece : List ℕ) → From piece → To (piece ++ text)

-- the empty text leads from a state to itself
pub leads_by_none : (From : List ℕ → Type 0) → Leads From From []
leads_by_none From piece r = subst From (sym (append-nil piece)) r

-- two texts, one after the other, lead on from state to state
pub leads_then : {From Mid : List ℕ → Type 0} (To : List ℕ → Type 0) (xs ys : List ℕ) → Leads From Mid xs → Leads Mid To ys
    → Leads From To (xs ++ ys)
leads_then To xs ys first second piece r = subst To (append_assoc piece xs ys) (second (piece ++ xs) (first piece r))

-- a byte that is no backslash leads from one region to another, if it does so after each piece
pub turns : (region : Region) (e c : ℕ) (next : Region) (f d b : ℕ) → b ≢ backslash
    → ((q : List ℕ) → IsBareAfter q → IsIn region e c q → IsIn next f d (q ++ b ∷ [])) → Leads (Reaches region e c) (Reaches next f d) (b ∷ [])
turns region e c next f d b no_backslash after piece r = (is_escaped-push_other piece b no_backslash, after piece r.0 r.1)

-- a byte with a backslash before it leads from a state to itself
pub reaches_pair : (region : Region) (e c b : ℕ) → Leads (Reaches region e c) (Reaches region e c) (backslash ∷ b ∷ [])
reaches_pair region e c b piece r =
    let flag = is_escaped-push_backslash piece r.0 in
    subst (Reaches region e c) (append_assoc piece (backslash ∷ []) (b ∷ [])) (
      is_escaped-push_escaped (piece ++ backslash ∷ []) b flag,
      IsIn-escaped region e c (piece ++ backslash ∷ []) b flag (IsIn-backslash region e c piece r.0 r.1),
    )

-- a byte that is no backslash leaves the region and the counts as they are
abbrev pub ChangesNothing : Region → ℕ → ℕ → ℕ → Type 0
ChangesNothing region e c b = (b ≢ backslash) × ((q : List ℕ) → IsBareAfter q → IsIn region e c q → IsIn region e c (q ++ b ∷ []))

-- a byte that changes nothing leads from a state to itself
pub reaches_byte : (region : Region) (e c b : ℕ) → ChangesNothing region e c b → Leads (Reaches region e c) (Reaches region e c) (b ∷ [])
reaches_byte region e c b same = turns region e c region e c b same.0 same.1

-- a byte that a name may hold bare is no newline
pub no_newline : (kind : NameKind) (b : ℕ) → may_hold kind b ≡ true → b ≢ newline
no_newline kind b may = grind (arith, common_steps)

-- a byte that is not escaped in a name is no backslash
pub no_backslash : (kind : NameKind) (b : ℕ) → is_escapable kind b ≡ false → b ≢ backslash
no_backslash kind b plain = λ e. cc (plain, escapable_backslash kind, ap (is_escapable kind) e)

-- a byte that is not escaped in a name is no space
pub no_space : (kind : NameKind) (b : ℕ) → is_escapable kind b ≡ false → b ≢ space
no_space kind b plain = λ e. cc (plain, space_escapable kind, ap (is_escapable kind) e)

-- a spelling of a name: each byte that can be escaped is escaped, a byte that no escape keeps comes after a single backslash, and any
-- other byte is bare
pub data SpelledAs (kind : NameKind) : List ℕ → List ℕ → Type 0 where
  done : SpelledAs kind [] []
  escape : (b : ℕ) (n s : List ℕ) → is_escapable kind b ≡ true → SpelledAs kind n s → SpelledAs kind (b ∷ n) (backslash ∷ b ∷ s)
  plain : (b : ℕ) (n s : List ℕ) → is_escapable kind b ≡ false → may_hold kind b ≡ true → SpelledAs kind n s
      → SpelledAs kind (b ∷ n) (b ∷ s)
  pair : (c : ℕ) (n s : List ℕ) → is_one_of (never_in kind) c ≡ true → SpelledAs kind n s → SpelledAs kind (backslash ∷ c ∷ n) (backslash ∷ c ∷ s)

-- a byte that no escape keeps is no known escape
pub never_unescapable : (kind : NameKind) (c : ℕ) → is_one_of (never_in kind) c ≡ true → is_escapable kind c ≡ false
never_unescapable kind c h = grind (arith, common_steps)

-- a byte that no escape keeps ends a name if it is bare
pub never_stops : (kind : NameKind) (c : ℕ) → is_one_of (never_in kind) c ≡ true → is_stop kind c ≡ true
never_stops kind c h = grind (arith, common_steps)

-- a name with one more byte at the start, which may be bare, has a spelling
spelled_more : (kind : NameKind) (b : ℕ) (n : List ℕ) → may_hold kind b ≡ true → (s : List ℕ) × SpelledAs kind n s
    → (s : List ℕ) × SpelledAs kind (b ∷ n) s
spelled_more kind b n may more = elim (cases_Bool (is_escapable kind b)) [
  | inl known ↦ (backslash ∷ b ∷ more.0, escape b n more.0 known more.1)
  | inr other ↦ (b ∷ more.0, plain b n more.0 other may more.1)
]

-- a name with a backslash and a byte that no escape keeps at the start has a spelling
spelled_pair : (kind : NameKind) (b c : ℕ) (n : List ℕ) → b ≡ backslash → is_one_of (never_in kind) c ≡ true
    → (s : List ℕ) × SpelledAs kind n s → (s : List ℕ) × SpelledAs kind (b ∷ c ∷ n) s
spelled_pair kind b c n e never more = rw e (backslash ∷ c ∷ more.0, pair c n more.0 never more.1)

-- each name that passes `is_kept` has a spelling
pub spelled_as : (kind : NameKind) (n : List ℕ) → is_kept kind false n ≡ true → (s : List ℕ) × SpelledAs kind n s
spelled_as kind [] h = ([], done)
spelled_as kind (b ∷ []) h = spelled_more kind b [] (rw or-false at ((and_parts (may_hold kind b || false) true h).0)) ([], done)
spelled_as kind (b ∷ c ∷ n) h =
    let next = spelled_as kind (c ∷ n) in
    let more = spelled_as kind n in
    grind (arith, cases_Bool, and_parts, spelled_more, spelled_pair, no_backslash, never_unescapable, ne_eqb, eqb-true, next, more)

-- the spelling of the builder is a spelling, if each byte may be bare
pub spelling_as : (kind : NameKind) (n : List ℕ) → list_all (may_hold kind) n ≡ true → SpelledAs kind n (spelling kind n)
unfolding escaped
spelling_as kind [] all = done
spelling_as kind (b ∷ n) all = grind (arith, cases_Bool, and_parts, escaped_found, escaped_plain, SpelledAs.escape, SpelledAs.plain, spelling_as kind n)

-- the spelling of the builder is a spelling of an admitted name
pub admitted_spelled : (kind : NameKind) (n : List ℕ) → is_admitted_name kind n ≡ true → SpelledAs kind n (spelling kind n)
admitted_spelled kind n ok = spelling_as kind n (admitted_parts kind n ok).may

-- the text is empty or begins with a byte that ends a name
abbrev pub Stops : NameKind → List ℕ → Type 0
Stops kind [] = Unit {0}
Stops kind (c ∷ rest) = is_stop kind c ≡ true

-- a spelling ends before a text that is empty or begins with a byte that ends a name
spelled_to : {kind : NameKind} {n s : List ℕ} → SpelledAs kind n s → (rest : List ℕ) → Stops kind rest
    → bare_len (is_stop kind) false (s ++ rest) ≡ length s
spelled_to done rest ends = grind arith
spelled_to {kind = kind} (escape b n s known more) rest ends = grind (arith, backslash_no_stop, spelled_to more rest ends)
spelled_to {kind = kind} (plain b n s other may more) rest ends = grind (arith, stop_escapable, ne_eqb, no_backslash, spelled_to more rest ends)
spelled_to {kind = kind} (pair c n s never more) rest ends = grind (arith, backslash_no_stop, and_right, spelled_to more rest ends)

-- the logical text of a spelling is its name
pub spelled_logical : {kind : NameKind} {n s : List ℕ} → SpelledAs kind n s → logical kind s ≡ n
unfolding without_escapes
spelled_logical {kind = kind} done = refl
spelled_logical {kind = kind} (escape b n s known more) = grind (arith, without_escapes_known, spelled_logical more)
spelled_logical {kind = kind} (plain b n s other may more) =
    grind (arith, without_escapes_plain_byte, no_backslash, spelled_logical more)
spelled_logical {kind = kind} (pair c n s never more) = grind (arith, never_unescapable, spelled_logical more)

-- a spelling of a name that is not empty is not empty
spelled_some : {kind : NameKind} {n s : List ℕ} → SpelledAs kind n s → 0 < length n → 0 < length s
spelled_some h some = grind arith

-- the spelled name at the start of a text is `s`, and `rest` follows it
record Front (kind : NameKind) (s rest : List ℕ) : Type 0 where
  front : spelled kind (s ++ rest) ≡ s
  after : drop (spelled_len kind (s ++ rest)) (s ++ rest) ≡ rest

-- a spelling before an end is the spelled name at the start of the text
spelled_front : {kind : NameKind} {n s : List ℕ} → SpelledAs kind n s → (rest : List ℕ) → Stops kind rest → Front kind s rest
spelled_front {kind = kind} {s = s} h rest ends = grind (arith, first_bare_len, spelled_to, take_at, drop_at)

-- a spelling before an end is read as its name, if the name does not end in a backslash
pub spelled_reads : {kind : NameKind} {n s : List ℕ} → SpelledAs kind n s → 0 < length n
    → ends_in_backslash n ≡ false → (rest : List ℕ) → Stops kind rest
    → name kind (s ++ rest) ≡ reads (read_text (escapable kind) s) rest
spelled_reads {kind = kind} {n = n} {s = s} h some last rest ends = grind (arith, spelled_front, logical_ends, spelled_logical, name_reads, spelled_some)

-- an admitted name reads back before each byte that ends it
pub name_reads_back : (kind : NameKind) (n rest : List ℕ) (stop : ℕ) → is_admitted_name kind n ≡ true → is_stop kind stop ≡ true
    → name kind (spelling kind n ++ stop ∷ rest) ≡ reads (read_name kind n) (stop ∷ rest)
name_reads_back kind n rest stop ok ends =
    let parts = admitted_parts kind n ok in
    spelled_reads (admitted_spelled kind n ok) parts.some parts.ends (stop ∷ rest) ends

-- a spelling before an end is fatal if its name ends in a backslash
pub spelled_fatal : {kind : NameKind} {n s : List ℕ} → SpelledAs kind n s → 0 < length n
    → ends_in_backslash n ≡ true → (rest : List ℕ) → Stops kind rest
    → name kind (s ++ rest) ≡ fatal ends_with_backslash
spelled_fatal {kind = kind} {n = n} {s = s} h some last rest ends = grind (arith, spelled_front, logical_ends, spelled_logical, name_fatal, spelled_some)

-- a spelling leads from a state to itself, if its bare bytes change nothing
pub reaches_spelled : (region : Region) (e c : ℕ) {kind : NameKind} {n s : List ℕ}
    → ((b : ℕ) → may_hold kind b ≡ true → is_escapable kind b ≡ false → ChangesNothing region e c b)
    → SpelledAs kind n s → Leads (Reaches region e c) (Reaches region e c) s
reaches_spelled region e c same done = leads_by_none (Reaches region e c)
reaches_spelled region e c same (escape b n s known more) =
    leads_then (Reaches region e c) _ s (reaches_pair region e c b) (reaches_spelled region e c same more)
reaches_spelled region e c same (plain b n s other may more) =
    leads_then (Reaches region e c) _ s (reaches_byte region e c b (same b may other)) (reaches_spelled region e c same more)
reaches_spelled region e c same (pair b n s never more) =
    leads_then (Reaches region e c) _ s (reaches_pair region e c b) (reaches_spelled region e c same more)

-- a text that begins with no blank, no newline and no `#`
abbrev pub BeginsLine : List ℕ → Type 0
BeginsLine [] = ⊥
BeginsLine (b ∷ text) = is_one_of (hash ∷ space ∷ tab ∷ newline ∷ []) b ≡ false

-- a measurement that does not begin with `#` begins a line with no blank, no newline and no `#`
pub spelled_begins : {n s : List ℕ} → SpelledAs a_measurement n s → 0 < length n → slice_index n 0 ≢ hash
    → (rest : List ℕ) → BeginsLine (s ++ rest)
spelled_begins h some no_hash rest = grind (arith, common_steps)

-- an admitted measurement begins a line with no blank, no newline and no `#`
pub measurement_begins : (m rest : List ℕ) → is_admitted_name a_measurement m ≡ true → BeginsLine (spelling a_measurement m ++ rest)
measurement_begins m rest ok =
    spelled_begins (admitted_spelled a_measurement m ok) (admitted_parts a_measurement m ok).some (begins_otherwise m ok) rest

-- no space is at the start of a spelling
pub spelled_spaces : {kind : NameKind} {n s : List ℕ} → SpelledAs kind n s → 0 < length n → (rest : List ℕ) → spaces (s ++ rest) ≡ 0
spelled_spaces h some rest = grind (arith, ne_eqb, no_space)

-- a text that begins with no blank, no newline and no `#` is no comment
pub line_no_comment : (text : List ℕ) → BeginsLine text → begins_comment text ≡ false
line_no_comment text h = grind (arith, no_space)

-- trimming leaves a text that begins with no blank, no newline and no `#` as it is
pub line_trimmed : (text : List ℕ) → BeginsLine text → trimmed text ≡ text
line_trimmed text h = grind (arith, is_blank, no_newline, trimmed_is)

-- a text that begins with no blank, no newline and no `#` is not empty
pub line_some : (text : List ℕ) → BeginsLine text → (length text == 0) ≡ false
line_some text h = grind (arith, ne_eqb)

-- a spelling in a head stays in the head
pub reaches_head : {kind : NameKind} {n s : List ℕ} → SpelledAs kind n s → Leads (Reaches Head 0 0) (Reaches Head 0 0) s
reaches_head {kind = kind} h = reaches_spelled Head 0 0 (λ b may other.
    (no_backslash kind b other, λ q f i. Head-other 0 0 q b f (no_space kind b other) (no_newline kind b may) i)) h

-- the spelling of an admitted name in a head stays in the head
pub reaches_name : (kind : NameKind) (n : List ℕ) → is_admitted_name kind n ≡ true → Leads (Reaches Head 0 0) (Reaches Head 0 0) (spelling kind n)
reaches_name kind n ok = reaches_head (admitted_spelled kind n ok)

-- a byte in a head that is no backslash, no space and no newline stays in the head
pub reaches_other : (b : ℕ) → b ≢ backslash → b ≢ space → b ≢ newline → Leads (Reaches Head 0 0) (Reaches Head 0 0) (b ∷ [])
reaches_other b no_backslash no_space no_newline =
    turns Head 0 0 Head 0 0 b no_backslash (λ q f h. Head-other 0 0 q b f no_space no_newline h)

-- a space after a head leads to a plain stretch
pub reaches_gap : Leads (Reaches Head 0 0) (Reaches Plain 0 0) (space ∷ [])
reaches_gap = turns Head 0 0 Plain 0 0 space (omega arith) (Head-space 0 0)

-- a spelling of a field key stays in a plain stretch with as many `=` as `,`
pub reaches_field_key : (m : ℕ) {n s : List ℕ} → SpelledAs a_field_key n s → Leads (Reaches Plain m m) (Reaches Plain m m) s
reaches_field_key m h = reaches_spelled Plain m m (λ b may other. (
  no_backslash a_field_key b other,
  λ q f i. Plain-other m m q b f (apart b equals other refl) (apart b comma other refl) (no_newline a_field_key b may) (λ _. omega arith) i,
)) h
  where
    -- a byte that a field key does not escape differs from each byte that it escapes
    apart : (b k : ℕ) → is_escapable a_field_key b ≡ false → is_escapable a_field_key k ≡ true → b ≢ k
    apart b k other known = λ e. cc (other, known, ap (is_escapable a_field_key) e)
