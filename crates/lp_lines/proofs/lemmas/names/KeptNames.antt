-- The bytes of a name that is read: the logical text of a spelling is a parsed name.
use Rattle.std.proofs.Common.{◌≡◌, ◌≢◌, ℕ, suc, ◌-◌, ◌<◌, List, [], ◌∷◌, ◌++◌, length, take, slice_index, Bool, true, false, not, ◌&&◌}
use Rattle.std.proofs.Common.{◌||◌, refl, sym, ap, ◌∙◌, arith, ◌==◌, eq-eqb, eqb-true}
use Rattle.std.proofs.lemmas.Bool.{cases_Bool, false≢true, and_parts, and_from, or_left, or_right, or_cases, not_from_true, not_from_false}
use Rattle.std.proofs.lemmas.Grind.{common_steps}
use Rattle.lp_format.specs.format.{backslash, hash, is_one_of, without_escapes, Text, reads, NameKind, a_measurement}
use Rattle.lp_format.specs.format.{ends_in_backslash, is_escapable, is_stop, logical, name}
use Rattle.lp_format.specs.format.{spelled, never_in}
use Rattle.lp_format.specs.laws.NamesOfLines.{IsParsedName, BeginsNoComment}
use Rattle.lp_format.proofs.lemmas.names.NameLemmas.{name_misses, name_fatal, name_reads, logical_ends}
use Rattle.lp_format.proofs.lemmas.read_back.NameReadsBack.{may_hold}
use Rattle.lp_split.proofs.lemmas.split.ScanLemmas.{bare_len, first_bare_len}

-- whether each byte that may only come after a backslash comes after one, by whether a backslash comes before the text
abbrev pub is_kept : NameKind → Bool → List ℕ → Bool
is_kept kind after [] = true
is_kept kind after (b ∷ n) = (may_hold kind b || after) && is_kept kind (b == backslash) n

-- whether each stop byte of a text is escaped, by whether the first byte of the text is
abbrev is_closed : NameKind → Bool → List ℕ → Bool
is_closed kind escaped [] = true
is_closed kind escaped (b ∷ text) = (not (is_stop kind b) || escaped) && is_closed kind (not escaped && b == backslash) text

-- a byte that ends no name may be in a name
unstopped_may : (kind : NameKind) (b : ℕ) → is_stop kind b ≡ false → may_hold kind b ≡ true
unstopped_may kind b h = grind (arith, common_steps)

-- a byte that a backslash may escape may be in a name
pub escapable_may : (kind : NameKind) (b : ℕ) → is_escapable kind b ≡ true → may_hold kind b ≡ true
escapable_may kind b h = grind (arith, common_steps)

-- no bare stop is in the bytes before the first bare stop
before_stop_closed : (kind : NameKind) (escaped : Bool) (text : List ℕ)
    → is_closed kind escaped (take (bare_len (is_stop kind) escaped text) text) ≡ true
before_stop_closed kind escaped [] = refl
before_stop_closed kind escaped (b ∷ text) = grind (arith, cases_Bool, and_from, before_stop_closed kind (not escaped && b == backslash) text)

-- each byte of the logical text of a spelling that may only come after a backslash comes after one
logical_kept : (kind : NameKind) (after : Bool) (text : List ℕ) → is_closed kind false text ≡ true
    → is_kept kind after (logical kind text) ≡ true
unfolding without_escapes
logical_kept kind after [] h = refl
logical_kept kind after (b ∷ []) h = grind (arith, unstopped_may, and_parts, and_from, may_hold, or_left)
logical_kept kind after (b ∷ c ∷ rest) h =
    let more = logical_kept kind (c == backslash) rest in
    let next = logical_kept kind (b == backslash) (c ∷ rest) in
    grind (arith, cases_Bool, unstopped_may, and_parts, and_from, or_left, or_right, escapable_may, more, next)

-- whether a text ends in a backslash; for the empty text, whether a backslash comes before it
abbrev ends_after : Bool → List ℕ → Bool
ends_after after [] = after
ends_after after (b ∷ text) = ends_after (b == backslash) text

-- `ends_after` tells whether a text that is not empty ends in a backslash
ends_after_is : (b : ℕ) (text : List ℕ) → ends_after (b == backslash) text ≡ ends_in_backslash (b ∷ text)
ends_after_is b [] = refl
ends_after_is b (c ∷ text) = let e : length (b ∷ c ∷ text) - 1 ≡ suc (length (c ∷ text) - 1) = omega arith in rw e (ends_after_is c text)

-- `ends_after` tells whether a text ends in a backslash, if no backslash comes before it
ends_from_start : (text : List ℕ) → ends_after false text ≡ ends_in_backslash text
ends_from_start text = grind (arith, common_steps, ends_after_is)

-- a byte that may only come after a backslash comes after one at its place
kept_place : (kind : NameKind) (suffix : Bool) (front back : List ℕ) (b : ℕ)
    → is_kept kind suffix (front ++ b ∷ back) ≡ true → is_one_of (never_in kind) b ≡ true
    → ends_after suffix front ≡ true
kept_place kind suffix [] back b h never = grind (arith, or_cases, may_hold, and_parts, false≢true, not_from_true)
kept_place kind suffix (x ∷ front) back b h never = kept_place kind (x == backslash) front back b
    (and_parts (may_hold kind x || suffix) _ h).1 never

-- a text passes `is_kept` if each byte that may only come after a backslash comes after one
kept_from : (kind : NameKind) (after : Bool) (n : List ℕ)
    → ((front back : List ℕ) (b : ℕ) → n ≡ front ++ b ∷ back → is_one_of (never_in kind) b ≡ true → ends_after after front ≡ true)
    → is_kept kind after n ≡ true
kept_from kind after [] h = refl
kept_from kind after (b ∷ n) h =
    let more = kept_from kind (b == backslash) n
    (λ front back c e never. h (b ∷ front) back c (ap (λ (xs : List ℕ). b ∷ xs) e) never) in
    grind (arith, cases_Bool, and_from, or_left, or_right, not_from_false, h [] n b refl)

-- a parsed name passes `is_kept`
pub name_kept : (kind : NameKind) (n : List ℕ) → IsParsedName kind n → is_kept kind false n ≡ true
name_kept kind n h = kept_from kind false n (λ front back b e never. ends_from_start front ∙ h.after_backslash front back b e never)

-- a measurement begins with `#` only if its spelling does
logical_begins : (text : List ℕ) → slice_index text 0 ≢ hash → slice_index (logical a_measurement text) 0 ≢ hash
unfolding without_escapes
logical_begins rest h = grind (arith, common_steps, cases_Bool, false≢true)

-- a measurement does not begin with `#` if its text does not
name_begins : (kind : NameKind) (text : List ℕ) → BeginsNoComment kind text → BeginsNoComment kind (logical kind (spelled kind text))
name_begins kind text h = grind (arith, common_steps, logical_begins)

-- the logical text of a spelling that is not empty is not empty
logical_some : (kind : NameKind) (text : List ℕ) → length text ≢ 0 → 0 < length (logical kind text)
unfolding without_escapes
logical_some kind rest h = grind (arith, cases_Bool)

-- the logical text of a spelling is a parsed name, if the spelling is not empty and does not end in a backslash
spelled_is_parsed : (kind : NameKind) (text : List ℕ) → length (spelled kind text) ≢ 0
    → ends_in_backslash (spelled kind text) ≡ false → BeginsNoComment kind text
    → IsParsedName kind (logical kind (spelled kind text))
spelled_is_parsed kind text some ends begins =
    let closed = before_stop_closed kind false text in
    let kept : is_kept kind false (logical kind (spelled kind text)) ≡ true = grind (arith, logical_kept, first_bare_len) in
    record {
      some = logical_some kind (spelled kind text) some;
      ends = logical_ends kind (spelled kind text) ∙ ends;
      begins = name_begins kind text begins;
      after_backslash = λ front back b e never.
          sym (ends_from_start front) ∙ kept_place kind false front back b (rw e at kept) never;
    }

-- each name that is read is a parsed name
pub name_parsed : (kind : NameKind) (text rest : List ℕ) (x : Text) → name kind text ≡ reads x rest
    → BeginsNoComment kind text → IsParsedName kind x.bytes
name_parsed kind text rest x h begins = grind (arith, cases_Bool, name_misses, name_fatal, name_reads, spelled_is_parsed, eqb-true, eq-eqb, false≢true)
