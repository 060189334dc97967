-- The text of a key, one byte and one tag at a time.
use Rattle.std.proofs.Common.{◌≡◌, ℕ, ◌+◌, ◌-◌, ◌<◌, ◌≤◌, true, false, List, [], ◌∷◌, ◌++◌, length, get_or, slice_index, take, drop, refl, arith}
use Rattle.std.proofs.Common.{append_assoc, append-nil, length-append, length-drop, min, map, ap, ◌∙◌, Bor, fold}
use Rattle.std.proofs.{Math.Nat.sub_self, lemmas.Grind.common_steps, lemmas.Grind.flat_map-append, lemmas.List.take_more}
use Rattle.lp_format.specs.format.{Tag, backslash, is_one_of, escaped, escaped_byte}
use Rattle.lp_scan.specs.{code.known_of, declared.sets.TokenKind.TokenKind}
use Rattle.lp_lines.specs.code.Keys.{hash_byte, lent_tag, sorted_by}
use Rattle.lp_lines.proofs.lemmas.series.SortedByKey.{map_sorted}

-- an empty name has no bytes to escape
pub escaped_nil : (known : List ℕ) → [] ≡ escaped known []
unfolding escaped
escaped_nil known = refl

-- the text of a name with one more byte
pub escaped_more : (known name : List ℕ) (i : ℕ) → i < length name
    → escaped known (take (i + 1) name) ≡ escaped known (take i name) ++ escaped_byte known (slice_index name i)
unfolding escaped
escaped_more known name i h = grind (arith, common_steps, take_more, flat_map-append, append-nil)

-- the run that is not yet appended, with one byte more
run_more : (name : List ℕ) (start at : ℕ) → start ≤ at → at < length name
    → take (at + 1 - start) (drop start name) ≡ take (at - start) (drop start name) ++ slice_index name at ∷ []
run_more name start at low within =
    let n : at + 1 - start ≡ (at - start) + 1 = omega arith in
    let here : get_or (drop start name) (at - start) 0 ≡ get_or name at 0 = grind (arith, common_steps) in
    rw (n, take_more (drop start name) (at - start) 0 (omega (arith, length-drop start name)), here) refl

-- a byte without a backslash before it goes to the run
pub keep_byte : (known name done before : List ℕ) (start at : ℕ) → start ≤ at → at < length name
    → is_one_of known (slice_index name at) ≡ false
    → done ++ take (at - start) (drop start name) ≡ before ++ escaped known (take at name)
    → done ++ take (at + 1 - start) (drop start name) ≡ before ++ escaped known (take (at + 1) name)
keep_byte known name done before start at low within plain whole = grind (arith, run_more, escaped_more, append_assoc)

-- a byte with a backslash before it begins a new run, after the old run and the backslash
pub escape_byte : (known name done before : List ℕ) (start at : ℕ) → at < length name → is_one_of known (slice_index name at) ≡ true
    → done ++ take (at - start) (drop start name) ≡ before ++ escaped known (take at name)
    → ((done ++ take (at - start) (drop start name)) ++ backslash ∷ []) ++ take (at + 1 - at) (drop at name)
    ≡ before ++ escaped known (take (at + 1) name)
escape_byte known name done before start at within special whole = grind (arith, sub_self, run_more, escaped_more, append_assoc)

-- a byte that gets a backslash is ASCII
pub known_ascii : (kind : TokenKind) (b : ℕ) → is_one_of (known_of kind) b ≡ true → b < 128
known_ascii kind b h = grind arith

-- the length of the text of a name with one more byte, at most `most`
pub len_more : (known name : List ℕ) (i len most : ℕ) → i < length name → len ≡ min (length (escaped known (take i name))) most
    → min (len + length (escaped_byte known (slice_index name i))) most ≡ min (length (escaped known (take (i + 1) name))) most
len_more known name i len most within is = grind (arith, escaped_more, length-append)

-- rules for the length of the text of a name, one byte at a time
pub ruleset len_steps = (common_steps, escaped_nil, len_more)

-- sorted names of tags are the names of the sorted tags
pub sorted_names_are : (names : List (Bor (List ℕ) × Bor (List ℕ))) (tags : List Tag) → map lent_tag names ≡ tags
    → map lent_tag (sorted_by (λ t. t.0.now) names) ≡ sorted_by (λ t. t.key) tags
sorted_names_are names tags are = map_sorted lent_tag (λ t. t.key) names ∙ ap (sorted_by (λ t. t.key)) are

-- the hash of two texts, one after the other, is the hash of the second after the hash of the first
pub hash_append : (before : ℕ) (text more : List ℕ) → fold hash_byte before (text ++ more) ≡ fold hash_byte (fold hash_byte before text) more
hash_append before [] more = refl
hash_append before (b ∷ text) more = hash_append (hash_byte before b) text more

-- the hash of a name with one more byte
pub hash_more : (known name : List ℕ) (i before hash : ℕ) → i < length name → hash ≡ fold hash_byte before (escaped known (take i name))
    → fold hash_byte hash (escaped_byte known (slice_index name i)) ≡ fold hash_byte before (escaped known (take (i + 1) name))
hash_more known name i before hash within is = grind (arith, escaped_more, hash_append)

-- rules for a hash, one byte or one tag at a time
pub ruleset hash_steps = (common_steps, escaped_nil, hash_append, hash_more)
