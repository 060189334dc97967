-- Spellings of names from left to right, and their logical texts.
use Rattle.std.proofs.Common.{◌≡◌, ◌≢◌, ℕ, suc, zero, ◌<◌, List, [], ◌∷◌, length, drop, get_or, true, false, refl, sym, ap, ◌∙◌, arith, inl}
use Rattle.std.proofs.Common.{inr, ◌↔◌, subst, ◌==◌, eq-eqb, ne_eqb, eqb-true}
use Rattle.std.proofs.lemmas.Bool.{cases_Bool, or_parts, eqb-false}
use Rattle.lp_format.specs.format.{backslash, is_one_of, NameKind, ends_in_backslash, escapable, is_escapable, read_text}
use Rattle.lp_format.specs.format.{logical, name, spelled, spelled_len, without_escapes, miss, fatal, reads, ends_with_backslash}
use Rattle.lp_format.specs.laws.Meanings.{IsLogical, empty, plain, escape, other, end}

-- a byte that is no backslash stays in the logical text
pub without_escapes_plain_byte : (known : List ℕ) (b : ℕ) (rest : List ℕ) → b ≢ backslash
    → without_escapes known (b ∷ rest) ≡ b ∷ without_escapes known rest
unfolding without_escapes
without_escapes_plain_byte known b rest h = grind (arith, ne_eqb)

-- a known escape gives its second byte to the logical text
pub without_escapes_known : (known : List ℕ) (c : ℕ) (rest : List ℕ) → is_one_of known c ≡ true
    → without_escapes known (backslash ∷ c ∷ rest) ≡ c ∷ without_escapes known rest
unfolding without_escapes
without_escapes_known known c rest h = rw h refl

-- a text that holds no backslash
abbrev pub HasNoBackslash : List ℕ → Type 0
HasNoBackslash text = (i : ℕ) → i < length text → get_or text i 0 ≢ backslash

-- a text that holds no backslash is its own logical text
pub without_escapes_same : (known : List ℕ) (text : List ℕ) → HasNoBackslash text → without_escapes known text ≡ text
unfolding without_escapes
without_escapes_same known [] none = refl
without_escapes_same known (b ∷ text) none =
    without_escapes_plain_byte known b text (none 0 (omega arith))
    ∙ ap (λ (xs : List ℕ). b ∷ xs) (without_escapes_same known text (λ i l. none (suc i) (omega arith)))

-- a backslash may escape a backslash in each name
pub escapable_backslash : (kind : NameKind) → is_escapable kind backslash ≡ true
escapable_backslash kind = grind arith

-- a text that is not empty and the text with one more byte at the front have the same last byte
ends_cons : (b : ℕ) (xs : List ℕ) → 0 < length xs → ends_in_backslash (b ∷ xs) ≡ ends_in_backslash xs
ends_cons b xs h = grind arith

-- one more byte at the front does not change that a spelling and its logical text end alike
logical_ends_cons : (kind : NameKind) (c : ℕ) (rest : List ℕ) → ends_in_backslash (logical kind rest) ≡ ends_in_backslash rest
    → ends_in_backslash (c ∷ logical kind rest) ≡ ends_in_backslash (c ∷ rest)
unfolding without_escapes
logical_ends_cons kind c rest h = grind (arith, ends_cons, cases_Bool)

-- a name ends in a backslash exactly if its spelling does
pub logical_ends : (kind : NameKind) (text : List ℕ) → ends_in_backslash (logical kind text) ≡ ends_in_backslash text
unfolding without_escapes
logical_ends kind [] = refl
logical_ends kind (b ∷ []) = refl
logical_ends kind (b ∷ c ∷ rest) =
    let shorter = logical_ends_cons kind c rest (logical_ends kind rest) in
    let longer = logical_ends_cons kind b (c ∷ rest) (logical_ends kind (c ∷ rest)) in
    let ends = ends_cons b (c ∷ rest) (omega arith) in
    let other = ends_cons b (c ∷ logical kind rest) (omega arith) in
    grind (arith, cases_Bool)

-- a text that does not hold a backslash has none at any place
pub no_backslash : (text : List ℕ) → is_one_of text backslash ≡ false → HasNoBackslash text
no_backslash [] h i l = absurd (omega arith)
no_backslash (b ∷ text) h zero l = eqb-false b backslash (or_parts (b == backslash) (is_one_of text backslash) h).0
no_backslash (b ∷ text) h (suc i) l = no_backslash text (or_parts (b == backslash) (is_one_of text backslash) h).1 i (omega arith)

-- an empty spelled name misses
pub name_misses : (kind : NameKind) (text : List ℕ) → length (spelled kind text) ≡ 0 → name kind text ≡ miss
unfolding name
name_misses kind text h = rw (eq-eqb _ _ h) refl

-- a spelled name that ends in a backslash is fatal
pub name_fatal : (kind : NameKind) (text : List ℕ) → 0 < length (spelled kind text) → ends_in_backslash (spelled kind text) ≡ true
    → name kind text ≡ fatal ends_with_backslash
unfolding name
name_fatal kind text some h = grind (arith, ne_eqb, logical_ends)

-- any other spelled name is read
pub name_reads : (kind : NameKind) (text : List ℕ) → 0 < length (spelled kind text) → ends_in_backslash (spelled kind text) ≡ false
    → name kind text ≡ reads (read_text (escapable kind) (spelled kind text)) (drop (spelled_len kind text) text)
unfolding name
name_reads kind text some h = grind (arith, ne_eqb, logical_ends)

-- the only logical text of a text is the text without escapes
pub logical_is_unique : (known : List ℕ) (spelled logical : List ℕ) → IsLogical known spelled logical
    → logical ≡ without_escapes known spelled
unfolding without_escapes
logical_is_unique known _ _ empty = refl
logical_is_unique known _ _ (plain b s l differs more) = grind (arith, without_escapes_plain_byte, logical_is_unique known s l more)
logical_is_unique known _ _ (escape c s l is more) = rw is (ap (λ (xs : List ℕ). c ∷ xs) (logical_is_unique known s l more))
logical_is_unique known _ _ (other c s l is more) = rw is (ap (λ (xs : List ℕ). backslash ∷ c ∷ xs) (logical_is_unique known s l more))
logical_is_unique known _ _ end = refl

-- a text that begins with another byte than a backslash has a logical text if the text after this byte has one
logical_plain : (known : List ℕ) (b : ℕ) (rest : List ℕ) → b ≢ backslash → IsLogical known rest (without_escapes known rest)
    → IsLogical known (b ∷ rest) (without_escapes known (b ∷ rest))
logical_plain known b rest differs more =
    subst (IsLogical known (b ∷ rest)) (sym (without_escapes_plain_byte known b rest differs)) (plain b rest _ differs more)

-- the text without escapes is a logical text
pub has_logical : (known : List ℕ) (spelled : List ℕ) → IsLogical known spelled (without_escapes known spelled)
unfolding without_escapes
has_logical known [] = empty
has_logical known (b ∷ []) =
    elim (cases_Bool (b == backslash)) [
      | inl e ↦ rw (eqb-true b backslash e) end
      | inr e ↦ logical_plain known b [] (eqb-false b backslash e) (has_logical known [])
    ]
has_logical known (b ∷ c ∷ rest) =
    elim (cases_Bool (b == backslash)) [
      | inl e ↦ rw (eqb-true b backslash e) (elim (cases_Bool (is_one_of known c)) [
        | inl is ↦ rw is (escape c rest _ is (has_logical known rest))
        | inr is ↦ rw is (other c rest _ is (has_logical known rest))
      ])
      | inr e ↦ logical_plain known b (c ∷ rest) (eqb-false b backslash e) (has_logical known (c ∷ rest))
    ]

-- the logical text of a text is exactly the text without escapes
pub logical_is : (known spelled logical : List ℕ) → IsLogical known spelled logical ↔ (logical ≡ without_escapes known spelled)
logical_is known spelled logical = grind (arith, logical_is_unique, has_logical)
