-- The text of a key determines its measurement and its tags.
use Rattle.std.proofs.Common.{◌≡◌, ℕ, ◌++◌, ◌==◌, ◌&&◌, ◌↔◌, true, false, List, [], ◌∷◌, refl, sym, ◌∙◌, ap, arith, append_assoc, flat_map, map}
use Rattle.std.proofs.Common.{Bor, Bool, nat_eq}
use Rattle.std.specs.Cmp.Lexicographic.{pointwise, same_text}
use Rattle.std.proofs.lemmas.{Bool.and_parts, Bool.cases_Bool, Bool.false≢true, Cmp.nat_list_eq_equiv}
use Rattle.lp_format.specs.format.{backslash, comma, equals, is_one_of, escaped, escapable, spelling, a_measurement, a_tag_key, a_tag_value}
use Rattle.lp_format.specs.format.{Tag, built_tag}
use Rattle.lp_format.proofs.lemmas.read_back.NameReadsBack.{escaped_found, escaped_plain}
use Rattle.lp_lines.specs.code.Keys.{key_text, lent_tag}

-- a text that is empty or begins with this byte
abbrev pub Begins : ℕ → List ℕ → Type 0
Begins c [] = Unit {0}
Begins c (b ∷ text) = b ≡ c

module _ (known : List ℕ) (c : ℕ) (closed : is_one_of known backslash ≡ true) (ends : is_one_of known c ≡ true)
    (other : (c == backslash) ≡ false) where
  -- a text that begins with the byte `c` does not begin with an escaped name
  no_byte : (y : ℕ) (ys us vs : List ℕ) → Begins c us → us ≡ escaped known (y ∷ ys) ++ vs → ⊥
  no_byte y ys [] vs begins e = grind (arith, cases_Bool, escaped_found, escaped_plain)
  no_byte y ys (u ∷ us) vs begins e = grind (arith, cases_Bool, false≢true, escaped_found, escaped_plain)

  -- the first byte `c` without a backslash before it determines the name before it
  first_name : (xs ys us vs : List ℕ) → Begins c us → Begins c vs → escaped known xs ++ us ≡ escaped known ys ++ vs
      → (xs ≡ ys) × (us ≡ vs)
  unfolding escaped
  first_name [] [] us vs p q e = (refl, e)
  first_name [] (y ∷ ys) us vs p q e = absurd (no_byte y ys us vs p e)
  first_name (x ∷ xs) [] us vs p q e = absurd (no_byte x xs vs us q (sym e))
  first_name (x ∷ xs) (y ∷ ys) us vs p q e = grind (arith, cases_Bool, false≢true, first_name xs ys us vs p q)

-- a comma without a backslash before it determines the measurement before it
measurement_ends : (m n us vs : List ℕ) → Begins comma us → Begins comma vs
    → spelling a_measurement m ++ us ≡ spelling a_measurement n ++ vs → (m ≡ n) × (us ≡ vs)
measurement_ends = first_name (escapable a_measurement) comma refl refl refl

-- the text of tags is empty or begins with a comma
tags_begin : (ts : List Tag) → Begins comma (flat_map built_tag ts)
tags_begin [] = tt
tags_begin (t ∷ ts) = refl

-- tags with equal keys and equal values are equal
same_tag : (t u : Tag) → t.key ≡ u.key → t.value ≡ u.value → t ≡ u
same_tag t u k v = λ i. record { key = k i; value = v i }

-- the text of tags determines them
same_tags : (ts us : List Tag) → flat_map built_tag ts ≡ flat_map built_tag us → ts ≡ us
same_tags [] [] same = refl
same_tags [] (u ∷ us) same = absurd (cc)
same_tags (t ∷ ts) [] same = absurd (cc)
same_tags (t ∷ ts) (u ∷ us) same =
    let inner : (spelling a_tag_key t.key ++ equals ∷ spelling a_tag_value t.value) ++ flat_map built_tag ts
    ≡ (spelling a_tag_key u.key ++ equals ∷ spelling a_tag_value u.value) ++ flat_map built_tag us = cc in
    let whole = sym (append_assoc (spelling a_tag_key t.key) (equals ∷ spelling a_tag_value t.value) (flat_map built_tag ts)) ∙ inner
    ∙ append_assoc (spelling a_tag_key u.key) (equals ∷ spelling a_tag_value u.value) (flat_map built_tag us) in
    let keys = first_name (escapable a_tag_key) equals refl refl refl t.key u.key
    (equals ∷ spelling a_tag_value t.value ++ flat_map built_tag ts) (equals ∷ spelling a_tag_value u.value ++ flat_map built_tag us)
    refl refl whole in
    let after : spelling a_tag_value t.value ++ flat_map built_tag ts ≡ spelling a_tag_value u.value ++ flat_map built_tag us =
    let k = keys.1 in cc in
    let values = first_name (escapable a_tag_value) comma refl refl refl t.value u.value (flat_map built_tag ts) (flat_map built_tag us)
    (tags_begin ts) (tags_begin us) after in
    let first = same_tag t u keys.0 values.0 in
    let more = same_tags ts us values.1 in
    cc

-- the text of a key determines its measurement and its tags in order
pub key_parts : (m n : List ℕ) (ts us : List Tag) → key_text m ts ≡ key_text n us → (m ≡ n) × (ts ≡ us)
key_parts m n ts us same =
    let parts = measurement_ends m n (flat_map built_tag ts) (flat_map built_tag us) (tags_begin ts) (tags_begin us) same in
    (parts.0, same_tags ts us parts.1)

-- the key texts of one measurement and of two lists of tags are equal exactly if the tags are
pub same_keys : (m n : List ℕ) (ts us xs ys : List Tag) (same : Bool) → m ≡ n → xs ≡ ts → ys ≡ us → (same ≡ true) ↔ (xs ≡ ys)
    → (same ≡ true) ↔ (key_text m ts ≡ key_text n us)
same_keys m n ts us xs ys same one left right is = (
  λ h. let tags = is.0 h in cc,
  λ h. let tags = (key_parts m n ts us h).1 in is.1 (left ∙ tags ∙ sym right),
)

-- whether the names of one tag equal the names of another
abbrev pub same_names : Bor (List ℕ) × Bor (List ℕ) → Bor (List ℕ) × Bor (List ℕ) → Bool
same_names t u = pointwise nat_eq t.0.now u.0.now && pointwise nat_eq t.1.now u.1.now

-- names of tags are equal one by one exactly if the tags are
pub names_same : (ts us : List (Bor (List ℕ) × Bor (List ℕ))) → (pointwise same_names ts us ≡ true) ↔ (map lent_tag ts ≡ map lent_tag us)
names_same [] [] = (λ h. refl, λ h. refl)
names_same [] (u ∷ us) = (λ h. absurd (false≢true h), λ h. absurd (cc))
names_same (t ∷ ts) [] = (λ h. absurd (false≢true h), λ h. absurd (cc))
names_same (t ∷ ts) (u ∷ us) = (
  λ h. let both = and_parts (same_names t u) (pointwise same_names ts us) h in
      let names = and_parts (pointwise nat_eq t.0.now u.0.now) (pointwise nat_eq t.1.now u.1.now) both.0 in
      let first = same_tag (lent_tag t) (lent_tag u) (same_text t.0.now u.0.now (sym names.0)) (same_text t.1.now u.1.now (sym names.1)) in
      let more = (names_same ts us).0 both.1 in
      cc,
  λ h. let first : lent_tag t ≡ lent_tag u = cc in
      let keys : t.0.now ≡ u.0.now = ap (λ (x : Tag). x.key) first in
      let values : t.1.now ≡ u.1.now = ap (λ (x : Tag). x.value) first in
      let more = (names_same ts us).1 cc in
      rw (keys, values, nat_list_eq_equiv.refl u.0.now, nat_list_eq_equiv.refl u.1.now) more,
)
