-- If a line holds exactly as many marks as its parts need, its names hold none.
use Rattle.std.proofs.Common.{◌≡◌, ℕ, ◌+◌, ◌*◌, ◌≤◌, ◌==◌, ◌||◌, Bool, true, false, List, [], ◌∷◌, ◌++◌, length, take, drop, refl, sym, ◌∙◌, ap, arith, take-append-drop, inl, inr}
use Rattle.std.specs.{List.AllByRecursion}
use Rattle.std.proofs.Common.{zero, suc, Ok, ◌<◌, cond, length-drop, count_ones, map, ◌%◌, ◌^◌, ◌-◌}
use Rattle.std.proofs.lemmas.List.Sums.{sum_by-append, sum_by-cons}
use Rattle.std.proofs.lemmas.List.{drop-drop, length-map, take-map, take_all}
use Rattle.std.proofs.lemmas.Simd.{ones-mask_l}
use Rattle.std.specs.Simd.Lanes.{mask_l}
use Rattle.lp_scan.specs.code.{mask_of}
use Rattle.lp_scan.proofs.lemmas.scan.MaskLemmas.{mask_mod}
use Rattle.std.proofs.lemmas.{Bool.cases_Bool, Bool.eqb-true, Bool.false≢true}
use Rattle.memchr.specs.Find.{Nowhere, Passes, is_byte3}
use Rattle.lp_format.specs.format.{backslash, newline, quote}
use Rattle.lp_format.specs.format.{NameKind, Line, Pair, Reading, byte, comma, equals, is_one_of, name, reads}
use Rattle.lp_format.specs.format.{a_field_key, a_measurement, a_tag_key, a_tag_value, spaces, spelled, spelled_len, value}
use Rattle.lp_values.proofs.lemmas.fields.ReadingLemmas.{EndsIn, bind_reads, byte_parts, name_parts, reads_parts}
use Rattle.lp_format.specs.format.{Strict, answer, first_bare}
use Rattle.lp_lines.proofs.lemmas.names.ParsedNames.{answer_parts}
use Rattle.lp_portable.specs.code.Marks.{held, is_joint, is_mark, is_special}
use Rattle.lp_portable.specs.format.Spellings.{AreAfterCommas, AreJoined, IsSpelled, Spelling, key_text, name_text, tag_text}
use Rattle.lp_portable.proofs.FieldEnds.{value_left}

-- two texts hold what each does
pub held_append : (test : ℕ → Bool) (xs ys : List ℕ) → held test (xs ++ ys) ≡ held test xs + held test ys
held_append test xs ys = sum_by-append (λ x. cond (test x) 1 0) xs ys

-- The count of a text is the count of its first byte and the count of the other bytes.
held_cons : (test : ℕ → Bool) (b : ℕ) (text : List ℕ) → held test (b ∷ text) ≡ cond (test b) 1 0 + held test text
held_cons test b text = sum_by-cons (λ x. cond (test x) 1 0) b text

-- If the count is 0, the test of the first byte fails and the count of the other bytes is 0.
first_fails : (c : Bool) (n : ℕ) → cond c 1 0 + n ≡ 0 → (c ≡ false) × (n ≡ 0)
first_fails true n none = absurd (omega (arith, none))
first_fails false n none = (refl, omega (arith, none))

-- If a text holds no byte that passes a test, it lacks each byte that passes the test.
pub none_held : (test : ℕ → Bool) (b : ℕ) (text : List ℕ) → test b ≡ true → held test text ≡ 0 → is_one_of text b ≡ false
none_held test b [] is none = refl
none_held test b (x ∷ text) is none =
    let (fails, others) = first_fails (test x) (held test text) (sym (held_cons test x text) ∙ none) in
    elim (cases_Bool (x == b)) [
      | inl here ↦ absurd (false≢true (sym fails ∙ ap test (eqb-true x b here) ∙ is))
      | inr other ↦ rw other (none_held test b text is others)
    ]

-- a byte that comes between parts means nothing else
apart : (b : ℕ) → is_joint b ≡ true → is_special b ≡ false
apart b joint = elim (cases_Bool (b == comma)) [
  | inl here ↦ rw (eqb-true b comma here) refl
  | inr other ↦ let here : (b == equals) ≡ true = rw other at joint in rw (eqb-true b equals here) refl
]

-- each byte of either kind is a mark
one_of_each : (s j : Bool) → (j ≡ true → s ≡ false) → cond s 1 0 + cond j 1 0 ≤ cond (s || j) 1 0
one_of_each true true other = absurd (false≢true (sym (other refl)))
one_of_each true false other = omega arith
one_of_each false true other = omega arith
one_of_each false false other = omega arith

-- The special bytes and the joints of a text together are no more than its marks.
pub kinds_held : (text : List ℕ) → held is_special text + held is_joint text ≤ held is_mark text
kinds_held [] = omega arith
kinds_held (b ∷ text) = omega (
  arith,
  held_cons is_special b text,
  held_cons is_joint b text,
  held_cons is_mark b text,
  one_of_each (is_special b) (is_joint b) (apart b),
  kinds_held text,
)

-- The sum of the weights of the parts of a list.
abbrev total : {A : Type 0} → (A → ℕ) → List A → ℕ
total weight [] = 0
total weight (x ∷ xs) = weight x + total weight xs

-- If each part weighs at least 2, a list weighs at least twice the number of its parts.
least : {A : Type 0} (weight : A → ℕ) → ((x : A) → 2 ≤ weight x) → (xs : List A) → 2 * length xs ≤ total weight xs
least weight each [] = omega arith
least weight each (x ∷ xs) = omega (arith, each x, least weight each xs)

-- if they weigh no more, then none does
none_more : {A : Type 0} (weight : A → ℕ) → ((x : A) → 2 ≤ weight x) → (xs : List A) → total weight xs ≤ 2 * length xs
    → AllByRecursion (λ x. weight x ≤ 2) xs
none_more weight each [] few = tt
none_more weight each (x ∷ xs) few =
    (omega (arith, few, least weight each xs), none_more weight each xs (omega (arith, few, each x)))

module _ (w : List ℕ → ℕ) (add : (xs ys : List ℕ) → w (xs ++ ys) ≡ w xs + w ys) where
  -- the end of a text weighs no more than the text
  end_weighs : (text rest : List ℕ) → EndsIn text rest → w rest ≤ w text
  end_weighs text rest e = omega (arith, ap w e.is, add e.front rest)

  -- A text that begins with a byte weighs as much as the byte and the text after it.
  byte_weighs : (b : ℕ) (text : List ℕ) (x : ℕ) (rest : List ℕ) → byte b text ≡ reads x rest → w text ≡ w (b ∷ []) + w rest
  byte_weighs b text x rest e = ap w (byte_parts b text x rest e).1 ∙ add (b ∷ []) rest

  -- A text that begins with a name weighs as much as the spelled name and the text after it.
  name_weighs : (kind : NameKind) (text s rest : List ℕ) → name_text kind text ≡ reads s rest → w text ≡ w s + w rest
  name_weighs kind text s rest e =
      let p = bind_reads (name kind text) (λ n. reads (spelled kind text) n.rest) s rest e in
      let same = reads_parts (spelled kind text) s p.mid rest p.next in
      let after = (name_parts kind text p.first p.mid p.was).1 in
      omega (
        arith,
        ap w (take-append-drop (spelled_len kind text) text),
        add (take (spelled_len kind text) text) (drop (spelled_len kind text) text),
        ap w same.0,
        ap w (sym after ∙ same.1),
      )

  -- a tag
  tag_weighs : (text : List ℕ) (t : Pair (List ℕ) (List ℕ)) (rest : List ℕ) → tag_text text ≡ reads t rest
      → w t.key + (w (equals ∷ []) + w t.value) + w rest ≤ w text
  tag_weighs text t rest e =
      let one = bind_reads (name_text a_tag_key text) _ t rest e in
      let two = bind_reads (byte equals one.mid) _ t rest one.next in
      let three = bind_reads (name_text a_tag_value two.mid) _ t rest two.next in
      let same = reads_parts _ t three.mid rest three.next in
      omega (
        arith,
        name_weighs a_tag_key text one.first one.mid one.was,
        byte_weighs equals one.mid two.first two.mid two.was,
        name_weighs a_tag_value two.mid three.first three.mid three.was,
        ap (λ (u : Pair (List ℕ) (List ℕ)). w u.key) same.0,
        ap (λ (u : Pair (List ℕ) (List ℕ)). w u.value) same.0,
        ap w same.1,
      )

  -- a field
  key_weighs : (text key rest : List ℕ) → key_text text ≡ reads key rest → w key + w (equals ∷ []) + w rest ≤ w text
  key_weighs text key rest e =
      let one = bind_reads (name_text a_field_key text) _ key rest e in
      let two = bind_reads (byte equals one.mid) _ key rest one.next in
      let three = bind_reads (value two.mid) _ key rest two.next in
      let same = reads_parts one.first key three.mid rest three.next in
      omega (
        arith,
        name_weighs a_field_key text one.first one.mid one.was,
        byte_weighs equals one.mid two.first two.mid two.was,
        end_weighs two.mid three.mid ((value_left two.mid).holds three.first three.mid three.was),
        ap w same.0,
        ap w same.1,
      )

  module _ {A : Type 0} (weight : A → ℕ) (one : List ℕ → Reading A)
      (weighs : (text : List ℕ) (x : A) (rest : List ℕ) → one text ≡ reads x rest → weight x + w rest ≤ w text) where
    -- parts after commas
    after_weigh : (xs : List A) (text rest : List ℕ) → AreAfterCommas one xs text rest
        → total (λ x. w (comma ∷ []) + weight x) xs + w rest ≤ w text
    after_weigh [] text rest are = omega (arith, ap w are)
    after_weigh (x ∷ xs) text rest are =
        let p = bind_reads (byte comma text) (λ after. one after.rest) x are.0 are.1 in
        omega (arith, byte_weighs comma text p.first p.mid p.was, weighs p.mid x are.0 p.next, after_weigh xs are.0 rest are.2)

    -- parts that commas join
    joined_weigh : (xs : List A) (text rest : List ℕ) → AreJoined one xs text rest
        → total (λ x. w (comma ∷ []) + weight x) xs + w rest ≤ w text + w (comma ∷ [])
    joined_weigh [] text rest are = omega (arith, ap w are)
    joined_weigh (x ∷ xs) text rest are = omega (arith, weighs text x are.0 are.1, after_weigh xs are.0 rest are.2)

  -- The weight of a tag with the comma before it.
  abbrev tag_weight : Pair (List ℕ) (List ℕ) → ℕ
  tag_weight t = w (comma ∷ []) + (w t.key + (w (equals ∷ []) + w t.value))

  -- The weight of the key of a field, with the comma before it and the equals sign after it.
  abbrev key_weight : List ℕ → ℕ
  key_weight k = w (comma ∷ []) + (w k + w (equals ∷ []))

  -- the names of a line
  line_weighs : (text : List ℕ) (line : Line) (names : Spelling) → IsSpelled text line names
      → total tag_weight names.tags + total key_weight names.keys ≤ w text + w (comma ∷ [])
  line_weighs text line names are =
      omega (
        arith,
        name_weighs a_measurement text names.measurement are.after_name are.measurement,
        after_weigh (λ t. w t.key + (w (equals ∷ []) + w t.value)) tag_text tag_weighs names.tags are.after_name are.after_tags are.tags,
        ap w (take-append-drop (spaces are.after_tags) are.after_tags),
        add (take (spaces are.after_tags) are.after_tags) (drop (spaces are.after_tags) are.after_tags),
        joined_weigh (λ k. w k + w (equals ∷ [])) key_text key_weighs names.keys (drop (spaces are.after_tags) are.after_tags) are.rest are.keys,
      )

-- no tag key holds a comma, and no tag value an equals sign
abbrev pub AreBareTags : List (Pair (List ℕ) (List ℕ)) → Type 0
AreBareTags tags = AllByRecursion (λ t. (is_one_of t.key comma ≡ false) × (is_one_of t.value equals ≡ false)) tags

-- If each element with a property has another property, all elements of a list with the first property have the second.
each_is : {A : Type 0} (P Q : A → Type 0) → ((x : A) → P x → Q x) → (xs : List A) → AllByRecursion P xs → AllByRecursion Q xs
each_is P Q so [] all = tt
each_is P Q so (x ∷ xs) all = (so x all.0, each_is P Q so xs all.1)

-- names of a line that holds no more marks than its parts need
pub record BareNames (text : List ℕ) (names : Spelling) : Type 0 where
  pub special : held is_special text ≡ 0
  pub tags : AreBareTags names.tags
  pub keys : AllByRecursion (λ k. is_one_of k comma ≡ false) names.keys

-- The names of a line that holds no more marks than its parts need, where the line is an end of the text.
pub bare_names : (text front left : List ℕ) (line : Line) (names : Spelling) → text ≡ front ++ left → IsSpelled left line names
    → held is_mark text + 1 ≤ 2 * (length names.tags + length names.keys) → BareNames text names
bare_names text front left line names ends are few =
    let w = held is_joint in
    let all = line_weighs w (held_append is_joint) left line names are in
    let more = held_append is_joint front left in
    let same = ap w ends in
    let tag_least = least (tag_weight w (held_append is_joint)) (λ t. omega arith) names.tags in
    let key_least = least (key_weight w (held_append is_joint)) (λ k. omega arith) names.keys in
    let kinds = kinds_held text in
    let tags = none_more (tag_weight w (held_append is_joint)) (λ t. omega arith) names.tags (omega (arith, all, more, same, key_least, kinds, few)) in
    let keys = none_more (key_weight w (held_append is_joint)) (λ k. omega arith) names.keys (omega (arith, all, more, same, tag_least, kinds, few)) in
    record {
      special = omega (arith, all, more, same, tag_least, key_least, kinds, few);
      tags = each_is _ _ (λ t light. (none_held is_joint comma t.key refl (omega (arith, light)), none_held is_joint equals t.value refl (omega (arith, light)))) names.tags tags;
      keys = each_is _ _ (λ k light. none_held is_joint comma k refl (omega (arith, light))) names.keys keys;
    }

-- If a text holds no byte that passes a test, no byte of it passes a narrower test.
pub held_nowhere : (test passes : ℕ → Bool) → ((b : ℕ) → passes b ≡ true → test b ≡ true) → (text : List ℕ) → held test text ≡ 0
    → Nowhere (Passes passes text) 0 (length text)
held_nowhere test passes so [] none k low high is = omega (arith, high)
held_nowhere test passes so (x ∷ text) none zero low high is =
    absurd (false≢true (sym (first_fails (test x) (held test text) (sym (held_cons test x text) ∙ none)).0 ∙ so x is))
held_nowhere test passes so (x ∷ text) none (suc k) low high is =
    held_nowhere test passes so text (first_fails (test x) (held test text) (sym (held_cons test x text) ∙ none)).1 k (omega arith) (omega (arith, high)) is

-- A byte that may end a piece, or open a part that goes on, is special: it is no joint.
pub cuts_special : (b : ℕ) → is_byte3 backslash newline quote b ≡ true → is_special b ≡ true
cuts_special b is = elim (cases_Bool (b == backslash)) [
  | inl here ↦ rw (eqb-true b backslash here) refl
  | inr apart_from ↦ elim (cases_Bool (b == newline)) [
    | inl here ↦ rw (eqb-true b newline here) refl
    | inr other ↦ let here : (b == quote) ≡ true = rw (apart_from, other) at is in rw (eqb-true b quote here) refl
  ]
]

-- a mask of 16 bytes has a bit for each mark among them
pub ones_held : (bytes : List ℕ) (at mask : ℕ) → mask ≡ mask_of is_mark bytes at 16 → count_ones mask ≡ held is_mark (take 16 (drop at bytes))
ones_held bytes at mask is = ap count_ones is ∙ ones-mask_l is_mark (take 16 (drop at bytes))

-- The marks of the last bytes are the marks of the last 16 bytes without the marks of the bytes before them.
pub last_held : (bytes : List ℕ) (at left mask few : ℕ) → at + 16 ≡ length bytes → left ≤ 16 → mask ≡ mask_of is_mark bytes at 16
    → few ≡ count_ones (mask % 2 ^ (16 - left)) → count_ones mask ≡ held is_mark (drop (length bytes - left) bytes) + few
last_held bytes at left mask few ends within is low =
    let k = 16 - left in
    let last = drop at bytes in
    let long : length last ≡ 16 = omega (arith, length-drop at bytes) in
    let whole : take 16 last ≡ last = take_all 16 last (omega (arith, long)) in
    let bits = map is_mark (take 16 last) in
    let many : length bits ≡ 16 = length-map (take 16 last) is_mark ∙ ap length whole ∙ long in
    let first : few ≡ held is_mark (take k last) =
    low ∙ ap (λ m. count_ones (m % 2 ^ k)) is ∙ ap count_ones (mask_mod bits k (omega (arith, many)))
    ∙ ap (λ ms. count_ones (mask_l ms)) (take-map is_mark k (take 16 last)) ∙ ones-mask_l is_mark (take k (take 16 last))
    ∙ ap (λ l. held is_mark (take k l)) whole in
    let tail : drop k last ≡ drop (length bytes - left) bytes =
    drop-drop k at bytes ∙ ap (λ n. drop n bytes) (omega (arith, ends, within)) in
    let all : count_ones mask ≡ held is_mark last = ones_held bytes at mask is ∙ ap (held is_mark) whole in
    omega (
      arith,
      all,
      ap (held is_mark) (take-append-drop k last),
      held_append is_mark (take k last) (drop k last),
      first,
      ap (held is_mark) tail,
    )

-- a text that is read has bytes
pub some_read : (left : List ℕ) (line : Line) → answer Strict left ≡ Ok line → 0 < length left
unfolding name first_bare
some_read [] line read = let first = (answer_parts Strict [] line read).measurement in absurd (grind arith)
some_read (b ∷ left) line read = omega arith
