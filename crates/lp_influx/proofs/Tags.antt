-- InfluxDB's reader reads the same tags of a portable line as the strict reader.
use Rattle.std.proofs.Common.{◌≡◌, ℕ, ◌<◌, ◌≤◌, List, [], ◌∷◌, ◌++◌, length, true, false, ◌==◌, refl, sym, ap, ◌∙◌, arith, inl, inr}
use Rattle.std.proofs.Common.{eqb-true, length-drop}
use Rattle.std.proofs.lemmas.{Bool.cases_Bool}
use Rattle.std.specs.List.{list_any}
use Rattle.lp_format.specs.format.{Pair, a_tag_key, a_tag_value, backslash, byte, comma, ends_in_backslash, equals, is_one_of}
use Rattle.lp_format.specs.format.{reads, space}
use Rattle.lp_values.proofs.lemmas.fields.ReadingLemmas.{bind_reads, byte_parts, reads_parts}
use Rattle.lp_portable.specs.format.Spellings.{AreAfterCommas, holds, name_text, tag_text}
use Rattle.lp_portable.specs.format.Portable.{has_comma, has_escape, has_sign}
use Rattle.lp_portable.proofs.HeldBytes.{neither}
use Rattle.lp_influx.specs.format.InfluxNames.{influx_tag, influx_tags, some_of, tag_ends, until, value_front}
use Rattle.lp_influx.proofs.NameFronts.{NameFront, are_fewer, bare_by, front_is, ends_cons, many_reads, some_reads, until_name}

-- If a text whose first byte is no backslash does not hold some bytes, neither does the text after this byte.
holds_after : (escaped marks : List ℕ) (b : ℕ) (text : List ℕ) → (b == backslash) ≡ false → holds escaped marks (b ∷ text) ≡ false
    → holds escaped marks text ≡ false
unfolding holds
holds_after escaped marks b [] plain h = refl
holds_after escaped marks b (c ∷ text) plain h = (neither (is_one_of marks b) (holds escaped marks (c ∷ text)) (rw plain at h)).1

-- If a text does not end in a backslash, neither does the text after its first byte.
pub last_after : (b : ℕ) (text : List ℕ) → ends_in_backslash (b ∷ text) ≡ false → ends_in_backslash text ≡ false
last_after b [] last = refl
last_after b (c ∷ text) last = sym (ends_cons b (c ∷ text) (omega arith)) ∙ last

-- a tag as it is spelled: its key, an equals sign and its value
record TagFront (text : List ℕ) (t : Pair (List ℕ) (List ℕ)) (rest : List ℕ) : Type 0 where
  mid : List ℕ
  key : NameFront a_tag_key text t.key (equals ∷ mid)
  value : NameFront a_tag_value mid t.value rest

-- each tag that is spelled so has them
tag_front : (text : List ℕ) (t : Pair (List ℕ) (List ℕ)) (rest : List ℕ) → tag_text text ≡ reads t rest → TagFront text t rest
tag_front text t rest e =
    let one = bind_reads (name_text a_tag_key text) _ t rest e in
    let two = bind_reads (byte equals one.mid) _ t rest one.next in
    let three = bind_reads (name_text a_tag_value two.mid) _ t rest two.next in
    let sign = (byte_parts equals one.mid two.first two.mid two.was).1 in
    let same = reads_parts _ t three.mid rest three.next in
    let key : one.first ≡ t.key = ap (λ (p : Pair (List ℕ) (List ℕ)). p.key) same.0 in
    let val : three.first ≡ t.value = ap (λ (p : Pair (List ℕ) (List ℕ)). p.value) same.0 in
    record {
      mid = two.mid;
      key = front_is a_tag_key text one.first t.key one.mid (equals ∷ two.mid) one.was key sign;
      value = front_is a_tag_value two.mid three.first t.value three.mid rest three.was val same.1;
    }

-- a value that may begin with an equals sign, before a byte that ends it
value_front_is : (val rest : List ℕ) (b : ℕ) → is_one_of tag_ends b ≡ true → 0 < length val → holds (backslash ∷ []) [] val ≡ false
    → holds [] (comma ∷ space ∷ []) val ≡ false → holds [] (equals ∷ []) val ≡ false → ends_in_backslash val ≡ false
    → value_front (val ++ b ∷ rest) ≡ val
value_front_is [] rest b end some no_pair no_end no_sign last = absurd (omega arith)
value_front_is (c ∷ val) rest b end some no_pair no_end no_sign last = elim (cases_Bool (c == equals)) [
  | inl sign ↦
      let is = eqb-true c equals sign in
      let plain : (c == backslash) ≡ false = rw is refl in
      let ends = holds_after [] (comma ∷ space ∷ []) c val plain no_end in
      let signs = holds_after [] (equals ∷ []) c val plain no_sign in
      let bare = bare_by (comma ∷ space ∷ []) (equals ∷ []) tag_ends val (λ d h k. grind (arith, neither, h, k)) ends signs in
      rw sign (ap (λ (t : List ℕ). c ∷ t) (until_name tag_ends val rest b refl end (holds_after (backslash ∷ []) [] c val plain no_pair) bare (last_after c val last)))
  | inr other ↦
      let bare = bare_by (comma ∷ space ∷ []) (equals ∷ []) tag_ends (c ∷ val) (λ d h k. grind (arith, neither, h, k)) no_end no_sign in
      rw other (until_name tag_ends (c ∷ val) rest b refl end no_pair bare last)
]

-- A tag without escaped backslashes, commas and equals signs is read as it is spelled, before a byte that ends a tag.
tag_alike : (text rest : List ℕ) (t : Pair (List ℕ) (List ℕ)) (b : ℕ) → tag_text text ≡ reads t (b ∷ rest) → is_one_of (comma ∷ space ∷ []) b ≡ true
    → has_escape t ≡ false → has_comma t ≡ false → has_sign t ≡ false → influx_tag text ≡ reads t (b ∷ rest)
tag_alike text rest t b e end escapes commas signs =
    let f = tag_front text t (b ∷ rest) e in
    let pairs = neither (holds (backslash ∷ []) [] t.key) (holds (backslash ∷ []) [] t.value) escapes in
    let key_bare = bare_by (comma ∷ []) (equals ∷ space ∷ []) tag_ends t.key (λ d h k. grind (arith, neither, h, k)) commas
    (f.key.bare_bytes (equals ∷ space ∷ []) refl (λ d h. grind (arith, neither, h))) in
    let key = until_name tag_ends t.key f.mid equals refl refl pairs.0 key_bare f.key.last in
    let value_end : is_one_of tag_ends b ≡ true = grind (arith, cases_Bool) in
    let val = value_front_is t.value rest b value_end f.value.some pairs.1
    (f.value.bare_bytes (comma ∷ space ∷ []) refl (λ d h. grind (arith, neither, h))) signs f.value.last in
    rw (f.key.whole, key, some_reads t.key (equals ∷ f.mid) f.key.some) (rw (f.value.whole, val, some_reads t.value (b ∷ rest) f.value.some) refl)

-- After a tag, InfluxDB's reader leaves a text that is no longer.
tag_no_longer : (text : List ℕ) (t : Pair (List ℕ) (List ℕ)) (rest : List ℕ) → influx_tag text ≡ reads t rest → length rest ≤ length text
tag_no_longer text t rest e =
    let one = bind_reads (some_of (until tag_ends false text) text) _ t rest e in
    let two = bind_reads (byte equals one.mid) _ t rest one.next in
    let three = bind_reads (some_of (value_front two.mid) two.mid) _ t rest two.next in
    let sign = (byte_parts equals one.mid two.first two.mid two.was).1 in
    let same = reads_parts _ t three.mid rest three.next in
    omega (arith, some_left (until tag_ends false text) text one.first one.mid one.was, some_left (value_front two.mid) two.mid three.first three.mid three.was, ap length sign, ap length same.1)
  where
    -- The text after a front is no longer than the text.
    some_left : (front text found rest : List ℕ) → some_of front text ≡ reads found rest → length rest ≤ length text
    some_left front text found rest e = grind (arith, cases_Bool, length-drop)

-- A text of tags after commas and a space begins with a comma or a space.
pub next_byte : (tags : List (Pair (List ℕ) (List ℕ))) (text rest : List ℕ) → AreAfterCommas tag_text tags text (space ∷ rest)
    → (b : ℕ) × (more : List ℕ) × (text ≡ b ∷ more) × (is_one_of (comma ∷ space ∷ []) b ≡ true)
next_byte [] text rest are = (space, rest, are, refl)
next_byte (t ∷ tags) text rest are =
    let two = bind_reads (byte comma text) (λ after. tag_text after.rest) t are.0 are.1 in
    (comma, two.mid, (byte_parts comma text two.first two.mid two.was).1, refl)

-- Tags after commas and before a space are the tags that are read.
tags_after : (tags : List (Pair (List ℕ) (List ℕ))) (text rest : List ℕ) → AreAfterCommas tag_text tags text (space ∷ rest)
    → list_any has_escape tags ≡ false → list_any has_comma tags ≡ false → list_any has_sign tags ≡ false
    → AreAfterCommas influx_tag tags text (space ∷ rest)
tags_after [] text rest are escapes commas signs = are
tags_after (t ∷ tags) text rest are escapes commas signs =
    let no_escape = neither (has_escape t) (list_any has_escape tags) escapes in
    let no_comma = neither (has_comma t) (list_any has_comma tags) commas in
    let no_sign = neither (has_sign t) (list_any has_sign tags) signs in
    let two = bind_reads (byte comma text) (λ after. tag_text after.rest) t are.0 are.1 in
    let begins = next_byte tags are.0 rest are.2 in
    let here = tag_alike two.mid begins.1 t begins.0 (two.next ∙ ap (λ (r : List ℕ). reads t r) begins.2) begins.3 no_escape.0 no_comma.0 no_sign.0 in
    (are.0, rw (two.was, here, ← begins.2) refl, tags_after tags are.0 rest are.2 no_escape.1 no_comma.1 no_sign.1)

-- InfluxDB's reader reads the tags after commas as they are spelled.
pub tags_alike : (tags : List (Pair (List ℕ) (List ℕ))) (text rest : List ℕ) → AreAfterCommas tag_text tags text (space ∷ rest)
    → list_any has_escape tags ≡ false → list_any has_comma tags ≡ false → list_any has_sign tags ≡ false
    → influx_tags text ≡ reads tags (space ∷ rest)
tags_alike tags text rest are escapes commas signs =
    let read = tags_after tags text rest are escapes commas signs in
    many_reads influx_tag tags (length text) text (space ∷ rest) (are_fewer influx_tag tag_no_longer tags text (space ∷ rest) read) read refl
