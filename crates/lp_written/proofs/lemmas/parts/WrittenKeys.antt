-- Keys that stand in a text: their bytes, their order, and the tags one by one.
use Rattle.std.proofs.Common.{◌≡◌, ◌≢◌, ℕ, ◌-◌, true, false, List, [], ◌∷◌, ◌++◌, length, refl, sym, ap, subst, ◌∙◌, arith, append_assoc, append-nil}
use Rattle.std.proofs.Common.{length-append, take}
use Rattle.std.proofs.Math.Seq.{take-append_seam}
use Rattle.std.proofs.Common.{Bor, Option, Some, None, flat_map, is_lt, nat_cmp}
use Rattle.std.specs.{Cmp.Lexicographic.slice_cmp, List.AllByRecursion}
use Rattle.std.proofs.lemmas.{Bool.and_from, Bool.and_parts, Bool.cases_Bool, Bool.false≢true, List.append_cancel_right}
use Rattle.lp_format.specs.format.{backslash, comma, equals, space, escaped, is_one_of, spelling, byte, miss, reads}
use Rattle.lp_format.specs.format.{Tag, a_measurement, a_tag_key, a_tag_value, built_tag, NameKind, logical, is_admitted_name, is_stop}
use Rattle.lp_format.proofs.lemmas.{read_back.NameReadsBack.escaped_found, read_back.NameReadsBack.escaped_plain, read_back.NameReadsBack.logical_spelling, values.ValueForms.byte_missing}
use Rattle.lp_lines.specs.code.Keys.{key_text, series_key, sorted_by}
use Rattle.lp_lines.proofs.lemmas.series.SortedByKey.{Ordered, all_sorted, by_key, by_key_order, ordered_sorted}
use Rattle.lp_written.specs.code.AsWritten.{EndsName, IsOnlyRest, IsWrittenName, written_len}
use Rattle.lp_written.specs.code.WrittenKeys.{AreInOrder, AreTagsAfter, AreTagsFront, EndsSeries, IsAdmittedKey, IsNotLess, IsTag}
use Rattle.lp_written.specs.code.WrittenKeys.{tag_text}
use Rattle.lp_written.proofs.lemmas.parts.WrittenNames.{byte_left, stop_ends}

-- the key of a tag
abbrev tag_key : Tag → List ℕ
tag_key t = t.key

-- If the text of a name is empty, the name is empty.
pub empty_name : (known name text : List ℕ) → length text ≡ 0 → text ≡ escaped known name → name ≡ []
empty_name known [] text none e = refl
empty_name known (c ∷ name) text none e = grind (arith, cases_Bool, escaped_found, escaped_plain)

-- a byte that is no backslash is the first of the name
pub plain_byte : (known name : List ℕ) (b : ℕ) (rest : List ℕ) → is_one_of known backslash ≡ true → b ≢ backslash
    → b ∷ rest ≡ escaped known name → (more : List ℕ) × (name ≡ b ∷ more) × (rest ≡ escaped known more)
unfolding escaped
plain_byte known [] b rest closed plain e = absurd (cc)
plain_byte known (c ∷ name) b rest closed plain e = (name, grind (arith, cases_Bool), grind (arith, cases_Bool))

-- a backslash alone is no name
pub no_backslash_alone : (known name : List ℕ) (b : ℕ) (rest : List ℕ) → is_one_of known backslash ≡ true → b ≡ backslash
    → length rest ≡ 0 → b ∷ rest ≡ escaped known name → ⊥
unfolding escaped
no_backslash_alone known [] b rest closed is none e = cc
no_backslash_alone known (c ∷ name) b rest closed is none e = grind (arith, cases_Bool, false≢true)

-- the byte after a backslash is the first of the name
pub escaped_byte_is : (known name : List ℕ) (b : ℕ) (rest : List ℕ) → is_one_of known backslash ≡ true
    → backslash ∷ b ∷ rest ≡ escaped known name → (more : List ℕ) × (name ≡ b ∷ more) × (rest ≡ escaped known more)
unfolding escaped
escaped_byte_is known [] b rest closed e = absurd (cc)
escaped_byte_is known (c ∷ name) b rest closed e = (name, grind (arith, cases_Bool, false≢true), grind (arith, cases_Bool, false≢true))

-- the bytes of a name as the builder writes it
pub ruleset byte_steps = (empty_name, plain_byte, no_backslash_alone, escaped_byte_is)

-- no key is less than the empty text
pub not_less_than_nothing : (m : List ℕ) → is_lt (slice_cmp nat_cmp m []) ≡ false
not_less_than_nothing [] = refl
not_less_than_nothing (b ∷ m) = refl

-- A front of a text is the part of the text that its rest leaves.
pub front_is : (xs ys text : List ℕ) → xs ++ ys ≡ text → take (length text - length ys) text ≡ xs
front_is xs ys text whole =
    let n : length text - length ys ≡ length xs = omega (arith, ap length whole, length-append xs ys) in
    rw (n, ← whole) (take-append_seam xs ys)

-- Two names with the same spelling are the same name.
one_name : (kind : NameKind) (m n : List ℕ) → spelling kind m ≡ spelling kind n → m ≡ n
one_name kind m n same = sym (logical_spelling kind m) ∙ ap (logical kind) same ∙ logical_spelling kind n

-- the key of a tag is written before its sign
key_before_sign : (t : Tag) (text rest : List ℕ) → IsTag t → tag_text t ++ rest ≡ text
    → IsWrittenName a_tag_key text (equals ∷ (spelling a_tag_value t.value ++ rest))
key_before_sign t text rest is whole =
    let names = and_parts (is_admitted_name a_tag_key t.key) (is_admitted_name a_tag_value t.value) is in
    record { thing = t.key; is = names.0; written = sym (append_assoc (spelling a_tag_key t.key) (equals ∷ spelling a_tag_value t.value) rest) ∙ whole }

-- if no key is at the start of a text, no tag is
pub no_key : (text : List ℕ) → ((rest : List ℕ) → IsWrittenName a_tag_key text rest → EndsName a_tag_key rest → ⊥)
    → (t : Tag) (rest : List ℕ) → IsTag t → tag_text t ++ rest ≡ text → ⊥
no_key text none t rest is whole = none _ (key_before_sign t text rest is whole)
    (stop_ends a_tag_key equals (spelling a_tag_value t.value ++ rest) refl (λ e. omega (arith, e)))

-- The only key at the start of a text, and the rest after it, are the key and the rest of each tag there.
pub key_of_tag : (text key_end : List ℕ) (k : IsWrittenName a_tag_key text key_end)
    → ((rest : List ℕ) → IsWrittenName a_tag_key text rest → EndsName a_tag_key rest → rest ≡ key_end)
    → (t : Tag) (rest : List ℕ) → IsTag t → tag_text t ++ rest ≡ text
    → (t.key ≡ k.thing) × (key_end ≡ equals ∷ (spelling a_tag_value t.value ++ rest))
unfolding key_before_sign
key_of_tag text key_end k only t rest is whole =
    let w = key_before_sign t text rest is whole in
    let after = only _ w (stop_ends a_tag_key equals (spelling a_tag_value t.value ++ rest) refl (λ e. omega (arith, e))) in
    let same = ap (λ (r : List ℕ). spelling a_tag_key t.key ++ r) (sym after) ∙ w.written ∙ sym k.written in
    (one_name a_tag_key t.key k.thing (append_cancel_right (spelling a_tag_key t.key) (spelling a_tag_key k.thing) key_end same), sym after)

-- After the equals sign of a tag, the text is the value of the tag.
value_after : (value key_end rest : List ℕ) (t : Tag) → key_end ≡ equals ∷ value → IsTag t
    → key_end ≡ equals ∷ (spelling a_tag_value t.value ++ rest) → (w : IsWrittenName a_tag_value value rest) × (w.thing ≡ t.value)
value_after value key_end rest t sign is whole =
    let names = and_parts (is_admitted_name a_tag_key t.key) (is_admitted_name a_tag_value t.value) is in
    (record { thing = t.value; is = names.1; written = cc (sign, whole) }, refl)

-- if no value follows the sign of a key, no tag is at the start of the text
pub no_value : (value key_end rest : List ℕ) (t : Tag) → key_end ≡ equals ∷ value → IsTag t
    → key_end ≡ equals ∷ (spelling a_tag_value t.value ++ rest) → EndsName a_tag_value rest
    → ((rest : List ℕ) → IsWrittenName a_tag_value value rest → EndsName a_tag_value rest → ⊥) → ⊥
no_value value key_end rest t sign is whole ends none = none rest (value_after value key_end rest t sign is whole).0 ends

-- a key and the value after its sign are the only tag at the start of a text
pub tag_is : (text key_end value rest : List ℕ) (k : IsWrittenName a_tag_key text key_end)
    → ((rest : List ℕ) → IsWrittenName a_tag_key text rest → EndsName a_tag_key rest → rest ≡ key_end)
    → key_end ≡ equals ∷ value → (v : IsWrittenName a_tag_value value rest)
    → ((rest' : List ℕ) → IsWrittenName a_tag_value value rest' → EndsName a_tag_value rest' → rest' ≡ rest)
    → (t : Tag) × IsTag t × (tag_text t ++ rest ≡ text) × (t.key ≡ k.thing)
    × ((u : Tag) (after : List ℕ) → IsTag u → tag_text u ++ after ≡ text → EndsName a_tag_value after → (u ≡ t) × (after ≡ rest))
unfolding value_after
tag_is text key_end value rest k only sign v last = (
  record { key = k.thing; value = v.thing },
  and_from _ _ k.is v.is,
  append_assoc (spelling a_tag_key k.thing) (equals ∷ spelling a_tag_value v.thing) rest
      ∙ ap (λ (r : List ℕ). spelling a_tag_key k.thing ++ (equals ∷ r)) v.written ∙ ap (λ (r : List ℕ). spelling a_tag_key k.thing ++ r) (sym sign)
      ∙ k.written,
  refl,
  λ u after is whole ends.
      let key = key_of_tag text key_end k only u after is whole in
      let w = value_after value key_end after u sign is key.1 in
      let same = last after w.0 ends in
      let value = ap (λ (r : List ℕ). spelling a_tag_value u.value ++ r) (sym same) ∙ w.0.written ∙ sym v.written in
      let values = one_name a_tag_value u.value v.thing (append_cancel_right (spelling a_tag_value u.value) (spelling a_tag_value v.thing) rest value) in
      ((λ i. record { key = key.0 i; value = values i }), same),
)

-- A text of tags and an end of the series ends a name that stands before it.
tags_end : (kind : NameKind) → is_stop kind comma ≡ true → is_stop kind space ≡ true → (ts : List Tag) (rest : List ℕ) → EndsSeries rest
    → EndsName kind (flat_map built_tag ts ++ rest)
unfolding written_len
tags_end kind at_comma at_space [] [] ends = refl
tags_end kind at_comma at_space [] (b ∷ rest) ends =
    subst (λ c. EndsName kind (c ∷ rest)) (sym ends) (stop_ends kind space rest at_space (λ e. omega (arith, e)))
tags_end kind at_comma at_space (t ∷ ts) rest ends = stop_ends kind comma _ at_comma (λ e. omega (arith, e))

-- The first of the tags in order with which a text begins after a comma, and the rest after this tag.
record IsFirstOf (before tag rest : List ℕ) : Type 0 where
  first : Tag
  more : List Tag
  is : IsTag first
  not_less : IsNotLess before first.key
  whole : tag_text first ++ (flat_map built_tag more ++ rest) ≡ tag
  all : AllByRecursion IsTag more
  order : AreInOrder first.key more

-- if a comma is there, a tag is
first_of : (before left tag rest : List ℕ) → left ≡ comma ∷ tag → AreTagsAfter before left rest → EndsSeries rest → IsFirstOf before tag rest
first_of before left tag rest begins w ends = by_tags w.thing w.is.0 w.is.1 w.written
  where
    -- The first of the tags, by whether there is a tag.
    by_tags : (ts : List Tag) → AllByRecursion IsTag ts → AreInOrder before ts → flat_map built_tag ts ++ rest ≡ left → IsFirstOf before tag rest
    by_tags [] all order whole = absurd (no_comma (whole ∙ begins))
      where
        -- a series ends before no comma
        no_comma : rest ≡ comma ∷ tag → ⊥
        no_comma e = let ended = subst EndsSeries e ends in omega (arith, ended)
    by_tags (t ∷ ts) all order whole = record {
      first = t;
      more = ts;
      is = all.0;
      not_less = order.0;
      whole = let text = sym (append_assoc (built_tag t) (flat_map built_tag ts) rest) ∙ whole ∙ begins in cc;
      all = all.1;
      order = order.1;
    }

-- if no tag follows, none is told of
pub no_tag : (before left tag : List ℕ) → left ≡ comma ∷ tag
    → ((t : Tag) (rest : List ℕ) → IsTag t → tag_text t ++ rest ≡ tag → EndsName a_tag_value rest → IsNotLess before t.key → ⊥)
    → (rest : List ℕ) → AreTagsAfter before left rest → EndsSeries rest → ⊥
no_tag before left tag begins none rest w ends =
    let f = first_of before left tag rest begins w ends in
    none f.first _ f.is f.whole (tags_end a_tag_value refl refl f.more rest ends) f.not_less

-- The answer for the tags after the first tag is the answer for all tags.
pub tag_more : (before left tag after : List ℕ) (t : Tag) → left ≡ comma ∷ tag → IsTag t → tag_text t ++ after ≡ tag → IsNotLess before t.key
    → ((u : Tag) (rest : List ℕ) → IsTag u → tag_text u ++ rest ≡ tag → EndsName a_tag_value rest → (u ≡ t) × (rest ≡ after))
    → (told : Option (Bor (List ℕ))) → IsOnlyRest (AreTagsAfter t.key after) EndsSeries told → IsOnlyRest (AreTagsAfter before left) EndsSeries told
tag_more before left tag after t begins is whole not_less only told = go told
  where
    -- The rest after all tags is the rest after the tags that follow the first tag.
    others : (rest : List ℕ) → AreTagsAfter before left rest → EndsSeries rest → AreTagsAfter t.key after rest
    others rest w ends =
        let f = first_of before left tag rest begins w ends in
        let same = only f.first _ f.is f.whole (tags_end a_tag_value refl refl f.more rest ends) in
        record { thing = f.more; is = (f.all, subst (λ (u : Tag). AreInOrder u.key f.more) same.0 f.order); written = same.1 }

    -- The answer for all tags, by the answer for the tags after the first tag.
    go : (told : Option (Bor (List ℕ))) → IsOnlyRest (AreTagsAfter t.key after) EndsSeries told → IsOnlyRest (AreTagsAfter before left) EndsSeries told
    go None none = λ rest w ends. none rest (others rest w ends) ends
    go (Some r) found = (
      record {
        thing = t ∷ found.0.thing;
        is = ((is, found.0.is.0), (not_less, found.0.is.1));
        written = append_assoc (built_tag t) (flat_map built_tag found.0.thing) r.now ∙ ap (λ (xs : List ℕ). built_tag t ++ xs) found.0.written
            ∙ ap (λ (xs : List ℕ). comma ∷ xs) whole ∙ sym begins;
      },
      λ rest w ends. found.1 rest (others rest w ends) ends,
    )

-- if no comma is there, no tag is, and the text is left
pub tags_left : (before left : List ℕ) (r : Bor (List ℕ)) → byte comma left ≡ miss → r.now ≡ left
    → IsOnlyRest (AreTagsAfter before left) EndsSeries (Some r)
tags_left before left r missed is = (
  record { thing = []; is = (tt, tt); written = is },
  λ rest w ends. by_tags rest w.thing w.written ends,
)
  where
    -- The rest after the tags, by whether there is a tag.
    by_tags : (rest : List ℕ) (ts : List Tag) → flat_map built_tag ts ++ rest ≡ left → EndsSeries rest → rest ≡ r.now
    by_tags rest [] whole ends = whole ∙ sym is
    by_tags rest (t ∷ ts) whole ends = absurd (byte_missing comma left missed _ (sym whole ∙ append_assoc (built_tag t) (flat_map built_tag ts) rest))

-- tags that are sorted are in order
in_order : (before : List ℕ) (ts : List Tag) → AllByRecursion (λ t. IsNotLess before t.key) ts → Ordered (by_key tag_key) (by_key_order tag_key) ts
    → AreInOrder before ts
in_order before [] after up = tt
in_order before (t ∷ ts) after up = (after.0, in_order t.key ts up.0 up.1)

-- each key is not less than the empty text
after_nothing : (ts : List Tag) → AllByRecursion (λ t. IsNotLess [] t.key) ts
after_nothing [] = tt
after_nothing (t ∷ ts) = (not_less_than_nothing t.key, after_nothing ts)

-- tags in order are sorted
sorted_already : (before : List ℕ) (ts : List Tag) → AreInOrder before ts → sorted_by tag_key ts ≡ ts
sorted_already before [] order = refl
sorted_already before (t ∷ []) order = refl
sorted_already before (t ∷ u ∷ ts) order = rw (sorted_already t.key (u ∷ ts) order.1, order.1.0) refl

-- a key at the start of a text, after which a series ends: its measurement, and its tags in order
pub parts_of_key : (text key rest : List ℕ) → key ++ rest ≡ text → EndsSeries rest → IsAdmittedKey key
    → (tags : List ℕ) × IsWrittenName a_measurement text tags × EndsName a_measurement tags × AreTagsFront tags rest
unfolding series_key
parts_of_key text key rest whole ends k =
    let ts = sorted_by tag_key k.tags in (
      flat_map built_tag ts ++ rest,
      record {
        thing = k.measurement;
        is = k.named;
        written = sym (append_assoc (spelling a_measurement k.measurement) (flat_map built_tag ts) rest)
            ∙ ap (λ (xs : List ℕ). xs ++ rest) k.is ∙ whole;
      },
      tags_end a_measurement refl refl ts rest ends,
      record {
        thing = ts;
        is = (all_sorted tag_key IsTag k.tags k.tagged, in_order [] ts (after_nothing ts) (ordered_sorted tag_key k.tags));
        written = refl;
      },
    )

-- a measurement, and tags in order after it, are a key
pub key_of_parts : (text tags rest : List ℕ) → IsWrittenName a_measurement text tags → AreTagsFront tags rest
    → (key : List ℕ) × (key ++ rest ≡ text) × IsAdmittedKey key
unfolding series_key
key_of_parts text tags rest n f = (
  key_text n.thing f.thing,
  append_assoc (spelling a_measurement n.thing) (flat_map built_tag f.thing) rest
      ∙ ap (λ (xs : List ℕ). spelling a_measurement n.thing ++ xs) f.written ∙ n.written,
  record {
    measurement = n.thing;
    tags = f.thing;
    named = n.is;
    tagged = f.is.0;
    is = ap (key_text n.thing) (sorted_already [] f.thing f.is.1);
  },
)

-- The lent text is the key before the rest.
pub lent_key : (text key rest lent : List ℕ) → key ++ rest ≡ text → IsAdmittedKey key → EndsSeries rest
    → lent ≡ take (length text - length rest) text → IsAdmittedKey lent × ((rest : List ℕ) × (lent ++ rest ≡ text) × EndsSeries rest)
lent_key text key rest lent whole k ends is =
    let same = is ∙ front_is key rest text whole in
    (subst IsAdmittedKey (sym same) k, (rest, ap (λ (xs : List ℕ). xs ++ rest) same ∙ whole, ends))

-- a text is the key if nothing is left
pub whole_key : (text key rest : List ℕ) → key ++ rest ≡ text → IsAdmittedKey key → length rest ≡ 0
    → IsAdmittedKey text × ((rest : List ℕ) × (text ++ rest ≡ text) × EndsSeries rest)
whole_key text key [] whole k none = (subst IsAdmittedKey (sym (append-nil key) ∙ whole) k, ([], append-nil text, tt))
whole_key text key (b ∷ rest) whole k none = absurd (omega arith)

-- a series ends at a space
pub space_ends : (rest after : List ℕ) → byte space rest ≡ reads space after → EndsSeries rest
space_ends rest after read = subst EndsSeries (sym (byte_left space rest after read)) refl

-- a rest that is not empty and does not begin with a space ends none
pub no_end : (rest : List ℕ) → length rest ≢ 0 → byte space rest ≡ miss → EndsSeries rest → ⊥
no_end [] some missed ends = some refl
no_end (b ∷ rest) some missed ends = byte_missing space (b ∷ rest) missed rest (ap (λ (c : ℕ). c ∷ rest) ends)
