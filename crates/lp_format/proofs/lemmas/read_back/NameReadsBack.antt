-- An admitted name reads back from its spelling, and a point from its line.
use Rattle.std.proofs.Common.{◌≡◌, ◌≢◌, ℕ, ◌<◌, List, [], ◌∷◌, length, slice_index, Bool, true, false, not, refl, arith, ◌++◌, map, Option}
use Rattle.std.proofs.Common.{Some, None, flat_map}
use Rattle.std.specs.List.{list_all}
use Rattle.std.proofs.lemmas.{Bool.cases_Bool, Bool.and_parts, Bool.eqb-false, Bool.not-true, Grind.common_steps}
use Rattle.lp_format.specs.format.{backslash, hash, is_one_of, space, NameKind, a_measurement, a_tag_key, a_tag_value, a_field_key}
use Rattle.lp_format.specs.format.{ends_in_backslash, escapable, is_escapable, is_stop, logical, read_text, Text, escaped, without_escapes}
use Rattle.lp_format.specs.format.{is_admitted_name, never_in, spelling, Pair, Point, Tag, Field, built_tag, Value, integer, unsigned}
use Rattle.lp_format.specs.format.{float, string, boolean, quotable, Line, point_of, logical_tag, logical_field, some_tags}
use Rattle.lp_format.proofs.lemmas.names.NameLemmas.{escapable_backslash, without_escapes_same, without_escapes_known}
use Rattle.lp_format.proofs.lemmas.names.NameLemmas.{without_escapes_plain_byte}

-- whether a name of this kind may hold the byte
abbrev pub may_hold : NameKind → ℕ → Bool
may_hold kind b = not (is_one_of (never_in kind) b)

-- a byte that a name may hold and that is not escaped in it does not end the name
pub stop_escapable : (kind : NameKind) (b : ℕ) → may_hold kind b ≡ true → is_escapable kind b ≡ false → is_stop kind b ≡ false
stop_escapable kind b h k = grind (arith, common_steps)

-- a backslash does not end a name
pub backslash_no_stop : (kind : NameKind) → is_stop kind backslash ≡ false
backslash_no_stop kind = grind arith

-- a backslash may escape a space in each name
pub space_escapable : (kind : NameKind) → is_escapable kind space ≡ true
space_escapable kind = grind arith

-- a byte that is escaped gets a backslash before it
pub escaped_found : (known text : List ℕ) (b : ℕ) → is_one_of known b ≡ true → escaped known (b ∷ text) ≡ backslash ∷ b ∷ escaped known text
unfolding escaped
escaped_found known text b found = rw found refl

-- a byte that is not escaped stays as it is
pub escaped_plain : (known text : List ℕ) (b : ℕ) → is_one_of known b ≡ false → escaped known (b ∷ text) ≡ b ∷ escaped known text
unfolding escaped
escaped_plain known text b plain = rw plain refl

-- the logical text of an escaped text is the text
pub without_escapes_escaped : (known n : List ℕ) → is_one_of known backslash ≡ true → without_escapes known (escaped known n) ≡ n
unfolding escaped
without_escapes_escaped known [] closed = without_escapes_same known [] (λ i l. absurd (omega arith))
without_escapes_escaped known (b ∷ n) closed =
    grind (arith, cases_Bool, without_escapes_known, without_escapes_plain_byte, without_escapes_escaped known n closed)

-- the logical text of the spelling of a name is the name
pub logical_spelling : (kind : NameKind) (n : List ℕ) → logical kind (spelling kind n) ≡ n
logical_spelling kind n = without_escapes_escaped (escapable kind) n (escapable_backslash kind)

-- an admitted name: it is not empty, does not end in a backslash, and holds only bytes that it may hold
pub record Admitted (kind : NameKind) (n : List ℕ) : Type 0 where
  pub some : 0 < length n
  pub ends : ends_in_backslash n ≡ false
  pub may : list_all (may_hold kind) n ≡ true

-- a name that passes `is_admitted_name` is as `Admitted` says
pub admitted_parts : (kind : NameKind) (n : List ℕ) → is_admitted_name kind n ≡ true → Admitted kind n
unfolding is_admitted_name
admitted_parts kind n h = grind (arith, and_parts, eqb-false, not-true)

-- an admitted measurement does not begin with `#`
pub begins_otherwise : (n : List ℕ) → is_admitted_name a_measurement n ≡ true → slice_index n 0 ≢ hash
unfolding is_admitted_name
begins_otherwise n ok = λ e. let h : false ≡ true = (and_parts _ false (rw e at ok)).1 in cc

-- the text that the spelling of a name is read as
abbrev pub read_name : NameKind → List ℕ → Text
read_name kind n = read_text (escapable kind) (spelling kind n)

-- the value that the text of a value is read as
abbrev pub read_value : Value (List ℕ) → Value Text
read_value (integer z) = integer z
read_value (unsigned n) = unsigned n
read_value (float t) = float t
read_value (string t) = string (read_text quotable (escaped quotable t))
read_value (boolean b) = boolean b

abbrev pub read_tag : Tag → Pair Text Text
read_tag t = record { key = read_name a_tag_key t.key; value = read_name a_tag_value t.value }

abbrev pub read_field : Field → Pair Text (Value Text)
read_field f = record { key = read_name a_field_key f.key; value = read_value f.value }

-- the tag set that the text of tags is read as: no tag set if there are no tags
abbrev pub read_tags : List Tag → Option (List (Pair Text Text))
read_tags [] = None
read_tags (t ∷ ts) = Some (map read_tag (t ∷ ts))

-- the line that the text of a point is read as
abbrev pub read_line : Point → Line
read_line p =
    record {
      series = spelling a_measurement p.measurement ++ flat_map built_tag p.tags;
      measurement = read_name a_measurement p.measurement;
      tags = read_tags p.tags;
      fields = map read_field p.fields;
      timestamp = p.timestamp;
    }

-- the logical texts of a tag that is read back are the tag
read_tag_is : (t : Tag) → logical_tag (read_tag t) ≡ t
read_tag_is t = rw (logical_spelling a_tag_key t.key, logical_spelling a_tag_value t.value) refl

-- the logical texts of a field that is read back are the field
read_field_is : (f : Field) → logical_field (read_field f) ≡ f
read_field_is f = grind (arith, logical_spelling, without_escapes_escaped)

-- a list that is mapped there and back is the list
map_back : {A B : Type 0} (there : A → B) (back : B → A) → ((x : A) → back (there x) ≡ x) → (xs : List A) → map back (map there xs) ≡ xs
map_back there back same [] = refl
map_back there back same (x ∷ xs) = rw (same x, map_back there back same xs) refl

-- the point of a line that is read back is the point
pub read_line_is : (p : Point) → point_of (read_line p) ≡ p
read_line_is p =
    let tags : map logical_tag (some_tags (read_tags p.tags)) ≡ p.tags = grind (arith, map_back, read_tag_is) in
    rw (logical_spelling a_measurement p.measurement, tags, map_back read_field logical_field read_field_is p.fields) refl
