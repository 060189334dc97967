-- The answer for a line.
use Rattle.std.specs.Prelude.{ℕ, zero, suc, ℤ, ◌-◌, ◌==◌, ◌||◌, List, [], ◌∷◌, ◌++◌, length, take, drop, map, if◌then◌else◌, Option, Some}
use Rattle.std.specs.Prelude.{None, Result, Ok, Err}
use Rattle.std.specs.{List.prefix_len, Str.Parse.signed_digits_value}
use Rattle.lp_format.specs.format.{Dialects.Dialect, Dialects.Crate, Bytes.space, Bytes.comma, Bytes.equals, Points.Pair, Points.Point}
use Rattle.lp_format.specs.format.Readings.{Fault, measurement_value_invalid, field_set_missing, tag_set_malformed, take_while1}
use Rattle.lp_format.specs.format.Readings.{timestamp_value_invalid, cannot_parse_entire_line, Text, Read, Reading, miss, fatal, reads}
use Rattle.lp_format.specs.format.Readings.{◌>>=◌, or_fault}
use Rattle.lp_format.specs.format.Names.{NameKind, a_measurement, a_tag_key, a_tag_value, a_field_key, name}
use Rattle.lp_format.specs.format.Values.{Value, integer, unsigned, float, string, boolean, value, integer_len, fits_i64, side_of}

-- a line that was read; `series` is the front of the text that was read as measurement and tags
pub record Line : Type 0 where
  pub series : List ℕ
  pub measurement : Text
  pub tags : Option (List (Pair Text Text))
  pub fields : List (Pair Text (Value Text))
  pub timestamp : Option ℤ

-- a value that was read, with the logical text of its string
abbrev pub logical_value : Value Text → Value (List ℕ)
logical_value (integer z) = integer z
logical_value (unsigned n) = unsigned n
logical_value (float t) = float t
logical_value (string t) = string t.bytes
logical_value (boolean b) = boolean b

-- a tag that was read, with the logical texts of its key and its value
abbrev pub logical_tag : Pair Text Text → Pair (List ℕ) (List ℕ)
logical_tag t = record { key = t.key.bytes; value = t.value.bytes }

-- a field that was read, with the logical texts of its key and of its string
abbrev pub logical_field : Pair Text (Value Text) → Pair (List ℕ) (Value (List ℕ))
logical_field f = record { key = f.key.bytes; value = logical_value f.value }

-- the tags of a tag set, or no tags if there is no set
abbrev pub some_tags : {T : Type 0} → Option (List T) → List T
some_tags None = []
some_tags (Some tags) = tags

-- the point of a line, made of the logical texts of the line
abbrev pub point_of : Line → Point
point_of l =
    record {
      measurement = l.measurement.bytes;
      tags = map logical_tag (some_tags l.tags);
      fields = map logical_field l.fields;
      timestamp = l.timestamp;
    }

-- reads this byte at the start of a text
abbrev pub byte : ℕ → List ℕ → Reading ℕ
byte b [] = miss
byte b (c ∷ rest) = if c == b then reads b rest else miss

-- reads a key of this kind, an equals sign and the value that `part` reads
abbrev pub key_value : {V : Type 0} → NameKind → (List ℕ → Reading V) → List ℕ → Reading (Pair Text V)
key_value kind part line = do
  key ← name kind line
  after ← byte equals key.rest
  x ← part after.rest
  reads (record { key = key.value; value = x.value }) x.rest

-- reads a tag at the start of a text
unfoldable pub tag : List ℕ → Reading (Pair Text Text)
tag line = key_value a_tag_key (name a_tag_value) line

-- reads a field at the start of a text
unfoldable pub field : List ℕ → Reading (Pair Text (Value Text))
field line = key_value a_field_key value line

-- reads a comma and the element after it
abbrev pub after_comma : {A : Type 0} → (List ℕ → Reading A) → List ℕ → Reading A
after_comma one line = byte comma line >>= λ after. one after.rest

-- the elements `xs` before the elements that a reading gives
abbrev pub prepend : {A : Type 0} → List A → Reading (List A) → Reading (List A)
prepend xs miss = miss
prepend xs (fatal e) = fatal e
prepend xs (reads more rest) = reads (xs ++ more) rest

-- the list that begins with the reading of one element: it is empty if this element misses, and has a fault if this element is fatal
abbrev pub one_and_more : {A : Type 0} → Reading A → List ℕ → (List ℕ → Reading (List A)) → Reading (List A)
one_and_more miss line more = reads [] line
one_and_more (fatal e) line more = fatal e
one_and_more (reads x rest) line more = prepend (x ∷ []) (more rest)

-- reads as many elements as are at the start of a text, at most `n`
abbrev pub many : {A : Type 0} → (List ℕ → Reading A) → ℕ → List ℕ → Reading (List A)
many one zero line = reads [] line
many one (suc n) line = one_and_more (one line) line (λ rest. many one n rest)

-- reads one element and as many more as follow it, joined by commas: a comma is taken only together with an element after it
abbrev pub separated_list : {A : Type 0} → (List ℕ → Reading A) → List ℕ → Reading (List A)
separated_list one line = one line >>= λ x. prepend (x.value ∷ []) (many (after_comma one) (length x.rest) x.rest)

-- the next part after a part that was read; a part at fault keeps its fault
infixl 10 ◌then◌
abbrev pub ◌then◌ : {A B : Type 0} → Result (Read A) Fault → (Read A → Result B Fault) → Result B Fault
Ok x then f = f x
Err e then f = Err e

-- reads the tag set after a comma: at least one tag must follow the comma; without a comma there is no tag set
abbrev pub tag_set : List ℕ → Result (Read (Option (List (Pair Text Text)))) Fault
tag_set line = tags_after (byte comma line)
  where
    tags_after : Reading ℕ → Result (Read (Option (List (Pair Text Text)))) Fault
    tags_after (reads c after) =
        or_fault tag_set_malformed (separated_list tag after) then λ tags. Ok (record { value = Some tags.value; rest = tags.rest })
    tags_after other = Ok (record { value = None; rest = line })

-- the rest after the fields: in the dialect of the crate, a comma after a field that is the only one is taken
abbrev pub without_comma : Dialect → List (Pair Text (Value Text)) → List ℕ → List ℕ
without_comma Crate (f ∷ []) (b ∷ rest) = if b == comma then rest else b ∷ rest
without_comma dialect fields rest = rest

-- reads the fields at the start of a text, joined by commas
abbrev pub field_set : Dialect → List ℕ → Reading (List (Pair Text (Value Text)))
field_set dialect line = separated_list field line >>= λ fs. reads fs.value (without_comma dialect fs.value fs.rest)

-- how many spaces are at the start of a text
abbrev pub spaces : List ℕ → ℕ
spaces line = prefix_len (λ b. b == space) line

-- reads a timestamp: spaces, a number and all spaces after it; without spaces or without a number there is no timestamp
abbrev pub timestamp : List ℕ → Result (Read (Option ℤ)) Fault
timestamp line =
    let after = drop (spaces line) line in
    let number = take (integer_len after) after in
    let rest = drop (integer_len after) after in
    if spaces line == 0 || integer_len after == 0 then Ok (record { value = None; rest = line })
    else if fits_i64 (signed_digits_value 10 number)
    then Ok (record { value = Some (signed_digits_value 10 number); rest = drop (spaces rest) rest })
    else Err (timestamp_value_invalid (side_of number) number)

-- the line if nothing is left of its text, else the fault with the text that is left
abbrev pub complete : Line → List ℕ → Result Line Fault
complete l [] = Ok l
complete l (b ∷ rest) = Err (cannot_parse_entire_line (b ∷ rest))

-- the front of a line that comes before this rest of the line
abbrev pub front_before : List ℕ → List ℕ → List ℕ
front_before line rest = take (length line - length rest) line

-- the answer for a trimmed text: the line that was read, or the first fault
unfoldable pub answer : Dialect → List ℕ → Result Line Fault
answer dialect line =
    or_fault measurement_value_invalid (name a_measurement line) then λ m.
    tag_set m.rest then λ tags.
    or_fault take_while1 (byte space tags.rest) then λ gap.
    or_fault field_set_missing (field_set dialect (drop (spaces tags.rest) tags.rest)) then λ fields.
    timestamp fields.rest then λ t.
    complete (record {
      series = front_before line tags.rest;
      measurement = m.value;
      tags = tags.value;
      fields = fields.value;
      timestamp = t.value;
    }) t.rest
