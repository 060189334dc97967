-- Worked lines: the answers for texts, and the texts that the builder writes for points. Each row computes.
use Rattle.std.proofs.Common.{◌≡◌, List, [], ◌∷◌, map, refl, Ok, Err, Option, Some, None, true, false, codes, ℤ, pos, negsuc}
use Rattle.std.specs.{Prelude.⊤, Fmt.digits}
use Prim.Native.String.{String}
use Rattle.lp_format.specs.format.{Crate, Strict, Text, measurement_value_invalid, cannot_parse_entire_line, timestamp_value_invalid}
use Rattle.lp_format.specs.format.{take_while1, ends_with_backslash, integer_value_invalid, uinteger_value_invalid, reads, fatal, miss}
use Rattle.lp_format.specs.format.{above, below, field_set_missing, tag_set_malformed, NameKind, a_measurement, a_tag_key, a_tag_value}
use Rattle.lp_format.specs.format.{a_field_key, name, escaped, first_bare, is_escaped_after, without_escapes, trimmed, Value, value}
use Rattle.lp_format.specs.format.{integer, unsigned, float, string, boolean, integer_at, unsigned_at, float_at, string_at, boolean_at}
use Rattle.lp_format.specs.format.{Pair, built, built_all, line_of, Line, answer, tag, field}

-- the definitions that are unfolded to compute a row
unfoldable on_literals : ⊤
unfolding answer tag field name without_escapes escaped first_bare is_escaped_after value integer_at unsigned_at float_at string_at
    boolean_at trimmed line_of digits
on_literals = tt

-- a text that is a part of the input
abbrev part : String → Text
part text = record { bytes = codes text; is_single = true }

-- a text that is a copy
abbrev copy : String → Text
copy text = record { bytes = codes text; is_single = false }

abbrev pair : {K A : Type 0} → K → A → Pair K A
pair key value = record { key = key; value = value }

-- a tag whose texts are parts of the input
abbrev tag_of : String → String → Pair Text Text
tag_of key v = pair (part key) (part v)

-- a field whose key is a part of the input
abbrev field_of : String → Value Text → Pair Text (Value Text)
field_of key v = pair (part key) v

-- a tag set, and none if there is no tag
abbrev tags_of : List (Pair Text Text) → Option (List (Pair Text Text))
tags_of [] = None
tags_of (t ∷ ts) = Some (t ∷ ts)

-- a line by its series, measurement, tags, fields and timestamp
abbrev line : String → Text → List (Pair Text Text) → List (Pair Text (Value Text)) → Option ℤ → Line
line series measurement tags fields timestamp =
    record { series = codes series; measurement = measurement; tags = tags_of tags; fields = fields; timestamp = timestamp }

-- a line of the measurement `m` alone, by its fields and timestamp
abbrev of_m : List (Pair Text (Value Text)) → Option ℤ → Line
of_m fields timestamp = line "m" (part "m") [] fields timestamp

-- a row of a table: an argument, and the result that is wanted
infix 70 ◌gives◌
abbrev ◌gives◌ : {A B : Type 0} → A → B → A × B
asked gives wanted = (asked, wanted)

-- the function gives the wanted result in each row of the table
abbrev Computes : {A B : Type 0} → (A → B) → List (A × B) → Type 0
Computes f rows = map (λ r. f r.0) rows ≡ map (λ r. r.1) rows

-- the answers for lines: whole lines, with tags and fields of each kind
pub lines : Computes (λ text. answer Crate (codes text)) (
    "cpu,host=A,region=west usage_system=64i 1590488773254420000" gives
    Ok (line "cpu,host=A,region=west" (part "cpu") (tag_of "host" "A" ∷ tag_of "region" "west" ∷ [])
    (field_of "usage_system" (integer (pos 64)) ∷ []) (Some (pos 1590488773254420000)))
    ∷ "foo asdf=23.1,bar=-5i,qux=9u,baz=\"the string\",frab=false 1234" gives
    Ok (line "foo" (part "foo") []
    (field_of "asdf" (float (codes "23.1")) ∷ field_of "bar" (integer (negsuc 4)) ∷ field_of "qux" (unsigned 9)
    ∷ field_of "baz" (string (part "the string")) ∷ field_of "frab" (boolean false) ∷ []) (Some (pos 1234)))
    -- tag values are texts
    ∷ "m,tag1=one,tag2=2 value=1 123" gives
    Ok (line "m,tag1=one,tag2=2" (part "m") (tag_of "tag1" "one" ∷ tag_of "tag2" "2" ∷ [])
    (field_of "value" (float (codes "1")) ∷ []) (Some (pos 123)))
    ∷ "m a=1i -5  " gives Ok (of_m (field_of "a" (integer (pos 1)) ∷ []) (Some (negsuc 4)))  -- a minus before a timestamp
    -- faults
    ∷ ",tag1=1,tag2=2 value=1 123" gives Err measurement_value_invalid  -- no measurement
    ∷ "foo 1234" gives Err field_set_missing  -- no field
    ∷ "testmeasure,foo= bar=1i" gives Err tag_set_malformed  -- a first tag without a value
    ∷ "foo,a=1,b= f=1i" gives Err take_while1  -- a later tag without a value
    ∷ "weather" gives Err take_while1  -- a measurement alone
    ∷ "weather\\" gives Err ends_with_backslash  -- a backslash at the end
    ∷ "weather\\\\ f=1i" gives Err ends_with_backslash  -- a name that ends in an escaped backslash
    ∷ "w\\\\\t f=1i" gives Err ends_with_backslash  -- a tab ends a name after an escaped backslash
    -- the comma after the first field
    ∷ "m a=1i, 5" gives Ok (of_m (field_of "a" (integer (pos 1)) ∷ []) (Some (pos 5)))  -- one comma is taken
    ∷ "m a=1i," gives Ok (of_m (field_of "a" (integer (pos 1)) ∷ []) None)  -- also at the end
    ∷ "m a=1i,b=2i, 5" gives Err (cannot_parse_entire_line (codes ", 5"))  -- no comma is taken after two fields
    -- numbers
    ∷ "m a=9223372036854775808i" gives Err (integer_value_invalid above (codes "9223372036854775808"))  -- the integer above the greatest
    ∷ "m a=-9223372036854775809i" gives Err (integer_value_invalid below (codes "-9223372036854775809"))  -- the integer below the least
    ∷ "m a=-9223372036854775808i" gives Ok (of_m (field_of "a" (integer (negsuc 9223372036854775807)) ∷ []) None)  -- the least integer
    ∷ "m a=-007i" gives Ok (of_m (field_of "a" (integer (negsuc 6)) ∷ []) None)  -- leading zeros
    -- the unsigned integer above the greatest
    ∷ "m a=18446744073709551616u" gives Err (uinteger_value_invalid above (codes "18446744073709551616"))
    -- the timestamp above the greatest
    ∷ "m a=1i 9223372036854775808" gives Err (timestamp_value_invalid above (codes "9223372036854775808"))
    ∷ "m0 field=-1u 99" gives Err (cannot_parse_entire_line (codes "u 99"))  -- no minus is before an unsigned integer
    ∷ "foo,tag0=value1 asdf=23.1.22,jkl=4" gives Err (cannot_parse_entire_line (codes ".22,jkl=4"))  -- a second point
    ∷ "m0 field=-1.234456e+ 99" gives Err (cannot_parse_entire_line (codes "e+ 99"))  -- an exponent without digits
    -- an exponent
    ∷ "m0 field=-1.234456e-0 99" gives Ok (line "m0" (part "m0") [] (field_of "field" (float (codes "-1.234456e-0")) ∷ []) (Some (pos 99)))
    -- words and strings
    ∷ "m a=true,b=F" gives Ok (of_m (field_of "a" (boolean true) ∷ field_of "b" (boolean false) ∷ []) None)  -- the longest word
    ∷ "m a=truer" gives Err (cannot_parse_entire_line (codes "r"))  -- no more than a word
    ∷ "m s=\"a\\\\\"" gives Ok (of_m (field_of "s" (string (copy "a\\")) ∷ []) None)  -- a backslash in a string
    ∷ "m s=\"\\\"\"" gives Ok (of_m (field_of "s" (string (part "\"")) ∷ []) None)  -- an escaped quote alone
    -- other backslashes stay in a string
    ∷ "m s=\"hot\\\\\\\\\\cold\"" gives Ok (of_m (field_of "s" (string (copy "hot\\\\\\cold")) ∷ []) None)
    -- a string over two lines
    ∷ "m s=\"a\nb\",t=1i" gives Ok (of_m (field_of "s" (string (part "a\nb")) ∷ field_of "t" (integer (pos 1)) ∷ []) None)
    ∷ "m s=\"ab\\\"" gives Err field_set_missing  -- a string that is not closed
    -- names
    ∷ "w\\\t f=1i" gives Ok (line "w\\\t" (copy "w\\\t") [] (field_of "f" (integer (pos 1)) ∷ []) None)  -- a tab after a backslash stays
    -- keys hold commas, and values equals signs
    ∷ "m,a,b=1,c=d=e f=t" gives
    Ok (line "m,a,b=1,c=d=e" (part "m") (tag_of "a,b" "1" ∷ tag_of "c" "d=e" ∷ []) (field_of "f" (boolean true) ∷ []) None)
    -- escapes in names
    ∷ "a\\ b,\\,=x f=\"\\\"\"" gives
    Ok (line "a\\ b,\\,=x" (copy "a b") (tag_of "," "x" ∷ []) (field_of "f" (string (part "\"")) ∷ []) None)
    -- a measurement keeps the backslash before an equals sign
    ∷ "wea\\=ther,wea\\=ther=wea\\=ther wea\\=ther=1i" gives
    Ok (line "wea\\=ther,wea\\=ther=wea\\=ther" (copy "wea\\=ther") (pair (copy "wea=ther") (copy "wea=ther") ∷ [])
    (pair (copy "wea=ther") (integer (pos 1)) ∷ []) None)
    ∷ [])
unfolding on_literals
lines = refl

-- in the strict dialect, no comma is taken after the first field
pub no_comma_is_taken_in_the_strict_dialect : answer Strict (codes "m a=1i, 5") ≡ Err (cannot_parse_entire_line (codes ", 5"))
unfolding on_literals
no_comma_is_taken_in_the_strict_dialect = refl

-- one name has two spellings
pub one_name_in_two_spellings : name a_measurement (codes "\\wea\\ther f=1i") ≡ name a_measurement (codes "\\\\wea\\\\ther f=1i")
unfolding on_literals
one_name_in_two_spellings = refl

-- names at the start of a text
pub names_alone : Computes (λ (asked : NameKind × String). name asked.0 (codes asked.1)) (
    (a_tag_value, "weat\\\nher,") gives reads (copy "weat\\\nher") (codes ",")  -- an escaped newline stays
    ∷ (a_field_key, "weat\nher=") gives reads (part "weat") (codes "\nher=")  -- a newline ends a name
    ∷ (a_tag_key, "=x") gives miss  -- an empty name misses
    ∷ (a_tag_key, "a\\\\=x") gives fatal ends_with_backslash  -- a key that ends in a backslash
    ∷ [])
unfolding on_literals
names_alone = refl

-- texts after trimming
pub trimming : Computes (λ text. trimmed (codes text)) (
    "#comment\n #comment2\n#comment\na" gives codes "a"  -- comments are dropped
    ∷ "#comment\tcomment" gives []  -- nothing is left of a comment
    ∷ "\n  a " gives codes "a "  -- blanks after stay
    ∷ "  #\\\n a\n#b" gives codes "a\n#b"  -- a comment after a line stays
    ∷ [])
unfolding on_literals
trimming = refl

-- points as the builder writes them
pub points : Computes built (
    -- a string is written with escapes
    record { measurement = codes "m"; tags = []; fields = pair (codes "s") (string (codes "a\\")) ∷ []; timestamp = None }
    gives codes "m s=\"a\\\\\"\n"
    -- names are written with escapes
    ∷ record {
      measurement = codes "a b=c";
      tags = pair (codes "k,1") (codes "v=1") ∷ pair (codes "k\\2") (codes "v2") ∷ [];
      fields = pair (codes "x") (integer (negsuc 41)) ∷ pair (codes "y z") (unsigned 7) ∷ pair (codes "f")
          (float (codes "1.5")) ∷ pair (codes "b") (boolean true) ∷ [];
      timestamp = Some (negsuc 4);
    } gives codes "a\\ b=c,k\\,1=v\\=1,k\\\\2=v2 x=-42i,y\\ z=7u,f=1.5,b=true -5\n"
    ∷ [])
unfolding on_literals
points = refl

-- lines are written in order
pub lines_are_written_in_order :
    built_all (record { measurement = codes "a"; tags = []; fields = pair (codes "x") (integer (pos 1)) ∷ []; timestamp = None }
    ∷ record { measurement = codes "b"; tags = []; fields = pair (codes "x") (boolean false) ∷ []; timestamp = Some (pos 2) } ∷ [])
    ≡ codes "a x=1i\nb x=false 2\n"
unfolding on_literals
lines_are_written_in_order = refl
