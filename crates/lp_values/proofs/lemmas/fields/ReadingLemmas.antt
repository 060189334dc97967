-- The rest after a reading is the end of the text.
use Rattle.std.proofs.lemmas.{Grind.common_steps, Grind.merely, Bool.eqb-false, Str.IsCharBoundary-after_ascii}
use Rattle.std.proofs.Common.{to_z-of_z, ◌<◌, ◌-◌, ◌+◌, length, codes, slice_index, IsCharBoundary, IsUtf8, length-take}
use Rattle.lp_format.proofs.lemmas.literals.FloatLemmas.{float_fills, float_whole, signed_front}
use Rattle.lp_format.proofs.lemmas.values.ValueLemmas.{fits_from_test, integer_overflows, integer_reads, letter_boundary, boolean_reads}
use Rattle.lp_format.proofs.lemmas.values.ValueForms.{no_number, float_is, unsigned_is, number_form, string_form, boolean_form}
use Rattle.lp_format.proofs.lemmas.values.ValueLemmas.{integer_decides, front_numeral, unsigned_overflows, unsigned_reads, boolean_misses}
use Rattle.lp_format.proofs.lemmas.literals.FloatLemmas.{integer_len_fits, float_misses, float_reads, float_len_float}
use Rattle.std.proofs.Common.{◌≡◌, ℕ, List, [], ◌∷◌, ◌++◌, take, drop, sym, ◌∙◌, ap, refl, append_assoc, arith, eqb-true, take-append-drop, rules}
use Rattle.std.proofs.lemmas.{Bool.cases_Bool, Str.IsCharBoundary-start}
use Rattle.lp_format.specs.format.{equals, Text, Read, Reading, reads, ◌>>=◌, NameKind, name, a_tag_key, a_tag_value, escapable}
use Rattle.lp_format.specs.format.{spelled, spelled_len, read_text, Pair, byte, key_value, tag, after_comma, IsSigned, integer_len}

-- the text ends in `rest`
pub record EndsIn (text rest : List ℕ) : Type 0 where
  pub front : List ℕ
  pub is : text ≡ front ++ rest

-- a text ends in itself
pub EndsIn-self : (text : List ℕ) → EndsIn text text
EndsIn-self text = record { front = []; is = refl }

-- a text ends in its rest after a front
pub EndsIn-drop : (n : ℕ) (text rest : List ℕ) → rest ≡ drop n text → EndsIn text rest
EndsIn-drop n text rest e = record { front = take n text; is = rw e (sym (take-append-drop n text)) }

pub EndsIn-end : (text mid rest : List ℕ) → EndsIn text mid → EndsIn mid rest → EndsIn text rest
EndsIn-end text mid rest h
    k = record {
      front = h.front ++ k.front;
      is = h.is ∙ ap (λ (x : List ℕ). h.front ++ x) k.is
          ∙ sym (append_assoc h.front k.front rest);
    }

-- two equal readings have the same value and the same rest
pub reads_parts : {A : Type 0} (x y : A) (r s : List ℕ) → reads x r ≡ reads y s → (x ≡ y) × (r ≡ s)
reads_parts x y r s e = (cc, cc)

-- a reading in two steps: the first reads `first`, and the second reads the rest after it
pub record InTwo {A B : Type 0} (r : Reading A) (f : Read A → Reading B) (y : B) (rest : List ℕ) : Type 0 where
  pub first : A
  pub mid : List ℕ
  pub was : r ≡ reads first mid
  pub next : f (record { value = first; rest = mid }) ≡ reads y rest

-- if a reading of two parts reads, each of the two parts reads
pub bind_reads : {A B : Type 0} (r : Reading A) (f : Read A → Reading B) (y : B) (rest : List ℕ)
    → (r >>= f) ≡ reads y rest → InTwo r f y rest
bind_reads r f y rest e = grind arith

-- a name that is read is the spelled name, and the rest comes after it
pub name_parts : (kind : NameKind) (text : List ℕ) (t : Text) (rest : List ℕ) → name kind text ≡ reads t rest
    → (t ≡ read_text (escapable kind) (spelled kind text)) × (rest ≡ drop (spelled_len kind text) text)
unfolding name
name_parts kind text t rest e = grind (arith, cases_Bool)

-- a text ends in the rest after a name
pub name_ends : (kind : NameKind) (text : List ℕ) (t : Text) (rest : List ℕ) → name kind text ≡ reads t rest → EndsIn text rest
name_ends kind text t rest e = EndsIn-drop (spelled_len kind text) text rest (name_parts kind text t rest e).1

-- a byte that is read is the first byte of the text
pub byte_parts : (b : ℕ) (text : List ℕ) (x : ℕ) (rest : List ℕ) → byte b text ≡ reads x rest → (x ≡ b) × (text ≡ b ∷ rest)
byte_parts b text x rest e = grind (arith, cases_Bool, eqb-true)

-- a text ends in the rest after a byte
pub byte_ends : (b : ℕ) (text : List ℕ) (x : ℕ) (rest : List ℕ) → byte b text ≡ reads x rest → EndsIn text rest
byte_ends b text x rest e = record { front = b ∷ []; is = (byte_parts b text x rest e).1 }

-- a pair that is read is a key, an equals sign and a value
pub record PairParts {V : Type 0} (kind : NameKind) (part : List ℕ → Reading V) (text : List ℕ) (x : Pair Text V) (rest : List ℕ)
    : Type 0 where
  pub mid : List ℕ
  pub key : name kind text ≡ reads x.key (equals ∷ mid)
  pub value : part mid ≡ reads x.value rest

-- a reading of a pair reads a key, an equals sign and a value
pub pair_parts : {V : Type 0} (kind : NameKind) (part : List ℕ → Reading V) (text : List ℕ) (x : Pair Text V) (rest : List ℕ)
    → key_value kind part text ≡ reads x rest → PairParts kind part text x rest
pair_parts kind part text x rest e = grind (arith, bind_reads, reads_parts, byte_parts)

-- a text ends in the rest after a tag
pub tag_ends : (text : List ℕ) (x : Pair Text Text) (rest : List ℕ) → tag text ≡ reads x rest → EndsIn text rest
unfolding tag
tag_ends text x rest e =
    let p = pair_parts a_tag_key (name a_tag_value) text x rest e in
    let after_key = name_ends a_tag_key text x.key (equals ∷ p.mid) p.key in
    let after_mark = EndsIn-end text (equals ∷ p.mid) p.mid after_key (record { front = equals ∷ []; is = refl }) in
    EndsIn-end text p.mid rest after_mark (name_ends a_tag_value p.mid x.value rest p.value)

-- a text ends in the rest after a comma and an element, if it does after an element
pub after_comma_ends : {A : Type 0} (one : List ℕ → Reading A)
    → ((text : List ℕ) (x : A) (rest : List ℕ) → one text ≡ reads x rest → EndsIn text rest)
    → (text : List ℕ) (x : A) (rest : List ℕ) → after_comma one text ≡ reads x rest → EndsIn text rest
after_comma_ends one ends text x rest e = grind (arith, bind_reads, EndsIn-end, byte_ends)

-- rules for the kind of number at the start of a text
pub ruleset which_number = (common_steps, eqb-false, eqb-true, no_number, integer_decides, unsigned_is, float_is)

-- an integer at the start of a text is digits with at most one minus sign before them
pub signed_is : (number text : List ℕ) (n : ℕ) → number ≡ take n text → n ≡ integer_len text → 0 < length number
    → IsSigned (codes "-") number
signed_is number text n front len some =
    let taken : 0 < integer_len text = omega (arith, ap length front, length-take n text) in
    rw (front, len) (signed_front (codes "-") text taken)

-- a UTF-8 text can be cut after an ASCII byte that is not 0
pub mark_boundary : (text : List ℕ) (n : ℕ) → IsUtf8 text → 0 < slice_index text n → slice_index text n < 128 → IsCharBoundary text (n + 1)
mark_boundary text n utf8 some small = letter_boundary text n (slice_index text n - 1) utf8 (omega arith) (omega arith)

-- rules for reading an integer at the start of a text
pub ruleset integer_steps = (common_steps, integer_reads, integer_overflows, to_z-of_z, fits_from_test, mark_boundary, signed_is)

-- rules for reading an unsigned integer at the start of a text
pub ruleset unsigned_steps = (common_steps, front_numeral, unsigned_overflows, unsigned_reads, mark_boundary)

-- rules for reading a Boolean at the start of a text
pub ruleset boolean_steps = (common_steps, boolean_misses, boolean_reads, IsCharBoundary-after_ascii, rules)

-- rules for the kind of a value by its first byte
pub ruleset value_forms = (common_steps, number_form, string_form, boolean_form)

-- rules for the length of a float at the start of a text
pub ruleset float_len_steps = (common_steps, integer_len_fits, IsCharBoundary-start, rules)

-- rules for reading a float at the start of a text
pub ruleset float_steps = (common_steps, merely, float_misses, float_reads, float_len_float)

-- rules for whether a whole text is a float
pub ruleset whole_float_steps = (common_steps, merely, float_fills, float_whole)
