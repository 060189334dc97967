-- The places of the parts of a text that are read.
use Rattle.std.proofs.Common.{◌≡◌, ◌∙◌, ℕ, suc, ◌+◌, ◌<◌, ◌==◌, List, [], ◌∷◌, ◌++◌, length, take, drop, true, false, refl, sym, ap, arith}
use Rattle.std.proofs.Common.{append_assoc, take-append-drop, length-drop, inl, inr, cond, Bool, ltb-true, nat_lt}
use Rattle.std.specs.Prelude.{◌&&◌, not}
use Rattle.std.proofs.lemmas.Bool.{and_parts, cases_Bool}
use Rattle.lp_format.specs.format.{backslash, equals, is_one_escape, is_one_of, is_shared, quote, quotable, read_text, body_len, without_escapes}
use Rattle.lp_format.specs.format.{NameKind, name, spelled, spelled_len, escapable, Text, Value, float, string, Fault, Pair, Reading, miss, fatal, reads}
use Rattle.lp_format.specs.format.{◌otherwise◌, value, integer_at, unsigned_at, float_at, float_len, string_at, boolean_at, true_words, false_words}
use Rattle.lp_format.specs.format.{a_tag_key, a_tag_value, a_field_key, boolean, byte, integer, unsigned}
use Rattle.lp_values.proofs.lemmas.fields.ReadingLemmas.{byte_parts, name_ends, name_parts, reads_parts}
use Rattle.lp_values.proofs.lemmas.tokens.TokenLemmas.{read_plain}
use Rattle.lp_events.specs.code.Events.{Event, TakesAll}
use Rattle.lp_events.specs.code.Places.{AreBefore, EndsBefore, IsEndOf, LiesAt, TakesUnplaced, ValueEndsBefore}
use Rattle.lp_events.specs.declared.events.Unplaced.{Unplaced}

-- a spelling whose logical text is a part of it ends in this logical text
shared_end : (known spelling : List ℕ) → is_shared known spelling ≡ true → IsEndOf spelling (without_escapes known spelling)
unfolding without_escapes
shared_end known spelling shared =
    elim (cases_Bool (is_one_escape known spelling)) [
      | inl one ↦ one_escape spelling one
      | inr other ↦ ([], ap (λ t. t.bytes) (read_plain known spelling spelling (no_backslash (rw other at shared)) refl))
    ]
  where
    -- a spelling that does not hold a backslash holds none
    no_backslash : not (is_one_of spelling backslash) ≡ true → is_one_of spelling backslash ≡ false
    no_backslash plain = grind (arith, cases_Bool)

    -- the logical text of one escape is its second byte, at the end of the escape
    one_escape : (text : List ℕ) → is_one_escape known text ≡ true → IsEndOf text (without_escapes known text)
    one_escape [] is = absurd (cc)
    one_escape (b ∷ []) is = absurd (cc)
    one_escape (b ∷ c ∷ []) is = let both = and_parts (b == backslash) (is_one_of known c) is in rw (both.0, both.1) (b ∷ [], refl)
    one_escape (b ∷ c ∷ d ∷ rest) is = absurd (cc)

-- the end of an end of a line is an end of the line
pub end_within : (line text rest : List ℕ) → IsEndOf line text → IsEndOf text rest → IsEndOf line rest
end_within line text rest (front, is) (mid, next) =
    (front ++ mid, is ∙ (ap (λ x. front ++ x) next ∙ sym (append_assoc front mid rest)))

-- equal lines have equal ends
pub same_end : (line other text : List ℕ) → line ≡ other → IsEndOf other text → IsEndOf line text
same_end line other text same (front, is) = (front, same ∙ is)

-- a line ends in the rest after a byte of one of its ends
pub byte_end : (b : ℕ) (line text after rest : List ℕ) → IsEndOf line text → IsEndOf text after → byte b after ≡ reads b rest
    → IsEndOf line rest
byte_end b line text after rest end next mark =
    end_within line after rest (end_within line text after end next) (b ∷ [], (byte_parts b after b rest mark).1)

-- a line ends in the rest of one of its ends after `n` bytes
pub drop_end : (n : ℕ) (line text rest : List ℕ) → IsEndOf line text → rest ≡ drop n text → IsEndOf line rest
drop_end n line text rest end is = end_within line text rest end (take n text, rw is (sym (take-append-drop n text)))

-- bytes in an end of a line are in the line
bytes_within : (line text bytes : List ℕ) (left : ℕ) → IsEndOf line text → AreBefore text bytes left → AreBefore line bytes left
bytes_within line text bytes left end there = (there.0, there.1, end_within line text (bytes ++ there.0) end there.2)

-- a text in an end of a line is in the line
pub ends_within : (line text : List ℕ) (t : Text) (left : ℕ) → IsEndOf line text → EndsBefore text t left → EndsBefore line t left
ends_within line text t left end there = λ single. bytes_within line text t.bytes left end (there single)

-- a spelling at the start of a text comes before the rest of the text
spelling_before : (known text spelling rest : List ℕ) → text ≡ spelling ++ rest → EndsBefore text (read_text known spelling) (length rest)
spelling_before known text spelling rest is = λ single.
    let end = shared_end known spelling single in
    (rest, refl, (end.0, is ∙ (ap (λ x. x ++ rest) end.1 ∙ append_assoc end.0 (without_escapes known spelling) rest)))

-- a name that is read comes before the rest of its text
pub name_before : (kind : NameKind) (text : List ℕ) (t : Text) (rest : List ℕ) → name kind text ≡ reads t rest
    → EndsBefore text t (length rest)
name_before kind text t rest e =
    let parts = name_parts kind text t rest e in
    rw (parts.0, parts.1) (spelling_before (escapable kind) text (spelled kind text) (drop (spelled_len kind text) text)
    (sym (take-append-drop (spelled_len kind text) text)))

-- a value that is read comes before the rest of its text, and the text ends in this rest
pub record IsPlaced (text : List ℕ) (r : Reading (Value Text)) : Type 0 where
  pub holds : (v : Value Text) (rest : List ℕ) → r ≡ reads v rest → ValueEndsBefore text v (length rest) × IsEndOf text rest

-- a reading that misses has no value to place
none_placed : (text : List ℕ) → IsPlaced text miss
none_placed text = record { holds = λ v rest e. absurd (cc) }

-- a fatal reading has no value to place
fault_placed : (text : List ℕ) (f : Fault) → IsPlaced text (fatal f)
fault_placed text f = record { holds = λ v rest e. absurd (cc) }

-- a value that is read by dropping a front of the text is placed
drop_placed : (text : List ℕ) (n : ℕ) (v : Value Text) → ValueEndsBefore text v (length (drop n text)) → IsPlaced text (reads v (drop n text))
drop_placed text n v h = record {
  holds = λ w rest e.
      let same = reads_parts v w (drop n text) rest e in
      rw (← same.0, ← same.1) (h, (take n text, sym (take-append-drop n text)));
}

-- the value of the reading that a condition chooses is placed, if the values of both are
either_placed : (text : List ℕ) (b : Bool) (r s : Reading (Value Text)) → IsPlaced text r → IsPlaced text s → IsPlaced text (cond b r s)
either_placed text b r s h k = grind arith

-- the value of the first of two readings that does not miss is placed, if the values of both are
first_placed : (text : List ℕ) (r s : Reading (Value Text)) → IsPlaced text r → IsPlaced text s → IsPlaced text (r otherwise s)
first_placed text r s h k = grind arith

-- an integer that is read is placed
integer_placed : (text : List ℕ) → IsPlaced text (integer_at text)
unfolding integer_at
integer_placed text = either_placed text _ _ _ (either_placed text _ _ _ (drop_placed text _ _ tt) (fault_placed text _)) (none_placed text)

-- an unsigned integer that is read is placed
unsigned_placed : (text : List ℕ) → IsPlaced text (unsigned_at text)
unfolding unsigned_at
unsigned_placed text = either_placed text _ _ _ (either_placed text _ _ _ (drop_placed text _ _ tt) (fault_placed text _)) (none_placed text)

-- a float that is read is placed
float_placed : (text : List ℕ) → IsPlaced text (float_at text)
unfolding float_at
float_placed text =
    let n = float_len text in
    either_placed text _ _ _ (none_placed text) (drop_placed text n _ (drop n text, refl, ([], sym (take-append-drop n text))))

-- a Boolean that is read is placed
boolean_placed : (b : Bool) (words : List (List ℕ)) (text : List ℕ) → IsPlaced text (boolean_at b words text)
unfolding boolean_at
boolean_placed b words text = either_placed text _ _ _ (none_placed text) (drop_placed text _ _ tt)

-- a string that is read is placed
string_placed : (text : List ℕ) → IsPlaced text (string_at text)
unfolding string_at
string_placed [] = none_placed []
string_placed (b ∷ after) = go (b == quote && nat_lt n (length after)) refl
  where
    -- the number of bytes before the quote that closes the string
    n : ℕ
    n = body_len after

    -- a string that is there is placed, and one that is not there is not read
    go : (there : Bool) → (b == quote && nat_lt n (length after)) ≡ there
        → IsPlaced (b ∷ after) (cond there (reads (string (read_text quotable (take n after))) (drop (n + 1) after)) miss)
    go false is = none_placed (b ∷ after)
    go true is =
        let long : n < length after = ltb-true _ _ (and_parts _ _ is).1 in
        let body = spelling_before quotable after (take n after) (drop n after) (sym (take-append-drop n after)) in
        let len : length (drop n after) ≡ length (drop (n + 1) after) + 1 =
        omega (arith, length-drop n after, length-drop (n + 1) after, long) in
        drop_placed (b ∷ after) (suc (n + 1)) _ (ends_within (b ∷ after) after _ _ (b ∷ [], refl) (rw len at body))

-- a value that is read is placed
pub value_placed : (text : List ℕ) → IsPlaced text (value text)
unfolding value
value_placed text =
    first_placed text _ _ (first_placed text _ _ (first_placed text _ _ (first_placed text _ _ (first_placed text _ _ (integer_placed text)
    (unsigned_placed text)) (float_placed text)) (string_placed text)) (boolean_placed true true_words text))
    (boolean_placed false false_words text)

-- a value in an end of a line lies in the line
pub value_within : (line text : List ℕ) (v : Value Text) (left : ℕ) → IsEndOf line text → ValueEndsBefore text v left → ValueEndsBefore line v left
value_within line text (float bytes) left end there = bytes_within line text bytes left end there
value_within line text (string t) left end there = ends_within line text t (left + 1) end there
value_within line text (integer z) left end there = there
value_within line text (unsigned n) left end there = there
value_within line text (boolean b) left end there = there

-- a key, an equals sign and a value at the start of a text lie there as `LiesAt` says
pair_placed : {V : Type 0} (Ends : List ℕ → V → ℕ → Type 0) (kind : NameKind)
    → ((line text : List ℕ) (v : V) (left : ℕ) → IsEndOf line text → Ends text v left → Ends line v left)
    → (text after mid rest : List ℕ) (pair : Pair Text V) → name kind text ≡ reads pair.key after → byte equals after ≡ reads equals mid
    → Ends mid pair.value (length rest) → IsEndOf mid rest → LiesAt Ends text pair (length after) rest
pair_placed Ends kind within text after mid rest pair key mark value end =
    let to_key = name_ends kind text pair.key after key in
    let to_mid : IsEndOf text mid = (
      to_key.front ++ equals ∷ [],
      to_key.is ∙ (ap (λ x. to_key.front ++ x) (byte_parts equals after equals mid mark).1 ∙ sym (append_assoc to_key.front (equals ∷ []) mid)),
    ) in
    record {
      key = name_before kind text pair.key after key;
      value = within text mid pair.value (length rest) to_mid value;
      ends = end_within text mid rest to_mid end;
    }

-- a tag that is read lies at the start of its text
pub tag_placed : (text after mid rest : List ℕ) (tag : Pair Text Text) → name a_tag_key text ≡ reads tag.key after
    → byte equals after ≡ reads equals mid → name a_tag_value mid ≡ reads tag.value rest → LiesAt EndsBefore text tag (length after) rest
tag_placed text after mid rest tag key mark value =
    let to_end = name_ends a_tag_value mid tag.value rest value in
    pair_placed EndsBefore a_tag_key ends_within text after mid rest tag key mark (name_before a_tag_value mid tag.value rest value)
    (to_end.front, to_end.is)

-- a field that is read lies at the start of its text
pub field_placed : (text after mid rest : List ℕ) (f : Pair Text (Value Text)) → name a_field_key text ≡ reads f.key after
    → byte equals after ≡ reads equals mid → value mid ≡ reads f.value rest → LiesAt ValueEndsBefore text f (length after) rest
field_placed text after mid rest f key mark is =
    let there = (value_placed mid).holds f.value rest is in
    pair_placed ValueEndsBefore a_field_key value_within text after mid rest f key mark there.0 there.1

-- the events that a sink without places takes are taken by the sink in it
pub takes_unplaced : {S : Type 0} (takes : S → Event → S → Type 0) (old new : Unplaced S) (events : List Event)
    → TakesAll (TakesUnplaced takes) old events new
    → TakesAll takes old.sink.now events new.sink.now × (new.sink.ghost_name ≡ old.sink.ghost_name)
takes_unplaced takes old new [] same = rw same (refl, refl)
takes_unplaced takes old new (event ∷ events) (mid, first, more) =
    let later = takes_unplaced takes mid new events more in
    ((mid.sink.now, first.0, later.0), later.1 ∙ first.1)
