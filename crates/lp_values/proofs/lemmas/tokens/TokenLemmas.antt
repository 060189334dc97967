-- The kinds of token, and the logical text of a token, stretch by stretch.
use Rattle.std.proofs.Common.{◌≡◌, ℕ, ◌<◌, Bool, List, [], ◌∷◌, drop, true, false, refl, ◌∙◌, arith, ◌≢◌, zero, suc, ◌+◌, ◌-◌, ◌≤◌, ◌++◌}
use Rattle.std.proofs.Common.{take, length, slice_index, ap, append_assoc, length-append, add-one, add-zero, drop-cons, ◌==◌, ◌&&◌, eq-eqb}
use Rattle.std.proofs.Common.{eqb-true, ne_eqb, bytes_eq, append-nil, drop-drop, get_or-drop, length-drop, length-take-le, take-append-drop}
use Rattle.std.proofs.Common.{length-take}
use Rattle.std.proofs.lemmas.Bool.{and_parts, or_right, cases_Bool, cases_lt, cases_eq, false≢true, not-true}
use Rattle.std.proofs.lemmas.{Grind.common_steps, Str.IsCharBoundary-start, Slice.Eq.bytes_eq-Decides, List.drop_all, List.take_rest, Slice.drop-put_mid, Slice.take-put_mid}
use Rattle.lp_scan.specs.declared.sets.TokenKind.{TokenKind}
use Rattle.lp_scan.specs.code.{stops_of, known_of, is_plain, AllPassBetween, IsRunAt}
use Rattle.lp_format.specs.format.{backslash, is_one_of, without_escapes, is_one_escape, read_text, Text}
use Rattle.lp_format.proofs.lemmas.names.NameLemmas.{no_backslash, without_escapes_same}
use borrow.Rule.Slice.PartMut.{put_mid, same_len_mid}
use Rattle.lp_values.specs.code.RawTokens.{IsTold}
use Rattle.lp_format.proofs.lemmas.tokens.EscapeLemmas.{is_one_of_front}

-- a backslash does not end a token
pub backslash_goes_on : (kind : TokenKind) → stops_of kind backslash ≡ false
backslash_goes_on kind = grind arith

-- the byte 0, which stands for the end of a text, is none of the bytes that a backslash may escape
pub zero_is_not_known : (kind : TokenKind) → is_one_of (known_of kind) 0 ≡ false
zero_is_not_known kind = grind arith

-- a token ends after its first backslash
past_first : (kind : TokenKind) (text : List ℕ) (at end : ℕ) → IsRunAt (is_plain (stops_of kind)) text 0 at → at < length text
    → slice_index text at ≡ backslash → (end < length text → stops_of kind (slice_index text end) ≡ true) → at < end
past_first kind text at end run within here stop = grind (arith, cases_lt, cases_eq, false≢true, or_right, not-true, backslash_goes_on)

-- the counts of a walk over a token with a backslash are the data that `IsTold` asks for
pub walk_tells : (kind : TokenKind) (text : List ℕ) (at end found len : ℕ) → IsRunAt (is_plain (stops_of kind)) text 0 at → at < length text
    → slice_index text at ≡ backslash → (end < length text → stops_of kind (slice_index text end) ≡ true)
    → length (without_escapes (known_of kind) (take end text)) + found ≡ end → len ≡ end - found → IsTold (known_of kind) (take end text) len false
walk_tells kind text at end found len run within here stop counted is = grind (arith, past_first, is_one_of_front)

-- two texts with equal bytes and equal variants are equal
same_text : (a b : List ℕ) (s t : Bool) → a ≡ b → s ≡ t → let x : Text = record { bytes = a; is_single = s } in
    x ≡ record { bytes = b; is_single = t }
same_text a b s t e f = cc

-- the logical text of one known escape is its second byte
escape_alone : (known text : List ℕ) → is_one_escape known text ≡ true → drop 1 text ≡ without_escapes known text
unfolding without_escapes
escape_alone known text h = grind (arith, and_parts)

-- one known escape is read as its second byte, which is a part of the input
pub read_escape : (known text part : List ℕ) → is_one_escape known text ≡ true → part ≡ drop 1 text
    → let x : Text = record { bytes = part; is_single = true } in x ≡ read_text known text
read_escape known text part one e = grind (arith, same_text, escape_alone)

-- a spelling without a backslash is read as itself, which is a part of the input
pub read_plain : (known text part : List ℕ) → is_one_of text backslash ≡ false → part ≡ text
    → let x : Text = record { bytes = part; is_single = true } in x ≡ read_text known text
read_plain known text part none e = grind (arith, same_text, without_escapes_same, no_backslash, or_right)

-- a backslash may escape a backslash in each kind of token
backslash_is_known : (kind : TokenKind) → is_one_of (known_of kind) backslash ≡ true
backslash_is_known kind = grind arith

-- a byte that no backslash may escape is no backslash
other_byte : (kind : TokenKind) (c : ℕ) → is_one_of (known_of kind) c ≡ false → (c == backslash) ≡ false
other_byte kind c h = grind (arith, cases_Bool, eqb-true, backslash_is_known)

-- a known escape at the start of a text gives its second byte to the logical text
byte_of_escape : (kind : TokenKind) (text : List ℕ)
    → (slice_index text 0 == backslash && is_one_of (known_of kind) (slice_index text 1)) ≡ true
    → without_escapes (known_of kind) text ≡ slice_index text 1 ∷ without_escapes (known_of kind) (drop 2 text)
unfolding without_escapes
byte_of_escape kind text h = grind (arith, and_parts, zero_is_not_known)

-- a byte that is no backslash gives itself to the logical text
plain_byte : (known : List ℕ) (c : ℕ) (text : List ℕ) → (c == backslash) ≡ false
    → without_escapes known (c ∷ text) ≡ c ∷ without_escapes known text
unfolding without_escapes
plain_byte known c text h = grind arith

-- a byte that begins no known escape gives itself to the logical text
byte_itself : (kind : TokenKind) (b : ℕ) (text : List ℕ)
    → (b == backslash && is_one_of (known_of kind) (slice_index text 0)) ≡ false
    → without_escapes (known_of kind) (b ∷ text) ≡ b ∷ without_escapes (known_of kind) text
unfolding without_escapes
byte_itself kind b text h = grind (arith, cases_Bool, plain_byte, other_byte)

-- the first byte of a text, if it begins no known escape, gives itself to the logical text
byte_of_itself : (kind : TokenKind) (text : List ℕ) → 0 < length text
    → (slice_index text 0 == backslash && is_one_of (known_of kind) (slice_index text 1)) ≡ false
    → without_escapes (known_of kind) text ≡ slice_index text 0 ∷ without_escapes (known_of kind) (drop 1 text)
byte_of_itself kind text some h = grind (arith, byte_itself)

-- a byte of the rest of a text, with the logical text after it, is the byte of the text at its place, with the logical text after it
from_place : (known text : List ℕ) (at n : ℕ) → slice_index (drop at text) n ∷ without_escapes known (drop (n + 1) (drop at text))
    ≡ slice_index text (at + n) ∷ without_escapes known (drop (at + n + 1) text)
from_place known text at n = grind (arith, get_or-drop, drop-drop)

-- at the place of a known escape, the logical text goes on with the second byte of the escape
pub escape_at : (kind : TokenKind) (text : List ℕ) (at : ℕ)
    → (slice_index (drop at text) 0 == backslash && is_one_of (known_of kind) (slice_index (drop at text) 1)) ≡ true
    → without_escapes (known_of kind) (drop at text) ≡ slice_index text (at + 1) ∷ without_escapes (known_of kind) (drop (at + 1 + 1) text)
escape_at kind text at h = byte_of_escape kind (drop at text) h ∙ from_place (known_of kind) text at 1

-- at a place where no known escape begins, the logical text goes on with the byte there
pub byte_at : (kind : TokenKind) (text : List ℕ) (at : ℕ) → at < length text
    → (slice_index (drop at text) 0 == backslash && is_one_of (known_of kind) (slice_index (drop at text) 1)) ≡ false
    → without_escapes (known_of kind) (drop at text) ≡ slice_index text at ∷ without_escapes (known_of kind) (drop (at + 1) text)
byte_at kind text at within h = grind (arith, common_steps, byte_of_itself, length-drop, add-zero, from_place)

-- a run of bytes that are no backslashes gives itself to the logical text
run_stays : (known text : List ℕ) (n at : ℕ) → at + n ≤ length text → AllPassBetween (is_plain (λ b. false)) text at (at + n)
    → without_escapes known (drop at text) ≡ take n (drop at text) ++ without_escapes known (drop (at + n) text)
run_stays known text zero at fits plain = rw (add-zero at) refl
run_stays known text (suc n) at fits plain =
    let here : drop at text ≡ slice_index text at ∷ drop (at + 1) text = rw add-one (drop-cons text at 0 (omega arith)) in
    let next : at + 1 + n ≡ at + suc n = omega arith in
    let more = rw next at (run_stays known text n (at + 1) (omega arith) (λ k from to. plain k (omega arith) (omega arith))) in
    rw here (plain_byte known _ _ (not-true _ (plain at (omega arith) (omega arith))) ∙ ap (λ l. slice_index text at ∷ l) more)

-- a byte and the run after it, up to a backslash, are a stretch of the logical text
pub stretch_stays : (known text : List ℕ) (from end : ℕ) → from < length text → IsRunAt (is_plain (λ b. false)) text (from + 1) end
    → slice_index text from ∷ without_escapes known (drop (from + 1) text)
    ≡ take (end - from) (drop from text) ++ without_escapes known (drop end text)
stretch_stays known text from end within run =
    let size : end - from ≡ suc (end - (from + 1)) = omega (arith, run.ordered) in
    let here : drop from text ≡ slice_index text from ∷ drop (from + 1) text = rw add-one (drop-cons text from 0 within) in
    let place : from + 1 + (end - (from + 1)) ≡ end = omega (arith, run.ordered) in
    let rest = run_stays known text (end - (from + 1)) (from + 1) (omega (arith, run.ordered, run.within)) (rw place run.passes) in
    rw (size, here) (ap (λ l. slice_index text from ∷ l) (rw place at rest))

-- no logical text is left after the end of a spelling
pub nothing_left : (known text : List ℕ) (at : ℕ) → length text ≤ at → without_escapes known (drop at text) ≡ []
unfolding without_escapes
nothing_left known text at past = ap (without_escapes known) (drop_all at text past)

-- a stretch was put: the bytes before `place` and the rest that is left are the whole, and the bytes after `place` are as they were
pub record IsPut (whole left start to : List ℕ) (place : ℕ) : Type 0 where
  pub within : place ≤ length to
  pub front : take place to ++ left ≡ whole
  pub back : drop place to ≡ drop place start
  pub len : length to ≡ length start

-- the next stretch has room after the bytes that were put
pub room_left : (whole left start to stretch after : List ℕ) (place : ℕ) → IsPut whole left start to place → length whole ≤ length start
    → left ≡ stretch ++ after → place + length stretch ≤ length to
room_left whole left start to stretch after place was fits parts = grind (arith, length-append, length-take-le)

-- the next stretch is put at its place
pub stretch_put : (whole left start to stretch after new : List ℕ) (place k : ℕ) → IsPut whole left start to place
    → left ≡ stretch ++ after → place + length stretch ≤ length to → k ≡ length stretch → new ≡ stretch
    → IsPut whole after start (put_mid place k to new) (place + length stretch)
stretch_put whole left start to stretch after new place k was parts room as_long is =
    grind (arith, same_len_mid, length-take, length-drop, take-put_mid, append_assoc, drop-put_mid, drop-drop)

-- the whole is put when nothing is left
pub whole_put : (whole start to : List ℕ) (place : ℕ) → IsPut whole [] start to place → to ≡ whole ++ drop (length whole) start
whole_put whole start to place was = grind (arith, append-nil, length-take-le, take-append-drop)

-- two texts with the same stretch at the start are equal exactly if the texts after it are
pub same_after : (stretch xs ys : List ℕ) → bytes_eq (stretch ++ xs) (stretch ++ ys) ≡ bytes_eq xs ys
same_after [] xs ys = refl
same_after (b ∷ stretch) xs ys = rw (eq-eqb b b refl) (same_after stretch xs ys)

-- a text with a stretch at its start differs from a text without this stretch at its start
pub other_front : (stretch xs ys : List ℕ) → ((rest : List ℕ) → ys ≢ stretch ++ rest) → bytes_eq (stretch ++ xs) ys ≡ false
other_front stretch xs ys other = grind (arith, cases_Bool, bytes_eq-Decides)

-- the empty text equals a text exactly if the text has no bytes
pub nothing_same : (ys : List ℕ) → bytes_eq [] ys ≡ (length ys == 0)
nothing_same ys = grind (arith, ne_eqb)

-- rules for the first byte of the logical text from a place on
pub ruleset byte_steps = (common_steps, take_rest, byte_at, escape_at)

-- rules for the end of a spelling
pub ruleset spelling_steps = (common_steps, nothing_left, nothing_same, whole_put, append-nil, IsCharBoundary-start)
