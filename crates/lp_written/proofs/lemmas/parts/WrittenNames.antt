-- Names and strings that are spelled as the builder spells them, and how far such a token goes.
use Rattle.std.proofs.Common.{◌≡◌, ℕ, Bool, true, false, not, List, [], ◌∷◌, length, take, drop, slice_index, refl, sym, ap, subst}
use Rattle.std.proofs.Common.{◌∙◌, arith, ◌≢◌, Option, Some, None, ◌==◌, MatchOption, Bor, ne_eqb, eq-eqb, eqb-true, drop_at, take_at, append_assoc}
use Rattle.std.proofs.Common.{take-append-drop, suc, zero, ◌+◌, ◌-◌, ◌<◌, ◌≤◌, ◌||◌, ◌++◌, one-add}
use Rattle.std.proofs.Common.{get_or-drop, length-drop}
use Rattle.std.specs.List.{list_all}
use Rattle.std.proofs.lemmas.Bool.{cases_Bool, and_parts, or_parts, not-true, not-false}
use Rattle.std.proofs.lemmas.{Grind.common_steps, List.append_cancel_right, List.drop_more}
use Rattle.lp_format.specs.format.{backslash, hash, quote, escaped, NameKind, a_measurement, ends_in_backslash, escapable, is_stop}
use Rattle.lp_format.specs.format.{quotable, is_admitted_name, spelling, byte, miss, reads, is_one_of}
use Rattle.lp_format.proofs.lemmas.read_back.NameReadsBack.{admitted_parts, escaped_found, escaped_plain, logical_spelling, may_hold}
use Rattle.lp_format.proofs.lemmas.{names.NameLemmas.escapable_backslash, names.NameLemmas.logical_ends, values.ValueForms.byte_missing}
use Rattle.lp_written.specs.code.AsWritten.{written_len, EndsName, IsOnlyRest, IsWrittenName, IsWrittenString, is_admitted_spelling}
use Rattle.lp_scan.specs.declared.sets.TokenKind.{TokenKind}
use Rattle.lp_scan.specs.code.{is_mark, known_of, stops_of, IsRunAt}

-- a byte that is no mark is one of the token
pub written_unmarked : (known : List ℕ) (stops : ℕ → Bool) (b : ℕ) (text : List ℕ) → (stops b || is_one_of known b) ≡ false
    → written_len known stops (b ∷ text) ≡ 1 + written_len known stops text
unfolding written_len
written_unmarked known stops b text plain = grind (arith)

-- A backslash before a byte that gets a backslash makes two bytes of the token.
pub written_escape : (known : List ℕ) (stops : ℕ → Bool) (b c : ℕ) (text : List ℕ) → (stops b || is_one_of known b) ≡ true
    → b ≡ backslash → is_one_of known c ≡ true → written_len known stops (b ∷ c ∷ text) ≡ 2 + written_len known stops text
unfolding written_len
written_escape known stops b c text mark is found = grind (arith, eq-eqb)

-- The token that the builder spells ends at a mark that is no backslash before a known byte.
pub written_ends : (known : List ℕ) (stops : ℕ → Bool) (text : List ℕ)
    → (0 < length text → (stops (slice_index text 0) || is_one_of known (slice_index text 0)) ≡ true)
    → (1 < length text → slice_index text 0 ≡ backslash → is_one_of known (slice_index text 1) ≡ true → ⊥)
    → written_len known stops text ≡ 0
unfolding written_len
written_ends known stops text mark other = grind (arith, cases_Bool, and_parts, eqb-true)

-- a byte that may be in a token, with a backslash or without
abbrev pub can_hold : List ℕ → (ℕ → Bool) → ℕ → Bool
can_hold known stops b = not (stops b) || is_one_of known b

-- The spelling of a name ends where no token goes on.
pub written_spelling : (known : List ℕ) (stops : ℕ → Bool) (n rest : List ℕ) → is_one_of known backslash ≡ true
    → list_all (can_hold known stops) n ≡ true → written_len known stops rest ≡ 0
    → written_len known stops (escaped known n ++ rest) ≡ length (escaped known n)
unfolding escaped
written_spelling known stops [] rest closed all ends = ends
written_spelling known stops (b ∷ n) rest closed all ends =
    grind (
      arith,
      common_steps,
      cases_Bool,
      and_parts,
      escaped_found,
      escaped_plain,
      written_escape,
      written_unmarked,
      written_spelling known stops n rest closed,
    )

-- a front of a text as the builder spells it, by the text that it spells
pub record Spelled (known : List ℕ) (stops : ℕ → Bool) (text : List ℕ) : Type 0 where
  pub name : List ℕ
  pub holds : list_all (can_hold known stops) name ≡ true
  pub spelled : escaped known name ++ drop (written_len known stops text) text ≡ text

-- If no byte is passed, the passed front is the spelling of the empty name.
spelled_none : (known : List ℕ) (stops : ℕ → Bool) (text : List ℕ) → written_len known stops text ≡ 0 → Spelled known stops text
unfolding escaped
spelled_none known stops text none = record { name = []; holds = refl; spelled = rw none refl }

-- a byte that is no mark is passed
spelled_plain : (known : List ℕ) (stops : ℕ → Bool) (b : ℕ) (text : List ℕ) → (stops b || is_one_of known b) ≡ false
    → Spelled known stops text → Spelled known stops (b ∷ text)
spelled_plain known stops b text plain more = record {
  name = b ∷ more.name;
  holds = grind (arith, common_steps);
  spelled = grind (arith, or_parts, written_unmarked, one-add, escaped_plain);
}

-- a backslash and a byte that gets one are passed
spelled_escape : (known : List ℕ) (stops : ℕ → Bool) (b c : ℕ) (text : List ℕ) → (stops b || is_one_of known b) ≡ true → b ≡ backslash
    → is_one_of known c ≡ true → Spelled known stops text → Spelled known stops (b ∷ c ∷ text)
spelled_escape known stops b c text mark is found more =
    let len : written_len known stops (b ∷ c ∷ text) ≡ suc (suc (written_len known stops text)) =
    omega (arith, written_escape known stops b c text mark is found) in
    record { name = c ∷ more.name; holds = grind (arith, common_steps); spelled = grind (arith, escaped_found) }

-- The front that is passed is the spelling of some name.
pub written_spelled : (known : List ℕ) (stops : ℕ → Bool) (text : List ℕ) → Spelled known stops text
unfolding written_len
written_spelled known stops [] = spelled_none known stops [] refl
written_spelled known stops (b ∷ []) = grind (arith, cases_Bool, spelled_none, spelled_plain)
written_spelled known stops (b ∷ c ∷ text) = grind (
  arith,
  cases_Bool,
  and_parts,
  eqb-true,
  spelled_none,
  spelled_plain,
  spelled_escape,
  written_spelled known stops text,
  written_spelled known stops (c ∷ text),
)

-- the token goes on after so many bytes that are no marks
run_passed : (kind : TokenKind) (bytes : List ℕ) (n at end : ℕ) → at + n ≡ end → end ≤ length bytes
    → ((k : ℕ) → at ≤ k → k < end → not (is_mark kind (slice_index bytes k)) ≡ true)
    → written_len (known_of kind) (stops_of kind) (drop at bytes) ≡ n + written_len (known_of kind) (stops_of kind) (drop end bytes)
run_passed kind bytes zero at end is within passes = grind (arith)
run_passed kind bytes (suc n) at end is within passes =
    let more = run_passed kind bytes n (at + 1) end (omega arith) within (λ k after before. passes k (omega arith) before) in
    let plain = not-true (is_mark kind (slice_index bytes at)) (passes at (omega arith) (omega arith)) in
    grind (arith, drop_more, written_unmarked)

-- a run ends at a mark
pub run_mark : (kind : TokenKind) (bytes : List ℕ) (at end : ℕ) → IsRunAt (λ b. not (is_mark kind b)) bytes at end
    → end < length bytes → is_mark kind (slice_index bytes end) ≡ true
run_mark kind bytes at end run inside = not-false (is_mark kind (slice_index bytes end)) (run.stops inside)

-- the token goes on after the first run
pub first_run : (kind : TokenKind) (bytes : List ℕ) (end : ℕ) → IsRunAt (λ b. not (is_mark kind b)) bytes 0 end
    → end + written_len (known_of kind) (stops_of kind) (drop end bytes) ≡ written_len (known_of kind) (stops_of kind) bytes
first_run kind bytes end run = let passed = run_passed kind bytes end 0 end (omega arith) run.within run.passes in omega (arith, passed)

-- After a backslash and a byte that gets a backslash, the token goes on with the run of bytes that follow.
pub next_run : (kind : TokenKind) (bytes : List ℕ) (at end : ℕ) (found : Bool) → IsRunAt (λ b. not (is_mark kind b)) bytes (at + 2) end
    → at + written_len (known_of kind) (stops_of kind) (drop at bytes) ≡ written_len (known_of kind) (stops_of kind) bytes
    → at + 1 < length bytes → slice_index bytes at ≡ backslash → found ≡ is_one_of (known_of kind) (slice_index bytes (at + 1)) → found ≡ true
    → end + written_len (known_of kind) (stops_of kind) (drop end bytes) ≡ written_len (known_of kind) (stops_of kind) bytes
next_run kind bytes at end found run so_far inside here is accepted =
    let passed = run_passed kind bytes (end - (at + 2)) (at + 2) end (omega (arith, run.ordered)) run.within run.passes in
    grind (arith, passed, drop_more, written_escape, run.ordered)

-- The token ends at any other mark, and at the end of the text.
pub ends_here : (kind : TokenKind) (bytes : List ℕ) (at : ℕ) → at ≤ length bytes
    → (at < length bytes → is_mark kind (slice_index bytes at) ≡ true)
    → (at + 1 < length bytes → slice_index bytes at ≡ backslash → is_one_of (known_of kind) (slice_index bytes (at + 1)) ≡ true → ⊥)
    → written_len (known_of kind) (stops_of kind) (drop at bytes) ≡ 0
ends_here kind bytes at within mark other = grind (arith, common_steps, written_ends, get_or-drop, length-drop)

-- the steps of a reader of tokens
pub ruleset token_steps = (run_mark, first_run, next_run, ends_here)

-- A text may be spelled as a token exactly if each of its bytes may be in a name of this kind.
all_same : (kind : NameKind) (n : List ℕ) → list_all (can_hold (escapable kind) (is_stop kind)) n ≡ list_all (may_hold kind) n
all_same kind n = grind (arith, common_steps)

-- a spelling is empty if its name is
spelled_empty : (known n : List ℕ) → (length (escaped known n) == 0) ≡ (length n == 0)
unfolding escaped
spelled_empty known [] = refl
spelled_empty known (b ∷ n) = grind (arith, cases_Bool, escaped_found, escaped_plain, ne_eqb)

-- The spelling of a name ends in a backslash exactly if the name does.
spelled_ends : (kind : NameKind) (n : List ℕ) → ends_in_backslash (spelling kind n) ≡ ends_in_backslash n
spelled_ends kind n = sym (logical_ends kind (spelling kind n)) ∙ ap ends_in_backslash (logical_spelling kind n)

-- The spelling of a measurement begins with `#` exactly if the measurement does.
spelled_hash : (n : List ℕ) → (slice_index (spelling a_measurement n) 0 == hash) ≡ (slice_index n 0 == hash)
unfolding escaped
spelled_hash n = grind (arith, common_steps, cases_Bool, escaped_found, escaped_plain)

-- The spelling of a name tells whether the name is admitted.
spelling_tells : (kind : NameKind) (n : List ℕ) → list_all (may_hold kind) n ≡ true
    → is_admitted_spelling kind (spelling kind n) ≡ is_admitted_name kind n
unfolding is_admitted_name
spelling_tells a_measurement n may = rw (spelled_empty (escapable a_measurement) n, spelled_ends a_measurement n, spelled_hash n, may)
    (grind (arith, common_steps))
spelling_tells other n may = rw (spelled_empty (escapable other) n, spelled_ends other n, may) (grind (arith, common_steps))

-- where the bytes of a name end
abbrev pub name_len : NameKind → List ℕ → ℕ
name_len kind text = written_len (escapable kind) (is_stop kind) text

-- The spelling of a name at the start of a text is the front that is passed.
name_passed : (kind : NameKind) (text rest : List ℕ) (w : IsWrittenName kind text rest) → EndsName kind rest
    → name_len kind text ≡ length (spelling kind w.thing)
name_passed kind text rest w ends =
    let may = all_same kind w.thing ∙ (admitted_parts kind w.thing w.is).may in
    subst (λ xs. name_len kind xs ≡ length (spelling kind w.thing)) w.written
    (written_spelling (escapable kind) (is_stop kind) w.thing rest (escapable_backslash kind) may ends)

-- If the front that is passed is admitted, it is the written text of a name, and no other rest follows a name.
pub name_found : (kind : NameKind) (text bytes known rest : List ℕ) (stops : ℕ → Bool) (len : ℕ) (ok : Bool) → rest ≡ drop len text
    → len ≡ written_len known stops bytes → ok ≡ is_admitted_spelling kind (take len bytes) → ok ≡ true
    → bytes ≡ text → known ≡ escapable kind → stops ≡ is_stop kind
    → IsWrittenName kind text rest × ((other : List ℕ) → IsWrittenName kind text other → EndsName kind other → other ≡ rest)
name_found kind text bytes known rest stops len ok left is tells passes same_text same_known same_stops =
    let is : len ≡ name_len kind text = cc in
    let front = written_spelled (escapable kind) (is_stop kind) text in
    let spelled : spelling kind front.name ++ rest ≡ text = rw (left, is) front.spelled in
    let same : take len text ≡ spelling kind front.name =
    sym (append_cancel_right (spelling kind front.name) (take len text) rest (spelled ∙ rw left (sym (take-append-drop len text)))) in (
      record { thing = front.name; is = grind (arith, all_same kind front.name, front.holds, spelling_tells); written = spelled },
      λ other w ends. grind (arith, drop_at, name_passed),
    )

-- If the front that is passed is not admitted, no written name is at the start of the text.
pub name_none : (kind : NameKind) (text bytes known rest : List ℕ) (stops : ℕ → Bool) (len : ℕ) (ok : Bool)
    → len ≡ written_len known stops bytes → ok ≡ is_admitted_spelling kind (take len bytes) → ok ≡ false
    → bytes ≡ text → known ≡ escapable kind → stops ≡ is_stop kind → IsWrittenName kind text rest → EndsName kind rest → ⊥
name_none kind text bytes known rest stops len ok is tells fails same_text same_known same_stops w ends =
    let is : len ≡ name_len kind text = cc in
    grind (arith, take_at, name_passed, spelling_tells, admitted_parts)

-- a byte that ends a name ends it there
pub stop_ends : (kind : NameKind) (stop : ℕ) (rest : List ℕ) → is_stop kind stop ≡ true → stop ≢ backslash → EndsName kind (stop ∷ rest)
stop_ends kind stop rest stops other =
    written_ends (escapable kind) (is_stop kind) (stop ∷ rest) (λ some. rw stops refl) (λ some is found. absurd (other is))

-- whether a byte is a quote
abbrev pub is_quote : ℕ → Bool
is_quote b = b == quote

-- Any text can be the text of a string.
holds_any : (n : List ℕ) → list_all (can_hold quotable is_quote) n ≡ true
holds_any [] = refl
holds_any (b ∷ n) = grind (arith, common_steps, holds_any n)

-- The text between a quote and the next quote is the written text of a string.
pub string_found : (text opened rest : List ℕ) → text ≡ quote ∷ opened → drop (written_len quotable is_quote opened) opened ≡ quote ∷ rest
    → IsWrittenString text rest
string_found text opened rest e closed =
    let front = written_spelled quotable is_quote opened in
    record { thing = front.name; is = tt; written = grind (arith, append_assoc) }

-- No other rest follows a written string.
pub string_only : (text opened rest : List ℕ) → text ≡ quote ∷ opened → IsWrittenString text rest
    → drop (written_len quotable is_quote opened) opened ≡ quote ∷ rest
string_only text opened rest e w = grind (arith, append_assoc, written_spelling, holds_any, drop_at, written_ends)

-- If a byte reads at the start of a text, the text is this byte and the rest.
pub byte_left : (b : ℕ) (text rest : List ℕ) → byte b text ≡ reads b rest → text ≡ b ∷ rest
byte_left b text rest e = grind (arith, cases_Bool, eqb-true)

-- The rest after both quotes is the only rest after a written string.
pub string_answer : (text opened bytes after : List ℕ) (len : ℕ) (o : Option (Bor (List ℕ))) → byte quote text ≡ reads quote opened
    → after ≡ drop len opened → len ≡ written_len quotable is_quote bytes → bytes ≡ opened
    → MatchOption o (byte quote after ≡ miss) (λ rest. byte quote after ≡ reads quote rest.now)
    → IsOnlyRest (IsWrittenString text) (λ rest. Unit) o
string_answer text opened bytes after len None read left is same closed = λ rest w any.
    let e = string_only text opened rest (byte_left quote text opened read) w in byte_missing quote after closed rest (cc e)
string_answer text opened bytes after len (Some rest) read left is same closed =
    let e = byte_left quote text opened read in
    let found = byte_left quote after rest.now closed in
    (string_found text opened rest.now e (cc found), λ other w any. let again = string_only text opened other e w in cc (found, again))
