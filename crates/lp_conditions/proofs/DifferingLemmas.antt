-- The front that a line has in common with another text.
use Rattle.std.proofs.Common.{◌≡◌, ◌≢◌, ℕ, zero, suc, ◌<◌, ◌≤◌, List, [], ◌∷◌, ◌++◌, length, length-append, drop, take, nat_lt, slice_index, ◌&&◌, if◌then◌else◌, refl, ap, ◌∙◌, arith, IsCharBoundary, true, false, inl, inr}
use Rattle.std.proofs.Math.Seq.{get_or-append_seam, take-append_seam}
use Rattle.std.proofs.lemmas.Bool.{cases_Bool, cases_lt, lt-ltb}
use Rattle.std.proofs.lemmas.Bool.Decides.{nat_tests}
use Rattle.std.proofs.lemmas.List.{drop_all}
use Rattle.influxdb_line_protocol.specs.format.Dialects.{Strict}
use Rattle.lp_events.specs.code.Stops.{reading_stop}
use Rattle.lp_conditions.specs.Differing.{FrontsStopInThePart, char_start, common_len, goes_on, part_after, part_at}
use Rattle.lp_conditions.specs.declared.differing.Part.{Part}
use Rattle.lp_conditions.specs.declared.differing.Part.TheVariants.{In}

-- nothing is common with an empty text
none_common : (line : List ℕ) → common_len line [] ≡ 0
none_common [] = refl
none_common (b ∷ line) = refl

-- nor with a text that has ended
pub common_ends : (line written : List ℕ) (at : ℕ) → length written ≤ at → common_len line (drop at written) ≡ 0
common_ends line written at ended = rw (drop_all at written ended) (none_common line)

-- a character goes on where none begins
goes_on_is : (text : List ℕ) (n : ℕ) → n ≤ length text → (¬ IsCharBoundary text n) → goes_on text n ≡ true
goes_on_is text n within not = grind (arith, cases_Bool, nat_tests)

-- and not where one begins
begins_is : (text : List ℕ) (n : ℕ) → IsCharBoundary text n → goes_on text n ≡ false
begins_is text n h = grind (arith, cases_Bool, nat_tests)

-- the nearest place where a character begins
pub char_start_is : (text : List ℕ) (at result : ℕ) → at ≤ length text → result ≤ at → IsCharBoundary text result
    → ((i : ℕ) → result < i → i ≤ at → ¬ IsCharBoundary text i) → result ≡ char_start text at
char_start_is text zero result within low here none = omega (arith, low)
char_start_is text (suc n) result within low here none =
    elim (cases_lt result (suc n)) [
      | inl below ↦
          rw (goes_on_is text (suc n) within (none (suc n) below (omega arith)))
          (char_start_is text n result (omega arith) (omega arith) here (λ i more few. none i more (omega arith)))
      | inr same ↦
          let is : result ≡ suc n = omega (arith, low, same) in
          rw (begins_is text (suc n) (rw is at here)) is
    ]

-- a front that both have is all that is common before other bytes
common_front : (front line written : List ℕ) (b c : ℕ) → b ≢ c → common_len (front ++ b ∷ line) (front ++ c ∷ written) ≡ length front
common_front [] line written b c other = grind (arith, nat_tests)
common_front (x ∷ front) line written b c other = grind (arith, nat_tests, common_front front line written b c)

-- a place where a character begins is the nearest one
char_start_here : (text : List ℕ) (n : ℕ) → IsCharBoundary text n → char_start text n ≡ n
char_start_here text zero here = refl
char_start_here text (suc n) here = rw (begins_is text (suc n) here) refl

-- its place is in the text
within : (front line : List ℕ) (b : ℕ) → nat_lt (length front) (length (front ++ b ∷ line)) ≡ true
within front line b = lt-ltb (length front) (length (front ++ b ∷ line)) (omega (arith, length-append front (b ∷ line)))

-- the part in which two texts differ, if so many bytes are common
abbrev part_by : (line written : List ℕ) → ℕ → Part
part_by line written at =
    if nat_lt at (length line) && nat_lt at (length written) then part_at (part_after line at) (slice_index line at) (slice_index written at)
    else In (part_after line at)

-- by the bytes after these
part_by_bytes : (line written : List ℕ) (at b c : ℕ) → nat_lt at (length line) ≡ true → nat_lt at (length written) ≡ true
    → slice_index line at ≡ b → slice_index written at ≡ c → part_by line written at ≡ part_at (part_after line at) b c
part_by_bytes line written at b c in_line in_written here there = rw (in_line, in_written, here, there) refl

-- the part in which two texts differ after such a front
pub fronts_stop_in_the_part : FrontsStopInThePart
fronts_stop_in_the_part front line written b c other here =
    let text = front ++ b ∷ line in
    let built = front ++ c ∷ written in
    let n = length front in
    let front_is : take (char_start text n) text ≡ front =
    ap (λ (k : ℕ). take k text) (char_start_here text n here) ∙ take-append_seam front (b ∷ line) in
    ap (part_by text built) (common_front front line written b c other)
    ∙ part_by_bytes text built n b c (within front line b) (within front written c)
    (get_or-append_seam front b line 0) (get_or-append_seam front c written 0)
    ∙ ap (λ (l : List ℕ). part_at (reading_stop Strict l).0 b c) front_is
