-- Words of times: without a sign, and with two dots or without.
use Rattle.std.proofs.Common.{◌≡◌, ◌≢◌, ℕ, ◌+◌, ◌<◌, ◌==◌, ◌&&◌, ◌∙◌, List, [], ◌∷◌, Some, None, length, take, drop, slice_index, refl, sym, ap, pos, arith}
use Rattle.std.specs.{List.position, Option.option_and_then}
use Rattle.std.specs.Prelude.{true, false, if◌then◌else◌, nat_lt, option_map, ◌^◌}
use Rattle.lp_relay_program.specs.TimeWords.{asked_time, asked_times, number_below, times_at, times_between}

-- a word that begins with no minus sign is the number itself
pub no_sign : (word : List ℕ) → ((rest : List ℕ) → word ≢ 45 ∷ rest) → asked_time word ≡ option_map pos (number_below (2 ^ 63) word)
no_sign [] none = refl
no_sign (b ∷ word) none = grind (arith, none word)

-- a place within, which has a dot
has_dot : (next len b : ℕ) → next < len → b ≡ 46 → (nat_lt next len && b == 46) ≡ true
has_dot next len b fits dot = grind (arith)

-- a word whose first dot is at this place, with another after it, is the range of the times before and after both
pub dots : (word : List ℕ) (at : ℕ) → Some at ≡ position (λ b. b == 46) word → at + 1 < length word → slice_index word (at + 1) ≡ 46
    → times_between (take at word) (drop (at + 1 + 1) word) ≡ asked_times word
dots word at found fits dot =
    ap (λ is. if is then times_between (take at word) (drop (at + 1 + 1) word) else None)
    (sym (has_dot (at + 1) (length word) (slice_index word (at + 1)) fits dot))
    ∙ ap (option_and_then (λ at. times_at word at (at + 1))) found

-- a word whose first dot is at this place, at the end or with no other after it, is no range
pub no_dots : (word : List ℕ) (at : ℕ) → Some at ≡ position (λ b. b == 46) word
    → (nat_lt (at + 1) (length word) && slice_index word (at + 1) == 46) ≡ false → None ≡ asked_times word
no_dots word at found none =
    ap (λ is. if is then times_between (take at word) (drop (at + 1 + 1) word) else None) (sym none)
    ∙ ap (option_and_then (λ at. times_at word at (at + 1))) found
