-- What words ask of the times of lines.
use Rattle.std.specs.Prelude.{ℕ, ℤ, pos, neg_ℤ, ◌+◌, ◌^◌, ◌==◌, ◌&&◌, nat_lt, List, [], ◌∷◌, length, take, drop, slice_index, bytes_eq, codes}
use Rattle.std.specs.Prelude.{Option, Some, None, is_none, option_map, if◌then◌else◌}
use Rattle.std.specs.{List.position, Option.option_and_then}
use Rattle.lp_words.specs.Options.{decimal}
use Rattle.lp_conditions.specs.declared.times.TimeUnit.{TimeUnit}
use Rattle.lp_conditions.specs.declared.times.TimeUnit.TheVariants.{Seconds, Millis, Micros, Nanos}
use Rattle.lp_relay_program.specs.declared.time_words.TimeRange.{TimeRange}

-- the unit that a word names
abbrev pub unit_named : List ℕ → Option TimeUnit
unit_named word =
    if bytes_eq word (codes "s") then Some Seconds
    else (if bytes_eq word (codes "ms") then Some Millis
    else (if bytes_eq word (codes "us") then Some Micros else (if bytes_eq word (codes "ns") then Some Nanos else None)))

-- the number that a word writes, if it is less than this limit
abbrev pub number_below : (limit : ℕ) → List ℕ → Option ℕ
number_below limit word = option_and_then (λ n. if nat_lt n limit then Some n else None) (decimal word)

-- the time that a word writes: a number less than 2^63, or a minus sign and a number of at most 2^63
abbrev pub asked_time : List ℕ → Option ℤ
asked_time [] = None
asked_time (b ∷ word) =
    if b == 45 then option_map (λ n. neg_ℤ (pos n)) (number_below (2 ^ 63 + 1) word)
    else option_map pos (number_below (2 ^ 63) (b ∷ word))

-- an end of a range of times, as a word writes it: none if it has no byte
abbrev pub time_end : List ℕ → Option (Option ℤ)
time_end [] = Some None
time_end (b ∷ word) = option_map (λ time. Some time) (asked_time (b ∷ word))

-- a range of times with one end or both
abbrev pub range_with : Option ℤ → Option ℤ → Option TimeRange
range_with from to = if is_none from && is_none to then None else Some (record { from = from; to = to })

-- the range from the time that a word writes, and before the one that another writes
abbrev pub times_between : (from to : List ℕ) → Option TimeRange
times_between from to = option_and_then (λ start. option_and_then (range_with start) (time_end to)) (time_end from)

-- the range of which a word writes the times before and after two dots, of which these are the places
abbrev pub times_at : List ℕ → (at next : ℕ) → Option TimeRange
times_at word at next =
    if nat_lt next (length word) && slice_index word next == 46 then times_between (take at word) (drop (next + 1) word) else None

-- the range of times that a word writes, as `14..28`, `14..` or `..28`: two times, of which one may be missing, with two dots between them
abbrev pub asked_times : List ℕ → Option TimeRange
asked_times word = option_and_then (λ at. times_at word at (at + 1)) (position (λ b. b == 46) word)
