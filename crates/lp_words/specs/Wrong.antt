-- What is said of words that ask for nothing.
use Rattle.std.specs.Prelude.{ℕ, ◌+◌, ◌==◌, ◌&&◌, ◌||◌, nat_lt, take, drop, slice_index, Bool, false, not, List, [], ◌∷◌, ◌++◌, length, codes, decimal, if◌then◌else◌}
use Rattle.std.specs.{List.position, Option.option_map_or}
use Rattle.lp_words.specs.declared.wrong.Wrong.{Wrong}
use Rattle.lp_words.specs.declared.wrong.Wrong.TheVariants.{Twice, LacksValue, TakesNoValue, Alone, AtOdds, Needs, AroundCut, Empty, OneFile}
use Rattle.lp_words.specs.Options.{is_number}
use Rattle.lp_words.specs.Refusals.{told_name}

-- whether a word is a number, or one after a minus sign
abbrev pub is_time : List ℕ → Bool
is_time [] = false
is_time (b ∷ word) = if b == 45 then is_number word else is_number (b ∷ word)

-- whether two words write a range of such numbers, of which one may be missing
abbrev pub are_times : (from to : List ℕ) → Bool
are_times from to =
    if length from == 0 then is_time to
    else (if length to == 0 then is_time from else is_time from && is_time to)

-- whether a word whose first dot is here is two such words, with two dots between them
abbrev pub are_times_at : List ℕ → ℕ → Bool
are_times_at word at =
    nat_lt (at + 1) (length word) && slice_index word (at + 1) == 46 && are_times (take at word) (drop (at + 2) word)

-- whether a word is two such words, with two dots between them
abbrev pub is_times : List ℕ → Bool
is_times word = option_map_or (are_times_at word) (position (λ b. b == 46) word) false

-- a word in a message
abbrev pub word_text : List ℕ → List ℕ
word_text word = if length word == 0 then codes "an empty word" else told_name word

-- what is said of the value of an option
abbrev pub value_text : (option word what : List ℕ) → List ℕ
value_text option word what = option ++ codes ": " ++ word_text word ++ codes " is " ++ what

-- what is said of one option or one word
abbrev pub wrong_text : Wrong → List ℕ
wrong_text (Twice option) = option.now ++ codes " is given twice"
wrong_text (LacksValue option) = option.now ++ codes " needs a value"
wrong_text (TakesNoValue option) = option.now ++ codes " takes no value"
wrong_text (Alone option) = option.now ++ codes " comes alone"
wrong_text (AtOdds option other) = option.now ++ codes " cannot be given with " ++ other.now
wrong_text (Needs option other) = option.now ++ codes " needs " ++ other.now
wrong_text AroundCut = codes "--cut comes first, or after --strict or --newline-delimited alone"
wrong_text Empty = codes "an empty word is no name of a file"
wrong_text (OneFile option count) = option.now ++ codes " takes one FILE, not " ++ decimal count
wrong_text _ = codes "these words ask for nothing"
