-- What words say that take one form in all programs.
use Rattle.std.specs.Prelude.{ℕ, ◌+◌, ◌^◌, nat_lt, take, drop, slice_index, Bool, false, true, not, ◌&&◌, ◌||◌, ◌==◌, List, [], ◌∷◌, length, bytes_eq, codes}
use Rattle.std.specs.Prelude.{Option, Some, None, option_map, option_and_then, if◌then◌else◌}
use Rattle.std.specs.{Borrow.Bor, Char.is_ascii_digit, List.list_all, List.position, Str.all_ascii_digits, Str.Parse.digits_value}
use Rattle.lp_escapes.specs.declared.forms.{Faults.Faults, Faults.TheVariants.Raw, Faults.TheVariants.OneLine, Faults.TheVariants.Editor, Faults.TheVariants.Json}
use Rattle.lp_words.specs.declared.options.Range.{Range}

-- how many bytes a line may have if no option says it: 16 MiB
abbrev pub default_max_line : ℕ
default_max_line = 2 ^ 24

-- the number that a word writes: one digit or more and nothing else, if a usize holds it
abbrev pub decimal : List ℕ → Option ℕ
decimal word =
    if nat_lt 0 (length word) && all_ascii_digits word && nat_lt (digits_value 10 word) (2 ^ 64)
    then Some (digits_value 10 word) else None

-- whether a word has a digit, and nothing else
abbrev pub is_number : List ℕ → Bool
is_number word = nat_lt 0 (length word) && list_all is_ascii_digit word

-- whether a word can be the name of a file: it has a byte, and the first is no `-`
abbrev pub names_file : List ℕ → Bool
names_file [] = false
names_file (first ∷ word) = not (first == 45)

-- whether a word names an input: a file, or standard input, which is `-`
abbrev pub names_input : List ℕ → Bool
names_input word = bytes_eq word (codes "-") || names_file word

-- the names of inputs that words are, if they are the mark `--` and names, each of a byte or more
abbrev pub named_inputs : List (Bor (List ℕ)) → Option (List (Bor (List ℕ)))
named_inputs [] = None
named_inputs (mark ∷ names) =
    if bytes_eq mark.now (codes "--") && list_all (λ name. nat_lt 0 (length name.now)) names then Some names else None

-- whether there is one word, if that is asked for
abbrev pub is_one_if : Bool → List (Bor (List ℕ)) → Bool
is_one_if asked words = not asked || length words == 1

-- the number that a word writes, if it is at least 1
abbrev pub first_number : List ℕ → Option ℕ
first_number word = option_and_then (λ first. if first == 0 then None else Some first) (decimal word)

-- how faults are told, as a word says: each on one line, as they are, as objects without their pieces or with them, or for editors; objects
-- and lines for editors name lines from 1 on
abbrev pub faults_form : List ℕ → Option Faults
faults_form word =
    if bytes_eq word (codes "line") then Some OneLine
    else (if bytes_eq word (codes "raw") then Some Raw
    else (if bytes_eq word (codes "json") then Some (Json 1 false)
    else (if bytes_eq word (codes "json+text") then Some (Json 1 true)
    else (if bytes_eq word (codes "editor") then Some (Editor 1) else None))))

-- whether faults are told as objects
abbrev pub are_objects : Faults → Bool
are_objects Raw = false
are_objects OneLine = false
are_objects (Json first_line has_piece) = true
are_objects (Editor first_line) = false

-- whether faults name their file if there is one alone: objects and lines for editors do
abbrev pub name_one_file : Faults → Bool
name_one_file Raw = false
name_one_file OneLine = false
name_one_file (Json first_line has_piece) = true
name_one_file (Editor first_line) = true

-- the name that objects and lines for editors tell of their file, if words name one input, and that is a file
abbrev pub told_file : Faults → List (Bor (List ℕ)) → Option (Bor (List ℕ))
told_file faults [] = None
told_file faults (word ∷ []) = if name_one_file faults && not (bytes_eq word.now (codes "-")) then Some word else None
told_file faults (word ∷ next ∷ words) = None

-- the place that a range ends before, as a word writes it: none if it has no byte
abbrev pub range_end : List ℕ → Option (Option ℕ)
range_end [] = Some None
range_end (b ∷ word) = option_map (λ to. Some to) (decimal (b ∷ word))

-- the range from the place that a word writes, and before the one that another writes
abbrev pub range_between : (from to : List ℕ) → Option Range
range_between from to = option_and_then (λ start. option_map (λ end. record { from = start; to = end }) (range_end to)) (decimal from)

-- the range of which a word writes the places before and after two dots, of which these are the places
abbrev pub range_at : List ℕ → (at next : ℕ) → Option Range
range_at word at next =
    if nat_lt next (length word) && slice_index word next == 46 then range_between (take at word) (drop (next + 1) word) else None

-- the range that a word writes, as `14..28` or `14..`: two places, with two dots between them
abbrev pub asked_range : List ℕ → Option Range
asked_range word =
    option_and_then (λ at. range_at word at (at + 1)) (position (λ b. b == 46) word)
