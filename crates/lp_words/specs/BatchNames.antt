-- How batches of lines are named.
use Rattle.std.specs.Prelude.{ℕ, ◌+◌, ◌-◌, nat_lt, take, drop, slice_index, Bool, not, ◌&&◌, ◌==◌, List, ◌++◌, length, codes, decimal}
use Rattle.std.specs.Prelude.{Option, Some, None, option_and_then, if◌then◌else◌}
use Rattle.std.specs.{Cmp.Lexicographic.pointwise, List.list_all, List.position}
use Rattle.std.specs.Prelude.{nat_eq}
use Rattle.std.specs.{Char.is_ascii_digit}
use Rattle.lp_words.specs.Paths.{file_in}
use Rattle.lp_words.specs.declared.batch_names.BatchNames.{BatchNames}

-- names of batches: what comes before the number, how many digits that has, and what comes after it
pub record Names : Type 0 where
  pub before : List ℕ
  pub width : ℕ
  pub after : List ℕ

-- the names that the code holds
abbrev pub seen_names : BatchNames → Names
seen_names names = record { before = names.before.now; width = names.width; after = names.after.now }

-- whether a byte can come after the number: it is neither `%` nor `/`
abbrev pub is_plain : ℕ → Bool
is_plain byte = not (byte == 37) && not (byte == 47)

-- how many digits the number has for which a word has a place here: `0`, a digit from 1 to 9 and `d` come after a byte
abbrev pub width_at : List ℕ → (at : ℕ) → Option ℕ
width_at word at =
    if nat_lt (at + 3) (length word) && slice_index word (at + 1) == 48 && slice_index word (at + 3) == 100
    && nat_lt 48 (slice_index word (at + 2)) && nat_lt (slice_index word (at + 2)) 58
    then Some (slice_index word (at + 2) - 48) else None

-- the names that a word says which has a place for the number here, if no `%` and no `/` come after it
abbrev pub names_at : List ℕ → (at : ℕ) → Option Names
names_at word at =
    option_and_then (λ width. if list_all is_plain (drop (at + 3 + 1) word)
    then Some (record { before = take at word; width = width; after = drop (at + 3 + 1) word }) else None) (width_at word at)

-- the names of batches that a word says, as `a/b-%06d.lp` does: it has one `%`, in the name of the file
abbrev pub batch_names : List ℕ → Option Names
batch_names word = option_and_then (λ at. names_at word at) (position (λ b. b == 37) word)

-- the name of the batch of this number, which has no more digits than the names have places, with zeros before it
abbrev pub batch_name : Names → (number : ℕ) → List ℕ
batch_name names number =
    names.before ++ take (names.width - length (decimal number)) (codes "000000000") ++ decimal number ++ names.after

-- whether the rest of a name, once its beginning was taken off, is a number of so many digits and what comes after the number
abbrev pub ends_batch : (width : ℕ) → (after rest : List ℕ) → Bool
ends_batch width after rest =
    pointwise nat_eq (drop (length rest - length after) rest) after && length (take (length rest - length after) rest) == width
    && list_all is_ascii_digit (take (length rest - length after) rest)

-- whether a name that begins so is the name of a batch
abbrev pub begins_batch : (start : List ℕ) → Names → List ℕ → Bool
begins_batch start names file =
    pointwise nat_eq (take (length start) file) start && ends_batch names.width names.after (drop (length start) file)

-- whether a file of this name, in whichever folder, is named as a batch
abbrev pub is_batch : Names → List ℕ → Bool
is_batch names file = begins_batch (file_in names.before) names file
