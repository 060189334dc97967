-- The bytes that mean something in line protocol, by their names.
use Rattle.std.specs.{Prelude.ℕ, Prelude.Bool, Prelude.List, Prelude.◌==◌, List.count_by, List.list_any}

-- the byte NUL
abbrev pub nul : ℕ
nul = 0

-- a tab
abbrev pub tab : ℕ
tab = 9

-- a newline
abbrev pub newline : ℕ
newline = 10

-- a space
abbrev pub space : ℕ
space = 32

-- `"`, which opens and closes a string
abbrev pub quote : ℕ
quote = 34

-- `#`, which begins a comment
abbrev pub hash : ℕ
hash = 35

-- `,`, which divides tags, and fields
abbrev pub comma : ℕ
comma = 44

-- `-`, the sign of a number
abbrev pub minus : ℕ
minus = 45

-- `=`, which divides a key from its value
abbrev pub equals : ℕ
equals = 61

-- `\`, which escapes the byte after it
abbrev pub backslash : ℕ
backslash = 92

-- the letter after an integer
abbrev pub letter_i : ℕ
letter_i = 105

-- the letter after an unsigned integer
abbrev pub letter_u : ℕ
letter_u = 117

-- whether a list of bytes holds this byte
abbrev pub is_one_of : List ℕ → ℕ → Bool
is_one_of bytes b = list_any (λ c. c == b) bytes

-- how many newlines the bytes have
abbrev pub newlines_in : List ℕ → ℕ
newlines_in bytes = count_by (λ b. b == newline) bytes
