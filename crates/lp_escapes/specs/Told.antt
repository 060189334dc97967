-- How a text is told on one line.
use Rattle.std.specs.Prelude.{ℕ, ◌+◌, ◌/◌, ◌%◌, ◌==◌, ◌&&◌, nat_lt, List, [], ◌∷◌, ◌++◌, length, take, codes, decimal, if◌then◌else◌}
use Rattle.std.specs.List.{flat_map}
use Rattle.lp_format.specs.format.Bytes.{tab, newline, backslash}

-- the hexadecimal digit of a number below 16
abbrev pub hex_digit : ℕ → ℕ
hex_digit n = if nat_lt n 10 then 48 + n else 87 + n

-- a byte on one line: after a backslash, the letter of a newline, of a tab or of a carriage return, a backslash itself, or the two
-- digits of a byte that ASCII does not print. Each other byte is as it is
abbrev pub told_byte : ℕ → List ℕ
told_byte b =
    if b == newline then backslash ∷ codes "n"
    else (if b == tab then backslash ∷ codes "t"
    else (if b == 13 then backslash ∷ codes "r"
    else (if b == backslash then backslash ∷ backslash ∷ []
    else (if nat_lt 31 b && nat_lt b 127 then b ∷ []
    else backslash ∷ codes "x" ++ hex_digit (b / 16) ∷ hex_digit (b % 16) ∷ []))))

-- how many bytes a text has of which a front is told
abbrev pub cut_mark : ℕ → List ℕ
cut_mark len = codes ".. [" ++ decimal len ++ codes " bytes]"

-- a text on one line: its first 200 bytes, and if it has more, how many it has
abbrev pub on_one_line : List ℕ → List ℕ
on_one_line text = flat_map told_byte (take 200 text) ++ (if nat_lt 200 (length text) then cut_mark (length text) else [])
