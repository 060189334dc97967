-- Marks are bytes that mean something to a reader of lines or to a server. These definitions count the marks of a text.
use Rattle.std.specs.Prelude.{ℕ, ◌==◌, ◌||◌, Bool, List, [], ◌∷◌}
use Rattle.std.specs.List.{count_by}
use Rattle.lp_format.specs.format.{backslash, comma, equals, hash, is_one_of, newline, nul, quote}

-- Whether a byte stands between the parts of a line: a comma or an equals sign.
abbrev pub is_joint : ℕ → Bool
is_joint b = b == comma || b == equals

-- Whether a byte is a mark that is no comma and no equals sign.
abbrev pub is_special : ℕ → Bool
is_special b = is_one_of (nul ∷ newline ∷ 13 ∷ quote ∷ hash ∷ backslash ∷ []) b

-- Whether a byte is a mark.
abbrev pub is_mark : ℕ → Bool
is_mark b = is_special b || is_joint b

-- The number of bytes of a text that pass a test.
abbrev pub held : (ℕ → Bool) → List ℕ → ℕ
held test bytes = count_by test bytes
