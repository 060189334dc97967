-- Trimming: the blanks and comments at the start of a piece are dropped.
use Rattle.std.specs.Prelude.{ℕ, ◌==◌, Bool, true, List, [], ◌∷◌, drop}
use Rattle.std.specs.List.{join_with_byte, prefix_len, slice_split}
use Rattle.lp_format.specs.format.Bytes.{tab, newline, space, hash, is_one_of}

-- a list without its longest front of elements that pass
abbrev pub without_front : {X : Type 0} → (X → Bool) → List X → List X
without_front passes xs = drop (prefix_len passes xs) xs

-- a line without the spaces and tabs at the start
abbrev pub without_blanks : List ℕ → List ℕ
without_blanks line = without_front (is_one_of (space ∷ tab ∷ [])) line

-- whether a line is empty or a comment
abbrev pub is_comment_or_empty : List ℕ → Bool
is_comment_or_empty [] = true
is_comment_or_empty (b ∷ rest) = b == hash

-- the trimmed text of a piece: its lines from the first that holds more than blanks and a comment, without the
-- blanks at the start
unfoldable pub trimmed : List ℕ → List ℕ
trimmed piece =
    without_blanks (join_with_byte newline
    (without_front (λ line. is_comment_or_empty (without_blanks line)) (slice_split (λ b. b == newline) piece)))
