-- Ranks: the first bytes of a text as a number, by which most texts are told apart.
use Rattle.std.specs.Prelude.{ℕ, zero, suc, ◌+◌, ◌-◌, ◌*◌, ◌^◌, ◌≡◌, List, [], ◌∷◌, drop, length, map, min, take}
use Rattle.std.specs.{Borrow.Bor, List.All}
use Rattle.lp_values.specs.{declared.escaped.EscapedStr.EscapedStr, code.Texts.text_of}
use Rattle.lp_format.specs.format.{Pair, Text}
use Rattle.lp_lines.specs.code.{Keys.sorted_by, Parsed.tag_of}

-- the number that the first `n` bytes of a text spell, the most significant byte first, with zeros after the end of the text; at most the
-- greatest number of `n` bytes
abbrev pub rank_within : ℕ → List ℕ → ℕ
rank_within zero text = 0
rank_within (suc n) [] = 0
rank_within (suc n) (b ∷ text) = min (b * 256 ^ n + rank_within n text) (256 ^ suc n - 1)

-- the number that the first eight bytes of a text spell
abbrev pub rank_of : List ℕ → ℕ
rank_of text = rank_within 8 text

-- the key of a tag begins with `front`
abbrev pub HasFront : List ℕ → EscapedStr × EscapedStr → Type 0
HasFront front t = take (length front) (text_of t.0) ≡ front

-- the first `len` bytes of the keys of all tags are the same
abbrev pub IsFrontLen : ℕ → List (EscapedStr × EscapedStr) → Type 0
IsFrontLen len tags = (front : List ℕ) × (len ≡ length front) × All (HasFront front) tags

-- a tag with the rank of its key after the first `len` bytes
abbrev pub ranked : ℕ → EscapedStr × EscapedStr → ℕ × (EscapedStr × EscapedStr)
ranked len t = (rank_of (drop len (text_of t.0)), t)

-- the text by which a ranked tag is compared: its rank, and then its key
abbrev pub ranked_key : ℕ × (EscapedStr × EscapedStr) → List ℕ
ranked_key r = r.0 ∷ text_of r.1.0

-- the ranked tag of a tag that is lent
abbrev pub lent_rank : ℕ × Bor (EscapedStr × EscapedStr) → ℕ × (EscapedStr × EscapedStr)
lent_rank r = (r.0, r.1.now)

-- `out` are the tags in the order of their keys, each with the rank of its key after the bytes that all keys begin with
abbrev pub AreSorted : List (ℕ × (EscapedStr × EscapedStr)) → List (EscapedStr × EscapedStr) → Type 0
AreSorted out tags = (len : ℕ) × IsFrontLen len tags × (out ≡ map (ranked len) (sorted_by (λ t. text_of t.0) tags))

-- the tag of a ranked tag that is lent
abbrev pub lent_of : ℕ × Bor (EscapedStr × EscapedStr) → Pair Text Text
lent_of r = tag_of r.1.now
