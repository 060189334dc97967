-- Where a text can be cut, so that its parts can be read apart.
use Rattle.std.specs.Prelude.{◌≡◌, ℕ, ◌+◌, ◌-◌, ◌*◌, ◌/◌, ◌<◌, ◌≤◌, List, [], ◌∷◌, ◌++◌, length, max, take, slice_index, slice_range}
use Rattle.std.specs.List.Sorted.{IsNonDecreasing}
use Rattle.influxdb_line_protocol.specs.format.Dialects.{Dialect}
use Rattle.influxdb_line_protocol.specs.format.Pieces.{Pieces}

-- a cut: what comes before it is nothing, or ends with a newline that ends a piece; so the last piece of that is empty
pub record IsCutAt (dialect : Dialect) (text : List ℕ) (at : ℕ) : Type 0 where
  pub within : at ≤ length text
  pub pieces : List (List ℕ)
  pub are : Pieces dialect (take at text) (pieces ++ [] ∷ [])

-- the first cut at or after a place, or if none is there the last cut of all
pub record IsCutFor (dialect : Dialect) (text : List ℕ) (place at : ℕ) : Type 0 where
  pub is_cut : IsCutAt dialect text at
  pub first : (other : ℕ) → IsCutAt dialect text other → place ≤ other → at ≤ other
  pub last : at < place → (other : ℕ) → IsCutAt dialect text other → other ≤ at

-- the ends of so many parts, of one part for 0. Each but the last is the cut for where it ends if all parts have one length, or
-- for 1 if that is 0, and the last is the text's end
pub record ArePartEnds (dialect : Dialect) (text : List ℕ) (count : ℕ) (ends : List ℕ) : Type 0 where
  pub cuts : List ℕ
  pub are : ends ≡ cuts ++ length text ∷ []
  pub count_is : length cuts ≡ count - 1
  pub each : (k : ℕ) → k < length cuts → IsCutFor dialect text (max 1 ((k + 1) * length text / count)) (slice_index cuts k)
  pub rise : IsNonDecreasing ends

-- the parts of a text with these ends, of which the first begins at this place
abbrev pub parts_from : ℕ → List ℕ → List ℕ → List (List ℕ)
parts_from start text [] = []
parts_from start text (end ∷ ends) = slice_range text start end ∷ parts_from end text ends

-- the pieces of each of these texts alone, joined: each but the last text ends with an empty piece, which is left out
abbrev pub HavePieces : Dialect → List (List ℕ) → List (List ℕ) → Type 0
HavePieces dialect [] pieces = pieces ≡ []
HavePieces dialect (text ∷ []) pieces = Pieces dialect text pieces
HavePieces dialect (text ∷ (next ∷ texts)) pieces =
    (first others : List (List ℕ))
    × Pieces dialect text (first ++ [] ∷ []) × HavePieces dialect (next ∷ texts) others × (pieces ≡ first ++ others)

-- the parts of a text, one after another: their pieces are its pieces
abbrev pub JoinsPieces : Dialect → List ℕ → List (List ℕ) → Type 0
JoinsPieces dialect text parts = (pieces : List (List ℕ)) × HavePieces dialect parts pieces × Pieces dialect text pieces
