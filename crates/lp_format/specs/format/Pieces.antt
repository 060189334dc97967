-- The pieces of a text.
use Rattle.std.specs.Prelude.{◌≡◌, ◌≢◌, ℕ, ◌+◌, ◌<◌, ◌⊎◌, ◌||◌, ◌&&◌, Bool, false, IsTrue, List, [], ◌∷◌, ◌++◌, ◌==◌, length, take}
use Rattle.std.specs.Prelude.{slice_index, Option, Some, None, MatchOption, All}
use Rattle.std.specs.Borrow.{Bor}
use Rattle.lp_format.specs.format.{Dialects.Dialect, Dialects.Crate, Dialects.Strict, Dialects.NewlineDelimited}
use Rattle.lp_format.specs.format.{Escapes.IsBareAfter, Piece.IsClosed, Piece.IsOpen}
use Rattle.lp_format.specs.format.Bytes.{tab, newline, space, hash}

-- whether a text begins with any spaces and tabs and then `#`
abbrev pub begins_comment : List ℕ → Bool
begins_comment [] = false
begins_comment (b ∷ bs) = b == hash || (b == space || b == tab) && begins_comment bs

-- a text without a newline
abbrev pub HasNoNewline : List ℕ → Type 0
HasNoNewline text = All (λ b. b ≢ newline) text

-- a comment: a piece that begins with blanks and `#` and holds no newline
abbrev pub IsComment : List ℕ → Type 0
IsComment text = IsTrue (begins_comment text) × HasNoNewline text

-- a piece that a newline can end: a closed piece, if the newline is bare; in the strict dialect, also a comment; in the newline-delimited
-- dialect, any piece without a newline
abbrev pub IsCutPiece : Dialect → List ℕ → Type 0
IsCutPiece Crate piece = IsClosed piece × IsBareAfter piece
IsCutPiece Strict piece = IsComment piece ⊎ ((begins_comment piece ≡ false) × IsClosed piece × IsBareAfter piece)
IsCutPiece NewlineDelimited piece = HasNoNewline piece

-- a piece that the end of the text can end: a closed or an open piece; in the strict dialect, also a comment; in the newline-delimited
-- dialect, any piece without a newline
abbrev pub IsLastPiece : Dialect → List ℕ → Type 0
IsLastPiece Crate piece = IsClosed piece ⊎ IsOpen piece
IsLastPiece Strict piece = IsComment piece ⊎ ((begins_comment piece ≡ false) × (IsClosed piece ⊎ IsOpen piece))
IsLastPiece NewlineDelimited piece = HasNoNewline piece

-- the place of the newline that ends the first piece of a text, or `None` if the text is one piece
abbrev pub IsFirstCut : Dialect → List ℕ → Option ℕ → Type 0
IsFirstCut dialect text None = IsLastPiece dialect text
IsFirstCut dialect text (Some i) = (i < length text) × (slice_index text i ≡ newline) × IsCutPiece dialect (take i text)

-- the pieces of a text: joined by newlines they are the text, and a newline can end each piece but the last
pub data Pieces (dialect : Dialect) : List ℕ → List (List ℕ) → Type 0 where
  last : (piece : List ℕ) → IsLastPiece dialect piece → Pieces dialect piece (piece ∷ [])
  cut : (piece text : List ℕ) (pieces : List (List ℕ)) → IsCutPiece dialect piece → Pieces dialect text pieces
      → Pieces dialect (piece ++ newline ∷ text) (piece ∷ pieces)

-- the state of a splitter: the text after its last cut, or no text after it gave the last piece
pub record Left : Type 0 where
  pub dialect : Dialect
  pub text : Option (List ℕ)

-- the pieces that a splitter has left
abbrev pub PiecesLeft : Left → List (List ℕ) → Type 0
PiecesLeft left pieces = MatchOption left.text (pieces ≡ []) (λ text. Pieces left.dialect text pieces)

-- a call gives the first piece that is left and leaves the others, or gives `None` if no piece is left
abbrev pub GivesPiece : Left → Option (Bor (List ℕ)) → Left → Type 0
GivesPiece before None after = PiecesLeft before [] × PiecesLeft after []
GivesPiece before (Some piece) after =
    (after.dialect ≡ before.dialect) × ((others : List (List ℕ)) → PiecesLeft after others → PiecesLeft before (piece.now ∷ others))

-- the greatest number of pieces that the text left can have
abbrev pub most_pieces : Option (List ℕ) → ℕ
most_pieces None = 0
most_pieces (Some text) = length text + 1
