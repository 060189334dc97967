-- Streams of pieces: the bytes that a stream holds, and the bytes that a call takes.
use Rattle.std.specs.Prelude.{◌≡◌, ℕ, List, [], ◌∷◌, ◌++◌, take, drop, Option, Some, None, Result, Ok, Err, IsUtf8}
use Rattle.std.specs.Borrow.{Bor}
use Rattle.lp_format.specs.format.{Dialect, newline, IsCutPiece, IsLastPiece}

-- a stream: it holds the bytes that came after the newline of the last cut. Its buffer has room for `capacity` bytes, and has, before the
-- bytes that are held, `given` bytes of pieces that were given.
pub record Held : Type 0 where
  pub dialect : Dialect
  pub bytes : List ℕ
  pub capacity : ℕ
  pub given : ℕ

-- the stream holds these bytes after the call, and its dialect stays
abbrev pub HoldsThen : Held → List ℕ → Held → Type 0
HoldsThen before bytes after = (after.dialect ≡ before.dialect) × (after.bytes ≡ bytes)

-- a call takes the first piece and the newline that ends it
pub record TakesPiece (before : Held) (piece : List ℕ) (after : Held) : Type 0 where
  pub dialect : after.dialect ≡ before.dialect
  pub bytes : before.bytes ≡ piece ++ newline ∷ after.bytes
  pub is_cut : IsCutPiece before.dialect piece

-- a call takes nothing, because no newline that came yet ends a piece
abbrev pub TakesNothing : Held → Held → Type 0
TakesNothing before after = (after ≡ before) × IsLastPiece before.dialect before.bytes

-- a call gives the first piece, or `None` if no newline that came yet ends it
abbrev pub GivesCut : Held → Option (Bor (List ℕ)) → Held → Type 0
GivesCut before None after = TakesNothing before after
GivesCut before (Some piece) after = TakesPiece before piece.now after

-- a call gives the first piece as text, or `None` if no newline that came yet ends it; a piece that is not UTF-8 is an error, and is taken too
abbrev pub GivesCutText : {E : Type 0} → Held → Option (Result (Bor (List ℕ)) E) → Held → Type 0
GivesCutText before None after = TakesNothing before after
GivesCutText before (Some (Ok text)) after = TakesPiece before text.now after × IsUtf8 text.now
GivesCutText before (Some (Err _)) after = (piece : List ℕ) × TakesPiece before piece after × (¬ IsUtf8 piece)

-- a call gives all bytes that the stream held, and takes them
abbrev pub GivesLast : Held → List ℕ → Held → Type 0
GivesLast before piece after = (piece ≡ before.bytes) × HoldsThen before [] after

-- a call gives all bytes that the stream held as text, and takes them; bytes that are not UTF-8 are an error, and are taken too
abbrev pub GivesLastText : {E : Type 0} → Held → Result (Bor (List ℕ)) E → Held → Type 0
GivesLastText before (Ok text) after = GivesLast before text.now after × IsUtf8 text.now
GivesLastText before (Err _) after = GivesLast before before.bytes after × (¬ IsUtf8 before.bytes)

-- a call gives the first `len` bytes that the stream held, and takes the first `taken` bytes
abbrev pub GivesFront : Held → (len taken : ℕ) → List ℕ → Held → Type 0
GivesFront before len taken front after =
    (front ≡ take len before.bytes) × HoldsThen before (drop taken before.bytes) after
