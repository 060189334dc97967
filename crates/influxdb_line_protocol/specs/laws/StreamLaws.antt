-- The pieces that a stream gives are the pieces of all bytes that were pushed to it.
use Rattle.std.specs.Prelude.{◌≡◌, ℕ, List, [], ◌∷◌, ◌++◌, Some, ◌↔◌, Result, IsUtf8}
use Rattle.lp_format.specs.format.{Dialect, newline, IsCutPiece, IsLastPiece, IsFirstCut, Fault, Line, HasAnswers, Pieces.Pieces}
use Rattle.lp_split.specs.code.{Held, TakesPiece}

-- The first cut of a text is the first cut of each text that begins with it.
abbrev pub FrontsKeepTheirCuts : Type 0
FrontsKeepTheirCuts =
    (dialect : Dialect) (front rest : List ℕ) (i : ℕ) → IsFirstCut dialect front (Some i) → IsFirstCut dialect (front ++ rest) (Some i)

-- A piece that is taken from a stream is the first piece of the held bytes and of any text after them. The other pieces are the pieces of
-- the bytes that the stream holds after the call, and of the text.
abbrev pub TakenIsFirst : Type 0
TakenIsFirst = (before after : Held) (piece t : List ℕ) (others : List (List ℕ)) → TakesPiece before piece after
    → Pieces before.dialect (after.bytes ++ t) others → Pieces before.dialect (before.bytes ++ t) (piece ∷ others)

-- The calls on a stream from its start: the bytes that were pushed, the pieces that were given, and the bytes that the stream holds.
pub data Run (dialect : Dialect) : List ℕ → List (List ℕ) → List ℕ → Type 0 where
  begun : Run dialect [] [] []
  pushed : (given : List ℕ) (pieces : List (List ℕ)) (held part : List ℕ) → Run dialect given pieces held
      → Run dialect (given ++ part) pieces (held ++ part)
  taken : (given : List ℕ) (pieces : List (List ℕ)) (piece held : List ℕ)
      → Run dialect given pieces (piece ++ newline ∷ held) → IsCutPiece dialect piece
      → Run dialect given (pieces ++ piece ∷ []) held

-- The pieces of the whole are the pieces that a stream gave, followed by the pieces of the bytes that it holds and of any later text.
abbrev pub RunsGivePieces : Type 0
RunsGivePieces = (dialect : Dialect) (given : List ℕ) (pieces : List (List ℕ)) (held t : List ℕ) (others : List (List ℕ))
    → Run dialect given pieces held → Pieces dialect (held ++ t) others → Pieces dialect (given ++ t) (pieces ++ others)

-- At the end of the input, the bytes that the stream holds are the last piece of the whole.
abbrev pub RunsEnd : Type 0
RunsEnd = (dialect : Dialect) (given : List ℕ) (pieces : List (List ℕ)) (held : List ℕ)
    → Run dialect given pieces held → IsLastPiece dialect held → Pieces dialect given (pieces ++ held ∷ [])

-- The answers for each of these texts alone, joined in order.
abbrev pub HaveAnswers : Dialect → List (List ℕ) → List (Result Line Fault) → Type 0
HaveAnswers dialect [] answers = answers ≡ []
HaveAnswers dialect (text ∷ texts) answers = (first others : List (Result Line Fault))
    × HasAnswers dialect text first × HaveAnswers dialect texts others × (answers ≡ first ++ others)

-- The answers for the whole are the answers for each piece that a stream gave alone, followed by the answers for the held bytes and any
-- later text.
abbrev pub StreamsGiveAnswers : Type 0
StreamsGiveAnswers =
    (dialect : Dialect) (given : List ℕ) (pieces : List (List ℕ)) (held t : List ℕ) (first others : List (Result Line Fault))
    → Run dialect given pieces held → HaveAnswers dialect pieces first → HasAnswers dialect (held ++ t) others
    → HasAnswers dialect (given ++ t) (first ++ others)

-- At the end of the input, the answers for the whole are the answers for each piece alone, where the held bytes are the last piece.
abbrev pub StreamsAnswerAll : Type 0
StreamsAnswerAll = (dialect : Dialect) (given : List ℕ) (pieces : List (List ℕ)) (held : List ℕ) (answers : List (Result Line Fault))
    → Run dialect given pieces held → HaveAnswers dialect (pieces ++ held ∷ []) answers → HasAnswers dialect given answers

-- Two texts with a newline between them are UTF-8 exactly if both texts are UTF-8.
abbrev pub Utf8ByPieces : Type 0
Utf8ByPieces = (u t : List ℕ) → IsUtf8 (u ++ newline ∷ t) ↔ (IsUtf8 u × IsUtf8 t)
