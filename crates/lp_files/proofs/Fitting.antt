-- Which of the pieces of a text go to a batch.
use Rattle.std.proofs.Common.{◌≡◌, ◌∙◌, List, ℕ, [], ◌∷◌, true, false, Option, Some, None, length, refl, sym, ap, is_some, option_map, MatchOption}
use Rattle.std.specs.Borrow.{Bor}
use Rattle.influxdb_line_protocol.specs.format.Dialects.{Dialect}
use Rattle.influxdb_line_protocol.specs.format.Pieces.{Pieces, Pieces.cut, Pieces.last}
use Rattle.influxdb_line_protocol.specs.laws.Laws.{PiecesExist, PiecesAreUnique}
use Rattle.lp_files.specs.declared.batches.Limits.{Limits}
use Rattle.lp_files.specs.declared.batches.Size.{Size}
use Rattle.lp_files.specs.Batches.{both, fitting, line_size, no_lines, takes_line}

-- of the pieces of a text lines of this size go to a batch, and then as many of the others as it takes
pub record FitsSoFar (dialect : Dialect) (text : List ℕ) (limits : Limits) (batch lines : Size) (others : List (List ℕ)) : Type 0 where
  pub all : List (List ℕ)
  pub are : Pieces dialect text all
  pub same : fitting limits batch no_lines all ≡ fitting limits batch lines others

-- a text has a piece
no_pieces : (dialect : Dialect) (text : List ℕ) (pieces : List (List ℕ)) → pieces ≡ [] → Pieces dialect text pieces → ⊥
no_pieces dialect text pieces e (last piece h) = absurd (cc)
no_pieces dialect text pieces e (cut piece rest others c h) = absurd (cc)

-- a piece is left of a text that is left
some_left : (dialect : Dialect) (rest : Option (Bor (List ℕ))) (text : Option (List ℕ)) (others : List (List ℕ)) → is_some rest ≡ true
    → option_map (λ r. r.now) rest ≡ text → MatchOption text (others ≡ []) (λ t. Pieces dialect t others) → others ≡ [] → ⊥
some_left dialect None text others there is h e = absurd (cc)
some_left dialect (Some r) None others there is h e = absurd (cc)
some_left dialect (Some r) (Some t) others there is h e = no_pieces dialect t others e h

-- no piece is left if no text is
pub none_left : (dialect : Dialect) (rest : Option (Bor (List ℕ))) (text : Option (List ℕ)) → is_some rest ≡ false
    → option_map (λ r. r.now) rest ≡ text → MatchOption text (◌≡◌ {A = List (List ℕ)} [] []) (λ t. Pieces dialect t [])
none_left dialect (Some r) text gone is = absurd (cc)
none_left dialect None None gone is = refl
none_left dialect None (Some t) gone is = absurd (cc)

-- there are pieces that are left
pub exist_left : PiecesExist → (dialect : Dialect) (text : Option (List ℕ))
    → (others : List (List ℕ)) × MatchOption text (others ≡ []) (λ t. Pieces dialect t others)
exist_left exist dialect None = ([], refl)
exist_left exist dialect (Some t) = exist dialect t

-- a piece that is not the last goes to the batch too, if that takes it
takes_more : (limits : Limits) (batch lines : Size) (piece : List ℕ) (others : List (List ℕ)) → (others ≡ [] → ⊥)
    → takes_line limits (both batch lines) (line_size (length piece)) ≡ true
    → fitting limits batch lines (piece ∷ others) ≡ fitting limits batch (both lines (line_size (length piece))) others
takes_more limits batch lines piece [] some takes = absurd (some refl)
takes_more limits batch lines piece (next ∷ others) some takes = rw takes refl

-- the same, of the pieces of a text
pub fits_more : (dialect left : Dialect) (text : List ℕ) (limits : Limits) (batch lines : Size) (piece : List ℕ)
    (rest : Option (Bor (List ℕ))) (after : Option (List ℕ)) (others : List (List ℕ)) → is_some rest ≡ true
    → option_map (λ r. r.now) rest ≡ after → MatchOption after (others ≡ []) (λ t. Pieces left t others)
    → takes_line limits (both batch lines) (line_size (length piece)) ≡ true
    → FitsSoFar dialect text limits batch lines (piece ∷ others)
    → FitsSoFar dialect text limits batch (both lines (line_size (length piece))) others
fits_more dialect left text limits batch lines piece rest after others there is h takes so_far =
    record {
      all = so_far.all;
      are = so_far.are;
      same = so_far.same ∙ takes_more limits batch lines piece others (some_left left rest after others there is h) takes;
    }

-- no more pieces go there if the batch does not take the next one
pub takes_no_more : (limits : Limits) (batch lines : Size) (piece : List ℕ) (others : List (List ℕ))
    → takes_line limits (both batch lines) (line_size (length piece)) ≡ false → fitting limits batch lines (piece ∷ others) ≡ lines
takes_no_more limits batch lines piece [] takes = refl
takes_no_more limits batch lines piece (next ∷ others) takes = rw takes refl

-- if no more of the others go there, these are all that do
pub fits_all : PiecesAreUnique → (dialect : Dialect) (text : List ℕ) (limits : Limits) (batch lines : Size) (others : List (List ℕ))
    → FitsSoFar dialect text limits batch lines others → fitting limits batch lines others ≡ lines
    → (pieces : List (List ℕ)) → Pieces dialect text pieces → lines ≡ fitting limits batch no_lines pieces
fits_all unique dialect text limits batch lines others so_far no_more pieces are =
    sym (so_far.same ∙ no_more) ∙ ap (fitting limits batch no_lines) (unique dialect text so_far.all pieces so_far.are are)
