-- The whole lines of a part: the first one, which the stream may hold the start of, and the others, which a splitter gives.
use Rattle.std.proofs.Common.{◌≡◌, ◌≢◌, ◌⊎◌, ℕ, List, [], ◌∷◌, ◌++◌, Option, Some, refl, sym, ap, subst, ◌∙◌}
use Rattle.std.proofs.Common.{◌+◌, ◌≤◌, length, take, drop, Ok, true, is_some, option_map, append_assoc, inl, inr, arith}
use Rattle.std.proofs.Math.Seq.{drop-append-add, take-add, take-append-add}
use Rattle.std.proofs.lemmas.List.{drop-drop, length-append, length-drop, take-append-drop}
use Rattle.std.proofs.lemmas.List.Elements.{recursion_from_All}
use Rattle.std.specs.Borrow.{Bor}
use Rattle.std.specs.List.{All, AllByRecursion}
use Rattle.influxdb_line_protocol.specs.format.Bytes.{newline}
use Rattle.influxdb_line_protocol.specs.format.Dialects.{Dialect}
use Rattle.influxdb_line_protocol.specs.format.Pieces.{GivesPiece, IsCutPiece, IsLastPiece, Left, Pieces}
use Rattle.influxdb_line_protocol.specs.format.Pieces.{PiecesLeft}
use Rattle.influxdb_line_protocol.specs.code.Bounded.{CutsTo, HeldWithin, Holds}
use Rattle.influxdb_line_protocol.specs.code.Rules.{rules_of}
use Rattle.influxdb_line_protocol.specs.laws.Laws.{PiecesAreTheText, PiecesAreUnique, PiecesExist}
use Rattle.lp_conditions.specs.declared.settings.Settings.{Settings}
use Rattle.lp_relay.specs.RelaySteps.{SoFar, Stage, Start, TakesBy, TakesFirst, TakesGiven, Unwritten, after_given, next_place}
use Rattle.lp_cuts.proofs.CutLemmas.{cut_nowhere, no_newline, some_piece}
use Rattle.lp_relay.proofs.RelaysSoFar.{so_far_ended, so_far_given, so_far_more}

-- if a newline comes only at the end, a text is cut there
ends_there : (front piece rest : List ℕ) → AllByRecursion (λ b. b ≢ newline) front → front ++ newline ∷ [] ≡ piece ++ newline ∷ rest
    → rest ≡ []
ends_there [] [] rest none e = cc
ends_there [] (b ∷ piece) rest none e = let f : [] ≡ piece ++ newline ∷ rest = cc in absurd (no_newline piece rest (sym f))
ends_there (b ∷ front) [] rest none e = let f : b ≡ newline = cc in absurd (none.0 f)
ends_there (b ∷ front) (x ∷ piece) rest none e = ends_there front piece rest none.1 (cc)

-- if a newline after a text comes only at the end, both are cut there, or the text was cut before
cut_there : (text front piece rest : List ℕ) → AllByRecursion (λ b. b ≢ newline) front
    → text ++ (front ++ newline ∷ []) ≡ piece ++ newline ∷ rest → (rest ≡ []) ⊎ ((r : List ℕ) × (text ≡ piece ++ newline ∷ r))
cut_there [] front piece rest none e = inl (ends_there front piece rest none e)
cut_there (b ∷ text) front [] rest none e = let f : b ≡ newline = cc in inr (text, ap (λ x. x ∷ text) f)
cut_there (b ∷ text) front (x ∷ piece) rest none e =
    elim (cut_there text front piece rest none (cc)) [
      | inl done ↦ inl done
      | inr before ↦ let f : b ≡ x = cc in inr (before.0, ap (λ (y : ℕ). y ∷ text) f ∙ ap (λ (l : List ℕ). x ∷ l) before.1)
    ]

-- of a text that is one piece, and a line after it that a newline ends, a cut leaves nothing
nothing_left : PiecesExist → PiecesAreUnique → (dialect : Dialect) (text front piece rest : List ℕ) → IsLastPiece dialect text
    → AllByRecursion (λ b. b ≢ newline) front → CutsTo dialect (text ++ (front ++ newline ∷ [])) piece rest → rest ≡ []
nothing_left exist unique dialect text front piece rest is_last none cuts = grind (arith, cut_there, cut_nowhere)

-- so if the first newline of a part ended a piece, nothing is left of what was given up to there
pub line_ended : PiecesExist → PiecesAreUnique → (s : Settings) (given text part : List ℕ) (at : ℕ) (stream : HeldWithin) (a : Start)
    (now : Stage) → IsLastPiece (rules_of s.dialect) text → take (at + 1) part ≡ take at part ++ newline ∷ []
    → All (λ b. b ≢ newline) (take at part)
    → ((left : List ℕ) × Holds stream left × SoFar s given left a now
    × TakesFirst (rules_of s.dialect) (text ++ take (at + 1) part) true left)
    → Holds stream [] × SoFar s given [] a now
line_ended exist unique s given text part at stream a now is_last ends none h =
    let nothing : h.0 ≡ [] =
    nothing_left exist unique (rules_of s.dialect) text (take at part) h.3.0 h.0 is_last
    (recursion_from_All (λ b. b ≢ newline) (take at part) none)
    (subst (λ (l : List ℕ). CutsTo (rules_of s.dialect) (text ++ l) h.3.0 h.0) ends h.3.1) in
    subst (λ (l : List ℕ). Holds stream l × SoFar s given l a now) nothing (h.1, h.2)

-- the first of pieces is cut off before the text of the others
first_cut : PiecesAreTheText → (dialect : Dialect) (text piece rest : List ℕ) (all others : List (List ℕ)) → Pieces dialect text all
    → all ≡ piece ∷ others → Pieces dialect rest others → CutsTo dialect text piece rest
first_cut texts dialect text piece rest all others h e q = grind (arith, some_piece)

-- what a splitter gave that has a rest is cut off its text
splitter_cuts : PiecesExist → PiecesAreTheText → (dialect : Dialect) (before after : Left) (piece : Bor (List ℕ)) (text rest : List ℕ)
    → before.dialect ≡ dialect → before.text ≡ Some text → after.text ≡ Some rest → GivesPiece before (Some piece) after
    → CutsTo dialect text piece.now rest
splitter_cuts exist texts dialect before after piece text rest same has left gives =
    let others = exist dialect rest in
    let all = piece.now ∷ others.0 in
    let before_is : before ≡ record { dialect = dialect; text = Some text } = grind (arith) in
    let after_is : after ≡ record { dialect = dialect; text = Some rest } = grind (arith, gives.0) in
    first_cut texts dialect text piece.now rest all others.0
    (subst (λ (l : Left). PiecesLeft l all) before_is
    (gives.1 others.0 (subst (λ (l : Left). PiecesLeft l others.0) (sym after_is) others.1)))
    refl others.1

-- what is left after a piece and its newline, which are within the bytes
left_after : (bytes piece rest : List ℕ) (taken : ℕ) → taken ≤ length bytes → drop taken bytes ≡ piece ++ newline ∷ rest
    → (drop (taken + (length piece + 1)) bytes ≡ rest) × (taken + (length piece + 1) ≤ length bytes)
    × (take (taken + (length piece + 1)) bytes ≡ take taken bytes ++ (piece ++ newline ∷ []))
left_after bytes piece rest taken within is = (
  sym (drop-drop (length piece + 1) taken bytes) ∙ ap (λ (l : List ℕ). drop (length piece + 1) l) is
      ∙ drop-append-add piece (newline ∷ rest) 1,
  omega (arith, ap (λ (l : List ℕ). length l) is, length-drop taken bytes, length-append piece (newline ∷ rest)),
  take-add taken (length piece + 1) bytes ∙ ap (λ (l : List ℕ). take taken bytes ++ take (length piece + 1) l) is
      ∙ ap (λ (l : List ℕ). take taken bytes ++ l) (take-append-add piece (newline ∷ rest) 1),
)

-- a rest that is there
some_rest : (rest : Option (Bor (List ℕ))) (text : Option (List ℕ)) → is_some rest ≡ true → option_map (λ r. r.now) rest ≡ text
    → (r : List ℕ) × (text ≡ Some r)
some_rest r text there is = grind (arith)

-- bytes from a place on begin with the text that a splitter has left
abbrev pub IsLeft : List ℕ → ℕ → Option (List ℕ) → Type 0
IsLeft bytes taken text = (lines t : List ℕ) × (text ≡ Some lines) × (drop taken bytes ≡ lines ++ t)

-- a text begins with whole lines of it
pub all_left : (text : Option (List ℕ)) (bytes lines : List ℕ) → text ≡ Some lines → lines ≡ take (length lines) bytes
    → IsLeft bytes 0 text
all_left text bytes lines is front =
    let rest = drop (length lines) bytes in
    (lines, rest, is, sym (take-append-drop (length lines) bytes) ∙ ap (λ (x : List ℕ). x ++ rest) (sym front))

-- a line that a splitter gave of the bytes from a place on, and what is left after it
pub record LineGiven (dialect : Dialect) (after : Option (List ℕ)) (piece bytes : List ℕ) (taken : ℕ) : Type 0 where
  pub is_cut : IsCutPiece dialect piece
  pub within : taken + (length piece + 1) ≤ length bytes
  pub ends : take (taken + (length piece + 1)) bytes ≡ take taken bytes ++ (piece ++ newline ∷ [])
  pub left : IsLeft bytes (taken + (length piece + 1)) after

-- so is each one that is not the last
pub line_given : PiecesExist → PiecesAreTheText → (dialect : Dialect) (before after : Left) (piece : Bor (List ℕ))
    (rest : Option (Bor (List ℕ))) (bytes : List ℕ) (taken : ℕ) → before.dialect ≡ dialect → taken ≤ length bytes
    → IsLeft bytes taken before.text → GivesPiece before (Some piece) after
    → is_some rest ≡ true → option_map (λ r. r.now) rest ≡ after.text → LineGiven dialect after.text piece.now bytes taken
line_given exist texts dialect before after piece rest bytes taken same within begins gives there is =
    let r = some_rest rest after.text there is in
    let cuts = splitter_cuts exist texts dialect before after piece begins.0 r.0 same begins.2 r.1 gives in
    let next = left_after bytes piece.now (r.0 ++ begins.1) taken within
    (begins.3 ∙ ap (λ (l : List ℕ). l ++ begins.1) cuts.0 ∙ append_assoc piece.now (newline ∷ r.0) begins.1) in
    record { is_cut = cuts.1; within = next.1; ends = next.2; left = (r.0, begins.1, r.1, next.0) }

-- such a line was taken
pub line_taken : PiecesExist → PiecesAreUnique → (s : Settings) (given bytes : List ℕ) (taken : ℕ) (piece : Bor (List ℕ))
    (after : Option (List ℕ)) (a : Start) (now : Stage) (next : Unwritten) → SoFar s (given ++ take taken bytes) [] a now
    → LineGiven (rules_of s.dialect) after piece.now bytes taken → length piece.now ≤ s.limit → TakesGiven s now.unwritten (Ok piece) next
    → next_place s next ≡ after_given s now.unwritten.types (next_place s now.unwritten) (Ok piece)
    → SoFar s (given ++ take (taken + (length piece.now + 1)) bytes) [] a (record { unwritten = next; told = now.told })
line_taken exist unique s given bytes taken piece after a now next h line short takes start =
    let front = given ++ take taken bytes in
    let ended = piece.now ++ newline ∷ [] in
    subst (λ (l : List ℕ). SoFar s l [] a (record { unwritten = next; told = now.told }))
    (append_assoc given (take taken bytes) ended ∙ ap (λ (l : List ℕ). given ++ l) (sym line.ends))
    (so_far_more exist unique s (front ++ ended) ended piece.now [] (Ok piece) a now next (so_far_given s front [] ended a now h)
    (refl, short) (refl, line.is_cut)
    (subst (λ b. TakesBy b s now.unwritten (Ok piece) next) (sym (so_far_ended s front a now h)) (takes, start)))
