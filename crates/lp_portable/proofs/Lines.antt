-- Texts that are one line, and the answers for them.
use Rattle.std.proofs.Common.{◌≡◌, ℕ, ◌<◌, ◌++◌, List, [], ◌∷◌, length, take, drop, get_or, ◌+◌, refl, subst, arith, append-nil, zero, suc, IsTrue, ◌↔◌, Ok, Err, Result}
use Rattle.std.specs.Result.{is_ok}
use Rattle.std.proofs.lemmas.Bool.{false≢true}
use Rattle.lp_format.specs.format.{Dialect, Strict, Fault, IsCutPiece, Line, answer, answers_of_piece, newline, trimmed}
use Rattle.lp_format.proofs.lemmas.split.SplitPieces.{IsLastPiece-cut, no_cut_within, split_at}
use Rattle.lp_split.specs.code.{IsTrackOf, LeadsTo, Track, TracksOn}
use Rattle.lp_split.proofs.lemmas.split.TrackedPieces.{tracked_is_last}
use Rattle.memchr.specs.Find.{NoneBefore, Nowhere, Passes, is_byte3}
use Rattle.std.proofs.Common.{length-append, slice_index, true}
use Rattle.std.proofs.Math.ListN.{get_or-append}
use Rattle.std.proofs.Math.Seq.{get_or-append_seam, take-append_seam}
use Rattle.lp_format.specs.format.{backslash, quote}
use Rattle.lp_split.proofs.lemmas.split.FirstMarks.{cut_at_newline}
use Rattle.lp_portable.specs.format.Portable.{IsOneLine}

-- a piece that a newline ends is not one together with that
pub goes_on : (dialect : Dialect) (text : List ℕ) (from to : Track) → IsTrackOf dialect text from → LeadsTo (newline ∷ []) from to
    → ¬ IsCutPiece dialect text
goes_on dialect text from to track leads cut =
    no_cut_within dialect text [] cut (tracked_is_last dialect (text ++ newline ∷ []) to (leads dialect text track))

-- a piece with a cut within is none that a newline ends
pub cut_within : (dialect : Dialect) (text : List ℕ) (at : ℕ) → at < length text → get_or text at 0 ≡ newline → IsCutPiece dialect (take at text)
    → ¬ IsCutPiece dialect text
cut_within dialect text at within is cut whole =
    no_cut_within dialect (take at text) (drop (at + 1) text) cut
    (IsLastPiece-cut dialect _ (subst (IsCutPiece dialect) (split_at text at within is) whole))

-- A piece of which nothing is left is no line: it has no answer.
pub blank_is_no_line : (text : List ℕ) (line : Line) → length (trimmed text) ≡ 0 → ¬ IsOneLine text line
unfolding answers_of_piece
blank_is_no_line text line none h = let a = h.read in absurd (grind arith)

-- a piece that is at fault is no line
pub fault_is_no_line : (text : List ℕ) (fault : Fault) (line : Line) → answer Strict (trimmed text) ≡ Err fault → ¬ IsOneLine text line
unfolding answers_of_piece
fault_is_no_line text fault line e h = let a = h.read in absurd (grind arith)

-- The answer for the trimmed text of a piece is the answer for the piece.
pub line_is_read : (text : List ℕ) (line : Line) → 0 < length (trimmed text) → answer Strict (trimmed text) ≡ Ok line → answers_of_piece Strict text ≡ Ok line ∷ []
unfolding answers_of_piece
line_is_read text line some e = grind arith

-- One newline after a track ends the piece exactly if the track says so.
pub ends_by : (dialect : Dialect) (text : List ℕ) (track : Track) (result : Result ℕ Track) → IsTrackOf dialect text track
    → TracksOn (newline ∷ []) track result → IsTrue (is_ok result) ↔ IsCutPiece dialect text
ends_by dialect text track (Ok zero) is h = (λ ok. subst (IsCutPiece dialect) (append-nil text) (h.2 dialect text is), λ cut. refl)
ends_by dialect text track (Ok (suc i)) is h = absurd (omega (arith, h.0))
ends_by dialect text track (Err to) is h = (λ never. absurd (false≢true never), λ cut. absurd (goes_on dialect text track to is h.1 cut))

-- a newline ends a text that holds no newline, no quote and no backslash
pub no_mark_cut : (text : List ℕ) → Nowhere (Passes (is_byte3 backslash newline quote) text) 0 (length text) → IsCutPiece Strict text
no_mark_cut text none =
    let whole = text ++ newline ∷ [] in
    let here : slice_index whole (length text) ≡ newline = get_or-append_seam text newline [] 0 in
    let before : Nowhere (Passes (is_byte3 backslash newline quote) whole) 0 (length text) =
    λ k low high passes. none k low high (subst (λ (b : ℕ). is_byte3 backslash newline quote b ≡ true) (get_or-append text (newline ∷ []) 0 k high) passes) in
    let range : NoneBefore (Passes (is_byte3 backslash newline quote) whole) 0 (length whole) (length text) =
    record { low = omega arith; high = omega (arith, length-append text (newline ∷ [])); before = before } in
    let cut = cut_at_newline Strict whole (length text) (range, rw here refl) here in
    subst (IsCutPiece Strict) (take-append_seam text (newline ∷ [])) cut.2
