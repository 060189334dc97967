-- The points of pieces, and what was counted of them so far.
use Rattle.std.proofs.Common.{◌≡◌, ℕ, ◌+◌, ◌<◌, ◌≤◌, ◌++◌, List, [], ◌∷◌, length, Bool}
use Rattle.std.proofs.Common.{Result, Ok, Err, Some, refl, sym, ap, subst, ◌∙◌, arith, append-nil, append_assoc, inl, inr, if◌then◌else◌}
use Rattle.std.specs.{Borrow.Bor, Str.IsUtf8, Str.is_utf8}
use Rattle.std.proofs.lemmas.{Bool.cases_Bool, Bool.Decides.nat_tests, Grind.flat_map-append, Str.IsUtf8-from_is_utf8, Str.is_utf8-from_IsUtf8}
use Rattle.std.proofs.lemmas.List.{length-append}
use Rattle.std.proofs.lemmas.List.Sums.{sum_by-append}
use Rattle.std.proofs.lemmas.Result.{MatchResult-from_err}
use Rattle.std.specs.Prelude.{IsErr, MatchResult}
use Rattle.influxdb_line_protocol.specs.format.Dialects.{Dialect}
use Rattle.influxdb_line_protocol.specs.format.Items.{answers_of_piece}
use Rattle.influxdb_line_protocol.specs.format.Lines.{Line, answer, point_of, some_tags}
use Rattle.influxdb_line_protocol.specs.format.Bytes.{newline}
use Rattle.influxdb_line_protocol.specs.format.Pieces.{IsLastPiece, Pieces}
use Rattle.influxdb_line_protocol.specs.format.Points.{Point}
use Rattle.influxdb_line_protocol.specs.format.Readings.{Fault}
use Rattle.influxdb_line_protocol.specs.format.Trimming.{trimmed}
use Rattle.influxdb_line_protocol.specs.code.Bounded.{CutsTo, GivesOf, HeldWithin, Holds, IsLastOf}
use Rattle.influxdb_line_protocol.specs.code.Parsed.{IsReadLine, line_read, parsed_point}
use Rattle.influxdb_line_protocol.specs.laws.Laws.{PiecesExist}
use Rattle.influxdb_line_protocol.specs.types.{ParsedLine.ParsedLine, PieceTooLong.PieceTooLong}
use Rattle.lp_lines.specs.laws.BaseLaws.{ReadSeriesAreParsed}
use Rattle.lp_written.specs.{code.WrittenKeys.IsAdmittedKey, laws.WrittenKeyLaws.KeysStandInTexts}
use Rattle.lp_series.specs.declared.counts.SeriesCounts.{SeriesCounts}
use Rattle.lp_series.specs.Counting.{Counts, key_of}
use Rattle.lp_series.specs.Texts.{points_of, points_of_piece, points_of_text, refused_of, refused_of_piece, refused_of_text}
use Rattle.lp_series.specs.TextSteps.{CountsMore, points_given, refused_given}

-- a front that is as long as the text is the text
nothing_after : (key rest text : List ℕ) → key ++ rest ≡ text → length text ≤ length key → key ≡ text
nothing_after key [] text is long = sym (append-nil key) ∙ is
nothing_after key (b ∷ rest) text is long = absurd (omega (arith, ap length is, length-append key (b ∷ rest), long))

-- a key that is lent of all of the text of a series is its key
pub lent_is : KeysStandInTexts → ReadSeriesAreParsed → (line : ParsedLine) → IsReadLine line → (key rest : List ℕ)
    → key ++ rest ≡ line.series.raw_input.now → length line.series.raw_input.now ≤ length key → IsAdmittedKey key
    → key ≡ key_of (parsed_point line)
lent_is stand read line is_read key rest is long admitted =
    let l = line_read line in
    let same = nothing_after key rest line.series.raw_input.now is long in
    let parsed = read is_read.dialect (trimmed is_read.text) l is_read.answered in
    same ∙ sym (stand l.series l.measurement (some_tags l.tags) (subst IsAdmittedKey same admitted) parsed.0)

-- a blank piece has no points
pub blank_points : (dialect : Dialect) (piece : List ℕ) → length (trimmed piece) ≡ 0 → points_of_text dialect piece ≡ []
unfolding answers_of_piece
blank_points dialect piece blank = rw blank refl

-- a piece that is not blank has the point of its answer
answered_points : (dialect : Dialect) (piece : List ℕ) → 0 < length (trimmed piece)
    → answers_of_piece dialect piece ≡ answer dialect (trimmed piece) ∷ []
unfolding answers_of_piece
answered_points dialect piece some = grind arith

-- a piece with a line has its point
pub line_points : (dialect : Dialect) (piece : List ℕ) (l : Line) → 0 < length (trimmed piece) → answer dialect (trimmed piece) ≡ Ok l
    → points_of_text dialect piece ≡ point_of l ∷ []
line_points dialect piece l some is = grind (arith, answered_points dialect piece some)

-- a piece with a fault has none
pub fault_points : (dialect : Dialect) (piece : List ℕ) (fault : Fault) → 0 < length (trimmed piece)
    → answer dialect (trimmed piece) ≡ Err fault → points_of_text dialect piece ≡ []
fault_points dialect piece fault some is = grind (arith, answered_points dialect piece some)

-- the points of what a stream gave in the place of a piece are those of the piece
pub given_points : (dialect : Dialect) (limit : ℕ) (piece : List ℕ) (given : Result (Bor (List ℕ)) PieceTooLong)
    → IsLastOf limit piece given → points_of_piece dialect limit piece ≡ points_given dialect given
unfolding points_of_piece
given_points dialect limit piece (Ok bytes) h = grind (arith, nat_tests, h.0, h.1)
given_points dialect limit piece (Err fault) h = grind (arith, nat_tests, h.0)

-- the points of pieces with one more
pub points_more : (dialect : Dialect) (limit : ℕ) (before : List Point) (pieces : List (List ℕ)) (piece : List ℕ)
    (given : Result (Bor (List ℕ)) PieceTooLong) → IsLastOf limit piece given
    → (before ++ points_of dialect limit pieces) ++ points_given dialect given ≡ before ++ points_of dialect limit (pieces ++ piece ∷ [])
points_more dialect limit before pieces piece given is =
    append_assoc before (points_of dialect limit pieces) (points_given dialect given)
    ∙ ap (λ (ps : List Point). before ++ ps)
    (ap (λ (ps : List Point). points_of dialect limit pieces ++ ps) (sym (append-nil (points_of_piece dialect limit piece) ∙ given_points dialect limit piece given is))
    ∙ sym (flat_map-append (points_of_piece dialect limit) pieces (piece ∷ [])))

-- what a stream gave is the first piece of what it holds, or a fault in its place
pub first_given : (dialect : Dialect) (limit : ℕ) (before after : HeldWithin) (text : List ℕ) (given : Result (Bor (List ℕ)) PieceTooLong)
    → before.held.dialect ≡ dialect → before.limit ≡ limit → GivesOf before text (Some given) after
    → (piece left : List ℕ) × IsLastOf limit piece given × CutsTo dialect text piece left × Holds after left
first_given dialect limit before after text (Ok piece) rules most h =
    (piece.now, h.0, (refl, subst (λ l. length piece.now ≤ l) most h.1), subst (λ d. CutsTo d text piece.now h.0) rules h.2, h.3)
first_given dialect limit before after text (Err fault) rules most h =
    (h.0, h.1, subst (λ l. IsLastOf l h.0 (Err fault)) most h.2, subst (λ d. CutsTo d text h.0 h.1) rules h.3, h.4)

-- if nothing was added, it is as before
pub nothing_more : (dialect : Dialect) (piece : List ℕ) (counts : SeriesCounts) → points_of_text dialect piece ≡ [] → CountsMore counts counts (points_of_text dialect piece)
nothing_more dialect piece counts none before h = subst (Counts counts) (sym (ap (λ (ps : List Point). before ++ ps) none ∙ append-nil before)) h

-- bytes that are no text have no points
pub no_text_points : (dialect : Dialect) (given : Result (Bor (List ℕ)) PieceTooLong) (bytes : Bor (List ℕ)) → given ≡ Ok bytes
    → (¬ IsUtf8 bytes.now) → points_given dialect given ≡ []
no_text_points dialect given bytes is no_text =
    ap (points_given dialect) is ∙ elim (cases_Bool (is_utf8 bytes.now)) [
      | inl good ↦ absurd (no_text (IsUtf8-from_is_utf8 bytes.now good))
      | inr bad ↦ rw bad refl
    ]

-- a text has the points of its line
pub text_points : (dialect : Dialect) (given : Result (Bor (List ℕ)) PieceTooLong) (bytes : Bor (List ℕ)) (text : List ℕ)
    → given ≡ Ok bytes → IsUtf8 bytes.now → text ≡ bytes.now → points_given dialect given ≡ points_of_text dialect text
text_points dialect given bytes text is utf8 same =
    let good = is_utf8-from_IsUtf8 bytes.now utf8 in
    ap (points_given dialect) is
    ∙ ap (λ (b : Bool). if b then points_of_text dialect bytes.now else []) good ∙ ap (points_of_text dialect) (sym same)

-- no text with a newline is empty
no_newline : (u t : List ℕ) → u ++ newline ∷ t ≡ [] → ⊥
no_newline [] t e = absurd (cc)
no_newline (b ∷ u) t e = absurd (cc)

-- an empty text is its own last piece
nothing_is_last : (dialect : Dialect) (text : List ℕ) (pieces : List (List ℕ)) → text ≡ [] → Pieces dialect text pieces
    → IsLastPiece dialect text
nothing_is_last dialect text pieces e h = grind (arith, no_newline)

-- so no bytes are one piece
pub none_is_last : PiecesExist → (dialect : Dialect) → IsLastPiece dialect []
none_is_last exist dialect = let p = exist dialect [] in nothing_is_last dialect [] p.0 refl p.1

-- what holds at an error
pub at_error : {T E Q : Type 0} (P : T → Type 0) (r : Result T E) → IsErr r → Q → MatchResult r P (λ _. Q)
at_error P r failed q = MatchResult-from_err r P _ failed (λ _. q)

-- a blank piece has no item
pub blank_refused : (dialect : Dialect) (piece : List ℕ) → length (trimmed piece) ≡ 0 → refused_of_text dialect piece ≡ 0
unfolding answers_of_piece
blank_refused dialect piece blank = rw blank refl

-- a line is not refused
pub line_refused : (dialect : Dialect) (piece : List ℕ) (l : Line) → 0 < length (trimmed piece) → answer dialect (trimmed piece) ≡ Ok l
    → refused_of_text dialect piece ≡ 0
line_refused dialect piece l some is = grind (arith, answered_points dialect piece some)

-- a fault is
pub fault_refused : (dialect : Dialect) (piece : List ℕ) (fault : Fault) → 0 < length (trimmed piece)
    → answer dialect (trimmed piece) ≡ Err fault → refused_of_text dialect piece ≡ 1
fault_refused dialect piece fault some is = grind (arith, answered_points dialect piece some)

-- of what a stream gave in the place of a piece as many items are refused as of the piece
pub given_refused : (dialect : Dialect) (limit : ℕ) (piece : List ℕ) (given : Result (Bor (List ℕ)) PieceTooLong)
    → IsLastOf limit piece given → refused_of_piece dialect limit piece ≡ refused_given dialect given
unfolding refused_of_piece
given_refused dialect limit piece (Ok bytes) h = grind (arith, nat_tests, h.0, h.1)
given_refused dialect limit piece (Err fault) h = grind (arith, nat_tests, h.0)

-- the refused items of pieces with one more
pub refused_more : (dialect : Dialect) (limit others : ℕ) (pieces : List (List ℕ)) (piece : List ℕ)
    (given : Result (Bor (List ℕ)) PieceTooLong) (old new more : ℕ) → IsLastOf limit piece given
    → old ≡ others + refused_of dialect limit pieces → new ≡ old + more → more ≡ refused_given dialect given
    → new ≡ others + refused_of dialect limit (pieces ++ piece ∷ [])
refused_more dialect limit others pieces piece given old new more is before adds of =
    let one = given_refused dialect limit piece given is in
    let both = sum_by-append (refused_of_piece dialect limit) pieces (piece ∷ []) in
    grind arith

-- bytes that are no text are refused
pub no_text_refused : (dialect : Dialect) (given : Result (Bor (List ℕ)) PieceTooLong) (bytes : Bor (List ℕ)) → given ≡ Ok bytes
    → (¬ IsUtf8 bytes.now) → refused_given dialect given ≡ 1
no_text_refused dialect given bytes is no_text =
    ap (refused_given dialect) is ∙ elim (cases_Bool (is_utf8 bytes.now)) [
      | inl good ↦ absurd (no_text (IsUtf8-from_is_utf8 bytes.now good))
      | inr bad ↦ rw bad refl
    ]

-- of a text its faults are
pub text_refused : (dialect : Dialect) (given : Result (Bor (List ℕ)) PieceTooLong) (bytes : Bor (List ℕ)) (text : List ℕ)
    → given ≡ Ok bytes → IsUtf8 bytes.now → text ≡ bytes.now → refused_given dialect given ≡ refused_of_text dialect text
text_refused dialect given bytes text is utf8 same =
    let good = is_utf8-from_IsUtf8 bytes.now utf8 in
    ap (refused_given dialect) is
    ∙ ap (λ (b : Bool). if b then refused_of_text dialect bytes.now else 1) good ∙ ap (refused_of_text dialect) (sym same)
