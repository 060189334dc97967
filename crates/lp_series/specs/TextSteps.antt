-- What a call counts of pieces.
use Rattle.std.specs.Prelude.{◌≡◌, ℕ, Bool, false, List, [], ◌++◌, Result, Ok, Err, if◌then◌else◌}
use Rattle.std.specs.{Borrow.Bor, Str.is_utf8}
use Rattle.influxdb_line_protocol.specs.format.Dialects.{Dialect}
use Rattle.influxdb_line_protocol.specs.format.Pieces.{IsLastPiece}
use Rattle.influxdb_line_protocol.specs.format.Points.{Point}
use Rattle.influxdb_line_protocol.specs.types.PieceTooLong.{PieceTooLong}
use Rattle.lp_series.specs.declared.{counter.SeriesCounter.SeriesCounter, counts.SeriesCounts.SeriesCounts}
use Rattle.lp_series.specs.Counting.{Counts}
use Rattle.lp_series.specs.Texts.{HasCountedTo, points_of_text, refused_of_text}

-- these points were counted too
abbrev pub CountsMore : SeriesCounts → SeriesCounts → List Point → Type 0
CountsMore old new points = (before : List Point) → Counts old before → Counts new (before ++ points)

-- the points of what a stream gave of a piece
abbrev pub points_given : Dialect → Result (Bor (List ℕ)) PieceTooLong → List Point
points_given dialect (Ok piece) = if is_utf8 piece.now then points_of_text dialect piece.now else []
points_given dialect (Err fault) = []

-- how many items of what a stream gave of a piece are no line
abbrev pub refused_given : Dialect → Result (Bor (List ℕ)) PieceTooLong → ℕ
refused_given dialect (Ok piece) = if is_utf8 piece.now then refused_of_text dialect piece.now else 1
refused_given dialect (Err fault) = 1

-- the points of what a stream gave were counted too
abbrev pub CountsGiven : Dialect → SeriesCounts → SeriesCounts → Result (Bor (List ℕ)) PieceTooLong → Type 0
CountsGiven dialect old new given = CountsMore old new (points_given dialect given)

-- the first piece of what is left was counted, and other text is left; or none was, since no newline ends one
abbrev pub CountsFirst : SeriesCounter → SeriesCounter → Bool → Type 0
CountsFirst old new some = (dialect : Dialect) (limit : ℕ) (before : List Point) (others : ℕ) (given text : List ℕ)
    → HasCountedTo old dialect limit before others given text
    → (left : List ℕ) × HasCountedTo new dialect limit before others given left × (some ≡ false → IsLastPiece dialect left)
