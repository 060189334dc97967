-- The points of a text that comes in parts, and what is counted of them.
use Rattle.std.specs.Prelude.{◌≡◌, ℕ, ◌+◌, is_err, Bool, ◌==◌, ◌&&◌, ◌||◌, ◌^◌, ◌-◌, nat_lt, not, List, [], ◌∷◌, ◌++◌, length, if◌then◌else◌, Result, Ok, Err}
use Rattle.std.specs.{List.count_by, List.flat_map, List.sum_by, Str.is_utf8}
use Rattle.influxdb_line_protocol.specs.format.Dialects.{Dialect}
use Rattle.influxdb_line_protocol.specs.format.Items.{answers_of_piece}
use Rattle.influxdb_line_protocol.specs.format.Lines.{Line, point_of}
use Rattle.influxdb_line_protocol.specs.format.Pieces.{IsLastPiece}
use Rattle.influxdb_line_protocol.specs.format.Points.{Point}
use Rattle.influxdb_line_protocol.specs.format.Readings.{Fault}
use Rattle.influxdb_line_protocol.specs.code.{Bounded.Holds, Rules.rules_of}
use Rattle.influxdb_line_protocol.specs.laws.StreamLaws.{Run}
use Rattle.lp_series.specs.declared.counter.SeriesCounter.{SeriesCounter}
use Rattle.lp_series.specs.Counting.{Counts, CountsNumbers}

-- the point of an answer, if that is a line
abbrev pub point_in : Result Line Fault → List Point
point_in (Ok line) = point_of line ∷ []
point_in (Err fault) = []

-- the points of a text that is a piece: that of its line, if it has one
abbrev pub points_of_text : Dialect → List ℕ → List Point
points_of_text dialect piece = flat_map point_in (answers_of_piece dialect piece)

-- whether a piece has more bytes than it may have: `usize::MAX` is no limit
abbrev pub is_too_long : ℕ → List ℕ → Bool
is_too_long limit piece = nat_lt limit (length piece) && not (limit == 2 ^ 64 - 1)

-- the points of a piece: none if it is too long or not UTF-8, and else that of its line, if it has one
unfoldable pub points_of_piece : Dialect → ℕ → List ℕ → List Point
points_of_piece dialect limit piece = if is_too_long limit piece || not (is_utf8 piece) then [] else points_of_text dialect piece

-- how many answers of a text that is a piece are faults
abbrev pub refused_of_text : Dialect → List ℕ → ℕ
refused_of_text dialect piece = count_by is_err (answers_of_piece dialect piece)

-- how many items of a piece are no line: one if it is too long or not UTF-8, and else its faults
unfoldable pub refused_of_piece : Dialect → ℕ → List ℕ → ℕ
refused_of_piece dialect limit piece = if is_too_long limit piece || not (is_utf8 piece) then 1 else refused_of_text dialect piece

-- how many items of pieces are no line
abbrev pub refused_of : Dialect → ℕ → List (List ℕ) → ℕ
refused_of dialect limit pieces = sum_by (refused_of_piece dialect limit) pieces

-- the points of pieces, in order
abbrev pub points_of : Dialect → ℕ → List (List ℕ) → List Point
points_of dialect limit pieces = flat_map (points_of_piece dialect limit) pieces

-- after these points, and so many items that are no line, pieces of a text of which so much was given were counted, by the rules of a
-- dialect and a limit for pieces, and this text is left
pub record HasCountedTo (counter : SeriesCounter) (dialect : Dialect) (most : ℕ) (before : List Point) (others : ℕ) (given left : List ℕ)
    : Type 0 where
  pub rules : rules_of counter.dialect ≡ dialect
  pub stream_rules : counter.stream.held.dialect ≡ dialect
  pub limit : counter.stream.limit ≡ most
  pub pieces : List (List ℕ)
  pub run : Run dialect given pieces left
  pub holds : Holds counter.stream left
  pub counts : Counts counter.counts (before ++ points_of dialect most pieces)
  pub refused : counter.refused ≡ others + refused_of dialect most pieces

-- after these points, and so many items that are no line, all pieces that a newline ends were counted of a text of which so much was given
abbrev pub HasCounted : SeriesCounter → Dialect → ℕ → List Point → (others : ℕ) → List ℕ → Type 0
HasCounted counter dialect limit before others given =
    (left : List ℕ) × HasCountedTo counter dialect limit before others given left × IsLastPiece dialect left

-- after these points, of a text of which so much was given, each count is that of some first pieces
pub record HasCountedSome (counter : SeriesCounter) (dialect : Dialect) (limit : ℕ) (before : List Point) (given : List ℕ) : Type 0 where
  pub pieces : List (List ℕ)
  pub left : List ℕ
  pub run : Run dialect given pieces left
  pub counts : CountsNumbers counter.counts (before ++ points_of dialect limit pieces)
