-- Rows whose lines surely break no clause but those about their time, their tags and their length, as their places tell.
use Rattle.std.specs.Prelude.{◌≡◌, ◌≢◌, ◌≤◌, ◌+◌, ℕ, List, codes, length, map, take, drop, true, false, Ok}
use Rattle.std.specs.List.{AllByRecursion, list_any}
use Rattle.influxdb_line_protocol.specs.format.Lines as format
use Rattle.lp_format.specs.format.{Strict, is_one_of, trimmed}
use Rattle.lp_portable.specs.declared.limits.Limits as portable
use Rattle.lp_portable.specs.code.Sure.{AreBitsOf, is_sure_key}
use Rattle.lp_portable.specs.format.Portable.{has_repeats}
use Rattle.lp_offsets.specs.Numbers.{answer_number, kind_number}
use Rattle.lp_offsets.specs.OffsetBlocks.{ShowsRow}
use Rattle.lp_c.specs.Verdicts.{HasPiece, piece_there}
use Rattle.lp_offsets.specs.declared.offsets.OffsetRow.{OffsetRow}
use Rattle.lp_offsets.specs.declared.placed.OffsetPart.{OffsetPart}
use Rattle.lp_offsets.specs.declared.placed.Span.{Span}
use Rattle.lp_offsets.specs.declared.enums.Answer.TheVariants as Answer
use Rattle.lp_offsets.specs.declared.enums.Kind.{Kind}

-- the bytes at a place of a text
abbrev pub lies_in : List ℕ → Span → List ℕ
lies_in text span = take span.len (drop span.at text)

-- the key of a part that lies in a text
abbrev pub key_in : List ℕ → OffsetPart → List ℕ
key_in text part = lies_in text part.key

-- the literal of a float lies in the text, is short and has no exponent
pub record ShortLiteral (text : List ℕ) (part : OffsetPart) : Type 0 where
  pub there : part.text_copied ≡ 0
  pub short : length (lies_in text part.text) ≤ 300
  pub bare : list_any (is_one_of (codes "eE")) (lies_in text part.text) ≡ false

-- the value of a part surely breaks no clause: it is no unsigned integer, and if it is a float, its literal is short
pub record SureValue (text : List ℕ) (part : OffsetPart) : Type 0 where
  pub no_unsigned : part.kind ≢ kind_number Kind.Unsigned
  pub literal : part.kind ≡ kind_number Kind.Float → ShortLiteral text part

-- a part surely breaks none, whose key lies in the text
pub record SurePart (text : List ℕ) (part : OffsetPart) : Type 0 where
  pub there : part.key_copied ≡ 0
  pub key : is_sure_key (key_in text part) ≡ true
  pub tag : part.kind ≡ kind_number Kind.Tag → length (key_in text part) ≤ 256
  pub value : SureValue text part

-- parts surely break none, and none has the key of another
pub record AreSureParts (text : List ℕ) (parts : List OffsetPart) : Type 0 where
  pub sure : AllByRecursion (SurePart text) parts
  pub once : has_repeats (map (key_in text) parts) ≡ false

-- a row and its parts show the line of its piece, as the strict reader reads it
pub record ShowsStrictly (text : List ℕ) (parts : List OffsetPart) (row : OffsetRow) : Type 0 where
  pub read : format.Line
  pub room : List ℕ
  pub used : ℕ
  pub within : used ≤ length room
  pub piece : HasPiece text row
  pub answered : format.answer Strict (trimmed (piece_there text row)) ≡ Ok read
  pub shows : ShowsRow read text (take (row.tags + row.fields) (drop row.parts_at parts)) room used row

-- so it is, if the row has a line
abbrev pub IsShownRow : List ℕ → List OffsetPart → OffsetRow → Type 0
IsShownRow text parts row = row.answer ≡ answer_number Answer.Line → ShowsStrictly text parts row

-- a row has a piece, and these are the bits of the clauses that it breaks
abbrev pub IsSureRow : portable.Limits → List ℕ → OffsetRow → ℕ → Type 0
IsSureRow limits text row bits = HasPiece text row × AreBitsOf limits (piece_there text row) bits
