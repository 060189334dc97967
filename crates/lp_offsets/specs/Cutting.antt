-- What a search for cuts knows, and what a call of it finds.
use Rattle.std.specs.Prelude.{◌≡◌, ◌≢◌, ◌+◌, ◌<◌, ◌≤◌, ◌==◌, ◌||◌, ℕ, Bool, List, [], ◌++◌, length, min, if◌then◌else◌, Some, Result, Ok, Err}
use Rattle.lp_format.specs.format.{Dialect, IsFirstCut, IsLastPiece}
use Rattle.lp_split.specs.code.{Region, Head, Plain, Quoted, Place, Track, ToNewline, Blanks, Line, IsTrackOf, most_counted}
use Rattle.lp_offsets.specs.Numbers.{answer_number, dialect_of}
use Rattle.lp_offsets.specs.declared.cuts.Cuts.{Cuts}
use Rattle.lp_offsets.specs.declared.enums.Answer.{Answer}

-- the region of a piece that a number names
abbrev pub region_in : ℕ → Region
region_in number = if number == 1 then Plain else if number == 2 then Quoted else Head

-- the place that a search names; no more is counted than bytes came
abbrev pub place_in : Cuts → Place
place_in cuts = record {
  region = region_in cuts.part;
  is_escaped = cuts.escaped;
  equals = min cuts.equals cuts.len;
  commas = min cuts.commas cuts.len;
}

-- the track that a search names
abbrev pub track_in : Cuts → Track
track_in cuts =
    if cuts.begins == 1 then ToNewline else if cuts.begins == 2 then Blanks (place_in cuts) else Line (place_in cuts)

-- these are the bytes of the piece that came so far: there are none, or the search has their track
abbrev pub HasCome : Cuts → List ℕ → Type 0
HasCome cuts bytes = (length bytes ≡ cuts.len) × (cuts.len ≢ 0 → IsTrackOf (dialect_of cuts.dialect) bytes (track_in cuts))

-- the dialect and the greatest length stay
abbrev pub KeepsRules : Cuts → Cuts → Type 0
KeepsRules before after = (after.limit ≡ before.limit) × (after.dialect ≡ before.dialect)

-- how a piece whose bytes so far are these goes on in a text that comes after them. The newline at a place of the text is the
-- first one that ends the piece, and nothing has come of the next piece; or all of the text is of the piece
pub record CutsOn (dialect : Dialect) (before text : List ℕ) (cut : ℕ) (after : Cuts) : Type 0 where
  pub ends : cut < length text → IsFirstCut dialect (before ++ text) (Some (length before + cut)) × HasCome after []
  pub goes_on : cut ≡ length text → IsLastPiece dialect (before ++ text) × HasCome after (before ++ text)

-- where a newline of the text ends the piece, and the track of all its bytes if none does
abbrev pub FindsOn : Dialect → List ℕ → List ℕ → Result ℕ Track → Type 0
FindsOn dialect before text (Ok at) = IsFirstCut dialect (before ++ text) (Some (length before + at))
FindsOn dialect before text (Err track) = IsTrackOf dialect (before ++ text) track

-- the place is in the text, and no more is counted than bytes came
abbrev pub IsWithin : ℕ → List ℕ → Result ℕ Track → Type 0
IsWithin len text (Ok at) = at < length text
IsWithin len text (Err track) = most_counted track ≤ len + length text

-- whether a search may give this answer
abbrev pub is_cut_answer : ℕ → Bool
is_cut_answer number =
    number == answer_number Answer.Piece || number == answer_number Answer.MoreText || number == answer_number Answer.TooLong
    || number == answer_number Answer.OutOfMemory
