-- Tracks: the knowledge about the bytes of a piece, which are not kept, that decides the meaning of the byte after them.
use Rattle.std.specs.Prelude.{◌≡◌, ◌⊎◌, ℕ, ◌+◌, ◌<◌, ◌≤◌, ◌==◌, false, max, List, [], ◌∷◌, ◌++◌, length, take, slice_index, Option, Some}
use Rattle.std.specs.Prelude.{None, Result, Ok, Err, All, count_by}
use Rattle.lp_format.specs.format.{Dialect, Crate, Strict, NewlineDelimited, comma, equals, newline, space, tab, is_escaped_after, IsBareAfter, EndsPlain}
use Rattle.lp_format.specs.format.{EndsQuoted, IsClosed, IsHead, begins_comment, HasNoNewline, IsComment, IsCutPiece}
pub use Rattle.lp_split.specs.declared.split.resumed.Region.{Region}
pub use Rattle.lp_split.specs.declared.split.resumed.Region.TheVariants.{Head, Plain, Quoted}
pub use Rattle.lp_split.specs.declared.split.tracked.Place.{Place}
pub use Rattle.lp_split.specs.declared.split.tracked.Track.{Track}
pub use Rattle.lp_split.specs.declared.split.tracked.Track.TheVariants.{ToNewline, Blanks, Line}

-- `equal_signs` and `commas` are the numbers of `=` and `,` among the bytes
pub record IsCountOf (counted : List ℕ) (equal_signs commas : ℕ) : Type 0 where
  pub equals_is : equal_signs ≡ count_by (λ b. b == equals) counted
  pub commas_is : commas ≡ count_by (λ b. b == comma) counted

-- the bytes of a piece end in this region of it, with these numbers of `=` and `,` in its plain stretches
abbrev pub EndsIn : Region → ℕ → ℕ → List ℕ → Type 0
EndsIn Head equal_signs commas bytes = IsHead bytes × IsCountOf [] equal_signs commas
EndsIn Plain equal_signs commas bytes = (counted : List ℕ) × EndsPlain bytes counted × IsCountOf counted equal_signs commas
EndsIn Quoted equal_signs commas bytes = (counted : List ℕ) × EndsQuoted bytes counted × IsCountOf counted equal_signs commas

-- `place` is the place after these bytes of a piece
pub record IsPlace (bytes : List ℕ) (place : Place) : Type 0 where
  pub escaped_is : is_escaped_after bytes ≡ place.is_escaped
  pub ends_in : EndsIn place.region place.equals place.commas bytes

-- one more byte ends the piece at a place, or leads to the next place
abbrev pub Steps : Place → ℕ → Option Place → Type 0
Steps place b None = (b ≡ newline) × ((bytes : List ℕ) → IsPlace bytes place → IsClosed bytes × IsBareAfter bytes)
Steps place b (Some next) = (bytes : List ℕ) → IsPlace bytes place → IsPlace (bytes ++ b ∷ []) next

-- in this dialect a newline can be escaped or quoted, and the text does not begin a comment, whatever comes after it
abbrev pub NeverComment : Dialect → List ℕ → Type 0
NeverComment Crate text = Unit {0}
NeverComment Strict text = (rest : List ℕ) → begins_comment (text ++ rest) ≡ false
NeverComment NewlineDelimited text = ⊥

-- the next newline ends the piece: the piece is a comment, or each newline ends a line in this dialect
abbrev pub EndsAtNewline : Dialect → List ℕ → Type 0
EndsAtNewline Crate bytes = ⊥
EndsAtNewline Strict bytes = IsComment bytes
EndsAtNewline NewlineDelimited bytes = HasNoNewline bytes

-- the track of these bytes in a dialect: the next newline ends their piece, or they are blanks that can still begin a comment, or they cannot
-- begin a comment
abbrev pub IsTrackOf : Dialect → List ℕ → Track → Type 0
IsTrackOf dialect bytes ToNewline = EndsAtNewline dialect bytes
IsTrackOf dialect bytes (Blanks place) = (dialect ≡ Strict) × All (λ b. (b ≡ space) ⊎ (b ≡ tab)) bytes × IsPlace bytes place
IsTrackOf dialect bytes (Line place) = NeverComment dialect bytes × IsPlace bytes place

-- one more byte ends the piece of a track, or leads to the next track
abbrev pub Leads : Track → ℕ → Option Track → Type 0
Leads track b None = (b ≡ newline) × ((dialect : Dialect) (bytes : List ℕ) → IsTrackOf dialect bytes track → IsCutPiece dialect bytes)
Leads track b (Some next) = (dialect : Dialect) (bytes : List ℕ) → IsTrackOf dialect bytes track → IsTrackOf dialect (bytes ++ b ∷ []) next

-- the bytes `text`, after the bytes of one track, lead to another track
abbrev pub LeadsTo : List ℕ → Track → Track → Type 0
LeadsTo text from to = (dialect : Dialect) (bytes : List ℕ) → IsTrackOf dialect bytes from → IsTrackOf dialect (bytes ++ text) to

-- the greater one of the two counts of a track
abbrev pub most_counted : Track → ℕ
most_counted ToNewline = 0
most_counted (Blanks place) = max place.equals place.commas
most_counted (Line place) = max place.equals place.commas

-- the bytes `text`, after the bytes of a track, end the piece at a newline, or lead to another track
abbrev pub TracksOn : List ℕ → Track → Result ℕ Track → Type 0
TracksOn text from (Ok i) =
    (i < length text) × (slice_index text i ≡ newline)
    × ((dialect : Dialect) (bytes : List ℕ) → IsTrackOf dialect bytes from → IsCutPiece dialect (bytes ++ take i text))
TracksOn text from (Err track) = (most_counted track ≤ most_counted from + length text) × LeadsTo text from track
