-- Searches for the first cut: the knowledge with which a search can go on as bytes come.
use Rattle.std.specs.Prelude.{ℕ, ◌+◌, ◌≤◌, List, length, take, drop, Option, Some, None, Result, Ok, Err}
use Rattle.lp_format.specs.format.{Dialect, IsFirstCut, IsLastPiece}
use Rattle.lp_split.specs.declared.split.Mark.{Mark}
use Rattle.lp_split.specs.declared.split.resumed.Search.{Search, TheVariants.Begins, TheVariants.Quiet, TheVariants.Within}
use Rattle.lp_split.specs.code.{Ahead.AreSeen, Tracks.IsTrackOf, Tracks.most_counted, Tracks.Track}

-- the knowledge of a search is true of a text: the mask of the marks at its start, or the number of first bytes without a cut, or the track of
-- its first bytes
abbrev pub IsKnown : Dialect → List ℕ → Search → Type 0
IsKnown dialect text (Begins seen) = AreSeen dialect text seen
IsKnown dialect text (Quiet n) = (n ≤ length text) × IsLastPiece dialect (take n text)
IsKnown dialect text (Within at track) = (at ≤ length text) × (most_counted track ≤ at) × IsTrackOf dialect (take at text) track

-- a buffer holds bytes from `start` on, and the knowledge of a search is true of these bytes
abbrev pub IsHeldAt : Dialect → List ℕ → ℕ → Search → Type 0
IsHeldAt dialect items start known = (start ≤ length items) × IsKnown dialect (drop start items) known

-- a search finds the first cut of a text and the marks that it saw after the cut, or finds that the text is one piece
abbrev pub FindsCut : Dialect → List ℕ → Option Mark → Type 0
FindsCut dialect text None = IsLastPiece dialect text
FindsCut dialect text (Some cut) = IsFirstCut dialect text (Some cut.at) × AreSeen dialect (drop (cut.at + 1) text) cut.later

-- a search that can go on finds the first cut of a text, or finds that the text is one piece and gives its knowledge of the text
abbrev pub SearchesOn : Dialect → List ℕ → Result Mark Search → Type 0
SearchesOn dialect text (Ok cut) = FindsCut dialect text (Some cut)
SearchesOn dialect text (Err search) = IsLastPiece dialect text × IsKnown dialect text search

-- the first cut of a text, or the track of all its bytes if the text is one piece
abbrev pub CutsOrTracks : Dialect → List ℕ → Result ℕ Track → Type 0
CutsOrTracks dialect text (Ok at) = IsFirstCut dialect text (Some at)
CutsOrTracks dialect text (Err track) = IsTrackOf dialect text track × (most_counted track ≤ length text)
