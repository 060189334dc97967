-- What each step of a walk from cut to cut finds.
use Rattle.std.specs.Prelude.{◌≡◌, ℕ, ◌+◌, ◌<◌, ◌≤◌, Bool, true, false, List, [], ◌++◌, length, take, Option, Some, None, Result, Ok, Err}
use Rattle.std.specs.Option.{option_map_or}
use Rattle.influxdb_line_protocol.specs.format.Dialects.{Dialect}
use Rattle.influxdb_line_protocol.specs.format.Pieces.{IsFirstCut}
use Rattle.lp_split.specs.code.{IsTrackOf, Track, most_counted}
use Rattle.lp_cuts.specs.declared.cuts.Walk.{Walk}
use Rattle.lp_cuts.specs.Cuts.{IsCutAt}

-- what is known of the bytes of a piece that came so far: their track, unless none came
abbrev pub IsTracked : Dialect → List ℕ → Option Track → Type 0
IsTracked dialect bytes None = bytes ≡ []
IsTracked dialect bytes (Some track) = IsTrackOf dialect bytes track

-- as many as a track counts at most
abbrev pub most_tracked : Option Track → ℕ
most_tracked track = option_map_or most_counted track 0

-- of the bytes that come after those of a piece, the place of the newline that ends it, or the track of all if none does
abbrev pub FindsOn : Dialect → List ℕ → List ℕ → Result ℕ Track → Type 0
FindsOn dialect before text (Ok at) = IsFirstCut dialect (before ++ text) (Some (length before + at))
FindsOn dialect before text (Err track) = IsTrackOf dialect (before ++ text) track

-- a walk is at a cut of a text, and knows the track of the bytes before those that it was not given yet
pub record IsWalkOf (dialect : Dialect) (text : List ℕ) (walk : Walk) : Type 0 where
  pub is_cut : IsCutAt dialect text walk.at
  pub within : walk.given ≤ length text
  pub before : List ℕ
  pub holds : take walk.at text ++ before ≡ take walk.given text
  pub tracked : IsTracked dialect before walk.track

-- a walk is within a text of so many bytes, and counts no more than it was given
pub record IsWithin (len : ℕ) (walk : Walk) : Type 0 where
  pub order : walk.at ≤ walk.given
  pub counted : most_tracked walk.track ≤ walk.given
  pub given : walk.given ≤ len

-- no cut at or after a place was passed
abbrev pub PassesNone : Dialect → List ℕ → (place at : ℕ) → Type 0
PassesNone dialect text place at = (other : ℕ) → IsCutAt dialect text other → place ≤ other → at ≤ other

-- a walk goes on to the next cut, or if none comes after it, it stays there
abbrev pub GoesOn : Dialect → List ℕ → ℕ → Bool → ℕ → Type 0
GoesOn dialect text before false after = (after ≡ before) × ((other : ℕ) → IsCutAt dialect text other → other ≤ before)
GoesOn dialect text before true after =
    (before < after) × ((other : ℕ) → IsCutAt dialect text other → before < other → after ≤ other)

-- it went on, if a cut was found
abbrev pub IsFurther : Bool → ℕ → ℕ → Type 0
IsFurther false before after = before ≤ after
IsFurther true before after = before < after
