-- A function that tells whether a newline ends a text as one piece by the strict rules: it follows the track of the bytes.
use Rattle.std.specs.Prelude.{ℕ, ◌+◌, ◌==◌, ◌&&◌, ◌||◌, nat_lt, Bool, true, false, List, [], ◌∷◌, Option, Some, None, is_none, option_map, if◌then◌else◌}
use Rattle.lp_format.specs.format.{backslash, comma, equals, hash, newline, quote, space, tab}
use Rattle.lp_split.specs.code.{Place, Region, Track, Head, Plain, Quoted, ToNewline, Blanks, Line}

-- The place in a line after a bare byte that is no backslash, by its region. There is none if the piece ends before the byte.
abbrev pub bare_in : Region → Place → ℕ → Option Place
bare_in Head p b = if b == newline then None else Some (if b == space then record p { region = Plain } else p)
bare_in Plain p b =
    if b == newline then None
    else (if b == equals then Some (record p { equals = p.equals + 1 })
    else (if b == comma then Some (record p { commas = p.commas + 1 })
    else Some (if b == quote && nat_lt p.commas p.equals then record p { region = Quoted } else p)))
bare_in Quoted p b = Some (if b == quote then record p { region = Plain } else p)

-- The place in a line after a byte. There is none if the piece ends before the byte.
abbrev pub place_after : Place → ℕ → Option Place
place_after p b =
    if p.is_escaped then Some (record p { is_escaped = false })
    else (if b == backslash then Some (record p { is_escaped = true }) else bare_in p.region p b)

-- The track after a byte. There is none if the piece ends before the byte.
abbrev pub track_after : Track → ℕ → Option Track
track_after ToNewline b = if b == newline then None else Some ToNewline
track_after (Blanks p) b =
    if b == hash then Some ToNewline else option_map (λ q. if b == space || b == tab then Blanks q else Line q) (place_after p b)
track_after (Line p) b = option_map Line (place_after p b)

-- The track after a text. There is none if the piece ends within the text.
abbrev pub tracked_on : Option Track → List ℕ → Option Track
tracked_on None text = None
tracked_on (Some t) [] = Some t
tracked_on (Some t) (b ∷ text) = tracked_on (track_after t b) text

-- The track before the first byte.
abbrev pub first_track : Track
first_track = Blanks (record { region = Head; is_escaped = false; equals = 0; commas = 0 })

-- Whether a newline ends the piece that has this track.
abbrev pub is_ended : Option Track → Bool
is_ended None = false
is_ended (Some t) = is_none (track_after t newline)

-- Whether a newline ends a text as one piece.
unfoldable pub is_cut : List ℕ → Bool
is_cut text = is_ended (tracked_on (Some first_track) text)
