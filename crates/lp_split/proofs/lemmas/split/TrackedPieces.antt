-- The track of a piece, and the knowledge of a search about a text, by the rules of each dialect.
use Rattle.std.proofs.Common.{◌≡◌, ◌≢◌, ℕ, false, List, [], length, take, drop, Err, sym, ap, ◌∙◌, subst, arith, append-nil}
use Rattle.std.proofs.Common.{take-append-drop, ◌⊎◌, inl, inr, eqb, ◌∷◌, ◌++◌, refl, append_assoc, Some, None, Ok, ◌+◌, ◌≤◌, length-drop}
use Rattle.std.proofs.Common.{All, take_all, get_or-drop, take-add, ne_eqb, Result}
use Rattle.lp_format.specs.format.{Dialect, Strict, Crate, NewlineDelimited, begins_comment, IsLastPiece, IsCutPiece, IsFirstCut, newline, IsBareAfter}
use Rattle.lp_format.specs.format.{IsClosed, IsOpen}
use Rattle.lp_split.specs.declared.split.resumed.Search.TheVariants.{Quiet}
use Rattle.lp_split.specs.code.{SearchesOn, CutsOrTracks, most_counted, NeverComment, EndsIn, IsPlace, IsTrackOf, Leads, LeadsTo, Steps, TracksOn, Region, Head}
use Rattle.lp_split.specs.code.{Track, Place, ToNewline, Blanks, Line, EndsAtNewline}
use Rattle.lp_format.proofs.lemmas.split.{SplitPieces.IsLastPiece-extend, SplitPieces.begins_comment-append, SplitBare.is_escaped-nil}
use Rattle.std.proofs.lemmas.List.Elements.{All-head, All-nil, All-tail, All-push, All-weaker}
use Rattle.lp_split.proofs.lemmas.split.SplitStretches.{bare_joined}
use Rattle.lp_format.specs.format.Bytes.{hash, space, tab}

-- a text is one piece if its first bytes are a last piece and the bytes after them have no newline
pub still_last : (dialect : Dialect) (text after : List ℕ) (quiet : ℕ) → IsLastPiece dialect (take quiet text)
    → after ≡ drop quiet text → All (λ b. b ≢ newline) after → IsLastPiece dialect text
still_last dialect text after quiet h e n =
    subst (IsLastPiece dialect) (take-append-drop quiet text)
    (IsLastPiece-extend dialect (take quiet text) (drop quiet text) h (subst (All (λ b. b ≢ newline)) e n))

-- a search knows of a text that is one piece that all its bytes hold no cut
pub all_quiet : (dialect : Dialect) (text : List ℕ) → IsLastPiece dialect text → SearchesOn dialect text (Err (Quiet (length text)))
all_quiet dialect text h = grind (arith, take_all)

-- a text that cannot begin a comment does not begin one
pub no_comment : (text : List ℕ) → NeverComment Strict text → begins_comment text ≡ false
no_comment text never = ap begins_comment (sym (append-nil text)) ∙ never []

-- the bytes are spaces and tabs
abbrev pub AreBlanks : List ℕ → Type 0
AreBlanks bytes = All (λ b. (b ≡ space) ⊎ (b ≡ tab)) bytes

-- a text after blanks decides whether a comment begins
after_blanks : (bytes rest : List ℕ) → AreBlanks bytes → begins_comment (bytes ++ rest) ≡ begins_comment rest
after_blanks [] rest h = refl
after_blanks (b ∷ bytes) rest h =
    grind (arith, All-head, (after_blanks bytes rest (All-tail (λ c. (c ≡ space) ⊎ (c ≡ tab)) b bytes h)))

-- blanks alone do not begin a comment
pub blanks_begin_none : (bytes : List ℕ) → AreBlanks bytes → begins_comment bytes ≡ false
blanks_begin_none bytes h = ap begins_comment (sym (append-nil bytes)) ∙ after_blanks bytes [] h

-- a newline can end a piece that cannot begin a comment, if the piece is closed and the newline is bare
pub cut_of_line : (dialect : Dialect) (bytes : List ℕ) → NeverComment dialect bytes → IsClosed bytes → IsBareAfter bytes
    → IsCutPiece dialect bytes
cut_of_line dialect bytes never closed is_bare = grind (arith, no_comment)

-- a newline can end the bytes of a piece that ends at its next newline
pub ends_at_newline : (dialect : Dialect) (bytes : List ℕ) → EndsAtNewline dialect bytes → IsCutPiece dialect bytes
ends_at_newline Crate bytes h = absurd h
ends_at_newline Strict bytes h = inl h
ends_at_newline NewlineDelimited bytes h = h

-- a piece that ends at its next newline still does after a byte that is no newline
to_newline : (dialect : Dialect) (bytes : List ℕ) (b : ℕ) → b ≢ newline → EndsAtNewline dialect bytes → EndsAtNewline dialect (bytes ++ b ∷ [])
to_newline Crate bytes b n h = absurd h
to_newline Strict bytes b n h = (begins_comment-append bytes (b ∷ []) h.0, All-push (λ c. c ≢ newline) bytes b h.1 n)
to_newline NewlineDelimited bytes b n h = All-push (λ c. c ≢ newline) bytes b h n

-- the track of a piece that ends at its next newline stays after a byte that is no newline
pub goes_on_to_newline : (b : ℕ) → b ≢ newline → Leads ToNewline b (Some ToNewline)
goes_on_to_newline b n = λ dialect bytes h. to_newline dialect bytes b n h

-- a `#` after blanks begins a comment
pub comment_begins : (place : Place) → Leads (Blanks place) hash (Some ToNewline)
comment_begins place = λ dialect bytes h. subst (λ d. EndsAtNewline d (bytes ++ hash ∷ [])) (sym h.0) (
  after_blanks bytes (hash ∷ []) h.1,
  All-push (λ c. c ≢ newline) bytes hash
      (All-weaker (λ c. (c ≡ space) ⊎ (c ≡ tab)) (λ c. c ≢ newline)
      (λ c k e. elim k [ inl s ↦ absurd (omega (arith, s, e)) | inr s ↦ absurd (omega (arith, s, e)) ]) bytes h.1)
      (omega arith),
)

-- a blank after blanks leads to blanks
pub blanks_go_on : (place next : Place) (b : ℕ) → (b ≡ space) ⊎ (b ≡ tab) → Steps place b (Some next)
    → Leads (Blanks place) b (Some (Blanks next))
blanks_go_on place next b blank step = λ dialect bytes h.
    (h.0, All-push (λ c. (c ≡ space) ⊎ (c ≡ tab)) bytes b h.1 blank, step bytes h.2)

-- another byte than a blank or a `#` after blanks leads to a line
pub blanks_end : (place next : Place) (b : ℕ) → b ≢ hash → b ≢ space → b ≢ tab → Steps place b (Some next)
    → Leads (Blanks place) b (Some (Line next))
blanks_end place next b hash space tab step = grind (arith, append_assoc, after_blanks, eqb, ne_eqb)

-- a newline that ends the piece at a place ends the line
pub line_ends : (place : Place) (b : ℕ) → Steps place b None → Leads (Line place) b None
line_ends place b step = grind (arith, cut_of_line)

-- the place before the first byte of a piece
pub first_place : IsPlace [] (record { region = Head; is_escaped = false; equals = 0; commas = 0 })
first_place = grind (arith, is_escaped-nil)

-- a text that cannot begin a comment cannot with more bytes after it
never_longer : (dialect : Dialect) (text more : List ℕ) → NeverComment dialect text → NeverComment dialect (text ++ more)
never_longer dialect text more h = grind (arith, append_assoc)

-- bytes from one bare place of a line to another bare place of the same region lead to the counts at their end
pub line_goes_on : (place next : Place) (region : Region) (text : List ℕ) → place.region ≡ region → next.region ≡ region
    → place.is_escaped ≡ false → next.is_escaped ≡ false → IsBareAfter text
    → ((bytes : List ℕ) → IsBareAfter bytes → EndsIn region place.equals place.commas bytes
    → EndsIn region next.equals next.commas (bytes ++ text))
    → LeadsTo text (Line place) (Line next)
line_goes_on place next region text is_part next_part is_bare next_bare text_bare ends dialect bytes h = grind (arith, never_longer, bare_joined)

-- bytes that leave the place of a line as it is leave its track as it is
pub line_stays : (track : Track) (place : Place) (region : Region) (text : List ℕ) → track ≡ Line place → place.region ≡ region
    → place.is_escaped ≡ false → IsBareAfter text
    → ((bytes : List ℕ) → IsBareAfter bytes → EndsIn region place.equals place.commas bytes
    → EndsIn region place.equals place.commas (bytes ++ text))
    → LeadsTo text track (Line place)
line_stays track place region text is is_part is_bare text_bare ends =
    rw is (line_goes_on place place region text is_part is_part is_bare is_bare text_bare ends)

-- bytes lead on from the track that the bytes before them lead to
pub leads_on : (text rest : List ℕ) (at n : ℕ) (from via to : Track) → rest ≡ drop at text → LeadsTo (take at text) from via
    → LeadsTo (take n rest) via to → LeadsTo (take (at + n) text) from to
leads_on text rest at n from via to same leads more dialect bytes h = grind (arith, append_assoc, take-add)

-- the track at a bare place of a line
pub line_track : (region : Region) (bytes : List ℕ) (e c : ℕ) → IsBareAfter bytes → EndsIn region e c bytes
    → IsTrackOf Crate bytes (Line (record { region = region; is_escaped = false; equals = e; commas = c }))
line_track region bytes e c is_bare h = (tt, record { escaped_is = is_bare; ends_in = h })

-- bytes with a place are a last piece: no newline has ended it
place_is_last : (region : Region) (e c : ℕ) (bytes : List ℕ) → EndsIn region e c bytes → IsClosed bytes ⊎ IsOpen bytes
place_is_last region e c bytes h = grind arith

-- bytes with a track are a last piece
pub tracked_is_last : (dialect : Dialect) (bytes : List ℕ) (track : Track) → IsTrackOf dialect bytes track → IsLastPiece dialect bytes
tracked_is_last dialect bytes track h = grind (arith, blanks_begin_none, place_is_last, no_comment)

-- a newline that ends the piece of a track is the first cut of the text from the first byte of the track on
pub tracks_cut : (dialect : Dialect) (text rest : List ℕ) (at i : ℕ) (track : Track) → rest ≡ drop at text → at ≤ length text
    → IsTrackOf dialect (take at text) track → TracksOn rest track (Ok i) → IsFirstCut dialect text (Some (at + i))
tracks_cut dialect text rest at i track same within is tracks = grind (arith, get_or-drop, take-add, length-drop)

-- bytes that end no piece, after the bytes of a track, lead to the track of the whole text
pub tracks_on : (dialect : Dialect) (text rest : List ℕ) (at : ℕ) (from to : Track) → rest ≡ drop at text → at ≤ length text
    → IsTrackOf dialect (take at text) from → TracksOn rest from (Err to) → IsTrackOf dialect text to
tracks_on dialect text rest at from to same within is tracks = grind (arith, take-append-drop)

-- a text that is tracked from its first byte on has a first cut or a track
pub tracks_all : (dialect : Dialect) (text : List ℕ) (first : Track) (result : Result ℕ Track) → IsTrackOf dialect [] first
    → most_counted first ≡ 0 → TracksOn text first result → CutsOrTracks dialect text result
tracks_all dialect text first (Ok i) begins none h = (h.0, h.1, h.2 dialect [] begins)
tracks_all dialect text first (Err track) begins none h = (h.1 dialect [] begins, omega (arith, h.0, none))

-- the tracks before the first byte
pub ruleset first_tracks = (first_place, All-nil)
