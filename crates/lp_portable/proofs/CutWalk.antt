-- The track of the bytes of a text tells whether a newline ends the text as one piece.
use Rattle.std.proofs.Common.{◌≡◌, ◌≢◌, ℕ, ◌+◌, ◌<◌, ◌++◌, ◌==◌, ◌&&◌, ◌||◌, ◌↔◌, ◌⊎◌, nat_lt, suc, Bool, true, false, List, [], ◌∷◌, length, take, Option, None, Some, is_none, inl, inr, refl, sym, ◌∙◌, subst, arith, append-nil, append_assoc, get_or, if◌then◌else◌, option_map}
use Rattle.std.proofs.lemmas.{Bool.cases_Bool, Bool.false≢true, Bool.Decides.nat_tests, List.Elements.All-nil}
use Rattle.lp_format.specs.format.{IsBareAfter, IsCutPiece, Strict, backslash, comma, equals, hash, newline, quote, space, tab}
use Rattle.lp_split.specs.code.{EndsIn, IsTrackOf, Leads, Place, Region, Steps, Track, Head, Plain, Quoted, ToNewline, Blanks, Line}
use Rattle.lp_split.proofs.lemmas.split.SplitWalk.{Head-other, Head-space, IsIn-backslash, IsIn-escaped, Plain-comma, Plain-equals, Plain-opens, Plain-other, Quoted-closes, Quoted-other, escapes_next, then_bare}
use Rattle.lp_split.proofs.lemmas.split.TrackedPieces.{blanks_end, blanks_go_on, comment_begins, first_place, goes_on_to_newline, line_ends}
use Rattle.lp_portable.proofs.Lines.{cut_within, goes_on}
use Rattle.lp_portable.specs.code.Cut.{bare_in, first_track, is_cut, is_ended, place_after, track_after, tracked_on}

-- a bare place
abbrev at_bare : Region → ℕ → ℕ → Place
at_bare region e c = record { region = region; is_escaped = false; equals = e; commas = c }

-- a bare byte that is no backslash leads from a bare place to another
bare_step : (region next : Region) (e c f d b : ℕ) → (b == backslash) ≡ false
    → ((bytes : List ℕ) → IsBareAfter bytes → EndsIn region e c bytes → EndsIn next f d (bytes ++ b ∷ []))
    → Steps (at_bare region e c) b (Some (at_bare next f d))
bare_step region next e c f d b other goes =
    λ bytes h. record { escaped_is = escapes_next bytes b h.escaped_is ∙ other; ends_in = goes bytes h.escaped_is h.ends_in }

-- a byte that a test finds is that byte
is_it : (b x : ℕ) → (b == x) ≡ true → b ≡ x
is_it b x h = grind (arith, nat_tests)

-- If the test of equality fails for two bytes, they are different.
is_not_it : (b x : ℕ) → (b == x) ≡ false → b ≢ x
is_not_it b x h = grind (arith, nat_tests)

-- The function steps as the definition does, for a bare byte in the head of a line.
head_steps : (e c b : ℕ) → (b == backslash) ≡ false → Steps (at_bare Head e c) b (bare_in Head (at_bare Head e c) b)
head_steps e c b other = elim (cases_Bool (b == newline)) [
  | inl is ↦ rw is (is_it b newline is, λ bytes h. (inl h.ends_in.0, h.escaped_is))
  | inr differs ↦ rw differs (elim (cases_Bool (b == space)) [
    | inl blank ↦ rw blank (bare_step Head Plain e c e c b other
        (λ bytes f h. subst (λ (x : ℕ). EndsIn Plain e c (bytes ++ x ∷ [])) (sym (is_it b space blank)) (Head-space e c bytes f h)))
    | inr none ↦ rw none (bare_step Head Head e c e c b other
        (λ bytes f h. Head-other e c bytes b f (is_not_it b space none) (is_not_it b newline differs) h))
  ])
]

-- The function steps as the definition does, for a byte in a plain stretch that may be a quote that opens a string.
quote_steps : (e c b : ℕ) → (b == backslash) ≡ false → (b == newline) ≡ false → (b == equals) ≡ false → (b == comma) ≡ false
    → Steps (at_bare Plain e c) b (Some (if b == quote && nat_lt c e then at_bare Quoted e c else at_bare Plain e c))
quote_steps e c b other differs sign mark = elim (cases_Bool (b == quote && nat_lt c e)) [
  | inl opens ↦ rw opens (bare_step Plain Quoted e c e c b other
      (λ bytes f h. let is : b ≡ quote = grind (arith, nat_tests) in let more : c < e = grind (arith, nat_tests) in
      subst (λ (x : ℕ). EndsIn Quoted e c (bytes ++ x ∷ [])) (sym is) (Plain-opens e c bytes f more h)))
  | inr stays ↦ rw stays (bare_step Plain Plain e c e c b other
      (λ bytes f h. Plain-other e c bytes b f (is_not_it b equals sign) (is_not_it b comma mark) (is_not_it b newline differs)
      (λ q. grind (arith, nat_tests)) h))
]

-- The function steps as the definition does, for a bare byte in a plain stretch.
plain_steps : (e c b : ℕ) → (b == backslash) ≡ false → Steps (at_bare Plain e c) b (bare_in Plain (at_bare Plain e c) b)
plain_steps e c b other = elim (cases_Bool (b == newline)) [
  | inl is ↦ rw is (is_it b newline is, λ bytes h. (inr (h.ends_in.0, h.ends_in.1), h.escaped_is))
  | inr differs ↦ rw differs (elim (cases_Bool (b == equals)) [
    | inl sign ↦ rw sign (bare_step Plain Plain e c (e + 1) c b other
        (λ bytes f h. subst (λ (x : ℕ). EndsIn Plain (e + 1) c (bytes ++ x ∷ [])) (sym (is_it b equals sign)) (Plain-equals e c bytes f h)))
    | inr none ↦ rw none (elim (cases_Bool (b == comma)) [
      | inl mark ↦ rw mark (bare_step Plain Plain e c e (c + 1) b other
          (λ bytes f h. subst (λ (x : ℕ). EndsIn Plain e (c + 1) (bytes ++ x ∷ [])) (sym (is_it b comma mark)) (Plain-comma e c bytes f h)))
      | inr others ↦ rw others (quote_steps e c b other differs none others)
    ])
  ])
]

-- The function steps as the definition does, for a bare byte in a string.
quoted_steps : (e c b : ℕ) → (b == backslash) ≡ false → Steps (at_bare Quoted e c) b (bare_in Quoted (at_bare Quoted e c) b)
quoted_steps e c b other = elim (cases_Bool (b == quote)) [
  | inl is ↦ rw is (bare_step Quoted Plain e c e c b other
      (λ bytes f h. subst (λ (x : ℕ). EndsIn Plain e c (bytes ++ x ∷ [])) (sym (is_it b quote is)) (Quoted-closes e c bytes f h)))
  | inr differs ↦ rw differs (bare_step Quoted Quoted e c e c b other (λ bytes f h. Quoted-other e c bytes b f (is_not_it b quote differs) h))
]

-- a bare byte
bare_steps : (region : Region) (e c b : ℕ) → (b == backslash) ≡ false → Steps (at_bare region e c) b (bare_in region (at_bare region e c) b)
bare_steps Head e c b other = head_steps e c b other
bare_steps Plain e c b other = plain_steps e c b other
bare_steps Quoted e c b other = quoted_steps e c b other

-- a byte leads a place on as the function says
place_steps : (region : Region) (escaped : Bool) (e c b : ℕ)
    → (let p : Place = record { region = region; is_escaped = escaped; equals = e; commas = c } in Steps p b (place_after p b))
place_steps region true e c b =
    λ bytes h. record { escaped_is = then_bare bytes b h.escaped_is; ends_in = IsIn-escaped region e c bytes b h.escaped_is h.ends_in }
place_steps region false e c b = elim (cases_Bool (b == backslash)) [
  | inl is ↦ rw is (λ bytes h. record {
    escaped_is = escapes_next bytes b h.escaped_is ∙ is;
    ends_in = subst (λ (x : ℕ). EndsIn region e c (bytes ++ x ∷ [])) (sym (is_it b backslash is)) (IsIn-backslash region e c bytes h.escaped_is h.ends_in);
  })
  | inr differs ↦ rw differs (bare_steps region e c b differs)
]

-- a byte after a place of a line
line_leads : (p : Place) (b : ℕ) (next : Option Place) → Steps p b next → Leads (Line p) b (option_map Line next)
line_leads p b None step = line_ends p b step
line_leads p b (Some q) step = grind (arith, append_assoc)

-- a byte that is no `#` after blanks
blanks_lead : (p : Place) (b : ℕ) (next : Option Place) → (b == hash) ≡ false → Steps p b next
    → Leads (Blanks p) b (option_map (λ q. if b == space || b == tab then Blanks q else Line q) next)
blanks_lead p b None other step = grind arith
blanks_lead p b (Some q) other step = elim (cases_Bool (b == space || b == tab)) [
  | inl blank ↦ rw blank (blanks_go_on p q b (grind (arith, nat_tests)) step)
  | inr none ↦ rw none (blanks_end p q b (is_not_it b hash other) (grind (arith, nat_tests)) (grind (arith, nat_tests)) step)
]

-- a byte leads a track on as the function says
track_leads : (t : Track) (b : ℕ) → Leads t b (track_after t b)
track_leads ToNewline b = elim (cases_Bool (b == newline)) [
  | inl is ↦ rw is (grind arith)
  | inr differs ↦ rw differs (goes_on_to_newline b (is_not_it b newline differs))
]
track_leads (Blanks p) b = elim (cases_Bool (b == hash)) [
  | inl is ↦ rw is (subst (λ (x : ℕ). Leads (Blanks p) x (Some ToNewline)) (sym (is_it b hash is)) (comment_begins p))
  | inr differs ↦ rw differs (blanks_lead p b (place_after p b) differs (place_steps p.region p.is_escaped p.equals p.commas b))
]
track_leads (Line p) b = line_leads p b (place_after p b) (place_steps p.region p.is_escaped p.equals p.commas b)

-- A text leads on from a front to a track, or a newline in it ends the piece.
abbrev Tracks : (front text : List ℕ) → Option Track → Type 0
Tracks front text None = (at : ℕ) × (at < length text) × (get_or text at 0 ≡ newline) × IsCutPiece Strict (front ++ take at text)
Tracks front text (Some to) = IsTrackOf Strict (front ++ text) to

-- If a text leads on from a front and a byte to a track, the byte and the text lead on from the front to the same track.
further : (front : List ℕ) (b : ℕ) (text : List ℕ) (to : Option Track) → Tracks (front ++ b ∷ []) text to → Tracks front (b ∷ text) to
further front b text None h =
    (suc h.0, omega (arith, h.1), h.2, subst (IsCutPiece Strict) (append_assoc front (b ∷ []) (take h.0 text)) h.3)
further front b text (Some to) h = subst (λ (f : List ℕ). IsTrackOf Strict f to) (append_assoc front (b ∷ []) text) h

-- The first byte of a text leads on to a track, or it ends the piece.
first_leads : (front : List ℕ) (b : ℕ) (text : List ℕ) (t : Track) (next : Option Track) → Leads t b next → IsTrackOf Strict front t
    → ((n : Track) → IsTrackOf Strict (front ++ b ∷ []) n → Tracks (front ++ b ∷ []) text (tracked_on (Some n) text))
    → Tracks front (b ∷ text) (tracked_on next text)
first_leads front b text t None leads is others =
    (0, omega arith, leads.0, subst (IsCutPiece Strict) (sym (append-nil front)) (leads.1 Strict front is))
first_leads front b text t (Some n) leads is others =
    further front b text (tracked_on (Some n) text) (others n (leads Strict front is))

-- the function tells where bytes lead
all_lead : (front text : List ℕ) (t : Track) → IsTrackOf Strict front t → Tracks front text (tracked_on (Some t) text)
all_lead front [] t is = subst (λ (f : List ℕ). IsTrackOf Strict f t) (sym (append-nil front)) is
all_lead front (b ∷ text) t is =
    first_leads front b text t (track_after t b) (track_leads t b) is (λ n h. all_lead (front ++ b ∷ []) text n h)

-- a newline after a track ends the piece or not
newline_ends : (text : List ℕ) (t : Track) (next : Option Track) → Leads t newline next → IsTrackOf Strict text t
    → (is_none next ≡ true) ↔ IsCutPiece Strict text
newline_ends text t None leads is = (λ yes. leads.1 Strict text is, λ cut. refl)
newline_ends text t (Some to) leads is = (λ never. absurd (false≢true never), λ cut. absurd (goes_on Strict text t to is leads cut))

-- After all bytes, the track says that a newline ends the text exactly if it does.
ended_is : (text : List ℕ) (to : Option Track) → Tracks [] text to → (is_ended to ≡ true) ↔ IsCutPiece Strict text
ended_is text None h = (λ never. absurd (false≢true never), λ cut. absurd (cut_within Strict text h.0 h.1 h.2 h.3 cut))
ended_is text (Some t) h = newline_ends text t (track_after t newline) (track_leads t newline) h

-- the function tells whether a newline ends a text as one piece
pub cut_is : (text : List ℕ) → (is_cut text ≡ true) ↔ IsCutPiece Strict text
unfolding is_cut
cut_is text = ended_is text (tracked_on (Some first_track) text) (all_lead [] text first_track (refl, All-nil (λ b. (b ≡ space) ⊎ (b ≡ tab)), first_place))
