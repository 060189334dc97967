-- A line with a name whose spelling stops too early: the name is fatal, and so is the line, at a measurement or a tag.
use Rattle.std.proofs.Common.{◌≡◌, ◌≢◌, ℕ, ◌<◌, List, [], ◌∷◌, ◌++◌, length, slice_index, true, false, refl, sym, ap, ◌∙◌, subst, arith}
use Rattle.std.proofs.Common.{inl, inr, append_assoc, append-nil, take_at, Err, Result, Bool, ◌&&◌, flat_map, ne_eqb, length-append}
use Rattle.std.specs.List.{list_all, Contains}
use Rattle.std.proofs.lemmas.Bool.{cases_Bool, false≢true, both_ways, and_right, and_parts}
use Rattle.std.proofs.lemmas.List.Elements.{All-take}
use Rattle.std.proofs.lemmas.{Grind.flat_map-append, List.get_or_append_left}
use Rattle.lp_format.specs.format.{Dialect, Crate, Strict, NewlineDelimited, HasNoNewline, is_one_of, newline, comma, equals, space, backslash, escaped, Fault}
use Rattle.lp_format.specs.format.{ends_with_backslash, fatal, Reading, reads, NameKind, a_measurement, a_tag_key, a_tag_value}
use Rattle.lp_format.specs.format.{ends_in_backslash, name, IsClosed, never_in, is_admitted_name, spelling, Tag, is_admitted_tag, built_tag}
use Rattle.lp_format.specs.format.{IsLastPiece, Line, answer, tag, after_comma, many, separated_list, answers_of_piece, answers_of}
use Rattle.lp_format.specs.format.Pieces.{Pieces, Pieces.last, Pieces.cut}
use Rattle.lp_format.specs.laws.NamesOfLines.{IsParsedName, IsOneLineIn}
use Rattle.lp_format.proofs.lemmas.split.{SplitPieces.no_cut_within, SplitBare.place_in_append}
use Rattle.lp_format.proofs.lemmas.read_back.NameReadsBack.{may_hold, escaped_plain, read_tag}
use Rattle.lp_lines.proofs.lemmas.names.Spellings.{reaches_start, Reaches, SpelledAs, never_unescapable, never_stops, spelling_as}
use Rattle.lp_lines.proofs.lemmas.names.Spellings.{spelled_fatal, spelled_begins, reaches_head, BeginsLine, line_no_comment, line_trimmed}
use Rattle.lp_lines.proofs.lemmas.names.Spellings.{line_some, name_reads_back, reaches_name, reaches_other, Leads, leads_then}
use Rattle.lp_format.proofs.lemmas.lists.Elements.{first_element, later_element}
use Rattle.lp_split.specs.code.{Head}
use Rattle.lp_lines.proofs.lemmas.read_back.{LineReadsBack.tag_text, LineReadsBack.tag_reads_back, LinePieces.AdmittedTag}

-- nothing, or this byte at the start
abbrev pub StopsWith : ℕ → List ℕ → Type 0
StopsWith stop [] = Unit {0}
StopsWith stop (b ∷ rest) = b ≡ stop

-- Reading a text stops early: `Reached` holds of a front of the text, and `AtStop` holds of each text that is this front alone or this
-- front and a text that begins with the same byte.
pub record StopsEarly (Reached AtStop : List ℕ → Type 0) (text : List ℕ) : Type 0 where
  pub front : List ℕ
  pub stop : ℕ
  pub after : List ℕ
  pub is : text ≡ front ++ stop ∷ after
  pub reached : Reached front
  pub fails : (rest : List ℕ) → StopsWith stop rest → AtStop (front ++ rest)

-- If reading a text stops early, it also stops early in each longer text that begins with this text.
pub and_more : {R A : List ℕ → Type 0} {text : List ℕ} (more : List ℕ) → StopsEarly R A text → StopsEarly R A (text ++ more)
and_more more f = grind (arith, append_assoc)

module _ {R A S B : List ℕ → Type 0} {text : List ℕ} where
  -- If reading a text stops early, it also stops early in the text with a front and a byte before it.
  pub and_before : (before : List ℕ) (b : ℕ) → ((front : List ℕ) → R front → S (before ++ b ∷ front))
      → ((front rest : List ℕ) → R front → A (front ++ rest) → B (before ++ b ∷ (front ++ rest)))
      → StopsEarly R A text → StopsEarly S B (before ++ b ∷ text)
  and_before before b reached fails f = grind (arith, append_assoc)

  -- Stopping early may be stated by other properties that follow from the properties of the front and of the texts at the stop.
  pub stops_as : ((front : List ℕ) → R front → S front) → ((front rest : List ℕ) → R front → A (front ++ rest) → B (front ++ rest))
      → StopsEarly R A text → StopsEarly S B text
  stops_as reached fails f = grind arith

-- a line whose front is not cut, and is answered with a fault
abbrev pub Fails : List ℕ → Type 0
Fails line = StopsEarly IsClosed (λ text. BeginsLine text × ((dialect : Dialect) → answer dialect text ≡ Err ends_with_backslash)) line

-- The piece that begins with the front at which a line fails is answered with a fault.
piece_fails : (dialect : Dialect) (line : List ℕ) (f : Fails line) (rest : List ℕ) → StopsWith f.stop rest
    → answers_of_piece dialect (f.front ++ rest) ≡ Err ends_with_backslash ∷ []
unfolding answers_of_piece
piece_fails dialect line f rest stops = grind (arith, line_trimmed, line_some)

-- The front at which reading a line fails is a piece of its own.
front_is_piece : (dialect : Dialect) (line : List ℕ) (f : Fails line) → IsOneLineIn dialect line → IsLastPiece dialect f.front
front_is_piece Crate line f whole = inl f.reached
front_is_piece Strict line f whole = inr (line_no_comment f.front (subst BeginsLine (append-nil f.front) (f.fails [] tt).0), inl f.reached)
front_is_piece NewlineDelimited line f whole =
    subst HasNoNewline (take_at f.front (f.stop ∷ f.after) (length f.front) refl)
    (All-take (λ b. b ≢ newline) (length f.front) (f.front ++ f.stop ∷ f.after) (subst HasNoNewline f.is (whole refl)))

-- The first answer for a text that begins with such a failing line is a fault.
pub first_fails : (dialect : Dialect) (line : List ℕ) (f : Fails line) → IsOneLineIn dialect line → (after : List ℕ) {text : List ℕ}
    {pieces : List (List ℕ)} → text ≡ f.front ++ f.stop ∷ after → Pieces dialect text pieces
    → (others : List (Result Line Fault)) × (answers_of dialect pieces ≡ Err ends_with_backslash ∷ others)
first_fails dialect line f whole after e (last piece h) =
    ([], ap (λ xs. answers_of_piece dialect xs ++ []) e ∙ ap (λ xs. xs ++ []) (piece_fails dialect line f (f.stop ∷ after) refl))
first_fails dialect line f whole after e (cut piece t more c h) = elim (place_in_append f.front (f.stop ∷ after) newline piece t (sym e)) [
  | inl w ↦ absurd (no_cut_within dialect piece w.0 c (subst (IsLastPiece dialect) w.1 (front_is_piece dialect line f whole)))
  | inr w ↦
      let stops : StopsWith f.stop w.0 = grind arith in (
        answers_of dialect more,
        ap (λ xs. answers_of_piece dialect xs ++ answers_of dialect more) w.1
            ∙ ap (λ xs. xs ++ answers_of dialect more) (piece_fails dialect line f w.0 stops),
      )
]

-- the spelling of a front of a name, that is not empty
pub record SpelledFront (kind : NameKind) (n spelling : List ℕ) : Type 0 where
  pub name : List ℕ
  pub spelled : SpelledAs kind name spelling
  pub some : 0 < length name
  pub first : slice_index name 0 ≡ slice_index n 0

-- a name whose spelling stops too early, after a backslash
abbrev pub NameStops : NameKind → List ℕ → Type 0
NameStops kind n = StopsEarly (SpelledFront kind n) (λ text. name kind text ≡ fatal ends_with_backslash) (spelling kind n)

-- the second of two tests that fail together
pub second_fails : (x y : Bool) → (x && y) ≡ false → x ≡ true → y ≡ false
second_fails x y h e = grind (arith, false≢true)

-- a list up to the first element that fails a test, and from it on
pub record FirstFailing {X : Type 0} (test : X → Bool) (xs : List X) : Type 0 where
  pub front : List X
  pub stop : X
  pub after : List X
  pub is : xs ≡ front ++ stop ∷ after
  pub pass : list_all test front ≡ true
  pub fails : test stop ≡ false

-- If not all elements pass a test, there is a first element that fails.
pub first_failing : {X : Type 0} (test : X → Bool) (xs : List X) → list_all test xs ≡ false → FirstFailing test xs
first_failing test [] h = absurd (false≢true (sym h))
first_failing test (x ∷ xs) h = elim (cases_Bool (test x)) [
  | inl ok ↦
      let more = first_failing test xs (second_fails (test x) (list_all test xs) h ok) in
      record { front = x ∷ more.front; stop = more.stop; after = more.after; is = grind arith; pass = grind arith; fails = more.fails }
  | inr failing ↦ record { front = []; stop = x; after = xs; is = refl; pass = refl; fails = failing }
]

-- A parsed name that holds only allowed bytes is admitted.
admitted_from : (kind : NameKind) (n : List ℕ) → IsParsedName kind n → list_all (may_hold kind) n ≡ true → is_admitted_name kind n ≡ true
unfolding is_admitted_name
admitted_from kind n h all = grind (arith, ne_eqb, and_right)

-- the spelling around a byte that is not escaped
spelling_around : (kind : NameKind) (front after : List ℕ) (stop : ℕ) → is_one_of (never_in kind) stop ≡ true
    → spelling kind (front ++ stop ∷ after) ≡ spelling kind front ++ stop ∷ spelling kind after
unfolding escaped
spelling_around kind front after stop never = grind (arith, flat_map-append, escaped_plain, never_unescapable)

-- a text that ends in a backslash is not empty, and begins as each longer one does
backslash_some : (text : List ℕ) → ends_in_backslash text ≡ true → 0 < length text
backslash_some [] h = absurd (false≢true h)
backslash_some (b ∷ text) h = omega arith

-- a parsed name that is not admitted stops too early
pub name_stops : (kind : NameKind) (n : List ℕ) → IsParsedName kind n → is_admitted_name kind n ≡ false → NameStops kind n
name_stops kind n h bad =
    let none : list_all (may_hold kind) n ≡ false = grind (arith, cases_Bool, both_ways, admitted_from) in
    let place = first_failing (may_hold kind) n none in
    let never : is_one_of (never_in kind) place.stop ≡ true = grind (arith, place.fails) in
    let ends = h.after_backslash place.front place.after place.stop place.is never in
    let some = backslash_some place.front ends in
    let spelled = spelling_as kind place.front place.pass in
    record {
      front = spelling kind place.front;
      stop = place.stop;
      after = spelling kind place.after;
      is = ap (spelling kind) place.is ∙ spelling_around kind place.front place.after place.stop never;
      reached = record { name = place.front; spelled = spelled; some = some; first = grind (arith, get_or_append_left, place.is) };
      fails = λ rest stops. spelled_fatal spelled some ends rest (grind (arith, never_stops, never));
    }

-- a line whose measurement stops too early
pub measurement_fails : (n more : List ℕ) → IsParsedName a_measurement n → NameStops a_measurement n
    → Fails (spelling a_measurement n ++ more)
unfolding answer
measurement_fails n more h f = and_more more (stops_as (λ front r. inl (reaches_head r.spelled [] reaches_start).1.0)
    (λ front rest r e. (spelled_begins r.spelled r.some (λ i. h.begins (sym r.first ∙ i)) rest, λ dialect. rw e refl)) f)

-- Reading a list with commas between its elements is fatal: either the first element is fatal, or an element after a comma is.
pub record ManyFail {A : Type 0} (one : List ℕ → Reading A) (text : List ℕ) : Type 0 where
  pub at_first : separated_list one text ≡ fatal ends_with_backslash
  pub at_later : (n : ℕ) → length text < n → many (after_comma one) n (comma ∷ text) ≡ fatal ends_with_backslash

module _ {A : Type 0} (one : List ℕ → Reading A) where
  -- A list whose first element is fatal fails.
  pub first_of_many : (text : List ℕ) → one text ≡ fatal ends_with_backslash → ManyFail one text
  first_of_many text e = grind arith

  -- If an element is read, and the elements after the comma fail, the whole list fails.
  pub later_of_many : (front more : List ℕ) (x : A) → one (front ++ comma ∷ more) ≡ reads x (comma ∷ more)
      → ManyFail one more → ManyFail one (front ++ comma ∷ more)
  later_of_many front more x e h = grind (arith, length-append)

-- Reading elements with commas before them stops early if reading one element that fails a test does.
pub elements_fail : {E : Type 0} {Known : E → Type 0} {R A : List ℕ → Type 0} (test : E → Bool) (text : E → List ℕ)
    (all : List E → List ℕ) → ((e : E) (es : List E) → all (e ∷ es) ≡ comma ∷ (text e ++ all es))
    → ((e : E) → Known e → test e ≡ false → StopsEarly R A (text e))
    → ((e : E) → Known e → test e ≡ true → (front : List ℕ) → R front → R (text e ++ comma ∷ front))
    → ((e : E) → Known e → test e ≡ true → (more : List ℕ) → A more → A (text e ++ comma ∷ more))
    → (es : List E) → ((e : E) → Contains es e → Known e) → list_all test es ≡ false
    → (after : List ℕ) × (all es ≡ comma ∷ after) × StopsEarly R A after
elements_fail test text all next stops reached fails [] known bad = absurd (false≢true (sym bad))
elements_fail test text all next stops reached fails (e ∷ es) known bad = elim (cases_Bool (test e)) [
  | inl ok ↦
      let refused = second_fails (test e) (list_all test es) bad ok in
      let more = elements_fail test text all next stops reached fails es (λ x h. known x (later_element e x es h)) refused in (
        text e ++ comma ∷ more.0,
        next e es ∙ ap (λ (xs : List ℕ). comma ∷ (text e ++ xs)) more.1,
        and_before (text e) comma (reached e (known e (first_element e es)) ok)
            (λ front rest r h. fails e (known e (first_element e es)) ok (front ++ rest) h) more.2,
      )
  | inr refused ↦ (text e ++ all es, next e es, and_more (all es) (stops e (known e (first_element e es)) refused))
]

-- A front that leaves the scan of a text in the head of the line.
abbrev ReachesHead : List ℕ → Type 0
ReachesHead front = Leads (Reaches Head 0 0) (Reaches Head 0 0) front

-- A key, a byte that neither ends a head nor escapes, and a text that stays in the head leave the scan in the head.
reaches_after : (front : List ℕ) (b : ℕ) (more : List ℕ) → b ≢ backslash → b ≢ space → b ≢ newline → ReachesHead front → ReachesHead more
    → ReachesHead (front ++ b ∷ more)
reaches_after front b more e s n before after = leads_then (Reaches Head 0 0) front (b ∷ more) before
    (leads_then (Reaches Head 0 0) (b ∷ []) more (reaches_other b e s n) after)

-- Reading a tag stops early if its names are parsed names and not both of them are admitted.
tag_fails : (t : Tag) → IsParsedName a_tag_key t.key × IsParsedName a_tag_value t.value → is_admitted_tag t ≡ false
    → StopsEarly ReachesHead (ManyFail tag) (tag_text t)
unfolding tag
tag_fails t names bad =
    let key = spelling a_tag_key t.key in
    elim (cases_Bool (is_admitted_name a_tag_key t.key)) [
      | inl ok ↦
          let refused = second_fails (is_admitted_name a_tag_key t.key) (is_admitted_name a_tag_value t.value) bad ok in
          and_before key equals
          (λ front r. reaches_after key equals front (omega arith) (omega arith) (omega arith)
          (reaches_name a_tag_key t.key ok) (reaches_head r.spelled))
          (λ front rest r e.
          let stops : name a_tag_value (front ++ rest) ≡ fatal ends_with_backslash = e in
          first_of_many tag (key ++ equals ∷ (front ++ rest))
          (rw (name_reads_back a_tag_key t.key (front ++ rest) equals ok refl, stops) refl))
          (name_stops a_tag_value t.value names.1 refused)
      | inr refused ↦ and_more (equals ∷ spelling a_tag_value t.value)
          (stops_as (λ front r. reaches_head r.spelled) (λ front rest r e. first_of_many tag (front ++ rest) (rw e refl))
          (name_stops a_tag_key t.key names.0 refused))
    ]

-- Reading one of these tags stops too early, in the text of the tags without the first comma.
abbrev pub TagsFail : List Tag → Type 0
TagsFail ts = (text : List ℕ) × (flat_map built_tag ts ≡ comma ∷ text) × StopsEarly ReachesHead (ManyFail tag) text

-- Reading tags stops early if their names are parsed names and not all of them are admitted.
pub tags_fail : (ts : List Tag) → ((t : Tag) → Contains ts t → IsParsedName a_tag_key t.key × IsParsedName a_tag_value t.value)
    → list_all is_admitted_tag ts ≡ false → TagsFail ts
tags_fail ts names bad = elements_fail is_admitted_tag tag_text (flat_map built_tag) (λ t more. refl) tag_fails
    (λ t known ok front r. reaches_after (tag_text t) comma front (omega arith) (omega arith) (omega arith)
    (reaches_after (spelling a_tag_key t.key) equals (spelling a_tag_value t.value) (omega arith) (omega arith) (omega arith)
    (reaches_name a_tag_key t.key (admitted t ok).0) (reaches_name a_tag_value t.value (admitted t ok).1)) r)
    (λ t known ok more e. later_of_many tag (tag_text t) more (read_tag t) (tag_reads_back t more comma (admitted t ok) refl) e)
    ts names bad
  where
    -- the two tests of a tag
    admitted : (t : Tag) → is_admitted_tag t ≡ true → AdmittedTag t
    admitted t ok = and_parts (is_admitted_name a_tag_key t.key) (is_admitted_name a_tag_value t.value) ok
