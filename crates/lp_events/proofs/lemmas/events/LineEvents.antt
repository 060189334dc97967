-- The events that a sink was told of a line, one after another, and of the lines of a text.
use Rattle.std.proofs.Common.{◌≡◌, ℕ, ◌+◌, ◌<◌, List, [], ◌∷◌, ◌++◌, length, length-append, map, refl, sym, arith, ◌∙◌}
use Rattle.std.proofs.Common.{append_assoc, Some, None, Ok, Result, drop, ℤ, Option, Err, Bor, append-nil, All, eq-eqb, ne_eqb}
use Rattle.std.proofs.lemmas.{List.map_push, List.Elements.All-head, List.Elements.All-tail}
use Rattle.lp_format.specs.format.{comma, Fault, Reading, fatal, miss, reads, Text, cannot_parse_entire_line, byte, Line}
use Rattle.lp_format.specs.format.{answer, after_comma, a_measurement, name, space, spaces, tag, complete, Dialect, answers_of_piece, Left, Pair, trimmed}
use Rattle.lp_values.specs.declared.spelled.SpelledFault.{SpelledFault}
use Rattle.lp_values.specs.code.SpelledParts.{spelled_fault}
use Rattle.lp_events.specs.code.Events.{AreCounted, AreFields, AreMost, AreRead, AreTags, reader_after, Event, TakesAll, WasToldParts, AreEventsOf, AreEventsOfAll, AreToldBefore}
use Rattle.lp_events.specs.code.Events.{WasTold, ended, front_events, named, tagged, valued}
use Rattle.lp_events.specs.code.EventsLeft.{AreEventsLeft, Completes}
use Rattle.lp_events.specs.code.LineSteps.{GivesLine, IsBlankPiece}
use Rattle.lp_events.proofs.lemmas.fields.FrontLemmas.{fields_told, front_fields, front_names}
use Rattle.lp_events.proofs.lemmas.fields.ManyLemmas.{Reached, read_all, read_fault, read_more, reached_more}
use Rattle.lp_format.proofs.lemmas.meanings.ShorterRests.{IsNoLonger}

-- a sink that takes some events and then others takes all of them
pub takes_append : {S : Type 0} (takes : S → Event → S → Type 0) (before mid after : S) (events others : List Event)
    → TakesAll takes before events mid → TakesAll takes mid others after → TakesAll takes before (events ++ others) after
takes_append takes before mid after [] others same told = rw same told
takes_append takes before mid after (event ∷ events) others (next, first, more) told =
    (next, first, takes_append takes next mid after events others more told)

-- a sink that takes some events and then one more takes all of them
pub takes_more : {S : Type 0} (takes : S → Event → S → Type 0) (before mid after : S) (events : List Event) (event : Event)
    → TakesAll takes before events mid → takes mid event after → TakesAll takes before (events ++ event ∷ []) after
takes_more takes before mid after events event told one = grind (arith, takes_append)

-- the sink was told the parts read so far, `count` of them, and `Are` holds of them; the next part can be at `place`
abbrev pub ToldSoFar : {S A : Type 0} → (S → Event → S → Type 0) → (A → Event) → (List ℕ → Reading A) → (List A → Type 0)
    → S → S → List ℕ → ℕ → List ℕ → List ℕ → Type 0
ToldSoFar takes event one Are before after text count rest place =
    WasToldParts takes event before after (λ parts. (count ≡ length parts) × Reached one text parts rest place × Are parts)

module _ {S A : Type 0} (takes : S → Event → S → Type 0) (event : A → Event) (one : List ℕ → Reading A)
    (no_longer : (text : List ℕ) → IsNoLonger text (one text)) where
  module _ (Were Are : List A → Type 0) (before mid after : S) (x : A) (goes_on : (parts : List A) → Were parts → Are (parts ++ x ∷ []))
      (told : takes mid (event x) after) (text : List ℕ) (count : ℕ) (rest place : List ℕ)
      (so_far : ToldSoFar takes event one Were before mid text count rest place) (n : ℕ) (more : n ≡ count + 1) where
    -- the sink was told one more part, which was read
    one_more : (end : List ℕ) → one place ≡ reads x end
        → TakesAll takes before (map event (so_far.parts ++ x ∷ [])) after × (n ≡ length (so_far.parts ++ x ∷ []))
        × AreRead one (after_comma one) (so_far.parts ++ x ∷ []) text end × Are (so_far.parts ++ x ∷ [])
    one_more end is = (
      rw (map_push event so_far.parts x) (takes_more takes before mid after (map event so_far.parts) (event x) so_far.told told),
      grind (arith, so_far.are.0, length-append),
      read_more one (after_comma one) so_far.parts text rest end x so_far.are.1.are (so_far.are.1.next ∙ is),
      goes_on so_far.parts so_far.are.2,
    )

    -- the sink was told one more part, and a comma comes after it
    pub told_next : (end next : List ℕ) → one place ≡ reads x end → byte comma end ≡ reads comma next
        → ToldSoFar takes event one Are before after text n end next
    told_next end next is mark =
        let t = one_more end is in
        record { parts = _; told = t.0; are = (t.1, reached_more one so_far.parts text end next x t.2 mark, t.3) }

    -- the sink was told one more part, and no comma comes after it
    pub told_last : (end : Bor (List ℕ)) → one place ≡ reads x end.now → byte comma end.now ≡ miss
        → WasToldParts takes event before after (λ parts. AreCounted (Ok (Some (n, end))) one text parts × Are parts)
    told_last end is none =
        let t = one_more end.now is in
        let all = read_all one no_longer _ text end.now (omega (arith, t.1, more)) t.2 (last so_far.parts) in
        record { parts = _; told = t.0; are = ((t.1, all.0, all.1), t.3) }
      where
        -- no part is read after the last one
        last : (done : List A) → reader_after one (after_comma one) (done ++ x ∷ []) end.now ≡ miss
        last [] = rw none refl
        last (y ∷ ys) = rw none refl

  module _ (Are : List A → Type 0) (before after : S) (text : List ℕ) (count : ℕ) (place : List ℕ) where
    -- the sink was told all parts if no part reads at the place
    pub told_all : (rest : Bor (List ℕ)) → ToldSoFar takes event one Are before after text count rest.now place → one place ≡ miss
        → 0 < count → WasToldParts takes event before after (λ parts. AreCounted (Ok (Some (count, rest))) one text parts × Are parts)
    told_all rest so_far none some =
        let all = read_all one no_longer so_far.parts text rest.now (omega (arith, so_far.are.0)) so_far.are.1.are (so_far.are.1.next ∙ none) in
        record { parts = so_far.parts; told = so_far.told; are = ((so_far.are.0, all.0, all.1), so_far.are.2) }

    -- the sink was told no parts if no part reads at the place and none was told
    pub told_none : {rest : List ℕ} → ToldSoFar takes event one Are before after text count rest place → one place ≡ miss
        → count ≡ 0 → WasToldParts takes event before after (λ parts. AreCounted (Ok None) one text parts × Are parts)
    told_none so_far none first =
        record { parts = so_far.parts; told = so_far.told; are = (no_part so_far.parts so_far.are.0 so_far.are.1, so_far.are.2) }
      where
        -- no parts were read if their number is 0, and the first part misses
        no_part : {rest : List ℕ} (parts : List A) → count ≡ length parts → Reached one text parts rest place → (one text ≡ miss) × (parts ≡ [])
        no_part [] len reached = (rw reached.are (reached.next ∙ none), refl)
        no_part (x ∷ parts) len reached = absurd (omega (arith, len, first))

    -- the sink was told all parts before a fault if the part at the place is fatal
    pub told_fatal : (rest : List ℕ) (fault : SpelledFault) → ToldSoFar takes event one Are before after text count rest place
        → one place ≡ fatal (spelled_fault fault)
        → WasToldParts takes event before after (λ parts. AreCounted (Err fault) one text parts × Are parts)
    told_fatal rest fault so_far is =
        let fault_is = read_fault one no_longer so_far.parts text rest (spelled_fault fault) so_far.are.1.are (so_far.are.1.next ∙ is) in
        record { parts = so_far.parts; told = so_far.told; are = (fault_is, so_far.are.2) }

-- the sink was told parts of which `Are` holds, if `Are` and another property hold of them
abbrev pub told_these : {S A : Type 0} {takes : S → Event → S → Type 0} {event : A → Event} {before after : S} {Are Also : List A → Type 0}
    → WasToldParts takes event before after (λ parts. Are parts × Also parts) → WasToldParts takes event before after Are
told_these told = record { parts = told.parts; told = told.told; are = told.are.0 }

-- a line is complete if nothing is left of its text
pub complete_none : (l : Line) (rest : List ℕ) → length rest ≡ 0 → complete l rest ≡ Ok l
complete_none l rest none = grind (arith)

-- the text that is left of a line is the fault of the line
pub complete_some : (l : Line) (rest : List ℕ) → 0 < length rest → complete l rest ≡ Err (cannot_parse_entire_line rest)
complete_some l rest some = grind (arith)

-- the sink was told the measurement of a line, and then tags
module _ {S : Type 0} (takes : S → Event → S → Type 0) {before begun mid : S} (line : List ℕ) {start : List ℕ} {m : Text}
    (read : name a_measurement line ≡ reads m start) (first : takes before (named m) begun) where
  -- the sink was told the longest front of a line that is at fault after its tags, where no space comes
  pub tags_fault : {answer : Result Line Fault} {Are : List (Pair Text Text) → Type 0} {rest : List ℕ}
      (tags : WasToldParts takes tagged begun mid Are) (fault : SpelledFault) → answer ≡ Err (spelled_fault fault) → AreMost (after_comma tag) (after_comma tag) start tags.parts rest → byte space rest ≡ miss
      → WasTold takes before mid (AreToldBefore {X = Unit {0}} (Err fault) line answer)
  tags_fault {rest = rest} tags fault is most none = record {
    events = front_events m tags.parts [];
    told = (begun, first, rw (sym (append-nil (map tagged tags.parts))) at tags.told);
    are = (is, front_names read most none);
  }

  -- the sink was told fields, after spaces
  module _ (rest : Bor (List ℕ)) (tags : WasToldParts takes tagged begun mid (AreTags (Ok rest) start)) {gap text : List ℕ}
      (is_gap : byte space rest.now ≡ reads space gap) (text_is : text ≡ drop (spaces rest.now) rest.now) {after : S} (dialect : Dialect)
      (result : Result (Option (Bor (List ℕ))) SpelledFault) (fields : WasToldParts takes valued mid after (AreFields result dialect text)) where
    -- the parts that the sink was told are a front of events
    front_told : TakesAll takes before (front_events m tags.parts fields.parts) after
    front_told = takes_append takes before mid after (named m ∷ map tagged tags.parts) (map valued fields.parts)
        (begun, first, tags.told) fields.told

    -- the sink was told the longest front of a line that is at fault after its fields
    pub fields_fault : {answer : Result Line Fault} (fault : SpelledFault) → answer ≡ Err (spelled_fault fault)
        → WasTold takes before after (AreToldBefore {X = Unit {0}} (Err fault) line answer)
    fields_fault fault is =
        let last = rw text_is at (fields_told result dialect text fields.parts fields.are) in
        record {
          events = _;
          told = front_told;
          are = (is, front_fields read tags.are.3 gap last.0 fields.parts is_gap last.1);
        }

    -- the sink was told all events of a line that ends after its fields
    pub line_told : {answer : Result Line Fault} (last : S) (series : List ℕ) (time : Option ℤ) → takes after (ended series time) last
        → answer ≡ Ok (record { series = series; measurement = m; tags = tags.are.0; fields = fields.parts; timestamp = time })
        → WasTold takes before last (AreToldBefore {X = Unit {0}} (Ok (tt {0})) line answer)
    line_told last series time done is =
        record {
          events = front_events m tags.parts fields.parts ++ ended series time ∷ [];
          told = takes_more takes before after last (front_events m tags.parts fields.parts) (ended series time) front_told done;
          are = (
            record { series = series; measurement = m; tags = tags.are.0; fields = fields.parts; timestamp = time },
            is,
            rw tags.are.2 refl,
          );
        }

-- blank pieces have no events
pub blank_events : (dialect : Dialect) (skipped : List (List ℕ)) → All IsBlankPiece skipped → AreEventsOfAll dialect [] skipped
unfolding answers_of_piece
blank_events dialect [] blank = refl
blank_events dialect (p ∷ skipped) blank =
    grind (arith, eq-eqb, All-head IsBlankPiece p skipped, All-tail IsBlankPiece p skipped, blank_events dialect skipped)

-- the events of pieces after blank ones are the events of the first line and of the pieces after it
line_first : (dialect : Dialect) (skipped : List (List ℕ)) (piece : List ℕ) (pieces : List (List ℕ)) (first others events : List Event)
    → All IsBlankPiece skipped → 0 < length (trimmed piece) → events ≡ first ++ others → AreEventsOf (trimmed piece) first (answer dialect (trimmed piece))
    → AreEventsOfAll dialect others pieces → AreEventsOfAll dialect events (skipped ++ piece ∷ pieces)
unfolding answers_of_piece
line_first dialect [] piece pieces first others events blank some is one all = grind (arith, ne_eqb)
line_first dialect (p ∷ skipped) piece pieces first others events blank some is one all =
    grind (arith, eq-eqb, All-head IsBlankPiece p skipped, All-tail IsBlankPiece p skipped, line_first dialect skipped piece pieces)

-- events that complete a line which was found were left before it
pub line_left : (before after : Left) (line : Bor (List ℕ)) (events : List Event) → GivesLine before (Some line) after
    → Completes line.now [] after events → AreEventsLeft before events
line_left before after line events found h = grind (arith, line_first)

-- a sink was told events which, with the events that are left now, were left before
abbrev pub ToldTo : {S : Type 0} → (S → Event → S → Type 0) → S → S → (List Event → Type 0) → (List Event → Type 0) → Type 0
ToldTo takes before after WereLeft AreLeft =
    WasTold takes before after (λ events. (others : List Event) → AreLeft others → WereLeft (events ++ others))

module _ {S : Type 0} (takes : S → Event → S → Type 0) (before mid after : S) where
  -- a sink that was told some events and then others was told both
  pub told_then : (First Then Last : List Event → Type 0) → ToldTo takes before mid First Then → ToldTo takes mid after Then Last
      → ToldTo takes before after First Last
  told_then First Then Last so_far more =
      record {
        events = so_far.events ++ more.events;
        told = takes_append takes before mid after so_far.events more.events so_far.told more.told;
        are = λ others left. rw append_assoc (so_far.are (more.events ++ others) (more.are others left));
      }

  -- a sink that was told one event and then others was told both
  pub told_one : (event : Event) (WereLeft AreLeft : List Event → Type 0) → takes mid event after
      → ((others : List Event) → AreLeft others → WereLeft (event ∷ others)) → ToldTo takes mid after WereLeft AreLeft
  told_one event WereLeft AreLeft one given = record { events = event ∷ []; told = (after, one, refl); are = given }

  -- a sink that was told the events of a line that was found was told events that were left
  pub told_line : (dialect : Dialect) (found left : Left) (line : Bor (List ℕ)) → found.dialect ≡ dialect → GivesLine found (Some line) left
      → WasTold takes mid after (λ events. AreEventsOf line.now events (answer dialect line.now))
      → ToldTo takes mid after (AreEventsLeft found) (AreEventsLeft left)
  told_line dialect found left line same given was =
      record {
        events = was.events;
        told = was.told;
        are = λ others later. line_left found left line (was.events ++ others) given
            (record { first = was.events; others = others; events_are = refl; line_is = rw (given.0, same) was.are; others_are = later });
      }

-- a sink that was told until no event is left was told all events
pub told_to_end : {S : Type 0} (takes : S → Event → S → Type 0) (before after : S) (WereLeft AreLeft : List Event → Type 0)
    → ToldTo takes before after WereLeft AreLeft → AreLeft [] → WasTold takes before after WereLeft
told_to_end takes before after WereLeft AreLeft so_far none =
    record { events = so_far.events; told = so_far.told; are = rw append-nil at (so_far.are [] none) }
