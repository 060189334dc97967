-- The effect of one step of a reader on the events that are left.
use Rattle.std.proofs.Common.{◌∙◌, ◌≡◌, ℕ, ◌-◌, ◌<◌, List, [], ◌∷◌, ◌++◌, length, drop, Bool, true, false, refl, sym, ap, subst, arith}
use Rattle.std.proofs.Common.{append_assoc, length-append, length-drop, length-take, ◌+◌, ◌≤◌, ℤ, MatchOption, Option}
use Rattle.std.proofs.Common.{Result, Ok, Err, is_some, IfOk, MatchResult, Bor, ne_eqb, append-nil}
use Rattle.std.proofs.Math.Seq.{take-append_seam}
use Rattle.std.proofs.lemmas.{Bool.cases_Bool, Bool.Decides.nat_tests, Grind.common_steps, List.map_push, Result.err_from_is_err_and}
use Rattle.lp_events.specs.declared.pull.Event as given
use Rattle.lp_format.specs.format.{comma, space, Dialect, after_comma, answer, byte, field, field_set, front_before, spaces, tag}
use Rattle.lp_format.specs.format.{timestamp, without_comma, NameKind, name, Left, Pair, Fault, Text, cannot_parse_entire_line}
use Rattle.lp_format.specs.format.{fatal, miss, reads, tag_set_malformed, Value}
use Rattle.lp_values.proofs.lemmas.fields.ReadingLemmas.{EndsIn, bind_reads, byte_parts, name_ends, name_parts}
use Rattle.lp_values.specs.declared.spelled.SpelledFault.{SpelledFault}
use Rattle.lp_events.specs.code.Events.{reader_after, AreEventsOf, AreLongestFront, AreMost, Event, ended, failed, front_events, tagged, valued}
use Rattle.lp_events.specs.code.EventsLeft.{AreEventsLeft, Completes, FieldsRead, NamesRead, SeriesRead, Steps, most_of_line}
use Rattle.lp_events.specs.declared.{place.LinePlace.LinePlace}
use Rattle.lp_events.specs.code.Stops.{DoesNotRead}
use Rattle.lp_events.proofs.lemmas.fields.ManyLemmas.{after_some, are_most, read_all, read_fault, read_more, same_reader}
use Rattle.lp_format.proofs.lemmas.meanings.ShorterRests.{field_no_longer}
use Rattle.lp_events.proofs.lemmas.fields.FrontLemmas.{comma_no_space, front_fields, front_names, front_none, none_read, set_all, set_fatal}
use Rattle.lp_events.proofs.lemmas.events.LineEvents.{complete_none, complete_some}

-- events that complete a line after one more event complete it together with this event
pub completes_more : {line : List ℕ} {front : List Event} {event : Event} {left : Left} {others : List Event}
    → Completes line (front ++ event ∷ []) left others → Completes line front left (event ∷ others)
completes_more {line} {front} {event} {left} h =
    record {
      first = event ∷ h.first;
      others = h.others;
      events_are = ap (λ (es : List Event). event ∷ es) h.events_are;
      line_is = subst (λ es. AreEventsOf line es (answer left.dialect line)) (append_assoc front (event ∷ []) h.first) h.line_is;
      others_are = h.others_are;
    }

-- a fault completes its line
pub completes_fault : {line : List ℕ} {front : List Event} {fault : Fault} {left : Left} {others : List Event} → AreLongestFront line front
    → answer left.dialect line ≡ Err fault → AreEventsLeft left others → Completes line front left (failed fault ∷ others)
completes_fault {front = front} {fault = fault} {others = others} is_front is h =
    record { first = failed fault ∷ []; others = others; events_are = refl; line_is = rw is (front, is_front, refl); others_are = h }

-- the rest after a name is shorter than the text
pub name_shorter : (kind : NameKind) (text : List ℕ) (t : Text) (rest : List ℕ) → name kind text ≡ reads t rest → length rest < length text
unfolding name
name_shorter kind text t rest e = grind (arith, cases_Bool, nat_tests, name_parts, length-drop, length-take)

-- the front before an end of a line, together with this end, is the line
pub front_is : (line rest : List ℕ) → EndsIn line rest → front_before line rest ++ rest ≡ line
front_is line rest h =
    let n : length (h.front ++ rest) - length rest ≡ length h.front = omega (arith, length-append h.front rest) in
    rw (h.is, n, take-append_seam h.front rest) refl

-- a text begins with a comma if a comma was stripped
pub stripped : (result : Option (Bor (List ℕ))) (text : List ℕ)
    → MatchOption result (byte comma text ≡ miss) (λ rest. byte comma text ≡ reads comma rest.now) → is_some result ≡ true
    → (place : List ℕ) × (byte comma text ≡ reads comma place)
stripped place text is some = grind (arith)

-- a text does not begin with a comma if no comma was stripped
pub not_stripped : (result : Option (Bor (List ℕ))) (text : List ℕ)
    → MatchOption result (byte comma text ≡ miss) (λ rest. byte comma text ≡ reads comma rest.now) → is_some result ≡ false
    → byte comma text ≡ miss
not_stripped place text is none = grind (arith)

-- a step gives the first of some events if it gives the first of events that are enough for them
pub steps_from : (Are Wanted : Left → List Event → Type 0) (result : Result (given.Event × LinePlace) SpelledFault)
    → ((left : Left) (events : List Event) → Are left events → Wanted left events) → Steps Are result → Steps Wanted result
steps_from re anted fault on h = grind (arith)

module _ {line : List ℕ} {m : Text} {tags : List (Pair Text Text)} {rest : List ℕ} {is_first : Bool} (h : NamesRead line m tags rest is_first) where
  -- one more tag is read after a comma
  pub names_more : (t : Pair Text Text) (after : List ℕ) → after_comma tag rest ≡ reads t after → NamesRead line m (tags ++ t ∷ []) after false
  names_more t after is =
      let read = read_more (after_comma tag) (after_comma tag) tags h.start rest after t h.tags_are (rw (same_reader (after_comma tag) tags) is) in
      record { start = h.start; name_is = h.name_is; tags_are = read; first_is = grind (arith, length-append, ne_eqb) }

  -- the tags are the most if no tag reads after a comma
  names_most : DoesNotRead (after_comma tag rest) → AreMost (after_comma tag) (after_comma tag) h.start tags rest
  names_most none = are_most (after_comma tag) (after_comma tag) tags h.start rest h.tags_are (rw (same_reader (after_comma tag) tags) none)

  -- the events of the tags are the longest front of the line if a comma comes after them and no tag reads after it
  pub names_front : {place : List ℕ} → byte comma rest ≡ reads comma place → DoesNotRead (after_comma tag rest)
      → AreLongestFront line (front_events m tags [])
  names_front {place} mark none = front_names h.name_is (names_most none) (comma_no_space rest place mark)

  -- a fatal tag after a comma is the fault of the line
  pub names_fatal : (dialect : Dialect) (fault : Fault) → after_comma tag rest ≡ fatal fault → answer dialect line ≡ Err fault
  unfolding answer
  names_fatal dialect fault is = rw (h.name_is, set_fatal tags h.start rest fault h.tags_are is) refl

  -- a comma after the measurement without a tag is malformed
  pub names_malformed : {place : List ℕ} (dialect : Dialect) → is_first ≡ true → byte comma rest ≡ reads comma place
      → after_comma tag rest ≡ miss → answer dialect line ≡ Err tag_set_malformed
  unfolding answer
  names_malformed dialect first mark is =
      let start : h.start ≡ rest = none_read tags h.start rest (sym h.first_is ∙ first) h.tags_are in
      rw (h.name_is, start, mark, rw mark at is) refl

  -- all tags were read if no tag follows
  pub names_end : (is_first ≡ true → byte comma rest ≡ miss) → after_comma tag rest ≡ miss → SeriesRead line m tags rest
  names_end bare is =
      let set = set_all tags h.start rest h.tags_are is (λ none. bare (h.first_is ∙ none)) in
      record { start = h.start; set = set.0; name_is = h.name_is; most = names_most (rw is (tt {0})); set_is = set.1; tags_are = set.2 }

-- the first field is read after the tags and the spaces
pub first_read : {line : List ℕ} {m : Text} {tags : List (Pair Text Text)} {rest : List ℕ} → SeriesRead line m tags rest
    → (gap : List ℕ) (x : Pair Text (Value Text)) (after : List ℕ) → byte space rest ≡ reads space gap
    → field (drop (spaces rest) rest) ≡ reads x after
    → FieldsRead line (front_before line rest) m tags (x ∷ []) after true
first_read {rest = rest} h gap x after s f = grind (arith)

module _ {line series : List ℕ} {m : Text} {tags : List (Pair Text Text)} {fields : List (Pair Text (Value Text))} {rest : List ℕ}
    {is_first : Bool} (h : FieldsRead line series m tags fields rest is_first) where
  -- the next field comes after a comma
  next_is : reader_after field (after_comma field) fields ≡ after_comma field
  next_is = after_some field (after_comma field) fields h.some

  -- one more field is read after a comma
  pub fields_more : (x : Pair Text (Value Text)) (after : List ℕ) → after_comma field rest ≡ reads x after
      → FieldsRead line series m tags (fields ++ x ∷ []) after false
  fields_more x after is =
      let read = read_more field (after_comma field) fields _ rest after x h.fields_are (rw next_is is) in
      grind (arith, length-append, ne_eqb)

  -- the events of the fields are the longest front of the line if no field reads after a comma
  pub fields_front : DoesNotRead (after_comma field rest) → AreLongestFront line (front_events m tags fields)
  fields_front none = front_fields h.series_read.name_is h.series_read.most h.gap rest fields h.gap_is
      (are_most field (after_comma field) fields _ rest h.fields_are (rw next_is none))

  -- a fatal field after a comma is the fault of the line
  pub fields_fatal : (dialect : Dialect) (fault : Fault) → after_comma field rest ≡ fatal fault → answer dialect line ≡ Err fault
  unfolding answer
  fields_fatal dialect fault is =
      let given = (read_fault field field_no_longer fields _ rest fault h.fields_are (rw next_is is)).given in
      rw (h.series_read.name_is, h.series_read.set_is, h.gap_is, given) refl

  -- no field follows the fields
  module _ (dialect : Dialect) (none : after_comma field rest ≡ miss) where
    -- the fields are the whole field set
    all_fields : field_set dialect (drop (spaces h.after) h.after) ≡ reads fields (without_comma dialect fields rest)
    all_fields = rw (read_all field field_no_longer fields _ rest h.some h.fields_are (rw next_is none)).0 refl

    -- a timestamp at fault is the fault of the line
    pub time_fault : (fault : Fault) → timestamp (without_comma dialect fields rest) ≡ Err fault → answer dialect line ≡ Err fault
    unfolding answer
    time_fault fault t = grind (arith, all_fields, h.series_read)

    -- the text that is left after the timestamp is the fault of the line
    pub left_fault : (time : Option ℤ) (more : List ℕ)
        → timestamp (without_comma dialect fields rest) ≡ Ok (record { value = time; rest = more }) → 0 < length more
        → answer dialect line ≡ Err (cannot_parse_entire_line more)
    unfolding answer
    left_fault time more t some = grind (arith, all_fields, h.series_read, complete_some)

    -- the end completes the line if nothing is left after the timestamp
    pub completes_end : (left : Left) (others : List Event) (time : Option ℤ) (more : List ℕ) → left.dialect ≡ dialect
        → timestamp (without_comma dialect fields rest) ≡ Ok (record { value = time; rest = more }) → length more ≡ 0
        → AreEventsLeft left others → Completes line (front_events m tags fields) left (ended series time ∷ others)
    unfolding answer
    completes_end left others time more d t empty later =
        record {
          first = ended series time ∷ [];
          others = others;
          events_are = refl;
          line_is = rw (
            d,
            h.series_read.name_is,
            h.series_read.set_is,
            h.gap_is,
            all_fields,
            t,
            h.series_is,
            complete_none _ more empty,
            h.series_read.tags_are,
          ) refl;
          others_are = later;
        }

-- the events of a front with one more tag are the events of the front and then the tag
pub tag_after : (m : Text) (tags : List (Pair Text Text)) (t : Pair Text Text)
    → front_events m (tags ++ t ∷ []) [] ≡ front_events m tags [] ++ tagged t ∷ []
tag_after m tags t = grind (arith, append-nil, map_push)

-- the events of a front with one more field are the events of the front and then the field
pub field_after : (m : Text) (tags : List (Pair Text Text)) (fields : List (Pair Text (Value Text))) (x : Pair Text (Value Text))
    → front_events m tags (fields ++ x ∷ []) ≡ front_events m tags fields ++ valued x ∷ []
field_after m tags fields x = simp (append_assoc, map_push)

-- fewer events are left after a step that leaves fewer events of its line
pub step_less : (result : Result (given.Event × LinePlace) SpelledFault) (line after before : ℕ) → IfOk result (λ p. most_of_line p.1 < line + 1)
    → line + 1 + after ≤ before → MatchResult result (λ p. most_of_line p.1 + after < before) (λ fault. after < before)
step_less fault line after before less fits = grind (arith)

-- rules for the first steps of a line
pub ruleset first_steps = (common_steps, err_from_is_err_and, completes_fault, front_is, front_none, name_ends, name_shorter)
