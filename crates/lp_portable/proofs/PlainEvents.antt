-- The notes about a line that is read to its end.
use Rattle.std.proofs.Common.{◌≡◌, ℕ, ◌+◌, ◌≤◌, ◌&&◌, Bool, true, false, not, List, [], ◌∷◌, ◌++◌, length, map, Ok, Err, Result, refl, sym, ◌∙◌, ap, arith, nat_lt}
use Rattle.std.specs.{List.AllByRecursion, Prelude.if◌then◌else◌}
use Rattle.std.proofs.lemmas.Bool.{and_parts, false≢true, ltb-true}
use Rattle.lp_format.specs.format.{Fault, Line, Pair, Text, Value, some_tags}
use Rattle.lp_events.specs.code.Events.{AreEventsOf, Event, TakesAll, ended, events_of_line, failed, named, tagged, valued}
use Rattle.lp_events.specs.code.OwnBases.{is_strictly_sorted}
use Rattle.lp_portable.specs.declared.plain.Noting.{Noting}
use Rattle.lp_portable.specs.code.Sure.{Noted, TakesNoted, begins_own, is_sure_key, is_sure_tag, is_sure_value, none_noted, note, note_field, note_tag}
use Rattle.lp_portable.specs.code.Sure.{LineNoted, SureField, SureTag, noted, rises, unsure}
use Rattle.std.proofs.Common.{subst, append_assoc, zero-add}
use Rattle.std.proofs.lemmas.Bool.{not-true}
use Rattle.lp_portable.proofs.Repeats.{risen_once}

-- The notes after a list of events.
abbrev note_all : Noted → List Event → Noted
note_all n [] = n
note_all n (e ∷ es) = note_all (note n e) es

-- the sink has noted what it was told
told_all : (events : List Event) (old new : Noting) → TakesAll TakesNoted old events new → noted new ≡ note_all (noted old) events
told_all [] old new h = ap noted (sym h)
told_all (e ∷ es) old new h = told_all es h.0 new h.2 ∙ ap (λ n. note_all n es) h.1

-- After an unsure event, the notes stay unsure.
stays_unsure : (e : Event) → note unsure e ≡ unsure
stays_unsure (named m) = refl
stays_unsure (tagged t) = either (t.key.is_single && t.value.is_single)
  where
    -- Both branches of the choice are unsure notes.
    either : (b : Bool) → (if b then unsure else unsure) ≡ unsure
    either true = refl
    either false = refl
stays_unsure (valued f) = either f.key.is_single
  where
    -- Both branches of the choice are unsure notes.
    either : (b : Bool) → (if b then unsure else unsure) ≡ unsure
    either true = refl
    either false = refl
stays_unsure (ended series timestamp) = refl
stays_unsure (failed fault) = refl

-- After any events, unsure notes stay unsure.
all_unsure : (es : List Event) → note_all unsure es ≡ unsure
all_unsure [] = refl
all_unsure (e ∷ es) = ap (λ n. note_all n es) (stays_unsure e) ∙ all_unsure es

-- A choice gives its first value if its test holds.
chosen : {A : Type 0} {b : Bool} (x y : A) → b ≡ true → (if b then x else y) ≡ x
chosen x y is = rw is refl

-- If the notes reach the end of the line, the test before the events held.
was_sure : (b : Bool) (n : Noted) (es : List Event) → (note_all (if b then n else unsure) es).is_ended ≡ true
    → (b ≡ true) × ((note_all n es).is_ended ≡ true)
was_sure true n es h = (refl, h)
was_sure false n es h = absurd (false≢true (sym (ap (λ m. m.is_ended) (all_unsure es)) ∙ h))

-- The notes after the events of tags.
record TagsNoted (n : Noted) (tags : List (Pair Text Text)) (es : List Event) : Type 0 where
  next : Noted
  same : note_all n (map tagged tags ++ es) ≡ note_all next es
  rise : is_strictly_sorted (n.last_tag ∷ map (λ t. t.key.bytes) tags) ≡ true
  sure : AllByRecursion SureTag tags
  count : next.tags ≡ n.tags + length tags
  few : n.tags ≤ 29 → next.tags ≤ 29
  fields : next.last_field ≡ n.last_field
  no_field : next.fields ≡ n.fields

-- tags that were noted before the end of a line
tags_noted : (tags : List (Pair Text Text)) (n : Noted) (es : List Event) → (note_all n (map tagged tags ++ es)).is_ended ≡ true → TagsNoted n tags es
tags_noted [] n es h = record { next = n; same = refl; rise = refl; sure = tt; count = omega arith; few = λ few. few; fields = refl; no_field = refl }
tags_noted (t ∷ tags) n es h =
    let n2 : Noted = record n { tags = n.tags + 1; last_tag = t.key.bytes } in
    let (single, h2) = was_sure (t.key.is_single && t.value.is_single) (note_tag n t.key.bytes) (map tagged tags ++ es) h in
    let (all, h3) = was_sure (n.is_sure && (nat_lt n.tags 29 && (rises n.last_tag t.key.bytes && is_sure_tag t.key.bytes))) n2
    (map tagged tags ++ es) h2 in
    let first = and_parts n.is_sure _ all in
    let second = and_parts (nat_lt n.tags 29) _ first.1 in
    let third = and_parts (rises n.last_tag t.key.bytes) _ second.1 in
    let more = tags_noted tags n2 es h3 in
    record {
      next = more.next;
      same = ap (λ (m : Noted). note_all m (map tagged tags ++ es)) (chosen _ unsure single ∙ chosen n2 unsure all) ∙ more.same;
      rise = rw third.0 more.rise;
      sure = (record { tag = third.1 }, more.sure);
      count = omega (arith, more.count);
      few = λ few. more.few (omega (arith, ltb-true n.tags 29 second.0));
      fields = more.fields;
      no_field = more.no_field;
    }

-- The notes after the events of fields.
record FieldsNoted (n : Noted) (fields : List (Pair Text (Value Text))) (es : List Event) : Type 0 where
  next : Noted
  same : note_all n (map valued fields ++ es) ≡ note_all next es
  rise : is_strictly_sorted (n.last_field ∷ map (λ f. f.key.bytes) fields) ≡ true
  sure : AllByRecursion SureField fields
  count : next.tags ≡ n.tags
  more : next.fields ≡ n.fields + length fields
  few : n.fields ≤ 4000 → next.fields ≤ 4000

-- fields that were noted before the end of a line
fields_noted : (fields : List (Pair Text (Value Text))) (n : Noted) (es : List Event) → (note_all n (map valued fields ++ es)).is_ended ≡ true
    → FieldsNoted n fields es
fields_noted [] n es h = record { next = n; same = refl; rise = refl; sure = tt; count = refl; more = omega arith; few = λ few. few }
fields_noted (f ∷ fields) n es h =
    let n2 : Noted = record n { fields = n.fields + 1; last_field = f.key.bytes } in
    let (single, h2) = was_sure f.key.is_single (note_field n f.key.bytes f.value) (map valued fields ++ es) h in
    let (all, h3) = was_sure (n.is_sure && (nat_lt n.fields 4000 && (rises n.last_field f.key.bytes && (is_sure_key f.key.bytes && is_sure_value f.value)))) n2
    (map valued fields ++ es) h2 in
    let first = and_parts n.is_sure _ all in
    let second = and_parts (nat_lt n.fields 4000) _ first.1 in
    let third = and_parts (rises n.last_field f.key.bytes) _ second.1 in
    let fourth = and_parts (is_sure_key f.key.bytes) _ third.1 in
    let more = fields_noted fields n2 es h3 in
    record {
      next = more.next;
      same = ap (λ (m : Noted). note_all m (map valued fields ++ es)) (chosen _ unsure single ∙ chosen n2 unsure all) ∙ more.same;
      rise = rw third.0 more.rise;
      sure = (record { key = fourth.0; value = fourth.1 }, more.sure);
      count = more.count;
      more = omega (arith, more.more);
      few = λ few. more.few (omega (arith, ltb-true n.fields 4000 second.0));
    }

-- keys that rise after nothing rise
rise_alone : (keys : List (List ℕ)) → is_strictly_sorted ([] ∷ keys) ≡ true → is_strictly_sorted keys ≡ true
rise_alone [] h = refl
rise_alone (k ∷ keys) h = (and_parts _ (is_strictly_sorted (k ∷ keys)) h).1

-- The notes after the events of a line agree with the line.
line_noted : (line : Line) → (note_all none_noted (events_of_line line)).is_ended ≡ true → LineNoted line (note_all none_noted (events_of_line line))
line_noted line h =
    let tags = some_tags line.tags in
    let fields = line.fields in
    let end = ended line.series line.timestamp in
    let es = map valued fields ++ end ∷ [] in
    let first = note none_noted (named line.measurement) in
    let order : events_of_line line ≡ named line.measurement ∷ (map tagged tags ++ es) =
    ap (λ (events : List Event). named line.measurement ∷ events) (append_assoc (map tagged tags) (map valued fields) (end ∷ [])) in
    let h1 = subst (λ (events : List Event). (note_all none_noted events).is_ended ≡ true) order h in
    let (named_is, h2) = was_sure (true && (line.measurement.is_single && not (begins_own line.measurement.bytes))) none_noted (map tagged tags ++ es) h1 in
    let told = tags_noted tags none_noted es h2 in
    let h3 = subst (λ (n : Noted). n.is_ended ≡ true) told.same h2 in
    let more = fields_noted fields told.next (end ∷ []) h3 in
    let h4 = subst (λ (n : Noted). n.is_ended ≡ true) more.same h3 in
    let last : Noted = record more.next { is_ended = true; timestamp = line.timestamp } in
    let (sure, h5) = was_sure more.next.is_sure last [] h4 in
    let same : note_all none_noted (events_of_line line) ≡ last =
    ap (note_all none_noted) order ∙ ap (λ (n : Noted). note_all n (map tagged tags ++ es)) (chosen none_noted unsure named_is)
    ∙ told.same ∙ more.same ∙ chosen last unsure sure in
    subst (LineNoted line) (sym same) (record {
      measurement = not-true (begins_own line.measurement.bytes) (and_parts line.measurement.is_single _ named_is).1;
      tags = told.sure;
      tags_once = risen_once (map (λ t. t.key.bytes) tags) (rise_alone (map (λ t. t.key.bytes) tags) told.rise);
      fields = more.sure;
      fields_once = risen_once (map (λ f. f.key.bytes) fields) (rise_alone (map (λ f. f.key.bytes) fields)
          (subst (λ (k : List ℕ). is_strictly_sorted (k ∷ map (λ f. f.key.bytes) fields) ≡ true) told.fields more.rise));
      count = more.count ∙ told.count ∙ zero-add (length tags);
      few = subst (λ (n : ℕ). n ≤ 29) (sym more.count) (told.few (omega arith));
      count_fields = omega (arith, more.more, told.no_field);
      few_fields = more.few (omega (arith, told.no_field));
      timestamp = refl;
    })

-- a line at fault is not read to its end
fault_noted : (front : List Event) (fault : Fault) (n : Noted) → (note_all n (front ++ failed fault ∷ [])).is_ended ≡ false
fault_noted [] fault n = refl
fault_noted (e ∷ es) fault n = fault_noted es fault (note n e)

-- The notes after the events of a text agree with the line that is read from the text.
pub text_noted : (line : List ℕ) (events : List Event) (answer : Result Line Fault) (old new : Noting) → noted old ≡ none_noted
    → TakesAll TakesNoted old events new → AreEventsOf line events answer → new.is_ended ≡ true
    → (l : Line) × (answer ≡ Ok l) × LineNoted l (noted new)
text_noted line events (Ok l) old new start told are h =
    let all : noted new ≡ note_all none_noted (events_of_line l) =
    told_all events old new told ∙ ap (λ (n : Noted). note_all n events) start ∙ ap (note_all none_noted) are in
    let ends : (note_all none_noted (events_of_line l)).is_ended ≡ true = ap (λ (n : Noted). n.is_ended) (sym all) ∙ h in
    (l, refl, subst (LineNoted l) (sym all) (line_noted l ends))
text_noted line events (Err fault) old new start told (front, longest, are) h =
    let all : noted new ≡ note_all none_noted (front ++ failed fault ∷ []) =
    told_all events old new told ∙ ap (λ (n : Noted). note_all n events) start ∙ ap (note_all none_noted) are in
    absurd (false≢true (sym (ap (λ (n : Noted). n.is_ended) all ∙ fault_noted front fault none_noted) ∙ h))
