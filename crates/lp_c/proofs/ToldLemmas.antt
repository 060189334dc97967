-- A line that is told is counted, and shown if parts and room suffice.
use Rattle.std.proofs.Common.{◌≡◌, ◌∙◌, ℕ, ◌+◌, ◌-◌, ◌^◌, ◌<◌, ◌≤◌, List, [], ◌∷◌, ◌++◌, length, map, take, drop}
use Rattle.std.proofs.Common.{Option, Some, None, Ok, false, refl, sym, ap, arith}
use Rattle.std.specs.Prelude.{◌==◌, min, not}
use Rattle.std.specs.List.{sum_by}
use Rattle.std.specs.Option.{is_some}
use Rattle.std.proofs.Math.Seq.{take-add}
use Rattle.std.proofs.lemmas.Bool.{ne_eqb}
use Rattle.std.proofs.lemmas.List.{drop-drop, drop_at, length-map, length-take-le, take_all, take_at}
use Rattle.std.proofs.lemmas.List.Sums.{sum_by-cons}
use Rattle.influxdb_line_protocol.specs.code.Events.{AreEventsOf, Event, TakesAll, events_of_line}
use Rattle.influxdb_line_protocol.specs.format.Dialects.{Dialect}
use Rattle.influxdb_line_protocol.specs.format.Lines as format
use Rattle.influxdb_line_protocol.specs.format.Lines.{answer, some_tags}
use Rattle.influxdb_line_protocol.specs.format.Points.{Pair}
use Rattle.influxdb_line_protocol.specs.format.Readings.{Text}
use Rattle.lp_lines.proofs.lemmas.line.AnsweredLines.{HasSome, line_some_tags}
use Rattle.lp_offsets.proofs.SinkLemmas.{Sink, ToldEvents, answer_told, keep_all, line_len}
use Rattle.lp_offsets.specs.Sinks.{Keeps, all_shown}
use Rattle.lp_c.specs.Crossing.{copied_field, copied_tag, field_shown, tag_shown}
use Rattle.lp_c.specs.Telling.{Tells, Told, ToldLine, WaitsLine, event_copied, field_filled, filled_own, filled_part, filled_parts}
use Rattle.lp_c.specs.Telling.{lent_of, part_len, tag_filled, told_line, view_filled, view_len}
use Rattle.lp_c.specs.declared.telling.Telling.{Telling}
use Rattle.lp_c.specs.declared.views.Part.{Part}

-- what this sink does with each event
pub telling_sink : Sink Tells lent_of (λ s. s.fault) (λ text. view_filled) (λ text. tag_filled) (λ text. field_filled) view_len part_len
    (λ name. name) (λ tag. Some tag) (λ field. Some field)
telling_sink = record {
  keeps = λ old new event one. one.keeps;
  faults = λ old new event one. one.fault;
  names = λ old new name one. one.does;
  tags = λ old new tag one. one.does;
  fields = λ old new field one. one.does;
  ends = λ old new l one. one.does.1;
}

-- all events keep what one keeps
pub all_told : (old new : Telling) (events : List Event) → TakesAll Tells old events new → Keeps (lent_of old) (lent_of new)
all_told = keep_all _ _ _ _ _ _ _ _ _ _ _ telling_sink

-- the copies of all events are counted
counted_all : (old new : Telling) (events : List Event) → old.copied_len < 2 ^ 64 → TakesAll Tells old events new
    → new.copied_len ≡ min (old.copied_len + sum_by event_copied events) (2 ^ 64 - 1)
counted_all old new [] small same = rw (← same) (omega (arith, small))
counted_all old new (event ∷ events) small (mid, first, more) =
    let one = first.counted small in
    omega (arith, counted_all mid new events (omega (arith, one)) more, one, sum_by-cons event_copied event events)

-- parts show the same one by one as together
filled_alike : {B : Type 0} (shown : Part → B) (room : List ℕ) (at : ℕ) (parts : List Part)
    → all_shown (λ at part. shown (filled_part (drop at room) part)) part_len at parts ≡ map shown (filled_parts (drop at room) parts)
filled_alike shown room at [] = refl
filled_alike shown room at (p ∷ ps) =
    ap (λ others. shown (filled_part (drop at room) p) ∷ others) (filled_alike shown room (at + part_len p) ps
    ∙ ap (λ r. map shown (filled_parts r ps)) (sym (drop-drop (part_len p) at room)))

-- the copies of parts come after those of the parts before them
filled_append : (room : List ℕ) (ps qs : List Part)
    → filled_parts room (ps ++ qs) ≡ filled_parts room ps ++ filled_parts (drop (sum_by part_len ps) room) qs
filled_append room [] qs = refl
filled_append room (p ∷ ps) qs =
    let after : drop (sum_by part_len ps) (drop (part_len p) room) ≡ drop (sum_by part_len (p ∷ ps)) room =
    drop-drop (sum_by part_len ps) (part_len p) room ∙ ap (λ n. drop n room) (sym (sum_by-cons part_len p ps)) in
    ap (λ l. filled_part room p ∷ l) (filled_append (drop (part_len p) room) ps qs
    ∙ ap (λ r. filled_parts (drop (part_len p) room) ps ++ filled_parts r qs) after)

-- as many parts have their copies
filled_length : (room : List ℕ) (ps : List Part) → length (filled_parts room ps) ≡ length ps
filled_length room [] = refl
filled_length room (p ∷ ps) = omega (arith, filled_length (drop (part_len p) room) ps)

-- a line has a tag set if it has tags
tag_set_told : (tags : Option (List (Pair Text Text))) (n : ℕ) → HasSome tags → n ≡ length (some_tags tags)
    → not (n == 0) ≡ is_some tags
tag_set_told None n some is = rw is refl
tag_set_told (Some tags) n some is =
    let other : (n == 0) ≡ false = ne_eqb n 0 (λ none. omega (arith, none, is, some)) in rw other refl

module _ (dialect : Dialect) (l : format.Line) (old new : Telling) (is : answer dialect old.text.now ≡ Ok l) (none : old.copied_len ≡ 0)
    (told : ToldEvents _ _ _ _ _ _ _ _ _ _ _ telling_sink l old new) where
  -- the line waits for its copies, if parts and room suffice
  waits_line : new.tags + new.fields ≤ length new.parts.now → new.copied_len ≤ length new.room.now.bytes.now
      → WaitsLine l (told_line new) new.parts.now new.room.now.bytes.now
  waits_line fits enough =
      let t = new.tags in
      let f = new.fields in
      let ps = new.parts.now in
      let room = new.room.now.bytes.now in
      let view = new.line.now.measurement in
      let ends = told.last.does.0 in
      let all = rw none at told.shows fits in
      let tags = take t ps in
      let fields = take f (drop t ps) in
      let own = drop (view_len view) room in
      let full_tags = filled_parts own tags in
      let full_fields = filled_parts (drop (sum_by part_len tags) own) fields in
      let full : filled_own room (told_line new) ps ≡ full_tags ++ full_fields =
      ap (filled_parts own) (take-add t f ps) ∙ filled_append own tags fields in
      let many : length full_tags ≡ t = filled_length own tags ∙ length-take-le t ps (omega (arith, fits)) in
      let start : view_len view ≡ 0 + view_len view = omega arith in
      let tags_shown : map tag_shown full_tags ≡ map (λ tag. Some tag) (some_tags l.tags) =
      ap (λ n. map tag_shown (filled_parts (drop n room) tags)) start
      ∙ (sym (filled_alike tag_shown room (0 + view_len view) tags) ∙ all.tags enough room refl) in
      let fields_shown : map field_shown full_fields ≡ map (λ field. Some field) l.fields =
      ap (λ r. map field_shown (filled_parts r fields)) (drop-drop (sum_by part_len tags) (view_len view) room)
      ∙ (ap (λ n. map field_shown (filled_parts (drop (n + sum_by part_len tags) room) fields)) start
      ∙ (sym (filled_alike field_shown room (0 + view_len view + sum_by part_len tags) fields) ∙ all.fields enough room refl)) in
      let few : length full_fields ≤ f = omega (
        arith,
        told.fields,
        ap length fields_shown,
        length-map full_fields field_shown,
        length-map l.fields (λ field. Some field),
      ) in
      record {
        takes = omega (arith, all.takes enough);
        shows = record {
          series = ends.series;
          measurement = all.name enough room refl;
          has_tag_set = ends.has_tag_set
              ∙ tag_set_told l.tags told.before.tags (line_some_tags dialect old.text.now l is) (sym told.last.does.1.tags ∙ told.tags);
          tags = ap (λ parts. map tag_shown (take t parts)) full
              ∙ (ap (map tag_shown) (take_at full_tags full_fields t many) ∙ tags_shown);
          fields = ap (λ parts. map field_shown (take f (drop t parts))) full
              ∙ (ap (λ parts. map field_shown (take f parts)) (drop_at full_tags full_fields t many)
              ∙ (ap (map field_shown) (take_all f full_fields few) ∙ fields_shown));
          timestamp = ends.timestamp;
          no_timestamp = ends.no_timestamp;
          series_is_base = ends.base dialect l (ap (answer dialect) told.text ∙ is);
          fault = ends.fault;
          side = ends.side;
        };
      }

  -- the line was told
  told_is : TakesAll Tells old (events_of_line l) new → ToldLine l (told_line new) new.parts.now new.room.now.bytes.now
  told_is all = record {
    counts = record {
      tags = told.tags;
      fields = told.fields;
      copied_len = omega (
        arith,
        none,
        counted_all old new (events_of_line l) (omega (arith, none)) all,
        line_len event_copied copied_tag copied_field (λ tag. refl) (λ field. refl) l,
      );
    };
    waits = waits_line;
  }

-- what the format answers for a line was told
pub told_answer : (dialect : Dialect) (old new : Telling) (events : List Event) → length old.text.now < 2 ^ 63 → old.fault ≡ None
    → old.copied_len ≡ 0 → AreEventsOf old.text.now events (answer dialect old.text.now) → TakesAll Tells old events new
    → Told (answer dialect old.text.now) new.fault (told_line new) new.parts.now new.room.now.bytes.now
told_answer dialect old new events short none empty are told =
    answer_told _ _ _ _ _ _ _ _ _ _ _ telling_sink dialect old.text.now old new events
    (λ read. ToldLine read (told_line new) new.parts.now new.room.now.bytes.now) short none are told
    (λ l is all line. told_is dialect l old new is empty line all)
