-- A line that is told by offsets is counted, and shown if parts and room suffice.
use Rattle.std.proofs.Common.{◌≡◌, ◌∙◌, ℕ, ◌+◌, ◌^◌, ◌<◌, ◌≤◌, List, [], ◌∷◌, length, map, Some, None, Ok, refl, sym, ap, arith}
use Rattle.std.specs.List.{sum_by}
use Rattle.std.proofs.lemmas.List.Sums.{sum_by-cons}
use Rattle.influxdb_line_protocol.specs.code.Events.{AreEventsOf, Event, TakesAll}
use Rattle.influxdb_line_protocol.specs.format.Dialects.{Dialect}
use Rattle.influxdb_line_protocol.specs.format.Lines as format
use Rattle.influxdb_line_protocol.specs.format.Lines.{answer, logical_field, logical_tag}
use Rattle.lp_offsets.specs.Offsets.{field_at, field_len, part_room, tag_at, tag_len, texts_len}
use Rattle.lp_offsets.specs.Placing.{Places, ToldAnswer, ToldRead, event_len, field_placed, lent_of, name_placed, name_room, tag_placed, told_of}
use Rattle.lp_offsets.specs.Sinks.{Keeps, all_shown}
use Rattle.lp_offsets.specs.declared.placing.Placing.{Placing}
use Rattle.lp_offsets.proofs.SinkLemmas.{Sink, ToldEvents, answer_told, keep_all, line_len}

-- what this sink does with each event
pub placing_sink : Sink Places lent_of (λ s. s.fault) name_placed tag_placed field_placed name_room part_room (λ name. name.bytes)
    (λ tag. Some (logical_tag tag)) (λ field. Some (logical_field field))
placing_sink = record {
  keeps = λ old new event one. one.keeps;
  faults = λ old new event one. one.fault;
  names = λ old new name one. one.does;
  tags = λ old new tag one. one.does;
  fields = λ old new field one. one.does;
  ends = λ old new l one. one.does.1;
}

-- all events keep what one keeps
pub all_placed : (old new : Placing) (events : List Event) → TakesAll Places old events new → Keeps (lent_of old) (lent_of new)
all_placed = keep_all _ _ _ _ _ _ _ _ _ _ _ placing_sink

-- parts are shown wherever their copies lie
all_alike : {P B : Type 0} (shown : P → B) (size : P → ℕ) (at : ℕ) (parts : List P) → all_shown (λ at. shown) size at parts ≡ map shown parts
all_alike shown size at [] = refl
all_alike shown size at (part ∷ parts) = ap (λ others. shown part ∷ others) (all_alike shown size (at + size part) parts)

-- a line was told, if its events were
told_read : (l : format.Line) (old new : Placing) → new.line.text.now ≡ old.line.text.now
    → ToldEvents _ _ _ _ _ _ _ _ _ _ _ placing_sink l old new
    → ToldRead l old.line.text.now new.parts.now new.room.now old.used (told_of new)
told_read l old new same told = rw (← same) (record {
  tags = told.tags;
  fields = told.fields;
  shows = λ room.
      let all = told.shows room in
      record {
        measurement = all.name;
        tags = λ enough r same. sym (all_alike (tag_at new.line.text.now r) part_room _ _) ∙ all.tags enough r same;
        fields = λ enough r same. sym (all_alike (field_at new.line.text.now r) part_room _ _) ∙ all.fields enough r same;
        timestamp = told.last.does.0;
        takes = all.takes;
      };
})

-- what the format answers for a line was told
pub answer_placed : (dialect : Dialect) (text : List ℕ) (old new : Placing) (events : List Event) → length text < 2 ^ 63
    → old.fault ≡ None → AreEventsOf text events (answer dialect text) → TakesAll Places old events new
    → ToldAnswer (answer dialect text) new.fault old.line.text.now new.parts.now new.room.now old.used (told_of new)
answer_placed dialect text old new events short none are told =
    answer_told _ _ _ _ _ _ _ _ _ _ _ placing_sink dialect text old new events
    (λ read. ToldRead read old.line.text.now new.parts.now new.room.now old.used (told_of new)) short none are told
    (λ l is all line. told_read l old new (all_placed old new events told).text line)

-- what is in use is no more than before with the texts that were told
used_all : (old new : Placing) (events : List Event) → length old.room.now < 2 ^ 32 → TakesAll Places old events new
    → new.used ≤ old.used + sum_by event_len events
used_all old new [] small same = rw same (omega arith)
used_all old new (event ∷ events) small (mid, first, more) =
    let later = used_all mid new events (omega (arith, first.keeps.grows.size, small)) more in
    omega (arith, first.bound small, later, sum_by-cons event_len event events)

-- a line that was told takes no more room than its texts have bytes
pub room_bound : (dialect : Dialect) (text : List ℕ) (old new : Placing) (events : List Event) → length old.room.now < 2 ^ 32
    → AreEventsOf text events (answer dialect text) → TakesAll Places old events new → (l : format.Line)
    → answer dialect text ≡ Ok l → new.used ≤ old.used + texts_len l
room_bound dialect text old new events small are told l is =
    let same : AreEventsOf text events (Ok l) = rw is at are in
    omega (
      arith,
      used_all old new events small told,
      ap (sum_by event_len) same,
      line_len event_len tag_len field_len (λ tag. refl) (λ field. refl) l,
    )
