use Rattle.influxdb_line_protocol.specs.code.Rules.{rules_of}
use Rattle.lp_c.proofs.ToldLemmas.{all_told, told_answer}
use Rattle.lp_c.proofs.telling.tell_line.Goals as goal
use Rattle.lp_c.specs.Telling.{Tells}
use Rattle.lp_offsets.proofs.SinkLemmas.{all_keep}

pub returns-clause-line : goal.returns-clause-line
returns-clause-line c =
    let was = c.read_placed_events-stop.ensures.told in
    all_keep Tells (λ s. s.line.ghost_name) (λ old new event one. one.line) _ _ was.events was.told

pub returns-clause-room : goal.returns-clause-room
returns-clause-room c =
    let was = c.read_placed_events-stop.ensures.told in
    all_keep Tells (λ s. s.room.ghost_name) (λ old new event one. one.room) _ _ was.events was.told

pub returns-clause-parts : goal.returns-clause-parts
returns-clause-parts c =
    let was = c.read_placed_events-stop.ensures.told in
    all_keep Tells (λ s. s.parts.ghost_name) (λ old new event one. one.parts) _ _ was.events was.told

pub returns-clause-size : goal.returns-clause-size
returns-clause-size c = let was = c.read_placed_events-stop.ensures.told in (all_told _ _ was.events was.told).size

pub returns-clause-room_size : goal.returns-clause-room_size
returns-clause-room_size c = let was = c.read_placed_events-stop.ensures.told in (all_told _ _ was.events was.told).grows.size

pub returns-clause-told : goal.returns-clause-told
returns-clause-told c =
    let was = c.read_placed_events-stop.ensures.told in
    told_answer (rules_of c.args.dialect) _ _ was.events c.requires.short c.requires.none.0 c.requires.none.1 was.are was.told
