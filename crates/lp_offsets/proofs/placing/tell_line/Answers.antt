use Rattle.influxdb_line_protocol.specs.code.Rules.{rules_of}
use Rattle.lp_offsets.proofs.PlacingLemmas.{all_placed, answer_placed, room_bound}
use Rattle.lp_offsets.proofs.SinkLemmas.{all_keep}
use Rattle.lp_offsets.proofs.placing.tell_line.Goals as goal
use Rattle.lp_offsets.specs.Placing.{Places}

pub returns-clause-parts : goal.returns-clause-parts
returns-clause-parts c =
    let was = c.read_placed_events.ensures.told in
    all_keep Places (λ s. s.parts.ghost_name) (λ old new event one. one.parts) _ _ was.events was.told

pub returns-clause-room : goal.returns-clause-room
returns-clause-room c =
    let was = c.read_placed_events.ensures.told in
    all_keep Places (λ s. s.room.ghost_name) (λ old new event one. one.room) _ _ was.events was.told

pub returns-clause-size : goal.returns-clause-size
returns-clause-size c = let was = c.read_placed_events.ensures.told in (all_placed _ _ was.events was.told).size

pub returns-clause-grows : goal.returns-clause-grows
returns-clause-grows c = let was = c.read_placed_events.ensures.told in (all_placed _ _ was.events was.told).grows

pub returns-clause-told : goal.returns-clause-told
returns-clause-told c =
    let was = c.read_placed_events.ensures.told in
    answer_placed (rules_of c.args.placing.now.line.rules) _ _ _ was.events c.requires.short c.requires.no_fault was.are was.told

pub returns-clause-bound : goal.returns-clause-bound
returns-clause-bound c = λ small read is.
    let was = c.read_placed_events.ensures.told in
    room_bound (rules_of c.args.placing.now.line.rules) _ _ _ was.events small was.are was.told read is
