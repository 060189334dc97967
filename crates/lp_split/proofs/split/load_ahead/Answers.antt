use Rattle.std.proofs.Common.{arith, ◌==◌}
use Rattle.lp_split.proofs.lemmas.split.SplitStretches.{ends_plain, load_shows}
use Rattle.lp_split.proofs.split.load_ahead.Goals as goal
use Rattle.lp_format.specs.format.{comma, equals}

pub returns-clause-seen : goal.returns-clause-seen
returns-clause-seen c =
    let text = c.args.text.now in
    let at = c.args.at in
    let is_bare = c.requires.starts_bare in
    let given = c.places_of-backslashes.ensures in
    load_shows text at c.bare.result c.bare-2.result c.bare-3.result c.escapes_next.result c.requires.room is_bare
    (c.bare.ensures ends_plain text at (omega arith) is_bare given c.stops_in.ensures)
    (c.bare-2.ensures (λ b. b == equals) text at (omega arith) is_bare given c.places_of.ensures)
    (c.bare-3.ensures (λ b. b == comma) text at (omega arith) is_bare given c.places_of-2.ensures)
    (c.escapes_next.ensures text at (omega arith) is_bare given)
