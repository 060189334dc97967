use Rattle.std.proofs.Common.{◌==◌, arith}
use Rattle.lp_values.proofs.lemmas.tokens.WalkLemmas.{escapes_mask, load_stops, load_goes_on}
use Rattle.lp_values.proofs.tokens.escapes_in_load.Goals as goal
use Rattle.lp_format.specs.format.{backslash}

pub returns-then-run-lt-WIDE : goal.returns-then-run-lt-WIDE
returns-then-run-lt-WIDE c =
    let w = c.requires.walked in
    let given = c.places_of-backslashes.ensures in
    let stops = c.bare.ensures _ c.args.bytes.now c.args.at (omega arith) w.bare given c.stops_in.ensures in
    let slashes = c.bare-2.ensures (λ b. b == backslash) c.args.bytes.now c.args.at (omega arith) w.bare given given in
    let load = load_stops _ _ _ _ _ c.requires.room w _ (rw stops at c.first_set-run.ensures) _
    (rw (escapes_mask _ _ _ _ _ c.requires.room slashes c.known_in.ensures) at c.ones_below.ensures) c.if-run-lt-WIDE.true in
    record { walked = load.0; stops = λ _. load.1 }

pub returns : goal.returns
returns c =
    let w = c.requires.walked in
    let given = c.places_of-backslashes.ensures in
    let stops = c.bare.ensures _ c.args.bytes.now c.args.at (omega arith) w.bare given c.stops_in.ensures in
    let slashes = c.bare-2.ensures (λ b. b == backslash) c.args.bytes.now c.args.at (omega arith) w.bare given given in
    let walked = load_goes_on _ _ _ _ _ c.requires.room w _ (rw stops at c.first_set-run.ensures) _
    (rw (escapes_mask _ _ _ _ _ c.requires.room slashes c.known_in.ensures) at c.ones_below.ensures) _
    c.if-run-lt-WIDE.false (c.escapes_next.ensures c.args.bytes.now c.args.at (omega arith) w.bare given) in
    record { walked = walked; stops = λ short. absurd (omega arith) }
