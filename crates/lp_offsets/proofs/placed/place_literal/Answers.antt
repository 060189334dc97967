use Rattle.std.proofs.Common.{length, refl}
use Rattle.lp_offsets.proofs.PlacedLemmas.{shown_there}
use Rattle.lp_offsets.proofs.placed.place_literal.Goals as goal

pub returns-clause-bytes : goal.returns-clause-bytes
returns-clause-bytes c =
    let line = c.args.line in
    shown_there line.text.now line.line.now c.args.literal.now line.end c.args.left (length c.args.literal.now) _ _ line.lies c.requires refl
    c.place_before.ensures.at c.place_before.ensures.len
