use Rattle.std.proofs.Common.{arith}
use Rattle.lp_split.proofs.lemmas.split.SplitWalk.{byte_steps, escapes_next, Quoted-closes}
use Rattle.lp_split.proofs.split.tracked.after_byte.Goals as goal

pub returns-in-Head-eq32-clause-steps : goal.returns-in-Head-eq32-clause-steps
returns-in-Head-eq32-clause-steps c = rw c.in-Head-eq32.is-1 (grind (arith, byte_steps))

pub returns-in-Plain-eq61-clause-steps : goal.returns-in-Plain-eq61-clause-steps
returns-in-Plain-eq61-clause-steps c = rw c.in-Plain-eq61.is-1 (grind (arith, byte_steps))

pub returns-in-Plain-eq44-clause-steps : goal.returns-in-Plain-eq44-clause-steps
returns-in-Plain-eq44-clause-steps c = rw c.in-Plain-eq44.is-1 (grind (arith, byte_steps))

pub returns-in-Plain-eq34-clause-steps : goal.returns-in-Plain-eq34-clause-steps
returns-in-Plain-eq34-clause-steps c = rw c.in-Plain-eq34.is-1 (grind (arith, byte_steps))

pub returns-in-Quoted-eq34-clause-steps : goal.returns-in-Quoted-eq34-clause-steps
returns-in-Quoted-eq34-clause-steps c = rw c.in-Quoted-eq34.is-1 (grind (arith, escapes_next, Quoted-closes))
