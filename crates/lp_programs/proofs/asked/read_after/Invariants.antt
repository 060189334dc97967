use Rattle.std.proofs.Common.{◌≡◌, ◌≤◌, take, vec_len}
use Rattle.std.specs.Io.KnownBytes.{Consumes, prepend_known}
use Rattle.lp_programs.proofs.asked.read_after.Given as goal

-- the text and what was read after it so far
abbrev pub invariant-loop : goal.invariant-loop
invariant-loop g l = record {
  within : l.filled ≤ vec_len l.text;
  consumed : Consumes (prepend_known l.initial.text.items (g.R.Source.bytes l.initial.reader)) (g.R.Source.bytes l.reader)
      (take l.filled l.text.items);
  unfailed : g.R.Source.failures l.reader ≡ g.R.Source.failures l.initial.reader;
}
