use Rattle.std.proofs.Common.{◌≡◌, ◌≤◌, take, vec_len}
use Rattle.std.specs.Io.KnownBytes.{Consumes}
use Rattle.lp_rebuild.proofs.program.read_all.Given as goal

abbrev pub invariant-loop : goal.invariant-loop
invariant-loop g l = record {
  within : l.filled ≤ vec_len l.input;
  consumed : Consumes (g.R.Source.bytes l.initial.reader) (g.R.Source.bytes l.reader) (take l.filled l.input.items);
  unfailed : g.R.Source.failures l.reader ≡ g.R.Source.failures l.initial.reader;
}
