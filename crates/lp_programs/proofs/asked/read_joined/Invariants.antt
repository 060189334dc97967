use Rattle.std.proofs.Common.{◌≡◌, drop}
use Rattle.std.specs.Prelude.{IfSome, MatchOption}
use Rattle.lp_relay.specs.Inputs.{inputs_of}
use Rattle.lp_programs.specs.Joined.{joined, joined_after}
use Rattle.lp_programs.proofs.asked.read_joined.Given as goal

-- the texts of the first inputs were read as one
abbrev pub invariant-loop-name : goal.invariant-loop-name
invariant-loop-name g l = record {
  joined : IfSome (g.N.NextInput.left l.initial.inputs.next) (λ texts. MatchOption (g.N.NextInput.left l.inputs.next) ⊥
      (λ left. joined (inputs_of l.names texts) ≡ joined_after l.text.items (inputs_of (drop l.name-index l.names) left)));
  unfailed : g.R.Source.failures l.inputs.reader ≡ g.R.Source.failures l.initial.inputs.reader;
}
