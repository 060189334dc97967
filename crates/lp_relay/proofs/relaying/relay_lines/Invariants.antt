use Rattle.influxdb_line_protocol.specs.code.Rules.{rules_of}
use Rattle.std.proofs.Common.{◌≡◌, ◌<◌, ◌≤◌, ◌^◌, ◌++◌, [], List, false, length, take, ℕ}
use Rattle.influxdb_line_protocol.specs.format.Pieces.{most_pieces}
use Rattle.lp_relay.specs.RelaySteps.{HoldsLess, SoFar, Start, counted, stage_of}
use Rattle.lp_relay.specs.Writers.{CountsNone, failures_of}
use Rattle.lp_relay.proofs.WholeLines.{IsLeft}
use Rattle.lp_relay.proofs.relaying.relay_lines.Given as goal

abbrev pub invariant-loop-piece : goal.invariant-loop-piece
invariant-loop-piece g l = record {
  dialect : l.lines.dialect ≡ rules_of l.fn.settings.dialect;
  reads : l.reader.dialect ≡ l.fn.settings.dialect;
  within : l.taken ≤ length l.bytes;
  left : IsLeft l.bytes l.taken l.lines.text;
  fits : counted l.pending < 2 ^ 64;
  held : HoldsLess 65536 l.pending;
  relays : (given : List ℕ) (before : Start)
      → SoFar l.fn.settings given [] before (stage_of l.initial.pending (g.O.ThreeWriters.told l.initial.outputs))
      → SoFar l.fn.settings (given ++ take l.taken l.bytes) [] before (stage_of l.pending (g.O.ThreeWriters.told l.outputs));
  unahead : l.initial.pending.ahead ≡ false → l.pending.ahead ≡ false;
  unfailed : CountsNone (failures_of (g.O.ThreeWriters.told l.initial.outputs)) (failures_of (g.O.ThreeWriters.told l.outputs));
}

abbrev pub decreases-loop-piece : goal.decreases-loop-piece
decreases-loop-piece g l = most_pieces l.lines.text
