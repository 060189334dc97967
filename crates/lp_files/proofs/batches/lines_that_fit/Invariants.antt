use Rattle.std.proofs.Common.{◌≡◌, List, ℕ}
use Rattle.influxdb_line_protocol.specs.code.Rules.{rules_of}
use Rattle.influxdb_line_protocol.specs.format.Pieces.{PiecesLeft, most_pieces}
use Rattle.lp_files.proofs.Fitting.{FitsSoFar}
use Rattle.lp_files.proofs.batches.lines_that_fit.Given as goal

abbrev pub invariant-loop-piece : goal.invariant-loop-piece
invariant-loop-piece l = record {
  dialect : l.pieces.dialect ≡ rules_of l.fn.dialect;
  done : (others : List (List ℕ)) → PiecesLeft l.pieces others → FitsSoFar (rules_of l.fn.dialect) l.text l.limits l.batch l.fit others;
}

abbrev pub decreases-loop-piece : goal.decreases-loop-piece
decreases-loop-piece l = most_pieces l.pieces.text
