use Rattle.influxdb_line_protocol.specs.code.Rules.{rules_of}
use Rattle.std.proofs.Common.{List, ℕ, ◌≡◌, ◌+◌, ◌≤◌, length}
use Rattle.influxdb_line_protocol.specs.format.Pieces.{PiecesLeft, most_pieces}
use Rattle.lp_rebuild.proofs.RebuildLemmas.{SoFar}
use Rattle.lp_rebuild.proofs.batch.rebuild_in.Given as goal

abbrev pub invariant-loop-piece : goal.invariant-loop-piece
invariant-loop-piece l = record {
  dialect : l.pieces.dialect ≡ rules_of l.fn.dialect;
  reads : l.reader.dialect ≡ l.fn.dialect;
  room : l.so_far.carried + l.so_far.refused + most_pieces l.pieces.text ≤ length l.input + 1;
  done : (others : List (List ℕ)) → PiecesLeft l.pieces others → SoFar (rules_of l.fn.dialect) l.input others l.so_far;
}

abbrev pub decreases-loop-piece : goal.decreases-loop-piece
decreases-loop-piece l = most_pieces l.pieces.text
