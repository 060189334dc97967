use Rattle.std.proofs.Common.{◌≡◌, drop}
use Rattle.lp_format.specs.format.Pieces.{begins_comment}
use Rattle.lp_split.proofs.split.is_comment.Given as goal

abbrev pub invariant-loop-byte : goal.invariant-loop-byte
invariant-loop-byte l = begins_comment (drop l.byte-index l.text) ≡ begins_comment l.text
