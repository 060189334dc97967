use Rattle.std.{proofs.Common.◌≡◌, proofs.Common.drop, proofs.Common.false, specs.Prelude.IsCharBoundary}
use Rattle.lp_format.proofs.lemmas.line.TrimLemmas.{left_of}
use Rattle.lp_scan.proofs.trim.trimmed.Given as goal

abbrev pub invariant-loop-place : goal.invariant-loop-place
invariant-loop-place l = record {
  left : left_of false l.bytes ≡ left_of l.in_comment (drop l.place l.bytes);
  boundary : l.in_comment ≡ false → IsCharBoundary l.bytes l.place;
}
