use Rattle.std.proofs.Common.{◌≡◌, drop, take}
use Rattle.std.specs.List.{AllZip}
use Rattle.lp_c.specs.Verdicts.{TellsVerdict}
use Rattle.lp_c.proofs.verdicts.tell_verdicts.Given as goal

-- the rows so far tell their verdicts, and the others are as they were
abbrev pub invariant-loop-at : goal.invariant-loop-at
invariant-loop-at l = record {
  text : l.portion.bytes.now ≡ l.text;
  told : AllZip (TellsVerdict l.limits l.text) (take l.at l.fn.rows) (take l.at l.rows);
  others : drop l.at l.rows ≡ drop l.at l.fn.rows;
}
