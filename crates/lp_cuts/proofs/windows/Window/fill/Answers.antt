use Rattle.std.proofs.Common.{arith}
use Rattle.lp_cuts.proofs.WindowLemmas.{front_read}
use Rattle.lp_cuts.proofs.windows.Window.fill.Goals as goal

pub returns-clause-window : goal.returns-clause-window
returns-clause-window g c = record {
  fits = c.requires.window.fits;
  block = omega (arith, c.requires.window.block, c.read_block.ensures.block);
  few = omega (arith, c.in_ok-n.ensures.few);
  within = λ some. omega (arith, c.requires.place);
  bytes = λ text has. front_read text c.read_block.new.block.items c.args.place c.in_ok-n.n c.min-self.result
      (c.in_ok-n.ensures.bytes text has.known) (omega arith);
}
