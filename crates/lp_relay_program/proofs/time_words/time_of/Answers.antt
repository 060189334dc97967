use Rattle.std.proofs.Common.{◌∙◌, sym}
use Rattle.lp_relay_program.proofs.TimeLemmas.{no_sign}
use Rattle.lp_relay_program.proofs.time_words.time_of.Goals as goal

pub returns-in-None : goal.returns-in-None
unfolding lib.Utf8.encode
returns-in-None c = c.positive_of.ensures ∙ sym (no_sign c.args.word.now c.in-None.ensures.cases)
