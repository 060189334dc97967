use Rattle.std.proofs.Common.{true}
use Rattle.lp_written.proofs.lemmas.parts.WrittenNumbers.{word_answer}
use Rattle.lp_written.proofs.numbers.after_word.Goals as goal

pub returns-in-Some : goal.returns-in-Some
returns-in-Some c = word_answer true _ _ c.requires.no_number c.requires.no_string c.in-Some.ensures.cases
