use Rattle.std.proofs.Common.{sym, ◌∙◌}
use Rattle.lp_series_program.proofs.LastWords.{last_word}
use Rattle.lp_series_program.proofs.words.+task_after.Goals as goal

pub returns-in_default-rest : goal.returns-in_default-rest
returns-in_default-rest t c =
    c.task-in_default-rest.ensures
    ∙ sym (last_word c.args.given _ c.args.words.now c.in-len1-up.len_at_least c.in_default-rest.len_below
    (sym c.with_flag.ensures ∙ c.in_default-with_flag.is))
