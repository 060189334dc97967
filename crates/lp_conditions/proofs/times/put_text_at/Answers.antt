use Rattle.lp_conditions.proofs.TimeLemmas.{after_space}
use Rattle.lp_conditions.proofs.times.put_text_at.Goals as goal

pub range-requires-clause-end_boundary : goal.range-requires-clause-end_boundary
range-requires-clause-end_boundary c =
    after_space c.args.text.now c.word_end-end.result c.word_start-start.result c.utf8.text
    (rw c.as_bytes.ensures.value at c.word_end-end.ensures.within)
    (rw c.as_bytes-2.ensures.value at c.word_start-start.ensures.within)
    (rw c.as_bytes-2.ensures.value at c.word_start-start.ensures.space)
