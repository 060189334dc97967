use Rattle.std.proofs.Common.{[], ◌∷◌, arith}
use Rattle.std.proofs.lemmas.{Grind.common_steps, Result.err_from_is_err_and}
use Rattle.lp_format.specs.format.{answer}
use Rattle.lp_events.specs.code.Events.{spelled_field}
use Rattle.lp_events.proofs.lemmas.pull.EventSteps.{completes_fault, completes_more, field_after, first_read}
use Rattle.lp_events.proofs.lemmas.fields.FrontLemmas.{front_gap, front_names}
use Rattle.lp_events.proofs.pull.first_field.Goals as goal

pub returns-in_default-clause-steps : goal.returns-in_default-clause-steps
unfolding answer
returns-in_default-clause-steps c = λ left others later m tags h.
    completes_fault (front_names h.name_is h.most (grind (arith, common_steps))) (grind (arith, common_steps)) later

pub returns-in_err-key-clause-steps : goal.returns-in_err-key-clause-steps
unfolding answer
returns-in_err-key-clause-steps c =
    let p = err_from_is_err_and c.from_residual.result c.from_residual.ensures.1 in
    rw (p.1, p.2) (λ left others later m tags h.
    let is = rw c.trim_start_spaces.ensures at c.in_err-key.ensures.value in
    completes_fault (front_gap h.name_is h.most _ c.in-Some.ensures.value (rw is (tt {0}))) (grind (arith, common_steps)) later)

pub returns-in_default-2-clause-steps : goal.returns-in_default-2-clause-steps
unfolding answer
returns-in_default-2-clause-steps c = λ left others later m tags h.
    let is = rw (c.in_default-2.is, c.trim_start_spaces.ensures) at c.in_ok-key.ensures.value in
    completes_fault (front_gap h.name_is h.most _ c.in-Some.ensures.value (rw is (tt {0}))) (grind (arith, common_steps)) later

pub returns-clause-steps : goal.returns-clause-steps
returns-clause-steps c = λ left others later m tags h.
    let x = spelled_field (c.in-Some-2.key, c.in-Some-2.value) in
    let read = rw (c.in-Some-2.is, c.trim_start_spaces.ensures) at c.in_ok-key.ensures.value in
    completes_more (rw (← field_after m tags [] x) (later c.args.names.line.now m tags (x ∷ [])
    (rw c.front_before-series.ensures (first_read h _ x c.in-Some-2.rest.now c.in-Some.ensures.value read))))
