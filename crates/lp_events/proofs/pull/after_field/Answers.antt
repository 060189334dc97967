use Rattle.std.proofs.Common.{[], ◌∷◌, ◌++◌, arith}
use Rattle.std.proofs.lemmas.{Grind.common_steps, Result.err_from_is_err_and}
use Rattle.lp_split.specs.code.{rules_of}
use Rattle.lp_events.specs.code.Events.{spelled_field}
use Rattle.lp_events.proofs.lemmas.pull.EventSteps.{completes_end, completes_fault, completes_more, field_after, fields_fatal, fields_front}
use Rattle.lp_events.proofs.lemmas.pull.EventSteps.{fields_more, left_fault, time_fault}
use Rattle.lp_events.proofs.pull.after_field.Goals as goal

pub returns-in_err-key-clause-steps : goal.returns-in_err-key-clause-steps
returns-in_err-key-clause-steps c =
    let p = err_from_is_err_and c.from_residual.result c.from_residual.ensures.1 in
    rw (p.1, p.2)
    (λ left others later d line m tags fs h.
    let is = c.in_err-key.ensures.value in
    completes_fault (fields_front h (rw is (tt {0}))) (fields_fatal h left.dialect _ is) later)

pub returns-in-Some-clause-steps : goal.returns-in-Some-clause-steps
returns-in-Some-clause-steps c = λ left others later d line m tags fs h.
    let x = spelled_field (c.in-Some.key, c.in-Some.value) in
    completes_more (rw (← field_after m tags fs x)
    (later line m tags (fs ++ x ∷ []) (fields_more h x c.in-Some.rest.now (rw c.in-Some.is at c.in_ok-key.ensures.value))))

pub returns-in_err-timestamp-clause-steps : goal.returns-in_err-timestamp-clause-steps
returns-in_err-timestamp-clause-steps c =
    let p = err_from_is_err_and c.from_residual-in_err-timestamp.result c.from_residual-in_err-timestamp.ensures.1 in
    rw (p.1, p.2) (λ left others later d line m tags fs h.
    let rest = c.rest_after-left.ensures fs h.first_is in
    let none = rw c.in_default.is at c.in_ok-key.ensures.value in
    completes_fault (fields_front h (rw none (tt {0})))
    (rw d (time_fault h (rules_of c.args.dialect) none _ (rw rest at c.in_err-timestamp.ensures))) later)

pub returns-then-not-is_empty-clause-steps : goal.returns-then-not-is_empty-clause-steps
returns-then-not-is_empty-clause-steps c = λ left others later d line m tags fs h.
    let rest = c.rest_after-left.ensures fs h.first_is in
    let more = c.in_ok-timestamp.rest.now in
    let none = rw c.in_default.is at c.in_ok-key.ensures.value in
    completes_fault (fields_front h (rw none (tt {0})))
    (rw d (left_fault h (rules_of c.args.dialect) none c.in_ok-timestamp.timestamp more (grind arith)
    (grind (arith, common_steps)))) later

pub returns-clause-steps : goal.returns-clause-steps
returns-clause-steps c = λ left others later d line m tags fs h.
    let rest = c.rest_after-left.ensures fs h.first_is in
    completes_end h (rules_of c.args.dialect) (grind arith) left others _ c.in_ok-timestamp.rest.now d (grind arith)
    (grind (arith, common_steps)) later
