use Rattle.std.proofs.Common.{◌≡◌, [], ◌∷◌, ◌++◌, true, sym, arith}
use Rattle.std.proofs.lemmas.{Grind.common_steps, Result.err_from_is_err_and}
use Rattle.lp_format.specs.format.{comma, byte, tag, miss}
use Rattle.lp_values.proofs.lemmas.fields.ReadingLemmas.{EndsIn, EndsIn-end, after_comma_ends, tag_ends}
use Rattle.lp_events.specs.code.{Events.spelled_tag, EventsLeft.AreLeftAfterSeries, EventsLeft.AreLeftFrom}
use Rattle.lp_events.specs.declared.place.LinePlace.TheVariants.{Names}
use Rattle.lp_events.proofs.lemmas.fields.FrontLemmas.{fatal_comma}
use Rattle.lp_events.proofs.lemmas.pull.EventSteps.{completes_fault, completes_more, front_is, names_end, names_fatal}
use Rattle.lp_events.proofs.lemmas.pull.EventSteps.{names_front, names_malformed, names_more, not_stripped, steps_from, stripped, tag_after}
use Rattle.lp_events.proofs.pull.after_name.Goals as goal
use Rattle.lp_events.proofs.pull.after_name.Goals.{else-names-via-then-names+else-is_some, else-names-via-else-names}

pub returns-in_err-key-clause-steps : goal.returns-in_err-key-clause-steps
returns-in_err-key-clause-steps c =
    let p = err_from_is_err_and c.from_residual.result c.from_residual.ensures.1 in
    rw (p.1, p.2) (λ left others later m tags h.
    let is = c.in_err-key.ensures.value in
    completes_fault (names_front h (fatal_comma c.args.names.rest.now _ is).1 (rw is (tt {0}))) (names_fatal h left.dialect _ is) later)

pub returns-then-is_some-clause-steps : goal.returns-then-is_some-clause-steps
returns-then-is_some-clause-steps c = λ left others later m tags h.
    let no_tag = rw c.in_default.is at c.in_ok-key.ensures.value in
    let mark = stripped c.strip_byte.result c.args.names.rest.now c.strip_byte.ensures.value (grind arith) in
    completes_fault (names_front h mark.1 (rw no_tag (tt {0}))) (names_malformed h left.dialect (grind arith) mark.1 no_tag) later

pub returns-in_default-clause-steps : goal.returns-in_default-clause-steps
returns-in_default-clause-steps c =
    let names = c.args.names in
    let bare : names.is_first ≡ true → byte comma names.rest.now ≡ miss = elim c.else-names.branch [
      | else-names-via-then-names+else-is_some w ↦ grind (arith, common_steps, not_stripped)
      | else-names-via-else-names w ↦ λ first. absurd (cc)
    ] in
    let no_tag = rw c.in_default.is at c.in_ok-key.ensures.value in
    steps_from (AreLeftAfterSeries names.line.now names.rest.now) (AreLeftFrom (Names names)) c.first_field.result
    (λ left events after m tags h. after m tags (names_end h bare no_tag)) c.first_field.ensures.steps

pub invariant_of-names : goal.invariant_of-names
invariant_of-names c =
    let is = rw c.in-Some.is at c.in_ok-key.ensures.value in
    let names = c.args.names in
    let near : EndsIn names.line.now names.rest.now = record { front = _; is = sym names.ends } in
    record {
      ends = front_is names.line.now c.in-Some.rest.now
          (EndsIn-end names.line.now names.rest.now c.in-Some.rest.now near (after_comma_ends tag tag_ends names.rest.now _ _ is));
    }

pub returns-clause-steps : goal.returns-clause-steps
returns-clause-steps c = λ left others later m tags h.
    let t = spelled_tag (c.in-Some.key, c.in-Some.value) in
    completes_more (rw (← tag_after m tags t)
    (later m (tags ++ t ∷ []) (names_more h t c.in-Some.rest.now (rw c.in-Some.is at c.in_ok-key.ensures.value))))
