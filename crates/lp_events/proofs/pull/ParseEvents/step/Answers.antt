use Rattle.std.proofs.Common.{◌≡◌, [], arith, subst, sym, Some}
use Rattle.std.proofs.lemmas.Grind.{common_steps}
use Rattle.lp_split.specs.code.{rules_of}
use Rattle.lp_events.specs.code.{EventsLeft.AreLeftFrom, EventsLeft.Completes, EventsLeft.HasEventsLeft, LineSteps.GivesLine}
use Rattle.lp_events.specs.declared.place.LinePlace.TheVariants.{Fields, Names}
use Rattle.lp_events.proofs.lemmas.{pull.EventSteps.steps_from, pull.EventSteps.step_less, events.LineEvents.blank_events}
use Rattle.lp_events.proofs.lemmas.{events.LineEvents.line_left, lines.LineSteps.line_less, lines.LineSteps.none_comes}
use Rattle.lp_events.proofs.pull.ParseEvents.step.Goals as goal

pub returns-in_err-next_line-in-Between-clause-steps : goal.returns-in_err-next_line-in-Between-clause-steps
returns-in_err-next_line-in-Between-clause-steps c = grind (arith, common_steps, blank_events, none_comes)

pub returns-in_ok-next_line-in-Between-clause-steps : goal.returns-in_ok-next_line-in-Between-clause-steps
returns-in_ok-next_line-in-Between-clause-steps c =
    let reader = c.args.self.now in
    let line = c.in_ok-next_line-in-Between.field-0 in
    steps_from (Completes line.now []) (λ left events. left ≡ c.next_line.new.lines → HasEventsLeft reader events) c.begin.result
    (λ left events h same. rw c.in-Between.is
    (line_left reader.lines left line events
    (subst (GivesLine reader.lines (Some line)) (sym same) c.in_ok-next_line-in-Between.ensures.gives) h))
    c.begin.ensures.steps

pub returns-in_ok-next_line-in-Between-clause-less : goal.returns-in_ok-next_line-in-Between-clause-less
returns-in_ok-next_line-in-Between-clause-less c = grind (arith, common_steps, step_less, line_less)

pub returns-in-Names-clause-steps : goal.returns-in-Names-clause-steps
returns-in-Names-clause-steps c =
    steps_from (AreLeftFrom (Names c.in-Names.names)) (λ left events. left ≡ c.args.self.now.lines → HasEventsLeft c.args.self.now events)
    c.after_name.result (λ left events h same. rw (c.in-Names.is, ← same) h) c.after_name.ensures.steps

pub returns-in-Fields-clause-steps : goal.returns-in-Fields-clause-steps
returns-in-Fields-clause-steps c =
    steps_from (λ left events. left.dialect ≡ rules_of c.dialect_of.result → AreLeftFrom (Fields c.in-Fields.fields) left events)
    (λ left events. left ≡ c.args.self.now.lines → HasEventsLeft c.args.self.now events) c.after_field.result
    (λ left events h same. rw (c.in-Fields.is, ← same) (h (rw same (sym c.dialect_of.ensures)))) c.after_field.ensures.steps
