use Rattle.std.proofs.{Common.[], Common.refl, Common.arith, Common.◌∙◌, lemmas.Grind.common_steps}
use Rattle.lp_split.specs.code.{rules_of}
use Rattle.lp_events.specs.code.{Events.AreEventsOfText, EventsLeft.AreEventsLeft}
use Rattle.lp_events.proofs.lemmas.events.LineEvents.{blank_events, told_to_end, told_line, told_then}
use Rattle.lp_events.proofs.events.read_events_in.Goals as goal

pub loop-line-init : goal.loop-line-init
loop-line-init g c = rw c.split_lines_in-lines.ensures
    (record { dialect = refl; told = record { events = []; told = refl; are = λ others left. grind (arith, common_steps) } })

pub loop-line-preserved : goal.loop-line-preserved
loop-line-preserved g c =
    let dialect = rules_of c.args.dialect in
    let given = c.in-Some.ensures.gives in
    let left = c.next_line.new.lines in
    record {
      dialect = given.0 ∙ c.loop-line.invariant.dialect;
      told = told_then g.S.EventSink.takes _ _ _ (AreEventsOfText dialect c.args.input.now) (AreEventsLeft c.loop-line.lines) (AreEventsLeft left)
          c.loop-line.invariant.told
          (told_line g.S.EventSink.takes c.loop-line.sink _ _ dialect c.loop-line.lines left c.in-Some.line c.loop-line.invariant.dialect given
          c.read_line_events.ensures);
    }

pub returns : goal.returns
returns g c =
    told_to_end g.S.EventSink.takes _ _ (AreEventsOfText (rules_of c.args.dialect) c.args.input.now) (AreEventsLeft c.loop-line.lines)
    c.loop-line.invariant.told (let gave = rw c.in_default.is at c.next_line.ensures.gives in grind (arith, blank_events))
