use Rattle.lp_format.specs.format.{Strict, answer}
use Rattle.lp_portable.proofs.PlainEvents.{text_noted}
use Rattle.lp_portable.proofs.plain.noting_of.Goals as goal

pub returns : goal.returns
returns c h =
    let told = c.read_line_events.ensures in
    text_noted c.args.line.now told.events (answer Strict c.args.line.now) c.new-noting.result c.read_line_events.new.sink c.new-noting.ensures
    told.told told.are h
