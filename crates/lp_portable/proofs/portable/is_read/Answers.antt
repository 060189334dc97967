use Rattle.std.proofs.Common.{◌∙◌, Err, ap, arith, max}
use Rattle.lp_format.specs.format.{Strict}
use Rattle.lp_format.specs.code.Light.{inline_fields, inline_tags}
use Rattle.lp_lines.specs.code.Lookups.{room_of}
use Rattle.lp_lines.proofs.lemmas.line.AnsweredLines.{more_room}
use Rattle.lp_portable.proofs.portable.is_read.Goals as goal

pub returns-clause-no_memory : goal.returns-clause-no_memory
returns-clause-no_memory c light =
    let line = c.args.line.now in
    let read = c.args.read.now in
    let room = more_room Strict line inline_tags inline_fields (max inline_tags (room_of read.series.tag_set))
    (max inline_fields read.field_set.capacity) light (omega arith) (omega arith) in
    absurd (c.read_spelled_into.ensures.light room (c.in-Err-OutOfMemory.is ∙ ap Err c.in-Err-OutOfMemory.field-0-is))
