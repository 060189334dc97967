use Rattle.std.proofs.Common.{◌++◌, ◌∷◌, [], codes, string_bytes}
use Rattle.std.proofs.lemmas.Result.{on_ok_weaker}
use Rattle.influxdb_line_protocol.specs.code.Rules.{rules_of}
use Rattle.influxdb_line_protocol.specs.format.Bytes.{newline}
use Rattle.lp_faults.specs.Objects.{line_or_none, object_head, piece_member, stop_members}
use Rattle.lp_faults.specs.Refusals.{reason_of}
use Rattle.lp_escapes.proofs.JsonTexts.{end_added, three_added}
use Rattle.lp_faults.proofs.objects.tell_as_object.Goals as goal

pub returns : goal.returns
returns c =
    let old = string_bytes c.args.faults.now in
    let why = reason_of (rules_of c.args.telling.dialect) c.args.telling.limit c.args.piece c.args.line c.args.refusal.now in
    let head = object_head c.args.place why in
    let stop = stop_members (line_or_none c.args.place.line) why.seen.stop in
    let piece = piece_member c.args.telling.has_piece why.seen.over why.seen.bytes in
    on_ok_weaker c.put_end.result
    (λ put. end_added old _ _ (head ++ stop ++ piece) (codes "}") (newline ∷ [])
    (three_added old _ _ _ head stop piece c.in_ok-put_head.ensures c.in_ok-put_stop_in.ensures c.in_ok-put_piece.ensures) put)
    c.put_end.ensures
