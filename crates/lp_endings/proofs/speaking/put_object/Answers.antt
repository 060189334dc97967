use Rattle.std.proofs.Common.{string_bytes}
use Rattle.std.proofs.lemmas.Result.{on_ok_weaker}
use Rattle.lp_escapes.proofs.JsonTexts.{three_added}
use Rattle.lp_endings.specs.RunErrors.{file_member, said_end, said_start}
use Rattle.lp_endings.proofs.speaking.put_object.Goals as goal

pub returns : goal.returns
returns c =
    let start = said_start c.args.name.now c.args.kind.now in
    on_ok_weaker c.put_end.result
    (λ put. three_added (string_bytes c.args.object.now) _ _ _ start (file_member c.args.file) (said_end c.args.text.now) c.in_ok-put_start.ensures
    c.in_ok-put_file.ensures put) c.put_end.ensures
