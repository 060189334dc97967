use Rattle.std.proofs.Common.{◌∙◌}
use Rattle.std.proofs.lemmas.Result.{IfOk-weaker}
use Rattle.lp_conditions.proofs.PortableTexts.{no_text_told, text_told}
use Rattle.lp_conditions.proofs.portable.told_of_bytes.Goals as goal

pub returns-in-Ok : goal.returns-in-Ok
returns-in-Ok c =
    IfOk-weaker c.verdict_of.result _ _
    (λ told is. is ∙ text_told c.args.portable.now c.args.bytes.now c.in-Ok.text.now c.in-Ok.ensures.cases.0 c.in-Ok.ensures.cases.1) c.verdict_of.ensures.value

pub returns-in-Err : goal.returns-in-Err
returns-in-Err c = no_text_told c.args.portable.now c.args.bytes.now c.in-Err.ensures.cases
