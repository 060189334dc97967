use Rattle.std.proofs.Common.{◌++◌, ◌∙◌, List, ℕ, ap, string_bytes}
use Rattle.std.proofs.lemmas.Result.{on_ok_weaker}
use Rattle.lp_escapes.proofs.JsonTexts.{base64_string, text_string}
use Rattle.lp_escapes.proofs.json.put_bytes.Goals as goal

pub returns-in-Ok : goal.returns-in-Ok
returns-in-Ok c =
    let old = string_bytes c.args.faults.now in
    let cases = c.in-Ok.ensures.cases in
    on_ok_weaker c.put_text.result (λ put. put ∙ ap (λ (l : List ℕ). old ++ l) (text_string _ c.args.bytes.now cases.0 cases.1))
    c.put_text.ensures

pub returns-in-Err : goal.returns-in-Err
returns-in-Err c =
    let old = string_bytes c.args.faults.now in
    on_ok_weaker c.put_base64.result (λ put. put ∙ ap (λ (l : List ℕ). old ++ l) (base64_string c.args.bytes.now c.in-Err.ensures.cases))
    c.put_base64.ensures
