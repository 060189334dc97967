use Rattle.std.proofs.Common.{◌≡◌, true, arith}
use Rattle.std.proofs.lemmas.Grind.{common_steps}
use Rattle.lp_format.specs.code.Light.{is_single_tag}
use Rattle.lp_events.specs.code.Events.{spelled_tag}
use Rattle.lp_events.proofs.lemmas.bases.KeptKeys.{kept_more}
use Rattle.lp_events.proofs.bases.after_tag.Goals as goal
use Rattle.lp_events.proofs.bases.after_tag.Goals.{in-Some, in-None}

pub returns : goal.returns
returns c = λ m tags kept.
    let t = spelled_tag (c.args.key, c.args.value) in
    let one : c.match-shared.is_single.1 ≡ is_single_tag t = elim c.match-shared.branch [
      | in-Some w ↦ grind (arith, common_steps)
      | in-None w ↦ grind (arith, common_steps)
    ] in
    let text : c.match-shared.is_single.1 ≡ true → c.match-shared.is_single.0.now ≡ t.key.bytes = elim c.match-shared.branch [
      | in-Some w ↦ λ single. grind (arith, common_steps)
      | in-None w ↦ λ single. grind (arith, common_steps)
    ] in
    kept_more m tags t c.args.kept _ c.match-shared.is_single.1 c.rises-is_greater.result c.requires kept one text (grind arith) (grind arith)
