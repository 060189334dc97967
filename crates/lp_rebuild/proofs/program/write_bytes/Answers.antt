use Rattle.std.proofs.Common.{◌+◌, ◌∙◌}
use Rattle.std.proofs.lemmas.List.{take_rest}
use Rattle.lp_rebuild.proofs.Moving.{write_more, rest_more}
use Rattle.lp_rebuild.proofs.program.write_bytes.Goals as goal

pub loop-rest-preserved : goal.loop-rest-preserved
loop-rest-preserved g c =
    let h = c.loop-rest.invariant in
    let n = c.in_ok-n.n in
    let rest = c.loop-rest.rest.now in (
      h.0 + n,
      take_rest rest n
          ∙ rest_more c.args.bytes.now rest h.0 n h.1,
      write_more _ _ _ c.args.bytes.now rest h.0 n h.1 h.2 c.in_ok-n.ensures.bytes,
      c.in_ok-n.ensures.counts ∙ h.3,
    )
