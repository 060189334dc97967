use Rattle.std.proofs.Common.{◌+◌, arith, subst, sym}
use Rattle.lp_portable.specs.code.Clauses.{Breaks}
use Rattle.lp_portable.specs.code.Sure.{IsBare, noted}
use Rattle.lp_portable.proofs.PlainClauses.{noted_breaks}
use Rattle.lp_portable.proofs.plain.Noting.broken.Goals as goal

pub returns : goal.returns
returns c =
    let text = c.args.text.now in
    let noting = c.args.self.now in
    let bare = subst (λ bytes. IsBare bytes (noting.tags + noting.fields)) c.as_bytes-bytes.ensures.value (c.is_bare.ensures (grind arith)) in
    let breaks = noted_breaks c.args.limits.now text (noted noting) bare (c.requires (grind arith)) in
    rw (c.broken_by_noted.ensures, c.as_bytes-bytes.ensures.value) breaks
