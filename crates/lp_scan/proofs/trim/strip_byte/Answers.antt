use Rattle.std.{proofs.Common.subst, proofs.Common.arith, proofs.lemmas.Str.IsCharBoundary-after_ascii, specs.Str.IsCharBoundary}
use Rattle.lp_scan.proofs.trim.strip_byte.Goals as goal

pub range_from-requires : goal.range_from-requires
range_from-requires c = λ _.
    let bytes = c.as_bytes.ensures in
    subst (λ t. IsCharBoundary t 1) bytes.value
    (IsCharBoundary-after_ascii c.as_bytes.result.now 0 bytes.utf8 (omega (arith, c.in-len1-up.len_at_least))
    (omega (arith, c.if-first-mark.true, c.requires)))
