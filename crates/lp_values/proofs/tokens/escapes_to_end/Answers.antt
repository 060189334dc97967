use Rattle.std.proofs.Common.{sym, arith}
use Rattle.lp_scan.specs.code.Tokens.{stops_of, known_of}
use Rattle.lp_values.proofs.lemmas.tokens.TokenLemmas.{backslash_goes_on}
use Rattle.lp_values.proofs.lemmas.tokens.WalkLemmas.{walk_run, walk_escape, walk_ends, walk_ends_after, is_stop_then}
use Rattle.lp_values.proofs.tokens.escapes_to_end.Goals as goal

pub loop-end-init : goal.loop-end-init
loop-end-init c =
    let run = c.plain_end-end.ensures in
    record { walked = walk_run _ _ _ _ _ _ c.requires.walked run; stopped = run.stops }

pub loop-end-preserved : goal.loop-end-preserved
loop-end-preserved c =
    let walked = walk_escape (known_of c.args.kind) (stops_of c.args.kind) c.args.bytes.now c.loop-end.end c.loop-end.known c.from-known.result
    c.is_known.result c.loop-end.invariant.walked (omega arith) c.if-bytes-end-eq92.true
    (backslash_goes_on c.args.kind) (sym c.is_known.ensures) c.from-known.ensures in
    let run = c.plain_end-end-in-loop-end.ensures in
    record { walked = walk_run _ _ _ _ _ _ walked run; stopped = run.stops }

pub returns-then-end-bytes-clause-value : goal.returns-then-end-bytes-clause-value
returns-then-end-bytes-clause-value c =
    sym (walk_ends_after _ _ _ _ _ c.loop-end.invariant.walked (omega arith) c.if-bytes-end-eq92.true (backslash_goes_on c.args.kind)).0

pub returns-then-end-bytes-clause-len : goal.returns-then-end-bytes-clause-len
returns-then-end-bytes-clause-len c =
    (walk_ends_after _ _ _ _ _ c.loop-end.invariant.walked (omega arith) c.if-bytes-end-eq92.true (backslash_goes_on c.args.kind)).1

pub returns-else-bytes-end-eq92-clause-value : goal.returns-else-bytes-end-eq92-clause-value
returns-else-bytes-end-eq92-clause-value c =
    sym (walk_ends _ _ _ _ _ c.loop-end.invariant.walked (λ within. is_stop_then (known_of c.args.kind) (stops_of c.args.kind) c.args.bytes.now _
    (c.loop-end.invariant.stopped within) c.if-bytes-end-eq92.false))

pub returns-after-loop-end-clause-value : goal.returns-after-loop-end-clause-value
returns-after-loop-end-clause-value c = sym (walk_ends _ _ _ _ _ c.loop-end.invariant.walked (λ within. absurd (omega arith)))
