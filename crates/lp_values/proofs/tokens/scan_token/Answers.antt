use Rattle.std.proofs.{Common.ap, Common.not, Common.sym, Common.arith, lemmas.Grind.common_steps}
use Rattle.lp_scan.specs.code.Tokens.{known_of}
use Rattle.lp_values.proofs.lemmas.tokens.WalkLemmas.{run_ends, run_is_plain}
use Rattle.lp_values.proofs.tokens.scan_token.Goals as goal

pub returns : goal.returns
returns c =
    let end = c.plain_end-end.result in
    let none = run_is_plain (known_of c.args.kind) _ _ end c.plain_end-end.ensures in
    let ends = run_ends (known_of c.args.kind) _ _ end c.plain_end-end.ensures (λ within. grind arith) in
    record {
      end = rw (← c.as_bytes-bytes.ensures.value) (sym ends.0);
      told = rw (← c.as_bytes-bytes.ensures.value) (record { counts = sym ends.1; tells = ap not (sym none) });
      boundary = grind (arith, common_steps);
    }
