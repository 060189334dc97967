use Rattle.std.proofs.Common.{◌-◌, ◌∙◌, take, drop, sym, ap, arith, bytes_eq}
use Rattle.std.proofs.lemmas.{Grind.common_steps, Bool.Decides.Decides-eqb, Slice.Eq.strip_prefix_is}
use Rattle.lp_format.specs.format.{without_escapes}
use Rattle.lp_scan.specs.code.{known_of}
use Rattle.lp_values.proofs.lemmas.tokens.TokenLemmas.{other_front, same_after}
use Rattle.lp_values.proofs.spelled.Spelled.eq_text.Goals as goal

pub returns-in_default : goal.returns-in_default
returns-in_default c =
    let next = c.stretch_at-from in
    let left = c.loop-at.left.now in
    let stretch = take (next.result.1 - next.result.0) (drop next.result.0 c.as_bytes-spelling.result.now) in
    let cases = strip_prefix_is Decides-eqb left stretch c.strip_prefix.result c.strip_prefix.ensures.cases in
    let after = without_escapes (known_of c.args.self.now.token.kind) (drop next.result.1 c.as_bytes-spelling.result.now) in
    rw (← c.as_bytes-spelling.ensures.value)
    (sym (other_front stretch after left (rw c.in_default.is at cases)) ∙ ap (λ l. bytes_eq l left) (sym next.ensures.value)
    ∙ c.loop-at.invariant.same)

pub loop-at-preserved : goal.loop-at-preserved
loop-at-preserved c =
    let next = c.stretch_at-from in
    let stretch = take (next.result.1 - next.result.0) (drop next.result.0 c.as_bytes-spelling.result.now) in
    let cases = strip_prefix_is Decides-eqb c.loop-at.left.now stretch c.strip_prefix.result c.strip_prefix.ensures.cases in
    let begins = rw c.in-Some.is at cases in
    record {
      within = next.ensures.within;
      same = grind (arith, common_steps, same_after);
    }
