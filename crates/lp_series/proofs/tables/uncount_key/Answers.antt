use Rattle.std.proofs.Common.{◌≡◌, ◌+◌, Some, None, arith, subst, ◌∙◌}
use Rattle.std.specs.HashMap.{get_by_text}
use Rattle.std.proofs.lemmas.Cmp.{nat_list_eq_equiv}
use Rattle.std.proofs.lemmas.Map.Text.{text_keys}
use Rattle.lp_series.specs.declared.tables.Found.{Found}
use Rattle.lp_series.specs.CountSteps.{CountsKey}
use Rattle.lp_series.proofs.KeptCounts.{set_back}
use Rattle.lp_series.proofs.tables.uncount_key.Goals as goal

-- the count of a known series was lowered
pub returns-in-Some : goal.returns-in-Some
returns-in-Some c most before counts =
    let known = subst (λ (f : Found). CountsKey most f c.args.key.now before c.args.series.now) c.in-Known.is counts in
    let n = known.0 in
    let there : get_by_text c.args.series.now c.args.key.now ≡ Some (n + 1) = grind (arith, known.2 c.args.key.now, nat_list_eq_equiv.refl c.args.key.now) in
    let lowered : c.saturating_sub.result ≡ n = grind (arith, text_keys, there) in (
      set_back before c.args.series.now (c.get_mut.follows.lender c.saturating_sub.result) c.args.key.now (Some n) (n + 1) known.1 known.2
          (λ q. grind (arith, text_keys, lowered)),
      (c.get_mut.follows.holds c.saturating_sub.result).2 ∙ known.3,
    )

-- a new series was taken out of the table
pub returns-in-New : goal.returns-in-New
returns-in-New c most before counts =
    let new = subst (λ (f : Found). CountsKey most f c.args.key.now before c.args.series.now) c.in-New.is counts in
    let there : get_by_text c.args.series.now c.args.key.now ≡ Some 1 = grind (arith, new.1 c.args.key.now, nat_list_eq_equiv.refl c.args.key.now) in (
      set_back before c.args.series.now c.remove.new.self c.args.key.now None 1 new.0 new.1 (λ q. grind (arith, text_keys)),
      grind (arith, text_keys, there, new.3),
    )
