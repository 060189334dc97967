use Rattle.std.proofs.Common.{◌≡◌, ◌-◌, ◌∙◌, IsUtf8, ap, arith, drop, subst, take}
use Rattle.lp_offsets.proofs.PortionLemmas.{cut_out}
use Rattle.lp_offsets.proofs.portions.Portion.text_in.Goals as goal

pub returns : goal.returns
returns c =
    let portion = c.args.self.now in
    let bytes = portion.bytes.now in
    let at = c.args.at in
    let len = c.args.len in
    let found = c.in_ok-text.ensures.cases in
    let is : c.in_ok-text.text.now ≡ take len (drop at bytes) =
    found.0 ∙ (ap (λ n. take n (drop (at - portion.from) portion.text.now)) (omega arith)
    ∙ cut_out bytes portion.text.now portion.from _ (at - portion.from) len at portion.lies (omega arith) (omega (arith, found.2))) in
    (subst IsUtf8 (c.as_bytes-bytes.ensures.value ∙ is) c.as_bytes-bytes.ensures.utf8, is)
