use Rattle.std.proofs.Common.{◌≡◌, ◌+◌, ◌-◌, ◌/◌, ◌^◌, length, false, ap, ◌∙◌, arith}
use Rattle.lp_scan.{specs.code.is_end, specs.code.first_set, proofs.lemmas.scan.MaskLemmas.next_is}
use Rattle.lp_values.proofs.tokens.backslash_tail.Goals as goal

pub returns : goal.returns
returns c =
    let bytes = c.args.bytes.now in
    let at = c.args.at in
    let left = length bytes - at in
    let seen = 16 - left in
    let rest : 16 - seen ≡ left = omega (arith, c.requires.few) in
    let place : length bytes - 16 + seen ≡ at = omega (arith, c.requires.few, c.requires.within) in
    let run = next_is (is_end (λ b. false)) bytes (length bytes - 16) 16 seen c.first_set.result (omega arith)
    (omega arith) (rw rest (c.first_set.ensures ∙ ap (λ m. first_set (m / 2 ^ seen) left) c.backslashes.ensures)) in
    let here = rw (place, rest) at run in
    record {
      ordered = omega arith;
      within = omega (arith, here.0, c.requires.within);
      passes = here.1;
      stops = λ more. here.2 (omega arith);
    }
