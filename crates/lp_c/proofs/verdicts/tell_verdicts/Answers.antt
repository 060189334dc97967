use Rattle.std.proofs.Common.{◌∙◌, ◌<◌, arith, length}
use Rattle.std.proofs.lemmas.Bool.{false≢true}
use Rattle.lp_c.specs.Verdicts.{TellsVerdict}
use Rattle.lp_c.proofs.{SureRowLemmas.next_if_shown, VerdictLemmas.takes_memory, VerdictLemmas.tells_bits}
use Rattle.lp_offsets.proofs.RowsTold.{others_stay, tell_more}
use Rattle.lp_c.proofs.verdicts.tell_verdicts.Goals as goal

pub loop-at-preserved : goal.loop-at-preserved
loop-at-preserved c =
    let was = c.loop-at in
    let limits = c.args.limits.now in
    let text = c.args.text.now in
    let old = c.args.rows.now in
    let here : was.at < length was.rows = omega (arith, c.loop-at-test.true, was.auto.rows) in
    let step = was.invariant in
    let tells = tells_bits limits c.limits_of-most.result text _ c.in-Ok.bits c.limits_of-most.ensures (rw step.text at c.in-Ok.ensures.bits) in
    record {
      text = c.in-Ok.ensures.text ∙ step.text;
      told = tell_more (TellsVerdict limits text) old was.rows was.at _ _ here was.auto.rows step.others step.told tells;
      others = others_stay (TellsVerdict limits text) old was.rows was.at _ _ here was.auto.rows step.others step.told tells;
    }

pub verdict-requires : goal.verdict-requires
verdict-requires c =
    let was = c.loop-at in
    let here : was.at < length was.rows = omega (arith, c.loop-at-test.true, was.auto.rows) in
    rw was.invariant.text (next_if_shown c.args.text.now c.args.parts c.args.rows.now was.rows was.at _ here was.invariant.others c.requires)

pub returns-in_default-clause-memory : goal.returns-in_default-clause-memory
returns-in_default-clause-memory c few =
    let was = c.loop-at in
    let here : was.at < length was.rows = omega (arith, c.loop-at-test.true, was.auto.rows) in
    takes_memory c.args.text.now c.args.rows.now was.rows was.at _ here was.invariant.others (λ light. false≢true (c.in_default.ensures.memory (rw was.invariant.text light)))
