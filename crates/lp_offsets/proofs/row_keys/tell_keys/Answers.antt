use Rattle.std.proofs.Common.{◌∙◌, ◌<◌, List, arith, length, subst, take, take_all}
use Rattle.std.specs.List.{AllZip}
use Rattle.lp_offsets.specs.RowKeys.{TellsKey}
use Rattle.lp_offsets.specs.declared.offsets.OffsetRow.{OffsetRow}
use Rattle.lp_offsets.proofs.{RowKeyLemmas.all_tell, RowKeyLemmas.tells_len, RowsTold.others_stay, RowsTold.tell_more}
use Rattle.lp_offsets.proofs.row_keys.tell_keys.Goals as goal

pub loop-at-preserved : goal.loop-at-preserved
loop-at-preserved c =
    let was = c.loop-at in
    let text = c.args.text.now in
    let old = c.args.rows.now in
    let here : was.at < length was.rows = omega (arith, c.loop-at-test.true, was.auto.rows) in
    let step = was.invariant in
    let tells = tells_len text _ _ (rw step.text at c.key_len-len.ensures.len) in
    record {
      text = c.key_len-len.ensures.text ∙ step.text;
      told = tell_more (TellsKey text) old was.rows was.at _ _ here was.auto.rows step.others step.told tells;
      others = others_stay (TellsKey text) old was.rows was.at _ _ here was.auto.rows step.others step.told tells;
    }

pub returns-clause-series : goal.returns-clause-series
returns-clause-series c =
    let was = c.loop-at in
    let text = c.args.text.now in
    let old = c.args.rows.now in
    let told : AllZip (TellsKey text) old was.rows =
    subst (λ (rows : List OffsetRow). AllZip (TellsKey text) rows was.rows) (take_all was.at old c.loop-at-test.false)
    (subst (λ (rows : List OffsetRow). AllZip (TellsKey text) (take was.at old) rows)
    (take_all was.at was.rows (omega (arith, c.loop-at-test.false, was.auto.rows))) was.invariant.told) in
    all_tell c.keys_tell_series.ensures.read c.keys_tell_series.ensures.stand c.bases_tell_series.ensures.read text old was.rows told
