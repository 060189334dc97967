use Rattle.std.proofs.Common.{ℕ, ◌++◌, List, map, take, take_all, subst}
use Rattle.std.specs.BTreeMap.{get_by_text}
use Rattle.influxdb_line_protocol.specs.code.{Parsed.field_of, ReadValues.value_of, Texts.text_of}
use Rattle.influxdb_line_protocol.specs.format.Lines.{logical_field, logical_value}
use Rattle.lp_series.specs.Counting.{HasKinds}
use Rattle.lp_series.specs.CountSteps.{SetsText, kinds_or_none, with_value}
use Rattle.lp_series.proofs.FieldLemmas.{kinds_more, made_more}
use Rattle.lp_series.proofs.kinds.count_fields.Goals as goal

-- a field more is counted
pub loop-key-preserved : goal.loop-key-preserved
loop-key-preserved c before has =
    let item = c.loop-key-item.result in
    let sets : SetsText c.loop-key.kinds c.count_field.new.kinds (text_of item.0) (with_value (kinds_or_none (get_by_text c.loop-key.kinds (text_of item.0))) (logical_value (value_of item.1)))
    = subst (λ (key : List ℕ). SetsText c.loop-key.kinds c.count_field.new.kinds key
    (with_value (kinds_or_none (get_by_text c.loop-key.kinds key)) (logical_value (value_of item.1)))) c.as_str.ensures.value c.in_ok-count_field.ensures in
    let more = kinds_more c.loop-key.kinds c.count_field.new.kinds
    (before ++ map logical_field (map field_of (take c.loop-key.key-index c.args.fields.now)))
    (logical_field (field_of item)) sets (c.loop-key.invariant before has) in
    subst (HasKinds c.count_field.new.kinds)
    (made_more field_of logical_field before c.args.fields.now c.loop-key.key-index item c.loop-key-test.true c.loop-key-item.is) more

-- all are counted
pub returns : goal.returns
returns c before has = subst (λ (fields : List _). HasKinds c.loop-key.kinds (before ++ map logical_field (map field_of fields)))
    (take_all c.loop-key.key-index c.args.fields.now c.loop-key-test.false) (c.loop-key.invariant before has)
