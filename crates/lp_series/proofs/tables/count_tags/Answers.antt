use Rattle.std.proofs.Common.{◌++◌, arith, map, take, subst}
use Rattle.influxdb_line_protocol.specs.code.Parsed.{tag_of}
use Rattle.influxdb_line_protocol.specs.format.Lines.{logical_tag}
use Rattle.lp_series.specs.Counting.{HasTags}
use Rattle.lp_series.specs.CountSteps.{PutsTag}
use Rattle.lp_series.proofs.FieldLemmas.{made_more, tags_more}
use Rattle.lp_series.proofs.tables.count_tags.Goals as goal

-- a tag more is there
pub loop-key-preserved : goal.loop-key-preserved
loop-key-preserved c before has =
    let item = c.loop-key-item.result in
    let puts : PutsTag c.loop-key.tags c.count_tag.new.tags (logical_tag (tag_of item)) = record {
      keys = λ key. grind (arith, c.in_ok-count_tag.ensures.keys key);
      values = λ key value. grind (arith, c.in_ok-count_tag.ensures.values key value);
    } in
    let more = tags_more c.loop-key.tags c.count_tag.new.tags
    (before ++ map logical_tag (map tag_of (take c.loop-key.key-index c.args.of.now)))
    (logical_tag (tag_of item)) puts (c.loop-key.invariant before has) in
    subst (HasTags c.count_tag.new.tags)
    (made_more tag_of logical_tag before c.args.of.now c.loop-key.key-index item c.loop-key-test.true c.loop-key-item.is) more
