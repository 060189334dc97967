use Rattle.std.proofs.Common.{arith}
use Rattle.lp_format.specs.format.{after_comma}
use Rattle.lp_influx.specs.format.InfluxNames.{influx_tag, influx_tags}
use Rattle.lp_influx.specs.code.Read.{spelled_tag}
use Rattle.lp_influx.proofs.Reader.{walk_push}
use Rattle.lp_influx.proofs.names.influx_tags.Goals as goal

pub loop-tag-preserved : goal.loop-tag-preserved
loop-tag-preserved c = record {
  walked = walk_push spelled_tag (after_comma influx_tag) (influx_tags c.args.text.now) c.loop-tag.tags.items c.push.new.self.items c.loop-tag.left.now
      c.in-Some.rest.now c.in-Some.tag c.loop-tag.invariant.walked c.in-Some.ensures.value c.in-Some.ensures.less c.in_ok-push.ensures.items;
  less = omega (arith, c.loop-tag.invariant.less, c.in-Some.ensures.less);
}
