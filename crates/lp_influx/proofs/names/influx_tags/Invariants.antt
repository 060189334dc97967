use Rattle.std.proofs.Common.{◌≤◌, length, map}
use Rattle.lp_format.specs.format.{after_comma}
use Rattle.lp_influx.specs.format.InfluxNames.{influx_tag, influx_tags}
use Rattle.lp_influx.specs.code.Read.{spelled_tag}
use Rattle.lp_influx.proofs.Reader.{Walk}
use Rattle.lp_influx.proofs.names.influx_tags.Given as goal

abbrev pub invariant-loop-tag : goal.invariant-loop-tag
invariant-loop-tag l = record {
  walked : Walk (after_comma influx_tag) (influx_tags l.text) (map spelled_tag l.tags.items) l.left;
  less : length l.left ≤ length l.text;
}

abbrev pub decreases-loop-tag : goal.decreases-loop-tag
decreases-loop-tag l = length l.left
