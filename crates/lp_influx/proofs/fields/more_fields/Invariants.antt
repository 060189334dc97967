use Rattle.std.proofs.Common.{[], ◌∷◌, length, map}
use Rattle.lp_format.specs.format.{after_comma, many, prepend}
use Rattle.lp_influx.specs.format.InfluxFields.{influx_field}
use Rattle.lp_influx.specs.code.Read.{spelled_field}
use Rattle.lp_influx.proofs.Reader.{Walk}
use Rattle.lp_influx.proofs.fields.more_fields.Given as goal

abbrev pub invariant-loop-field : goal.invariant-loop-field
invariant-loop-field l = Walk (after_comma influx_field) (prepend (spelled_field l.first ∷ []) (many (after_comma influx_field) (length l.text) l.text))
    (map spelled_field l.fields.items) l.left

abbrev pub decreases-loop-field : goal.decreases-loop-field
decreases-loop-field l = length l.left
