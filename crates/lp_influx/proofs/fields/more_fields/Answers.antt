use Rattle.std.proofs.Common.{[], ◌∷◌, length}
use Rattle.lp_format.specs.format.{after_comma, many, prepend}
use Rattle.lp_influx.specs.format.InfluxFields.{influx_field}
use Rattle.lp_influx.specs.code.Read.{spelled_field}
use Rattle.lp_influx.proofs.Reader.{walk_push}
use Rattle.lp_influx.proofs.fields.more_fields.Goals as goal

pub loop-field-preserved : goal.loop-field-preserved
loop-field-preserved c =
    let text = c.args.text.now in
    walk_push spelled_field (after_comma influx_field) (prepend (spelled_field c.args.first ∷ []) (many (after_comma influx_field) (length text) text))
    c.loop-field.fields.items c.push-in-Some.new.self.items c.loop-field.left.now c.in-Some.rest.now c.in-Some.field c.loop-field.invariant
    c.in-Some.ensures.value c.in-Some.ensures.less c.in_ok-push-2.ensures.items
