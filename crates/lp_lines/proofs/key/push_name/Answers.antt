use Rattle.std.proofs.Common.{◌≡◌, ◌<◌, true, ap, arith, get_or, length, string_bytes, ◌++◌}
use Rattle.std.proofs.lemmas.{Grind.common_steps, Str.IsCharBoundary-start, Str.IsCharBoundary-before_ascii}
use Rattle.lp_format.specs.format.{is_one_of}
use Rattle.lp_scan.specs.code.{known_of}
use Rattle.lp_lines.proofs.lemmas.series.KeyTexts.{escaped_nil, escape_byte, keep_byte, known_ascii}
use Rattle.lp_lines.proofs.key.push_name.Goals as goal
use Rattle.lp_lines.proofs.key.push_name.Goals.{then-is_known+in_ok-push_str+in_ok-push_str-2, else-is_known}

pub loop-at-init : goal.loop-at-init
loop-at-init c =
    (omega arith, IsCharBoundary-start c.args.name.now c.utf8.name, ap (λ end. string_bytes c.args.text.now ++ end) (escaped_nil (known_of c.args.kind)))

pub loop-at-preserved : goal.loop-at-preserved
loop-at-preserved c =
    let l = c.loop-at in
    let name = c.args.name.now in
    let known = known_of c.args.kind in
    let (low, bound, whole) = l.invariant in
    let within : l.at < length name = omega (arith, c.as_bytes-bytes.ensures.len) in
    elim c.if-is_known.branch [
      | then-is_known+in_ok-push_str+in_ok-push_str-2 w ↦
          let special : is_one_of known (get_or name l.at 0) ≡ true = grind (arith, common_steps) in
          let more = escape_byte known name (string_bytes l.text) (string_bytes c.args.text.now) l.start l.at within special whole in
          rw (w.start-is, w.text-is) (
            omega arith,
            IsCharBoundary-before_ascii name l.at within (known_ascii c.args.kind _ special),
            grind (arith, common_steps),
          )
      | else-is_known w ↦ grind (arith, common_steps, keep_byte)
    ]
