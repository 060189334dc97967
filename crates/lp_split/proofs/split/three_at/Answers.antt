use Rattle.std.proofs.Common.{refl, arith}
use Rattle.memchr.specs.Find.{is_byte3}
use Rattle.lp_format.specs.format.Bytes.{backslash, newline, quote}
use Rattle.lp_scan.proofs.lemmas.lanes.LaneLemmas.{either, mask_as, one}
use Rattle.lp_split.proofs.split.three_at.Goals as goal

pub returns : goal.returns
returns c = mask_as (either (one newline) (either (one quote) (one backslash))) c.args.text.now c.args.at 64 c.requires (omega arith)
    (is_byte3 backslash newline quote) (λ k. (c.type_inv.text k).fits) refl
