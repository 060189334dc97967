use Rattle.std.proofs.Common.{refl, arith}
use Rattle.memchr.specs.Find.{is_byte}
use Rattle.lp_format.specs.format.Bytes.{newline}
use Rattle.lp_scan.proofs.lemmas.lanes.LaneLemmas.{mask_as, one}
use Rattle.lp_split.proofs.split.newlines_at.Goals as goal

pub returns : goal.returns
returns c = mask_as (one newline) c.args.text.now c.args.at 64 c.requires (omega arith) (is_byte newline) (λ k. (c.type_inv.text k).fits) refl
