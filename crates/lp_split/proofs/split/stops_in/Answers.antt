use Rattle.std.proofs.Common.{arith}
use Rattle.lp_scan.proofs.lemmas.lanes.LaneLemmas.{either, mask_in, one}
use Rattle.lp_split.proofs.split.stops_in.Goals as goal

pub returns : goal.returns
returns c = mask_in (either (one c.args.stops.0) (one c.args.stops.1)) c.args.text.now c.args.at 64 c.requires (omega arith)
