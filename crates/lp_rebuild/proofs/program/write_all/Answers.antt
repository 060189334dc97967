use Rattle.lp_rebuild.proofs.Moving.{whole_front}
use Rattle.lp_rebuild.proofs.program.write_all.Goals as goal

pub returns-clause-part : goal.returns-clause-part
returns-clause-part g c = whole_front _ _ _ c.args.bytes.now c.flush.result c.in_ok-write_bytes.ensures.ok c.flush.ensures.bytes
