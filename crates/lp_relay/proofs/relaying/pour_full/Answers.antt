use Rattle.lp_relay.proofs.relaying.pour_full.Goals as goal

pub returns-then-len-lt-BLOCK-3-clause-writes : goal.returns-then-len-lt-BLOCK-3-clause-writes
returns-then-len-lt-BLOCK-3-clause-writes g c s pieces ahead before h = h
