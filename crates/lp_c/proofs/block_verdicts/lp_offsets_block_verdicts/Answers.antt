use Rattle.lp_offsets.specs.Numbers.{dialect_of}
use Rattle.lp_c.proofs.BlockVerdictLemmas.{block_if_shown, block_told}
use Rattle.lp_c.proofs.block_verdicts.lp_offsets_block_verdicts.Goals as goal

pub tell_verdicts-requires : goal.tell_verdicts-requires
tell_verdicts-requires c =
    let read = c.fill_block-answer in
    block_if_shown (dialect_of c.args.dialect) c.args.last c.args.text.now c.args.block.now read.new.rows read.new.parts read.new.room
    read.new.block read.result read.ensures.reads c.strict_parts.result c.strict_parts.ensures

pub returns-clause-reads : goal.returns-clause-reads
returns-clause-reads c = λ known short.
    let read = c.fill_block-answer in
    let tells = c.tell_verdicts in
    ∣ block_told (dialect_of c.args.dialect) c.args.last c.args.text.now c.args.block.now read.new.rows read.new.parts read.new.room
    read.new.block read.result read.ensures.reads c.args.limits.now tells.result tells.new.rows tells.ensures.verdicts
    tells.ensures.others tells.ensures.size.0 tells.ensures.size.1 tells.ensures.memory ∣₁
