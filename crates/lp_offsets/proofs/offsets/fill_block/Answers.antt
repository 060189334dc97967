use Rattle.std.proofs.Common.{◌≡◌, length, min}
use Rattle.lp_split.proofs.lemmas.split.FirstMarks.{none_are_seen}
use Rattle.lp_offsets.proofs.offsets.fill_block.Goals as goal

pub returns-clause-reads : goal.returns-clause-reads
returns-clause-reads c =
    let read = c.read_rows-count in
    let begins : c.min.result ≡ min (length c.args.source.text.now) c.args.block.now.at = c.min.ensures in
    record {
      came = read.result.1;
      answered = c.block_answer.ensures;
      fits = (read.ensures.count, read.ensures.fits.1, read.ensures.fits.2);
      reads = rw (← begins) read.ensures.reads;
    }

pub read_rows-count-requires-clause-seen : goal.read_rows-count-requires-clause-seen
read_rows-count-requires-clause-seen c = (c.no_portion.ensures, none_are_seen _ _)
