use Rattle.std.proofs.Common.{[], refl}
use Rattle.influxdb_line_protocol.specs.code.Rules.{rules_of}
use Rattle.influxdb_line_protocol.specs.laws.StreamLaws.{Run.begun}
use Rattle.lp_series.proofs.TextLemmas.{none_is_last}
use Rattle.lp_series.proofs.counter.SeriesCounter.new.Goals as goal

-- nothing was counted, and nothing is left
pub returns-clause-counts : goal.returns-clause-counts
returns-clause-counts c = (
  [],
  record {
    rules = refl;
    stream_rules = c.new_in.ensures.dialect;
    limit = c.new_in.ensures.limit;
    pieces = [];
    run = begun;
    holds = c.new_in.ensures.holds;
    counts = c.new.ensures.counts;
    refused = refl;
  },
  none_is_last c.pieces_join.ensures.some (rules_of c.args.dialect),
)
