use Rattle.influxdb_line_protocol.proofs.lemmas.laws.BatchesReadBack.{admitted_batches_read_back, other_batches_do_not}
use Rattle.influxdb_line_protocol.proofs.lemmas.laws.BatchesReadBack.{items_have_readable_names, other_points_end_with_backslash}
use Rattle.influxdb_line_protocol.proofs.laws.batch_reads_back.Goals as goal

pub returns : goal.returns
returns c = record {
  admitted = admitted_batches_read_back;
  refused = other_batches_do_not;
  unreadable = items_have_readable_names;
  in_place = other_points_end_with_backslash;
}
