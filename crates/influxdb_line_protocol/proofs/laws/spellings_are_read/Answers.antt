use Rattle.lp_portable.proofs.{HeldBytes.bare_bytes_are_held, HeldBytes.escaped_bytes_are_held, Once.spelled_once}
use Rattle.lp_portable.proofs.SpellingsRead.{lines_are_spelled, spellings_are_read}
use Rattle.influxdb_line_protocol.proofs.laws.spellings_are_read.Goals as goal

pub returns : goal.returns
returns c = record {
  some = lines_are_spelled;
  one = spelled_once;
  read = spellings_are_read;
  escaped = escaped_bytes_are_held;
  bare = bare_bytes_are_held;
}
