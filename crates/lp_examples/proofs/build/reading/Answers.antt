use Rattle.std.proofs.Common.{rules, codes, true}
use Rattle.influxdb_line_protocol.specs.code.Built.{buffer_of}
use Rattle.influxdb_line_protocol.specs.format.Values.{integer, boolean}
use Rattle.lp_examples.proofs.Readings.{calls_build_line}
use Rattle.lp_examples.proofs.build.reading.Goals as goal

pub returns : goal.returns
returns g c =
    calls_build_line (g.B.BufMut.bytes (buffer_of c.args.lines)) (g.B.BufMut.bytes (buffer_of c.in_ok-line.line))
    (g.B.BufMut.bytes (buffer_of c.in_ok-line-2.line)) (g.B.BufMut.bytes (buffer_of c.in_ok-line-3.line))
    (g.B.BufMut.bytes (buffer_of c.in_ok-line-4.line)) (g.B.BufMut.bytes (buffer_of c.in_ok-line-5.line))
    (g.B.BufMut.bytes (buffer_of c.in_ok-lines.lines)) (codes "weather")
    (record { key = codes "city"; value = c.args.city.now })
    (record { key = codes "degrees"; value = integer c.args.degrees })
    (record { key = codes "valid"; value = boolean true }) c.args.at
    (search rules) (search rules) (search rules) (search rules) (search rules) (search rules)
