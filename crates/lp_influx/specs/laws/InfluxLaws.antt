-- The law about the lines that are portable to InfluxDB 1.x.
use Rattle.std.specs.Prelude.{◌≡◌, ℕ, List, Some}
use Rattle.lp_format.specs.format.{point_of}
use Rattle.lp_portable.specs.format.Portable.{IsPortable, Limits, influx1}
use Rattle.lp_influx.specs.format.InfluxLines.{influx_line}

-- From each line that is portable to InfluxDB 1.x, InfluxDB 1.x reads the point that the strict reader reads.
abbrev pub InfluxReadsPortableLines : Type 0
InfluxReadsPortableLines =
    (limits : Limits) (text : List ℕ) (portable : IsPortable influx1 limits text) → influx_line text ≡ Some (point_of portable.line)
