-- With which time a line goes out, and what its piece is then.
use Rattle.std.specs.Prelude.{ℕ, ℤ, pos, ◌*ℤ◌, ◌-◌, ◌++◌, ◌==◌, ◌&&◌, ◌||◌, Bool, true, not, List, ◌∷◌, length, take, codes, int_le, int_lt}
use Rattle.std.specs.Prelude.{Option, Some, None, is_some, Result, Ok, Err, if◌then◌else◌}
use Rattle.std.specs.{Option.option_map_or, List.suffix_len, List.replace_range, Fmt.signed_decimal}
use Rattle.influxdb_line_protocol.specs.format.{Bytes.space, Lines.Line, Lines.front_before, Readings.Fault, Trimming.trimmed, Values.fits_i64}
use Rattle.lp_conditions.specs.declared.times.{TimeChange.TimeChange, TimeFault.TimeFault, Times.Times, TimeUnit.TimeUnit}
use Rattle.lp_conditions.specs.declared.times.TimeChange.TheVariants.{Stays, Becomes, Wrong}
use Rattle.lp_conditions.specs.declared.times.TimeFault.TheVariants.{Overflow, OutOfRange, Missing}
use Rattle.lp_conditions.specs.declared.times.TimeUnit.TheVariants.{Seconds, Millis, Micros, Nanos}

-- what comes before the trimmed text of a piece
abbrev pub front_of : List ℕ → List ℕ
front_of piece = front_before piece (trimmed piece)

-- how many nanoseconds a unit has
abbrev pub nanos_in : TimeUnit → ℤ
nanos_in Seconds = pos 1000000000
nanos_in Millis = pos 1000000
nanos_in Micros = pos 1000
nanos_in Nanos = pos 1

-- a unit, as faults name it
abbrev pub unit_text : TimeUnit → List ℕ
unit_text Seconds = codes "seconds"
unit_text Millis = codes "milliseconds"
unit_text Micros = codes "microseconds"
unit_text Nanos = codes "nanoseconds"

-- whether lines may have this time
abbrev pub is_within : Times → ℤ → Bool
is_within times time = option_map_or (λ from. int_le from time) times.from true && option_map_or (λ to. int_lt time to) times.to true

-- this change, if lines may have this time
abbrev pub if_within : Times → ℤ → TimeChange → TimeChange
if_within times time change = if is_within times time then change else Wrong (OutOfRange time)

-- what becomes of a timestamp in this unit that comes to so many nanoseconds: in nanoseconds it stays, as it is spelled
abbrev pub in_nanos : TimeUnit → ℤ → TimeChange
in_nanos Nanos time = Stays
in_nanos other time = Becomes time

-- what becomes of a line without a timestamp: it has the time of such lines, if there is one; and without it none may go out if there is a range
abbrev pub without_time : Times → Option ℤ → TimeChange
without_time times None = if is_some times.from || is_some times.to then Wrong Missing else Stays
without_time times (Some time) = if_within times time (Becomes time)

-- what becomes of the timestamp with which a line came, if it came with one
abbrev pub change_of : Times → Option ℤ → TimeChange
change_of times None = without_time times times.missing
change_of times (Some came) =
    let time = came *ℤ nanos_in times.unit in
    if fits_i64 time then if_within times time (in_nanos times.unit time) else Wrong (Overflow came times.unit)

-- where the last word of a text ends: before the spaces at its end
abbrev pub word_end : List ℕ → ℕ
word_end text = length text - suffix_len (λ b. b == space) text

-- where the last word begins of a text with no space at its end: after its last space
abbrev pub word_start : List ℕ → ℕ
word_start text = length text - suffix_len (λ b. not (b == space)) text

-- the text of a line that has this time: in the place of the last word, which is the timestamp with which it came, or, if it came with none, at
-- the end, after a space
abbrev pub text_at : (came : Option ℤ) → (time : ℤ) → List ℕ → List ℕ
text_at None time text = text ++ space ∷ signed_decimal time
text_at (Some came) time text = replace_range text (word_start (take (word_end text) text)) (word_end text) (signed_decimal time)

-- the piece of such a line: what it has before its text stays
abbrev pub piece_at : (came : Option ℤ) → (time : ℤ) → List ℕ → List ℕ
piece_at came time piece = front_before piece (trimmed piece) ++ text_at came time (trimmed piece)

-- a line with this time
abbrev pub line_at : ℤ → Line → Line
line_at time line = record line { timestamp = Some time }

-- what is relayed of a piece: a piece and its answer, or nothing, for the time of its line
pub data Timed : Type 0 where
  relayed : List ℕ → Result Line Fault → Timed
  time_fault : TimeFault → Timed

-- the line of a piece, after this change of its time
abbrev pub changed : List ℕ → Line → TimeChange → Timed
changed piece line Stays = relayed piece (Ok line)
changed piece line (Becomes time) = relayed (piece_at line.timestamp time piece) (Ok (line_at time line))
changed piece line (Wrong fault) = time_fault fault

-- the answer for a piece, once its line has its time, if the times of lines are looked at
abbrev pub timed : Option Times → List ℕ → Result Line Fault → Timed
timed None piece answer = relayed piece answer
timed (Some times) piece (Ok line) = changed piece line (change_of times line.timestamp)
timed (Some times) piece (Err fault) = relayed piece (Err fault)

-- what is wrong with a line that is refused for its time
abbrev pub time_fault_text : TimeFault → List ℕ
time_fault_text (Overflow came unit) =
    codes "time overflow: " ++ signed_decimal came ++ codes " " ++ unit_text unit ++ codes " do not fit 64 bits in nanoseconds"
time_fault_text (OutOfRange time) = codes "time out of range: " ++ signed_decimal time
time_fault_text Missing = codes "time missing: the line has no timestamp"
