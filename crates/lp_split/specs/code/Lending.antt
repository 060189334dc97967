-- Streams that lent a piece: the state of a stream after the piece is let go.
use Rattle.std.specs.{Borrow.Fml, Borrow.MutBor, Io.BufRead.Rests}
use Rattle.lp_split.specs.{code.Bounded.HeldWithin, code.Streams.Held, declared.stream.LineStream.LineStream}
use Rattle.lp_split.specs.{contracts.stream.LineStream.the_row, declared.stream.bounded.BoundedLineStream.BoundedLineStream}
use Rattle.lp_split.specs.contracts.stream.bounded.BoundedLineStream.{the_row as bounded_row}

-- when the piece that the stream lent is let go, the stream is in a state that a call which does `Does` leaves
abbrev pub EndsBy : MutBor LineStream → (Held → Held → Type 0) → Fml
EndsBy stream Does = Rests the_row stream (Does stream.now)

-- when the piece that the bounded stream lent is let go, the stream is in a state that a call which does `Does` leaves
abbrev pub EndsWithinBy : MutBor BoundedLineStream → (HeldWithin → HeldWithin → Type 0) → Fml
EndsWithinBy stream Does = Rests bounded_row stream (Does stream.now)
