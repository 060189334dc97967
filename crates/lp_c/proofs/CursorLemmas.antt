-- What a cursor has left.
use Rattle.std.proofs.Common.{◌≡◌, ℕ, List, None, Some, arith, refl}
use Rattle.std.specs.Borrow.{Bor}
use Rattle.std.proofs.lemmas.Bool.{false≢true}
use Rattle.influxdb_line_protocol.specs.format.Pieces.{Left}
use Rattle.influxdb_line_protocol.specs.code.ParseSteps.{GivesLine}
use Rattle.lp_c.specs.Crossing.{ReadsItem, left_of}
use Rattle.lp_offsets.specs.Numbers.{answer_number}
use Rattle.lp_offsets.specs.declared.enums.Answer.{Answer}
use Rattle.lp_c.specs.declared.views.Line.{Line}
use Rattle.lp_c.specs.declared.views.Lines.{Lines}
use Rattle.lp_c.specs.declared.views.Part.{Part}

-- a call that gives a line leaves the dialect as it was
pub gives_in_dialect : (before after : Left) (line : Bor (List ℕ)) → GivesLine before (Some line) after
    → GivesLine before (Some line) (record { dialect = before.dialect; text = after.text })
gives_in_dialect before after line h = (refl, λ others left. h.1 others (rw h.0 left))

-- if no item is left, the end is answered, and all of the room is left
pub reads_end : (before : Lines) (room number : ℕ) (line : Line) (parts : List Part) (after : Lines)
    → number ≡ answer_number Answer.End → GivesLine (left_of before) None (left_of after)
    → ReadsItem before room room number line parts after
reads_end before room number line parts after is h = record {
  text = None;
  answer = Answer.End;
  passed = left_of after;
  numbered = is;
  gives = h;
  shown = refl;
  moves = λ passes. refl;
  stays = λ more. absurd (false≢true more);
  taken = rw is (omega arith);
}
