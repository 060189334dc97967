use Rattle.std.proofs.Common.{◌≡◌, ◌+◌, ◌≤◌, length}
use denote.Text.{Utf8}
use denote.Shadow.{shadow}
use Rattle.lp_format.specs.format.Lines.{field}
use Rattle.lp_events.{specs.code.Events.valued, specs.code.Places.IsEndOf, proofs.lemmas.events.LineEvents.ToldSoFar}
use Rattle.lp_events.proofs.events.fields.Given as goal

abbrev pub invariant-loop-key : goal.invariant-loop-key
invariant-loop-key g l = record {
  utf8_rest : shadow (Utf8 l.rest);
  utf8_place : shadow (Utf8 l.place);
  told : ToldSoFar g.S.PlacedSink.takes valued field (λ parts. Unit {0}) l.fn.sink l.sink l.text l.count l.rest l.place;
  line : g.S.PlacedSink.line l.sink ≡ g.S.PlacedSink.line l.fn.sink;
  ends : IsEndOf (g.S.PlacedSink.line l.fn.sink) l.place;
  room : l.count + length l.place ≤ length l.text;
}

abbrev pub decreases-loop-key : goal.decreases-loop-key
decreases-loop-key g l = length l.place
