use Rattle.std.proofs.Common.{◌≡◌, ◌+◌, ◌≤◌, length}
use denote.Text.{Utf8}
use denote.Shadow.{shadow}
use Rattle.lp_format.specs.format.Lines.{tag}
use Rattle.lp_events.{specs.code.Events.tagged, specs.code.OwnBases.KeepsOn, specs.code.Places.IsEndOf, proofs.lemmas.events.LineEvents.ToldSoFar}
use Rattle.lp_events.proofs.events.tags.Given as goal

abbrev pub invariant-loop-key : goal.invariant-loop-key
invariant-loop-key g l = record {
  utf8_rest : shadow (Utf8 l.rest);
  utf8_place : shadow (Utf8 l.place);
  told : ToldSoFar g.S.PlacedSink.takes tagged tag (λ parts. KeepsOn l.fn.kept parts l.kept) l.fn.sink l.sink l.text l.count l.rest l.place;
  line : g.S.PlacedSink.line l.sink ≡ g.S.PlacedSink.line l.fn.sink;
  ends : IsEndOf (g.S.PlacedSink.line l.fn.sink) l.place;
  room : l.count + length l.place ≤ length l.text;
}

abbrev pub decreases-loop-key : goal.decreases-loop-key
decreases-loop-key g l = length l.place
