use Rattle.influxdb_line_protocol.specs.code.Rules.{rules_of}
use Rattle.std.proofs.Common.{◌∙◌, [], Err, Ok, ap, refl, arith}
use Rattle.influxdb_line_protocol.specs.format.Pieces.{Left}
use Rattle.lp_relay.specs.RelaySteps.{stage_of}
use Rattle.lp_rebuild.proofs.Parts.{at_no_fault}
use Rattle.lp_relay.proofs.RelayLemmas.{at_fault}
use Rattle.lp_relay.proofs.RelayEnds.{none_twice}
use Rattle.lp_relay.proofs.RelaysSoFar.{so_far_given, so_far_written, some_of_front, some_so_far}
use Rattle.lp_relay.proofs.WholeLines.{all_left, line_given, line_taken}
use Rattle.lp_relay.proofs.relaying.relay_lines.Goals as goal

pub loop-piece-init : goal.loop-piece-init
loop-piece-init g c =
    let is = c.split_lines_in-lines.ensures in
    record {
      dialect = ap (λ (l : Left). l.dialect) is;
      reads = c.new-reader.ensures;
      within = omega arith;
      left = all_left c.split_lines_in-lines.result.text c.args.bytes.now c.whole_lines.result.now (ap (λ (l : Left). l.text) is)
          c.whole_lines.ensures;
      fits = omega (arith, c.requires.fits);
      held = c.requires.few;
      relays = λ given before h. so_far_given c.args.settings given [] [] before _ h;
      unahead = λ is. is;
      unfailed = record { lines = refl; faults = refl; refused = refl };
    }

pub returns-then-is_err-clause-relays : goal.returns-then-is_err-clause-relays
returns-then-is_err-clause-relays g c given before h =
    some_of_front _ given _ c.loop-piece.taken _ _ (some_so_far _ _ _ _ _ (c.loop-piece.invariant.relays given before h))

pub loop-piece-preserved : goal.loop-piece-preserved
loop-piece-preserved g c =
    let h = c.loop-piece.invariant in
    let line = line_given c.pieces_join.ensures.some c.pieces_join.ensures.text (rules_of c.args.settings.dialect) c.loop-piece.lines
    c.next.new.self c.in-Some.piece c.remainder.result c.args.bytes.now c.loop-piece.taken h.dialect h.within h.left
    c.in-Some.ensures.steps c.if-is_none.ensures c.remainder.ensures in
    let poured = c.in_ok-pour_full.ensures in
    let taken = c.take_piece.ensures in
    let fits = at_no_fault c.take_piece.result c.if-is_err.ensures.value taken.fits in
    record {
      dialect = c.in-Some.ensures.steps.0 ∙ h.dialect;
      reads = taken.dialect ∙ h.reads;
      within = line.within;
      left = line.left;
      fits = omega (arith, fits, poured.same);
      held = poured.held;
      relays = λ given before old.
          so_far_written c.args.settings _ [] before (Ok tt) _ _ poured.writes
          (line_taken c.pieces_join.ensures.some c.pieces_join.ensures.one c.args.settings given c.args.bytes.now c.loop-piece.taken c.in-Some.piece c.next.new.self.text before _ _
          (h.relays given before old) line c.if-piece-settings.false
          (at_no_fault c.take_piece.result c.if-is_err.ensures.value taken.taken)
          (at_no_fault c.take_piece.result c.if-is_err.ensures.value taken.start));
      unahead = λ is. poured.ahead ∙ (at_no_fault c.take_piece.result c.if-is_err.ensures.value taken.taken).ahead ∙ h.unahead is;
      unfailed = none_twice _ _ _ h.unfailed poured.counts;
    }

pub returns-in_err-pour_full-clause-relays : goal.returns-in_err-pour_full-clause-relays
returns-in_err-pour_full-clause-relays g c given before old =
    let h = c.loop-piece.invariant in
    let line = line_given c.pieces_join.ensures.some c.pieces_join.ensures.text (rules_of c.args.settings.dialect) c.loop-piece.lines
    c.next.new.self c.in-Some.piece c.remainder.result c.args.bytes.now c.loop-piece.taken h.dialect h.within h.left
    c.in-Some.ensures.steps c.if-is_none.ensures c.remainder.ensures in
    at_fault _ c.from_residual.result c.from_residual.ensures.0
    (some_of_front c.args.settings given c.args.bytes.now _ before _
    (so_far_written c.args.settings _ [] before (Err c.in_err-pour_full.field-0.0) _
    (stage_of c.pour_full.new.pending (g.O.ThreeWriters.told c.pour_full.new.outputs)) c.in_err-pour_full.ensures.writes
    (line_taken c.pieces_join.ensures.some c.pieces_join.ensures.one c.args.settings given c.args.bytes.now c.loop-piece.taken c.in-Some.piece c.next.new.self.text before _ _
    (h.relays given before old) line c.if-piece-settings.false
    (at_no_fault c.take_piece.result c.if-is_err.ensures.value c.take_piece.ensures.taken)
    (at_no_fault c.take_piece.result c.if-is_err.ensures.value c.take_piece.ensures.start))))

pub returns-then-is_none-clause-unahead : goal.returns-then-is_none-clause-unahead
returns-then-is_none-clause-unahead g c is = c.loop-piece.invariant.unahead is

pub returns-clause-unahead : goal.returns-clause-unahead
returns-clause-unahead g c is = c.loop-piece.invariant.unahead is
