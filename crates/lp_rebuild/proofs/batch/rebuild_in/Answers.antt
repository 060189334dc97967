use Rattle.influxdb_line_protocol.specs.code.Rules.{rules_of}
use Rattle.std.proofs.Common.{arith, ap, refl, ◌∙◌}
use Rattle.lp_rebuild.proofs.RebuildLemmas.{SoFar-piece, SoFar-end}
use Rattle.lp_rebuild.proofs.BatchLemmas.{batch_reads_back}
use Rattle.lp_rebuild.proofs.batch.rebuild_in.Goals as goal

pub loop-piece-preserved : goal.loop-piece-preserved
loop-piece-preserved c =
    let h = c.loop-piece.invariant in
    let given = c.in-Some.ensures.steps in
    let taken = c.in_ok-take_piece.ensures in
    record {
      dialect = given.0 ∙ h.dialect;
      room = omega (arith, taken.counted, (c.in-Some.ensures.goes.on tt).2);
      reads = taken.dialect ∙ h.reads;
      done = λ others left.
          SoFar-piece (rules_of c.args.dialect) c.args.input.now c.in-Some.piece.now others c.loop-piece.so_far c.take_piece.new.so_far
          (h.done _ (given.1 others left)) taken.blank (rw h.reads at taken.taken);
    }

pub returns-clause-rebuilds : goal.returns-clause-rebuilds
returns-clause-rebuilds c =
    SoFar-end (rules_of c.args.dialect) c.args.input.now c.loop-piece.so_far
    (c.loop-piece.invariant.done _ c.in_default.ensures.steps.0) _
    refl (ap (λ v. v.items) c.into_bytes.ensures.value) refl refl

pub returns-clause-reads_back : goal.returns-clause-reads_back
returns-clause-reads_back c =
    batch_reads_back c.batch_reads_back.ensures.admitted c.lines_are_read_alone.ensures.strings c.lines_are_points.ensures c.pieces_join.ensures.one
    (rules_of c.args.dialect) c.args.input.now _
    (returns-clause-rebuilds c)
