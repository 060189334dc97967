use Rattle.std.proofs.Common.{◌≡◌, ◌+◌, ◌++◌, ◌∙◌, [], Err, IfSome, ap, length, refl, subst, sym, take, arith}
use Rattle.std.specs.Io.KnownBytes.{Consumes}
use Rattle.std.proofs.KnownBytes.{Consumes-nil, Consumes-trans, Consumes-whole}
use Rattle.lp_rebuild.specs.declared.program.RunFault.TheVariants.{OutOfMemory}
use Rattle.lp_conditions.specs.FieldTypes.{types_of}
use Rattle.lp_relay.specs.RelaySteps.{Start, items_before, stage_of, unwritten_of_none}
use Rattle.lp_conditions.specs.KindCounts.{counts_if}
use Rattle.lp_relay.specs.Relays.{RelaysFronts, TypesAfter}
use Rattle.lp_relay.specs.Writers.{bytes_of}
use Rattle.lp_relay.proofs.RelaysSoFar.{fronts_so_far, pieces_relayed, read_none, so_far_all, so_far_none, some_so_far, types_all}
use Rattle.lp_relay.proofs.RelayEnds.{ended, failed, none_twice, read_fault, write_fault}
use Rattle.lp_relay.proofs.relaying.relay_on.Goals as goal

pub loop-init : goal.loop-init
loop-init g c =
    let made = c.nothing_made-pending.ensures.made in
    record {
      ready = (
        (c.new_in-stream.ensures.dialect, c.new_in-stream.ensures.limit),
        omega (arith, c.nothing_made-pending.ensures.fits),
        (
          omega (arith, ap (λ m. length m.made.batch) made),
          omega (arith, ap (λ m. length m.made.faults) made),
          omega (arith, ap (λ m. length m.pieces) made),
        ),
      );
      block = omega (arith);
      so_far = (
        [],
        Consumes-nil _,
        so_far_none c.pieces_join.ensures.some c.args.settings _ c.new_in-stream.result _ c.new_in-stream.ensures.holds
            (made ∙ ap (λ k. unwritten_of_none c.args.settings (types_of k)) c.replace-known.ensures.value),
      );
      reader_unfailed = refl;
      unfailed = record { lines = refl; faults = refl; refused = refl };
    }

pub returns-in_err-n-clause-relays : goal.returns-in_err-n-clause-relays
returns-in_err-n-clause-relays g c =
    let h = c.loop.invariant in
    failed c.utf8_by_pieces.ensures c.pieces_join.ensures.one _ _ c.from_residual.result _ _ _ _ c.from_residual.ensures.0
    (fronts_so_far c.pieces_join.ensures.some c.pieces_join.ensures.one c.runs_give_pieces.ensures.runs _ _ _ h.so_far.0 _ _ h.so_far.1
    (some_so_far _ _ _ _ _ h.so_far.2.2))
    (read_fault _ c.in_err-n.field-0.0 _ _ _ _ _ c.from_residual.ensures.1 c.in_err-n.ensures.counts h.reader_unfailed h.unfailed)

pub returns-in_err-finish-clause-relays : goal.returns-in_err-finish-clause-relays
returns-in_err-finish-clause-relays g c =
    let h = c.loop.invariant in
    let read = c.in_ok-n.ensures in
    failed c.utf8_by_pieces.ensures c.pieces_join.ensures.one _ _ c.from_residual-in_err-finish.result _ _ _ _
    c.from_residual-in_err-finish.ensures.0
    (Consumes-whole _ _ h.so_far.0
    (λ bs. RelaysFronts c.args.settings (types_of c.args.types.now) bs (bytes_of (g.O.ThreeWriters.told c.args.outputs.now))
    (bytes_of (g.O.ThreeWriters.told c.finish.new.outputs)))
    (read_none _ _ _ _ _ c.in_ok-n.n c.if-n-eq0.true h.so_far.1 read.ok) (read.end c.if-n-eq0.true)
    (c.in_err-finish.ensures.relays h.so_far.0 _ h.so_far.2))
    (write_fault _ c.in_err-finish.field-0.0 _ _ _ _ _ c.from_residual-in_err-finish.ensures.1 c.in_err-finish.ensures.counts h.unfailed
    (read.counts ∙ h.reader_unfailed))

pub returns-then-n-eq0-clause-relays : goal.returns-then-n-eq0-clause-relays
returns-then-n-eq0-clause-relays g c =
    let h = c.loop.invariant in
    let read = c.in_ok-n.ensures in
    let done = c.in_ok-finish.ensures in
    let start : Start = record { told = g.O.ThreeWriters.told c.args.outputs.now; types = types_of c.args.types.now } in
    let all = done.relays h.so_far.0 start h.so_far.2 in
    let carried : c.counts_of-counts.result.carried + items_before c.args.settings.numbering c.args.settings.first ≡ c.finish.new.pending.so_far.carried =
    omega (arith, c.counts_of-counts.ensures.carried, all.2.made.carried) in
    ended c.utf8_by_pieces.ensures c.pieces_join.ensures.one _ _ _ _ _ _ _
    (so_far_all c.args.settings _ _ h.so_far.0 all.0 _ start (stage_of c.finish.new.pending (g.O.ThreeWriters.told c.finish.new.outputs)) (read_none _ _ _ _ _ c.in_ok-n.n c.if-n-eq0.true h.so_far.1 read.ok)
    (read.end c.if-n-eq0.true) all.1
    (pieces_relayed c.args.settings all.0 _ start (stage_of c.finish.new.pending (g.O.ThreeWriters.told c.finish.new.outputs)) all.2 done.none.0 done.none.1 done.none.2 carried c.counts_of-counts.ensures.refused
    (ap counts_if c.counts_of-counts.ensures.kinds)))
    done.flushed (read.counts ∙ h.reader_unfailed) (none_twice _ _ _ h.unfailed done.counts)

pub returns-in_err-relay_part-clause-relays : goal.returns-in_err-relay_part-clause-relays
returns-in_err-relay_part-clause-relays g c =
    let h = c.loop.invariant in
    let read = c.in_ok-n.ensures in
    failed c.utf8_by_pieces.ensures c.pieces_join.ensures.one _ _ c.from_residual-in_err-relay_part.result _ _ _ _
    c.from_residual-in_err-relay_part.ensures.0
    (fronts_so_far c.pieces_join.ensures.some c.pieces_join.ensures.one c.runs_give_pieces.ensures.runs _ _ _ _ _ _
    (Consumes-trans _ _ _ h.so_far.0 _ h.so_far.1
    (subst (λ bs. Consumes (g.R.Source.bytes c.loop.reader) (g.R.Source.bytes c.read_block.new.reader) (take c.in_ok-n.n bs))
    (sym c.deref.ensures.value) read.ok))
    (c.in_err-relay_part.ensures.relays h.so_far.0 _ h.so_far.2))
    (write_fault _ c.in_err-relay_part.field-0.0 _ _ _ _ _ c.from_residual-in_err-relay_part.ensures.1 c.in_err-relay_part.ensures.counts
    h.unfailed (read.counts ∙ h.reader_unfailed))

pub loop-preserved : goal.loop-preserved
loop-preserved g c =
    let h = c.loop.invariant in
    let read = c.in_ok-n.ensures in
    let relayed = c.in_ok-relay_part.ensures in
    record {
      ready = relayed.ready;
      block = omega (arith, h.block, read.few);
      so_far = (
        h.so_far.0 ++ take c.in_ok-n.n c.deref.result.now,
        Consumes-trans _ _ _ h.so_far.0 _ h.so_far.1
            (subst (λ bs. Consumes (g.R.Source.bytes c.loop.reader) (g.R.Source.bytes c.read_block.new.reader) (take c.in_ok-n.n bs))
            (sym c.deref.ensures.value) read.ok),
        relayed.relays h.so_far.0 _ h.so_far.2,
      );
      reader_unfailed = read.counts ∙ h.reader_unfailed;
      unfailed = none_twice _ _ _ h.unfailed relayed.counts;
    }

pub returns-clause-relays : goal.returns-clause-relays
returns-clause-relays g c =
    let h = c.loop.invariant in
    failed c.utf8_by_pieces.ensures c.pieces_join.ensures.one _ _ (Err OutOfMemory) _ _ _ _ refl
    (fronts_so_far c.pieces_join.ensures.some c.pieces_join.ensures.one c.runs_give_pieces.ensures.runs _ _ _ h.so_far.0 _ _ h.so_far.1
    (some_so_far _ _ _ _ _ h.so_far.2.2))
    (read_fault (Err OutOfMemory) OutOfMemory _ _ _ _ _ refl refl h.reader_unfailed h.unfailed)

pub returns-then-n-eq0-clause-types : goal.returns-then-n-eq0-clause-types
returns-then-n-eq0-clause-types g c =
    let h = c.loop.invariant in
    let read = c.in_ok-n.ensures in
    let all = c.in_ok-finish.ensures.relays h.so_far.0 _ h.so_far.2 in
    subst (λ k. IfSome (g.R.Source.bytes c.args.reader.now) (λ bs. TypesAfter c.args.settings (types_of c.args.types.now) bs (types_of k)))
    (sym c.replace.ensures.value)
    (types_all c.args.settings _ _ h.so_far.0 all.0 _ _ (read_none _ _ _ _ _ c.in_ok-n.n c.if-n-eq0.true h.so_far.1 read.ok)
    (read.end c.if-n-eq0.true) all.1 all.2)
