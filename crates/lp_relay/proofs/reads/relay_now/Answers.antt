use Rattle.std.proofs.Common.{◌++◌, ◌∙◌, Err, ap, refl, subst, sym, take, to_z-of_z, w64, arith}
use Rattle.std.specs.Io.KnownBytes.{Consumes}
use Rattle.std.proofs.KnownBytes.{Consumes-nil, Consumes-trans}
use Rattle.influxdb_line_protocol.specs.code.Rules.{rules_of}
use Rattle.lp_rebuild.specs.declared.program.RunFault.TheVariants.{OutOfMemory}
use Rattle.lp_relay.specs.Reads.{settings_at}
use Rattle.lp_cuts.proofs.CutLemmas.{none_is_last}
use Rattle.lp_relay.proofs.InputLemmas.{none_fail}
use Rattle.lp_relay.proofs.ReadLemmas.{front_after_read, front_at_end, front_of_reads, held_last, now_ended, now_failed, reads_all, reads_more, reads_none}
use Rattle.lp_relay.proofs.RelaysSoFar.{read_none}
use Rattle.lp_relay.proofs.RelayEnds.{none_twice, read_fault, write_fault}
use Rattle.lp_relay.proofs.reads.relay_now.Goals as goal

pub loop-init : goal.loop-init
loop-init g c =
    record {
      rules = (c.new_in-stream.ensures.dialect, c.new_in-stream.ensures.limit);
      block = omega (arith);
      so_far = reads_none c.args.settings _ _ _ _ _ (Consumes-nil _) c.new_in-stream.ensures.holds
          (none_is_last c.pieces_join.ensures.some (rules_of c.args.settings.dialect)) c.none-types.ensures;
      reader_unfailed = refl;
      unfailed = record { lines = refl; faults = refl; refused = refl };
    }

pub returns-in_err-n : goal.returns-in_err-n
returns-in_err-n g c =
    let h = c.loop.invariant in
    now_failed c.args.settings c.from_residual.result _ _ _ _ _ _ c.from_residual.ensures.0
    (front_of_reads c.pieces_join.ensures.some c.args.settings _ _ _ _ _ _ _ _ _ _ h.so_far)
    (read_fault _ c.in_err-n.field-0.0 _ _ _ _ _ c.from_residual.ensures.1 c.in_err-n.ensures.counts h.reader_unfailed h.unfailed)

pub returns-in_err-counts : goal.returns-in_err-counts
returns-in_err-counts g c =
    let h = c.loop.invariant in
    let read = c.in_ok-n.ensures in
    let timed_is = c.settings_at-timed.ensures ∙ ap (λ z. settings_at z c.loop.own) (to_z-of_z {w = w64} {z = c.now.result} (record { sfits = c.now.type_inv })) in
    now_failed c.args.settings c.from_residual-in_err-counts.result _ _ _ _ _ _ c.from_residual-in_err-counts.ensures.0
    (front_at_end c.args.settings _ _ _ _ _ _ _ _ _ _ _ c.loop.own c.settings_at-timed.result _ c.now.result h.so_far
    (read_none _ _ _ _ _ c.in_ok-n.n c.if-n-eq0.true h.so_far.read read.ok) (read.end c.if-n-eq0.true) c.now.ensures timed_is
    (c.in_err-counts.ensures.relays h.so_far.left h.so_far.holds (held_last c.args.settings c.loop.own _ c.now.result _ h.so_far.dialect timed_is h.so_far.is_last)))
    (write_fault _ c.in_err-counts.field-0.0 _ _ _ _ _ c.from_residual-in_err-counts.ensures.1 c.in_err-counts.ensures.counts h.unfailed
    (read.counts ∙ h.reader_unfailed))

pub returns-then-n-eq0 : goal.returns-then-n-eq0
returns-then-n-eq0 g c =
    let h = c.loop.invariant in
    let read = c.in_ok-n.ensures in
    let timed_is = c.settings_at-timed.ensures ∙ ap (λ z. settings_at z c.loop.own) (to_z-of_z {w = w64} {z = c.now.result} (record { sfits = c.now.type_inv })) in
    let rest = c.in_ok-counts.ensures.relays h.so_far.left h.so_far.holds
    (held_last c.args.settings c.loop.own _ c.now.result _ h.so_far.dialect timed_is h.so_far.is_last) in
    now_ended c.args.settings _ _ _ _ _ _ _
    (reads_all c.args.settings _ _ _ _ _ _ _ _ _ _ c.loop.total c.in_ok-counts.counts _ c.loop.own c.settings_at-timed.result _ rest.0 c.now.result h.so_far
    (read_none _ _ _ _ _ c.in_ok-n.n c.if-n-eq0.true h.so_far.read read.ok) (read.end c.if-n-eq0.true) c.now.ensures timed_is rest.1 rest.2
    c.sum_of.ensures)
    c.in_ok-counts.ensures.flushed (none_fail _ _ _ _ _ (read.counts ∙ h.reader_unfailed) (none_twice _ _ _ h.unfailed c.in_ok-counts.ensures.counts))

pub returns-in_err-end : goal.returns-in_err-end
returns-in_err-end g c =
    let h = c.loop.invariant in
    let read = c.in_ok-n.ensures in
    let timed_is = c.settings_at-timed.ensures ∙ ap (λ z. settings_at z c.loop.own) (to_z-of_z {w = w64} {z = c.now.result} (record { sfits = c.now.type_inv })) in
    now_failed c.args.settings c.from_residual-in_err-end.result _ _ _ _ _ _ c.from_residual-in_err-end.ensures.0
    (front_after_read c.args.settings _ _ _ _ _ _ _ _ _ _ _ c.loop.own c.settings_at-timed.result _ (take c.in_ok-n.n c.deref.result.now) c.now.result h.so_far
    (subst (λ bs. Consumes (g.R.Source.bytes c.loop.reader) (g.R.Source.bytes c.read_block.new.reader) (take c.in_ok-n.n bs))
    (sym c.deref.ensures.value) read.ok) c.now.ensures timed_is
    (c.in_err-end.ensures.relays h.so_far.left h.so_far.holds (held_last c.args.settings c.loop.own _ c.now.result _ h.so_far.dialect timed_is h.so_far.is_last)))
    (write_fault _ c.in_err-end.field-0.0 _ _ _ _ _ c.from_residual-in_err-end.ensures.1 c.in_err-end.ensures.counts h.unfailed
    (read.counts ∙ h.reader_unfailed))

pub loop-preserved : goal.loop-preserved
loop-preserved g c =
    let h = c.loop.invariant in
    let read = c.in_ok-n.ensures in
    let timed_is = c.settings_at-timed.ensures ∙ ap (λ z. settings_at z c.loop.own) (to_z-of_z {w = w64} {z = c.now.result} (record { sfits = c.now.type_inv })) in
    let part = take c.in_ok-n.n c.deref.result.now in
    let ends = c.in_ok-end.ensures.relays h.so_far.left h.so_far.holds
    (held_last c.args.settings c.loop.own _ c.now.result _ h.so_far.dialect timed_is h.so_far.is_last) in
    record {
      rules = c.in_ok-end.ensures.rules;
      block = omega (arith, h.block, read.few);
      so_far = reads_more c.args.settings _ _ _ _ _ _ _ _ _ _ _ c.loop.total _ c.loop.own _ c.settings_at-timed.result _ _ part (h.so_far.given ++ part) ends.0
          c.now.result c.in_ok-end.end h.so_far
          (Consumes-trans _ _ _ h.so_far.given _ h.so_far.read
          (subst (λ bs. Consumes (g.R.Source.bytes c.loop.reader) (g.R.Source.bytes c.read_block.new.reader) (take c.in_ok-n.n bs))
          (sym c.deref.ensures.value) read.ok))
          refl c.now.ensures timed_is ends.1 ends.2 c.sum_of-total.ensures refl;
      reader_unfailed = read.counts ∙ h.reader_unfailed;
      unfailed = none_twice _ _ _ h.unfailed c.in_ok-end.ensures.counts;
    }

pub returns : goal.returns
returns g c =
    let h = c.loop.invariant in
    now_failed c.args.settings (Err OutOfMemory) _ _ _ _ _ _ refl
    (front_of_reads c.pieces_join.ensures.some c.args.settings _ _ _ _ _ _ _ _ _ _ h.so_far)
    (read_fault (Err OutOfMemory) OutOfMemory _ _ _ _ _ refl refl h.reader_unfailed h.unfailed)
