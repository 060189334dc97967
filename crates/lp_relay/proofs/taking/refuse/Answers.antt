use Rattle.std.proofs.Common.{◌≡◌, ◌++◌, ◌∷◌, [], ◌∙◌, List, ℕ, ap, refl, false, true, arith, option_map}
use Rattle.std.proofs.lemmas.Bool.Decides.{nat_tests}
use Rattle.std.proofs.lemmas.Result.{on_ok_weaker}
use Rattle.influxdb_line_protocol.specs.format.Bytes.{newline}
use Rattle.lp_conditions.specs.KindCounts.{counts_if, with_fault}
use Rattle.lp_relay.specs.RelaySteps.{unwritten_of}
use Rattle.lp_relay.proofs.ToldLemmas.{put_asked, put_unasked, refuses}
use Rattle.lp_relay.proofs.taking.refuse.Goals as goal

pub returns-then-not-settings-clause-taken : goal.returns-then-not-settings-clause-taken
returns-then-not-settings-clause-taken c item types r kept =
    let unasked : c.args.settings.now.puts_refused ≡ false = grind (arith, nat_tests) in
    refuses c.args.settings.now types c.args.piece c.args.refusal.now item (unwritten_of c.args.pending.now) _ _ r (omega arith) refl c.in_ok-tell_at.ensures refl refl
    (c.in_ok-count.ensures ∙ ap (λ k. option_map (with_fault k) (counts_if c.args.pending.now.kinds)) c.kind.ensures)
    (put_unasked c.args.pending.now.pieces.items _ c.args.settings.now.puts_refused unasked) refl kept

pub returns-clause-taken : goal.returns-clause-taken
returns-clause-taken c =
    let asked : c.args.settings.now.puts_refused ≡ true = grind (arith, nat_tests) in
    on_ok_weaker c.copy_line.result
    (λ put item types r kept.
    refuses c.args.settings.now types c.args.piece c.args.refusal.now item (unwritten_of c.args.pending.now) _ _ r (omega arith) refl c.in_ok-tell_at.ensures refl refl
    (c.in_ok-count.ensures ∙ ap (λ k. option_map (with_fault k) (counts_if c.args.pending.now.kinds)) c.kind.ensures)
    (put ∙ ap (λ (l : List ℕ). c.args.pending.now.pieces.items ++ (l ++ newline ∷ [])) c.bytes.ensures
    ∙ put_asked c.args.pending.now.pieces.items _ c.args.settings.now.puts_refused asked) refl kept)
    c.copy_line.ensures
