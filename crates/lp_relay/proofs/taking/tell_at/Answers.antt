use Rattle.std.proofs.Common.{◌++◌, ◌∙◌, List, ℕ, ap, append-nil, string_bytes, sym}
use Rattle.std.proofs.lemmas.Result.{on_ok_weaker}
use Rattle.lp_relay.proofs.ToldLemmas.{told_none, told_whole}
use Rattle.lp_relay.proofs.taking.tell_at.Goals as goal

pub returns-then-not-is_told : goal.returns-then-not-is_told
returns-then-not-is_told c =
    let old = string_bytes c.args.faults.now in
    sym (ap (λ (l : List ℕ). old ++ l) (told_none c.args.settings.now c.args.place _ (sym c.is_told.ensures ∙ c.if-not-is_told.true)) ∙ append-nil old)

pub returns : goal.returns
returns c =
    let old = string_bytes c.args.faults.now in
    on_ok_weaker c.tell.result
    (λ told. told ∙ ap (λ (l : List ℕ). old ++ l) (sym (told_whole c.args.settings.now c.args.place _ (sym c.is_told.ensures ∙ c.if-not-is_told.false))))
    c.tell.ensures
