use Rattle.std.proofs.Common.{◌≡◌, ◌++◌, ◌∷◌, [], ap, sym, subst, ◌∙◌, arith, Some, None, ℕ, List, nat_cmp, string_bytes, take, map}
use Rattle.std.specs.{BTreeMap.UpdatesBy, BTreeMap.get_by_text, Cmp.Lexicographic.slice_cmp, String.string_cmp, Vec.vec_items}
use Rattle.std.proofs.lemmas.List.{take_more}
use Rattle.lp_examples.specs.Grouped.{lines_at, lines_in}
use Rattle.lp_examples.proofs.Groups.{group_more, pushed_lines}
use Rattle.lp_examples.proofs.grouped.group.Goals as goal
use Rattle.lp_examples.proofs.grouped.group.Goals.{in-Some, in-None}

pub loop-line-preserved : goal.loop-line-preserved
loop-line-preserved c key =
    let bytes = string_bytes c.in_ok-key.key in
    let out : UpdatesBy string_cmp (λ k. slice_cmp nat_cmp bytes (string_bytes k)) c.loop-line.groups c.remove.new.self None
    = subst (λ (b : List ℕ). UpdatesBy string_cmp (λ k. slice_cmp nat_cmp b (string_bytes k)) c.loop-line.groups c.remove.new.self None)
    c.as_str.ensures.value c.remove.ensures.updates in
    let found : c.remove.result ≡ get_by_text c.loop-line.groups bytes
    = c.remove.ensures.value ∙ ap (λ (b : List ℕ). get_by_text c.loop-line.groups b) c.as_str.ensures.value in
    let group : lines_in c.remove.result ≡ map (λ l. l.now) (vec_items c.match-remove.group) = elim c.match-remove.branch [
      | in-Some w ↦ grind arith
      | in-None w ↦ grind arith
    ] in
    let grown = pushed_lines c.remove.result c.match-remove.group c.push.new.self _ group c.in_ok-push.ensures.items
    ∙ ap (λ f. lines_in f ++ c.line-item.result ∷ []) found in
    let more = group_more c.loop-line.groups c.remove.new.self c.insert.new.self c.push.new.self bytes c.line-item.result
    (take c.loop-line.line-index c.args.lines.now) c.in_ok-key.ensures out c.in_ok-insert.ensures.updates grown c.loop-line.invariant key in
    grind (arith, take_more)
