use Rattle.std.proofs.Common.{◌≡◌, ◌≤◌, ◌++◌, ◌∙◌, List, ℕ, ap, drop, length, string_bytes, subst, sym, take, arith}
use Rattle.std.proofs.lemmas.List.{take-append-drop, take_rest}
use Rattle.std.proofs.lemmas.Str.{IsCharBoundary-from_take, IsUtf8-string_bytes}
use Rattle.lp_escapes.specs.JsonTexts.{json_text}
use Rattle.lp_escapes.proofs.JsonTexts.{json_plain}
use Rattle.lp_escapes.proofs.json.escape_from.Goals as goal

pub split_off-requires : goal.split_off-requires
split_off-requires c =
    let old = c.args.faults.now in
    let at = IsCharBoundary-from_take (string_bytes old) c.args.from (IsUtf8-string_bytes old) (omega (arith, c.requires.within)) c.requires.front in
    (at.0, λ some. at.1)

pub returns-then-are_plain : goal.returns-then-are_plain
returns-then-are_plain c =
    let old = string_bytes c.args.faults.now in
    let text = take_rest c.as_bytes.result.now c.args.from ∙ ap (drop c.args.from) c.as_bytes.ensures.value in
    let few = subst (λ (l : List ℕ). length l ≤ 200) text c.if-text-le-MOST_TOLD.true in
    let plain = subst (λ (l : List ℕ). json_text l ≡ l) text (c.are_plain.ensures c.if-are_plain.true) in
    sym (ap (λ (l : List ℕ). take c.args.from old ++ l) (json_plain (drop c.args.from old) few plain) ∙ take-append-drop c.args.from old)
