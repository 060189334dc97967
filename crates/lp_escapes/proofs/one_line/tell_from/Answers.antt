use Rattle.std.proofs.Common.{◌≡◌, ◌≤◌, ◌++◌, ◌∙◌, List, ℕ, ap, drop, length, string_bytes, subst, sym, take, arith}
use Rattle.std.specs.List.{flat_map}
use Rattle.std.proofs.lemmas.List.{take-append-drop, take_rest}
use Rattle.std.proofs.lemmas.Str.{IsCharBoundary-from_take, IsUtf8-string_bytes}
use Rattle.lp_escapes.specs.Told.{told_byte}
use Rattle.lp_escapes.proofs.OneLine.{told_plain}
use Rattle.lp_escapes.proofs.one_line.tell_from.Goals as goal

pub split_off-requires : goal.split_off-requires
split_off-requires c =
    let old = c.args.faults.now in
    let at = IsCharBoundary-from_take (string_bytes old) c.args.from (IsUtf8-string_bytes old) (omega (arith, c.requires.within)) c.requires.front in
    (at.0, λ some. at.1)

pub returns-then-are_plain : goal.returns-then-are_plain
returns-then-are_plain c =
    let old = string_bytes c.args.faults.now in
    let line = take_rest c.as_bytes.result.now c.args.from ∙ ap (drop c.args.from) c.as_bytes.ensures.value in
    let few = subst (λ (l : List ℕ). length l ≤ 200) line c.if-line-le-MOST_TOLD.true in
    let plain = subst (λ (l : List ℕ). flat_map told_byte l ≡ l) line (c.are_plain.ensures c.if-are_plain.true) in
    sym (ap (λ (l : List ℕ). take c.args.from old ++ l) (told_plain (drop c.args.from old) few plain) ∙ take-append-drop c.args.from old)
