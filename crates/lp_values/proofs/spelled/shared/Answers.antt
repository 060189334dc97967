use Rattle.std.proofs.Common.{◌∙◌, arith, refl, sym}
use Rattle.std.proofs.lemmas.Bool.{not-false, not-true}
use Rattle.lp_values.specs.code.SpelledParts.{known_in, spelling_of}
use Rattle.lp_values.proofs.lemmas.tokens.SharedTexts.{escaped_is_ascii, not_shared, one_of_two}
use Rattle.lp_values.proofs.lemmas.tokens.TokenLemmas.{read_escape, read_plain}
use Rattle.lp_values.proofs.spelled.shared.Goals as goal
use Rattle.lp_values.proofs.spelled.shared.Goals.{else-spelling-eq2-via-then-spelling-eq2+else-text-eq1, else-spelling-eq2-via-else-spelling-eq2}

pub returns-then-text : goal.returns-then-text
returns-then-text c =
    read_plain (known_in c.args.text) (spelling_of c.args.text) (spelling_of c.args.text)
    (not-true _ (sym c.args.text.token.told.tells ∙ c.if-text.true)) refl

pub range_from-requires : goal.range_from-requires
range_from-requires c =
    let two = c.if-spelling-eq2.true in
    let escape = one_of_two (known_in c.args.text) (spelling_of c.args.text) two (sym c.args.text.token.told.counts ∙ c.if-text-eq1.true) in
    let small = escaped_is_ascii c.args.text.token.kind (spelling_of c.args.text) escape in
    λ less. (omega (arith, two), λ within big. omega (arith, small, big))

pub returns-then-text-eq1 : goal.returns-then-text-eq1
returns-then-text-eq1 c =
    read_escape (known_in c.args.text) (spelling_of c.args.text) _
    (one_of_two (known_in c.args.text) (spelling_of c.args.text) c.if-spelling-eq2.true
    (sym c.args.text.token.told.counts ∙ c.if-text-eq1.true)) c.range_from.ensures.value

pub returns : goal.returns
returns c =
    not_shared (known_in c.args.text) (spelling_of c.args.text) (not-false _ (sym c.args.text.token.told.tells ∙ c.if-text.false))
    (λ two one. elim c.else-spelling-eq2.branch [
      | else-spelling-eq2-via-then-spelling-eq2+else-text-eq1 w ↦ w.if-text-eq1.false (c.args.text.token.told.counts ∙ one)
      | else-spelling-eq2-via-else-spelling-eq2 w ↦ w.if-spelling-eq2.false two
    ])
