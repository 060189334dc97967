use Rattle.std.proofs.Common.{◌≡◌, ℕ, List, Option, Some, None, true, refl, ◌∙◌, subst}
use Rattle.std.specs.Prelude.{MatchOption}
use Rattle.std.specs.Option.{is_some}
use Rattle.std.proofs.lemmas.Bool.{false≢true}
use Rattle.lp_format.specs.format.Values.{IsFloat}
use Rattle.lp_c.proofs.FloatLemmas.{literal_is_float_text, literal_is_utf8}
use Rattle.lp_c.proofs.numbers.lp_float_value.Goals as goal

-- what is so if there is a value is so
known_of_some : {A : Type 0} (o : Option A) (P R : Type 0) (Q : A → Type 0) → is_some o ≡ true → MatchOption o R (λ x. P × Q x) → P
known_of_some None P R Q some known = absurd (false≢true some)
known_of_some (Some x) P R Q some known = known.0

pub returns-in_default-clause-literal : goal.returns-in_default-clause-literal
returns-in_default-clause-literal c =
    (λ never. absurd (false≢true never), λ literal. absurd (c.in_default.ensures.cases.0 (literal_is_utf8 _ literal)))

pub returns-in_default-parse-clause-literal : goal.returns-in_default-parse-clause-literal
returns-in_default-parse-clause-literal c = (
  λ never. absurd (false≢true never),
  λ literal. absurd (false≢true (c.in_default-parse.ensures.variant ∙ literal_is_float_text c.args.text.now literal)),
)

pub returns-clause-literal : goal.returns-clause-literal
returns-clause-literal c =
    let P : List ℕ → Type 0 = IsFloat in
    (λ _. subst P c.in-Ok.ensures.cases.0 (known_of_some _ _ _ _ c.if-is_none.ensures c.new.ensures), λ _. refl)
