use Rattle.std.proofs.Common.{arith}
use Rattle.lp_offsets.proofs.enums.Dialect.numbered.Goals as goal
use Rattle.lp_offsets.specs.declared.enums.Dialect.TheVariants.{Crate, NewlineDelimited, Strict}

pub returns-in-0-clause-none : goal.returns-in-0-clause-none
returns-in-0-clause-none c = (λ e. grind arith, λ no. absurd (no Crate c.in-0.is))

pub returns-in-1-clause-none : goal.returns-in-1-clause-none
returns-in-1-clause-none c = (λ e. grind arith, λ no. absurd (no Strict c.in-1.is))

pub returns-in-2-clause-none : goal.returns-in-2-clause-none
returns-in-2-clause-none c = (λ e. grind arith, λ no. absurd (no NewlineDelimited c.in-2.is))
