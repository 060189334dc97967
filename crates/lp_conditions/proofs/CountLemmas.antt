-- A count of a kind goes up by one.
use Rattle.std.proofs.Common.{◌≡◌, ℕ, ◌+◌, ◌<◌, ◌==◌, cond, List, get_or, length}
use Rattle.std.proofs.Common.{subst, arith}
use Rattle.std.proofs.lemmas.Bool.{Decides.nat_tests}
use Rattle.std.proofs.lemmas.Grind.{get_or-set_at}
use Rattle.std.proofs.lemmas.List.{get_or-set_other}
use Rattle.std.proofs.Math.{ListN.set, Path.fun_ext}
use Rattle.lp_conditions.specs.declared.kinds.{Kind.Kind, KindCounts.KindCounts}
use Rattle.lp_conditions.specs.KindCounts.{counts_of, place, with_fault}

-- the number at one place is one more, and the others are as they were
one_more : (counts : List ℕ) (at other n : ℕ) → at < length counts → n ≡ get_or counts at 0 + 1
    → get_or (set counts at n) other 0 ≡ get_or counts other 0 + cond (other == at) 1 0
one_more counts at other n within is = grind (arith, nat_tests, get_or-set_at, get_or-set_other)

-- so one fault more is counted at the place of its kind
pub counted : (counts : KindCounts) (kind : Kind) (at n : ℕ) → at ≡ place kind → at < length counts.counts
    → n ≡ get_or counts.counts at 0 + 1 → counts_of (record { counts = set counts.counts at n }) ≡ with_fault kind (counts_of counts)
counted counts kind at n here within is =
    fun_ext (λ (other : Kind). subst (λ (i : ℕ). get_or (set counts.counts at n) (place other) 0
    ≡ get_or counts.counts (place other) 0 + cond (place other == i) 1 0) here (one_more counts.counts at (place other) n within is))
