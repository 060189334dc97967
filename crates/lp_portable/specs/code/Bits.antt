-- The clauses that a line breaks as one number, with a bit for each clause.
use Rattle.std.specs.Prelude.{ℕ, ◌+◌, ◌^◌, if◌then◌else◌}
use Rattle.std.specs.List.{sum_by}
use denote.Enum.{Declared.tag_of}
use Rattle.lp_portable.specs.contracts.broken.Clause.{the_type}
use Rattle.lp_portable.specs.declared.{broken.Broken.Broken, broken.Clause.Clause, broken.TheConstants.CLAUSES}
use Rattle.lp_portable.specs.code.Clauses.{is_broken}

-- The place of a clause among the clauses. The place of the first clause is 0.
abbrev pub place : Clause → ℕ
place clause = tag_of the_type clause

-- The bit of a clause that is broken, and 0 for a clause that is not broken. No clause has bit 0.
abbrev pub bit_of : Broken → Clause → ℕ
bit_of broken clause = if is_broken broken clause then 2 ^ (place clause + 1) else 0

-- The sum of the bits of the broken clauses.
abbrev pub bits_of : Broken → ℕ
bits_of broken = sum_by (bit_of broken) CLAUSES.now
