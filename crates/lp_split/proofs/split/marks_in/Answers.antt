use Rattle.std.proofs.Common.{inl, inr}
use Rattle.lp_split.proofs.split.marks_in.Goals as goal

pub returns-in-Crate : goal.returns-in-Crate
returns-in-Crate c = elim c.in-Crate.is [ inl is ↦ rw is c.three_at.ensures | inr is ↦ rw is c.three_at.ensures ]

pub returns-in-NewlineDelimited : goal.returns-in-NewlineDelimited
returns-in-NewlineDelimited c = rw c.in-NewlineDelimited.is c.newlines_at.ensures
