-- The effects of calls of readers and writers.
use Rattle.std.specs.Prelude.{◌≡◌, ℕ, ◌+◌, Bool, List, Result, MatchResult}
use Rattle.std.specs.Vec.{vec_capacity}
use Rattle.lp_rebuild.specs.declared.devices.Kept.{Kept}
use Rattle.lp_rebuild.specs.declared.devices.Reading.{Reading}
use Rattle.lp_rebuild.specs.declared.devices.Writing.{Writing}

-- A failed call adds one to the count of failures. A call that succeeds leaves the count as it was.
abbrev pub CountsFailure : {T E : Type 0} → Result T E → ℕ → ℕ → Type 0
CountsFailure result old new = MatchResult result (λ _. new ≡ old) (λ _. new ≡ old + 1)

-- the reader that a source is over
abbrev pub reading_inner : {R : Type 0} → Reading R → R
reading_inner r = r.inner

-- the writer that a sink is over
abbrev pub writing_inner : {W : Type 0} → Writing W → W
writing_inner w = w.inner

-- the failures of a source over a reader so far
abbrev pub reading_failures : {R : Type 0} → Reading R → ℕ
reading_failures r = r.failures.count

-- the failures of a sink over a writer so far
abbrev pub writing_failures : {W : Type 0} → Writing W → ℕ
writing_failures w = w.failures.count

-- whether all that was written to a sink over a writer was flushed
abbrev pub writing_is_flushed : {W : Type 0} → Writing W → Bool
writing_is_flushed w = w.is_flushed

-- the bytes that a sink in memory holds
abbrev pub kept_bytes : Kept → List ℕ
kept_bytes k = k.bytes.items

-- how many bytes a sink in memory can hold before it grows
abbrev pub kept_capacity : Kept → ℕ
kept_capacity k = vec_capacity k.bytes

-- the failures of a sink in memory so far
abbrev pub kept_failures : Kept → ℕ
kept_failures k = k.failures.count

-- whether all that was written to a sink in memory was flushed
abbrev pub kept_is_flushed : Kept → Bool
kept_is_flushed k = k.is_flushed
