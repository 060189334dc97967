-- What the three writers of a relay have.
use Rattle.std.specs.Prelude.{◌≡◌, ◌⊎◌, ◌+◌, ℕ, List, Option, Result, Ok, Err, true}
use Rattle.std.specs.Io.KnownBytes.{Appends, Keeps}
use Rattle.lp_rebuild.specs.declared.program.RunFault.{RunFault}
use Rattle.lp_rebuild.specs.declared.program.RunFault.TheVariants.{Read, NotUtf8, OutOfMemory, Write}
use Rattle.lp_rebuild.specs.Running.{AppendsFront, WriterTold}

-- something of each writer: of the one for lines, of the one for faults, and of the one for refused pieces
pub record Writers (A : Type 0) : Type 0 where
  pub lines : A
  pub faults : A
  pub refused : A

-- that of these three
abbrev pub of_writers : {A : Type 0} → (lines faults refused : A) → Writers A
of_writers lines faults refused = record { lines = lines; faults = faults; refused = refused }

-- what each writer tells
abbrev pub Told : Type 0
Told = Writers WriterTold

-- the bytes that each writer has, if they are known
abbrev pub Known : Type 0
Known = Writers (Option (List ℕ))

-- the bytes of writers that are told
abbrev pub bytes_of : Told → Known
bytes_of told = of_writers told.lines.bytes told.faults.bytes told.refused.bytes

-- each writer gained these bytes
abbrev pub Gains : (before after : Told) → (lines faults refused : List ℕ) → Type 0
Gains before after lines faults refused = Appends before.lines.bytes after.lines.bytes lines
    × Appends before.faults.bytes after.faults.bytes faults × Appends before.refused.bytes after.refused.bytes refused

-- each writer gained a front of these bytes
abbrev pub GainsFronts : (before after : Told) → (lines faults refused : List ℕ) → Type 0
GainsFronts before after lines faults refused = AppendsFront before.lines.bytes after.lines.bytes lines
    × AppendsFront before.faults.bytes after.faults.bytes faults
    × AppendsFront before.refused.bytes after.refused.bytes refused

-- each writer has the same bytes
abbrev pub KeepsBytes : (before after : Told) → Type 0
KeepsBytes before after = Keeps before.lines.bytes after.lines.bytes
    × Keeps before.faults.bytes after.faults.bytes × Keeps before.refused.bytes after.refused.bytes

-- all that was written to each writer was flushed
abbrev pub AreFlushed : Told → Type 0
AreFlushed told = (told.lines.is_flushed ≡ true) × (told.faults.is_flushed ≡ true) × (told.refused.is_flushed ≡ true)

-- the counts of failures of writers that are told
abbrev pub failures_of : Told → Writers ℕ
failures_of told = of_writers told.lines.failures told.faults.failures told.refused.failures

-- no count of failures has changed
pub record CountsNone (old new : Writers ℕ) : Type 0 where
  pub lines : new.lines ≡ old.lines
  pub faults : new.faults ≡ old.faults
  pub refused : new.refused ≡ old.refused

-- one failure was added to one count
abbrev pub CountsOne : (old new : Writers ℕ) → Type 0
CountsOne old new = CountsNone (record old { lines = old.lines + 1 }) new
    ⊎ (CountsNone (record old { faults = old.faults + 1 }) new ⊎ CountsNone (record old { refused = old.refused + 1 }) new)

-- `Write` adds one failure to the count of one writer, and nothing else changes a count; no other fault but `OutOfMemory` comes
abbrev pub CountsWriteFault : {T : Type 0} → Result T RunFault → (before after : Told) → Type 0
CountsWriteFault (Ok x) before after = CountsNone (failures_of before) (failures_of after)
CountsWriteFault (Err Write) before after = CountsOne (failures_of before) (failures_of after)
CountsWriteFault (Err OutOfMemory) before after = CountsNone (failures_of before) (failures_of after)
CountsWriteFault (Err Read) before after = ⊥
CountsWriteFault (Err NotUtf8) before after = ⊥
