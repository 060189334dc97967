-- The result of a run, and the state in which a run leaves its reader and its writers.
use Rattle.std.specs.Prelude.{◌≡◌, ◌≢◌, ◌⊎◌, ◌↔◌, ℕ, ◌+◌, ◌<◌, ◌≤◌, List, [], ◌∷◌, bytes_eq, take, codes, Option, Some}
use Rattle.std.specs.Prelude.{None, Result, Ok, Err, IfOk, IfErr, IfSome, ◌==◌, Bool, true, OnOk, if◌then◌else◌}
use Rattle.std.specs.Borrow.{Bor}
use Rattle.influxdb_line_protocol.specs.format.Dialects.{Dialect, Crate, Strict}
use Rattle.std.specs.Str.{IsUtf8}
use Rattle.std.specs.Io.KnownBytes.{Appends, Keeps}
use Rattle.lp_rebuild.specs.declared.program.RunFault.{RunFault}
use Rattle.lp_rebuild.specs.declared.program.RunFault.TheVariants.{Read, NotUtf8, OutOfMemory, Write}
use Rattle.lp_rebuild.specs.declared.batch.Rebuilt.{Rebuilt}
use Rattle.lp_rebuild.specs.Rebuilding.{RebuildsIn}

-- The text of the error of a run.
abbrev pub run_fault_text : RunFault → List ℕ
run_fault_text Read = codes "cannot read the input"
run_fault_text NotUtf8 = codes "the input is not UTF-8"
run_fault_text OutOfMemory = codes "out of memory"
run_fault_text Write = codes "cannot write the output"

-- The dialect that the words after the program's name ask for.
abbrev pub dialect_of : List (Bor (List ℕ)) → Option Dialect
dialect_of [] = Some Crate
dialect_of (word ∷ []) = if bytes_eq word.now (codes "--strict") then Some Strict else None
dialect_of (word ∷ next ∷ words) = None

-- The exit status: 0 if every item was carried, 1 if an item was refused, and 2 if the run failed.
abbrev pub status_of : Result Rebuilt RunFault → ℕ
status_of (Ok r) = if r.refused == 0 then 0 else 1
status_of (Err _) = 2

-- The statement holds, unless the input could not be read or memory ran out.
abbrev pub OnceRead : Result Rebuilt RunFault → Type 0 → Type 0
OnceRead (Ok r) P = P
OnceRead (Err NotUtf8) P = P
OnceRead (Err Write) P = P
OnceRead (Err Read) P = Unit {0}
OnceRead (Err OutOfMemory) P = Unit {0}

-- The result is `NotUtf8` exactly if the input is not UTF-8, unless the input could not be read or memory ran out.
abbrev pub TestsUtf8 : Result Rebuilt RunFault → List ℕ → Type 0
TestsUtf8 (Ok r) input = IsUtf8 input
TestsUtf8 (Err NotUtf8) input = ¬ IsUtf8 input
TestsUtf8 (Err Write) input = IsUtf8 input
TestsUtf8 (Err Read) input = Unit {0}
TestsUtf8 (Err OutOfMemory) input = Unit {0}

-- The first sink gained a front of the batch, and the second sink gained a front of the faults. The second sink gained nothing unless the
-- first gained the whole batch.
pub record WritesFronts (batch faults : List ℕ) (out out_after err err_after : Option (List ℕ)) : Type 0 where
  pub batch_written : ℕ
  pub faults_written : ℕ
  pub out_gained : Appends out out_after (take batch_written batch)
  pub err_gained : Appends err err_after (take faults_written faults)
  pub batch_first : 0 < faults_written → take batch_written batch ≡ batch

-- The error `Read` adds one to the reader's count of failures, and no other result changes the count. The only other error is
-- `OutOfMemory`.
abbrev pub CountsReadFault : {T : Type 0} → Result T RunFault → ℕ → ℕ → Type 0
CountsReadFault (Ok x) old new = new ≡ old
CountsReadFault (Err Read) old new = new ≡ old + 1
CountsReadFault (Err OutOfMemory) old new = new ≡ old
CountsReadFault (Err NotUtf8) old new = ⊥
CountsReadFault (Err Write) old new = ⊥

-- The bytes of a sink, if they are known, grew by a front of these bytes.
abbrev pub AppendsFront : Option (List ℕ) → Option (List ℕ) → List ℕ → Type 0
AppendsFront old new bs = (n : ℕ) × Appends old new (take n bs)

-- The facts that contracts know about a reader: the bytes that are left, if they are known, and how many of its calls failed so far.
pub record ReaderTold : Type 0 where
  pub bytes : Option (List ℕ)
  pub failures : ℕ

-- The facts about a reader, from the members of its trait.
abbrev pub reader_told : {D : Type 0} → (D → Option (List ℕ)) → (D → ℕ) → D → ReaderTold
reader_told bytes failures reader = record { bytes = bytes reader; failures = failures reader }

-- The facts that contracts know about a writer: the bytes that it holds, if they are known, how many of its calls failed so far, and
-- whether all bytes that were written were flushed.
pub record WriterTold : Type 0 where
  pub bytes : Option (List ℕ)
  pub failures : ℕ
  pub is_flushed : Bool

-- The facts about a writer, from the members of its trait.
abbrev pub writer_told : {D : Type 0} → (D → Option (List ℕ)) → (D → ℕ) → (D → Bool) → D → WriterTold
writer_told bytes failures is_flushed writer =
    record { bytes = bytes writer; failures = failures writer; is_flushed = is_flushed writer }

-- A run by the rules of a dialect: its result, and the state in which it leaves its reader and its two writers.
pub record RunsIn (dialect : Dialect) (result : Result Rebuilt RunFault)
    (reader reader_after : ReaderTold) (out out_after err err_after : WriterTold) : Type 0 where
  -- nothing was written, unless a writer failed
  pub quiet : IfErr result (λ f. f ≢ Write → Keeps out.bytes out_after.bytes × Keeps err.bytes err_after.bytes)
  -- the result is `Read` exactly if the reader failed
  pub read : (result ≡ Err Read) ↔ (reader.failures < reader_after.failures)
  -- all bytes were read, unless reading failed or memory ran out
  pub all_read : IfSome reader.bytes (λ bs. OnceRead result (reader_after.bytes ≡ Some []))
  -- the result is `NotUtf8` exactly if the bytes that were read are not UTF-8
  pub utf8 : IfSome reader.bytes (λ bs. TestsUtf8 result bs)
  -- the returned value is the result of rebuilding the bytes that were read
  pub rebuilt : IfOk result (λ r. IfSome reader.bytes (λ bs. RebuildsIn dialect bs r))
  -- the first writer gained the batch
  pub batch : IfOk result (λ r. Appends out.bytes out_after.bytes r.batch.items)
  -- the second writer gained the faults
  pub faults : IfOk result (λ r. Appends err.bytes err_after.bytes r.faults.items)
  -- all bytes that were written to each writer were flushed
  pub flushed : OnOk result ((out_after.is_flushed ≡ true) × (err_after.is_flushed ≡ true))
  -- if a writer failed, each writer gained a front of the text that was meant for it
  pub part : result ≡ Err Write → IfSome reader.bytes
      (λ bs. (r : Rebuilt) × RebuildsIn dialect bs r
      × WritesFronts r.batch.items r.faults.items out.bytes out_after.bytes err.bytes err_after.bytes)
  -- the result is `Write` exactly if a writer failed
  pub write : (result ≡ Err Write) ↔ ((out.failures < out_after.failures) ⊎ (err.failures < err_after.failures))
  -- no count of failures falls, so a count that has not risen is as it was before
  pub counts : (out.failures ≤ out_after.failures) × (err.failures ≤ err_after.failures)

-- A run by the rules of the Rust crate.
abbrev pub Runs : Result Rebuilt RunFault → (reader reader_after : ReaderTold) → (out out_after err err_after : WriterTold) → Type 0
Runs = RunsIn Crate
