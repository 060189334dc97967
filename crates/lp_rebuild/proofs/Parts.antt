-- The parts of the output that a run has written which could not write all of it.
use Rattle.std.proofs.Common.{◌≡◌, ℕ, List, length, Option, Result, Ok, Err, true, false, is_err, OnErr, OnOk, IfSome}
use Rattle.std.proofs.Common.{subst, arith, take_all, le_refl}
use Rattle.std.specs.Io.KnownBytes.{Consumes, Appends, IsAtEnd}
use Rattle.std.proofs.KnownBytes.{Consumes-whole, Appends-nil}
use Rattle.influxdb_line_protocol.specs.format.Dialects.{Dialect}
use Rattle.lp_rebuild.specs.declared.batch.Rebuilt.{Rebuilt}
use Rattle.lp_rebuild.specs.Rebuilding.{RebuildsIn}
use Rattle.lp_rebuild.specs.Running.{AppendsFront, WritesFronts}

-- the fact that holds at a fault
pub at_fault : {T E P : Type 0} (r : Result T E) → true ≡ is_err r → OnErr r P → P
at_fault (Ok x) failed h = absurd (cc)
at_fault (Err e) failed h = h

-- the fact that holds if there is no fault
pub at_no_fault : {T E P : Type 0} (r : Result T E) → false ≡ is_err r → OnOk r P → P
at_no_fault (Ok x) failed h = h
at_no_fault (Err e) failed h = absurd (cc)

-- The result of a run that could not write: the input was rebuilt, and each writer gained a front of its text.
abbrev pub LeftParts : Dialect → (out out_after err err_after : Option (List ℕ)) → List ℕ → Type 0
LeftParts dialect out out_after err err_after input =
    (r : Rebuilt) × RebuildsIn dialect input r × WritesFronts r.batch.items r.faults.items out out_after err err_after

-- a part of the batch was written, and no fault
pub batch_part : (dialect : Dialect) (a b out out_after err : Option (List ℕ)) (input text batch : List ℕ)
    (r : Rebuilt) → Consumes a b input → IsAtEnd b → text ≡ input → RebuildsIn dialect text r
    → batch ≡ r.batch.items → AppendsFront out out_after batch → IfSome a (LeftParts dialect out out_after err err)
batch_part dialect a b out out_after err input text batch r read end same rebuilt is part =
    Consumes-whole a b input (LeftParts dialect out out_after err err) read end (
      r,
      subst (λ t. RebuildsIn dialect t r) same rebuilt,
      record {
        batch_written = part.0;
        faults_written = 0;
        out_gained = rw (← is) part.1;
        err_gained = Appends-nil err;
        batch_first = λ l. absurd (omega arith);
      },
    )

-- the whole batch was written, and a part of the faults
pub faults_part : (dialect : Dialect) (a b out out_after err err_after : Option (List ℕ))
    (input text batch faults : List ℕ) (r : Rebuilt) → Consumes a b input → IsAtEnd b → text ≡ input → RebuildsIn dialect text r
    → batch ≡ r.batch.items → faults ≡ r.faults.items → Appends out out_after batch
    → AppendsFront err err_after faults → IfSome a (LeftParts dialect out out_after err err_after)
faults_part dialect a b out out_after err err_after input text batch faults r read end same rebuilt batch_is faults_is whole part =
    let all = take_all (length r.batch.items) r.batch.items (le_refl _) in
    Consumes-whole a b input (LeftParts dialect out out_after err err_after) read end (
      r,
      subst (λ t. RebuildsIn dialect t r) same rebuilt,
      record {
        batch_written = length r.batch.items;
        faults_written = part.0;
        out_gained = rw (all, ← batch_is) whole;
        err_gained = rw (← faults_is) part.1;
        batch_first = λ l. all;
      },
    )
