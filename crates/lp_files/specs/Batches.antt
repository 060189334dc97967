-- How many lines go to a batch.
use Rattle.std.specs.Prelude.{ℕ, ◌^◌, min, ◌||◌, [], ◌∷◌, ◌+◌, ◌-◌, nat_lt, Bool, false, not, ◌&&◌, ◌==◌, List, length}
use Rattle.std.specs.Prelude.{if◌then◌else◌}
use Rattle.std.specs.{Option.option_map_or}
use Rattle.std.specs.Prelude.{◌≡◌, ◌≢◌, true, Option, IfSome, option_map}
use Rattle.lp_files.specs.declared.{batches.Batches.Batches, beside.FileBeside.FileBeside, files.FileState.FileState}
use Rattle.lp_files.specs.declared.files.Stage.TheVariants.{Beside, InPlace}
use Rattle.lp_files.specs.declared.batches.Limits.{Limits}
use Rattle.lp_files.specs.declared.batches.Size.{Size}

-- whether a batch may be so large
abbrev pub may_be : Limits → Size → Bool
may_be limits size =
    not (option_map_or (λ most. nat_lt most size.lines) limits.lines false)
    && not (option_map_or (λ most. nat_lt most size.bytes) limits.bytes false)

-- the size of both, as far as a usize holds it
abbrev pub both : Size → Size → Size
both one other = record { lines = min (one.lines + other.lines) (2 ^ 64 - 1); bytes = min (one.bytes + other.bytes) (2 ^ 64 - 1) }

-- the size of no lines
abbrev pub no_lines : Size
no_lines = record { lines = 0; bytes = 0 }

-- the size of a line of so many bytes, with its newline
abbrev pub line_size : ℕ → Size
line_size len = record { lines = 1; bytes = min (len + 1) (2 ^ 64 - 1) }

-- whether a line of this size goes to a batch of this size: to an empty one, however long it is
abbrev pub takes_line : Limits → (batch line : Size) → Bool
takes_line limits batch line = batch.lines == 0 || may_be limits (both batch line)

-- the size of the lines that go to a batch of this size: of these, and of as many of the pieces after them as it takes, each with its
-- newline. The last piece has none, so it is no line
abbrev pub fitting : Limits → (batch lines : Size) → List (List ℕ) → Size
fitting limits batch lines [] = lines
fitting limits batch lines (piece ∷ []) = lines
fitting limits batch lines (piece ∷ next ∷ pieces) =
    if takes_line limits (both batch lines) (line_size (length piece))
    then fitting limits batch (both lines (line_size (length piece))) (next ∷ pieces) else lines

-- the file is in its place, and all of it is on the device
abbrev pub IsPlaced : FileState → Type 0
IsPlaced file = (file.stage ≡ InPlace) × (file.is_synced ≡ true)

-- the file is beside its place, or in its place with all of it on the device
abbrev pub IsGoing : FileState → Type 0
IsGoing file = file.stage ≢ Beside → IsPlaced file

-- this holds of the file of the batch that was begun last, if there is one
abbrev pub Current : (FileState → Type 0) → Batches → Type 0
Current P batches = IfSome (option_map (λ file. file.state) batches.file) P

-- the file of a batch of this size is in its place, and on the device, unless it has no line
abbrev pub IsDone : Size → Option FileBeside → Type 0
IsDone size file = size.bytes ≢ 0 → IfSome (option_map (λ file. file.state) file) IsPlaced

-- the batches of a run, if there are any, of which the last one is in its place, and on the device, unless it has no line
abbrev pub AreDone : (old new : Option Batches) → Type 0
AreDone old new = IfSome old (λ before. IfSome new (λ after. IsDone before.size after.file))
