-- Files that are written beside their places.
use Rattle.std.specs.Prelude.{◌≡◌, ◌≢◌, Bool, true, false, List, ℕ, Option, Some, None, IfSome, MatchOption, option_map}
use Rattle.std.specs.Borrow.{Bor}
use Rattle.std.specs.declared.io.Error.{Error}
use Rattle.lp_rebuild.specs.declared.program.RunFault.TheVariants.{Write}
use Rattle.lp_endings.specs.declared.endings.Failure.{Failure}
use Rattle.lp_files.specs.declared.files.Files.{Files}
use Rattle.lp_files.specs.declared.files.FileState.{FileState}
use Rattle.lp_files.specs.declared.files.Stage.{Stage}
use Rattle.lp_files.specs.declared.files.Stage.TheVariants.{Beside, InPlace, Kept, Removed}

-- a file that was made for the place of this name
abbrev pub new_file : Bor (List ℕ) → FileState
new_file name = record { name = name; stage = Beside; is_synced = false }

-- a file after the wait until all of it is on the device, if that succeeded
abbrev pub after_sync : FileState → Bool → FileState
after_sync file true = record file { is_synced = true }
after_sync file false = file

-- a file after it was put in its place, if that succeeded
abbrev pub after_put : FileState → Bool → FileState
after_put file true = record file { stage = InPlace }
after_put file false = file

-- where a file is after it was removed: what is in its place stays, and what is kept
abbrev pub stage_removed : Stage → Stage
stage_removed Beside = Removed
stage_removed InPlace = InPlace
stage_removed Kept = Kept
stage_removed Removed = Removed

-- a file after it was removed
abbrev pub after_remove : FileState → FileState
after_remove file = record file { stage = stage_removed file.stage }

-- a file that was beside its place after it was kept there
abbrev pub after_keep : FileState → FileState
after_keep file = record file { stage = Kept }

-- this holds of each of these files that there is
abbrev pub Each : {F : Type 0} → (F → FileState) → (FileState → Type 0) → Files F → Type 0
Each state P files = IfSome (option_map state files.lines) P × IfSome (option_map state files.refused) P

-- the name of the place of a file, if there is one
abbrev pub name_of_each : Option FileState → Option (Bor (List ℕ))
name_of_each file = option_map (λ state. state.name) file

-- these files are those of before, as their names are
abbrev pub HasNames : {F : Type 0} → (F → FileState) → (old new : Files F) → Type 0
HasNames state old new =
    (name_of_each (option_map state new.lines) ≡ name_of_each (option_map state old.lines))
    × (name_of_each (option_map state new.refused) ≡ name_of_each (option_map state old.refused))

-- the file is beside its place
abbrev pub IsBeside : FileState → Type 0
IsBeside file = file.stage ≡ Beside

-- and all of it is on the device
abbrev pub IsWhole : FileState → Type 0
IsWhole file = (file.stage ≡ Beside) × (file.is_synced ≡ true)

-- the file was removed
abbrev pub IsRemoved : FileState → Type 0
IsRemoved file = file.stage ≡ Removed

-- a file is left beside no place
abbrev pub IsSettled : FileState → Type 0
IsSettled file = file.stage ≢ Beside

-- the file is in its place
abbrev pub IsInPlace : FileState → Type 0
IsInPlace file = file.stage ≡ InPlace

-- if one of two files is in its place, all of both is on the device
abbrev pub ArePutWhole : {F : Type 0} → (F → FileState) → Files F → Type 0
ArePutWhole state files =
    Each state (λ file. file.stage ≡ InPlace → Each state (λ other. other.is_synced ≡ true) files) files

-- why a run failed whose file of this name could not be written, of which the system said this
abbrev pub file_failure : Bor (List ℕ) → Error → Failure
file_failure name error =
    record { fault = Write; device = record { name = Some name; batch = None; error = Some error }; is_pipe_closed = false }

-- why a run failed whose batch of this number could not be written, of those whose names a word says
abbrev pub batch_failure : Bor (List ℕ) → (number : ℕ) → Error → Failure
batch_failure word number error =
    record { fault = Write; device = record { name = Some word; batch = Some number; error = Some error }; is_pipe_closed = false }

-- a run failed since a file could not be written, of which the system may say so
abbrev pub IsTold : (List ℕ → Error → Type 0) → Failure → Type 0
IsTold says failure =
    (failure.fault ≡ Write) × (failure.is_pipe_closed ≡ false)
    × MatchOption failure.device.name ⊥ (λ name. MatchOption failure.device.error ⊥ (λ error. says name.now error))
