-- How a run ends.
use Rattle.std.specs.Prelude.{◌≡◌, ℕ, ◌-◌, ◌==◌, Bool, true, false, ◌&&◌, ◌||◌, Option, Some, None, is_none, is_some, Result, Ok, Err, if◌then◌else◌}
use Rattle.std.specs.IoError.{error_kind}
use Rattle.std.specs.Option.{option_map_or}
use Rattle.std.specs.declared.io.Error.{Error}
use Rattle.std.specs.declared.io.ErrorKind.{ErrorKind}
use Rattle.std.specs.declared.io.ErrorKind.TheVariants.{BrokenPipe}
use Rattle.lp_rebuild.specs.declared.program.RunFault.{RunFault}
use Rattle.lp_rebuild.specs.declared.program.RunFault.TheVariants.{Read, NotUtf8, OutOfMemory, Write}
use Rattle.lp_conditions.specs.declared.settings.Settings.{Settings}
use Rattle.lp_endings.specs.declared.endings.{Device.Device, Devices.Devices, Ending.Ending, Failure.Failure}
use Rattle.lp_endings.specs.declared.summary.Totals.{Totals}

-- whether an error says that nothing reads what is written
abbrev pub is_broken_pipe : ErrorKind → Bool
is_broken_pipe BrokenPipe = true
is_broken_pipe _ = false

-- whether a device failed since nothing reads what is written to it
abbrev pub is_closed : Device → Bool
is_closed device = option_map_or (λ error. is_broken_pipe (error_kind error)) device.error false

-- whether a device is a standard stream, and failed since nothing reads what is written to it
abbrev pub is_closed_stream : Device → Bool
is_closed_stream device = is_none device.name && is_closed device

-- no device
abbrev pub no_device : Device
no_device = record { name = None; batch = None; error = None }

-- the device of which a fault tells: of the writers that of the faults before that of the refused pieces, if both failed
abbrev pub failed_device : Devices Device → RunFault → Device
failed_device devices Read = devices.input
failed_device devices NotUtf8 = no_device
failed_device devices OutOfMemory = no_device
failed_device devices Write =
    if is_some devices.faults.error then devices.faults
    else (if is_some devices.refused.error then devices.refused else devices.output)

-- whether a writer failed, and nothing reads the lines or the faults, or the refused pieces on standard output
abbrev pub is_pipe_closed : Devices Device → RunFault → Bool
is_pipe_closed devices Read = false
is_pipe_closed devices NotUtf8 = false
is_pipe_closed devices OutOfMemory = false
is_pipe_closed devices Write =
    is_closed devices.output || is_closed devices.faults || is_closed_stream devices.refused

-- why a run failed
abbrev pub run_failure : Devices Device → RunFault → Failure
run_failure devices fault = record {
  fault = fault;
  device = failed_device devices fault;
  is_pipe_closed = is_pipe_closed devices fault;
}

-- 141 if a writer failed since nothing reads what is written, as of a program that a closed pipe ends, 2 for any other fault
abbrev pub fault_status : Bool → RunFault → ℕ
fault_status is_pipe_closed Read = 2
fault_status is_pipe_closed NotUtf8 = 2
fault_status is_pipe_closed OutOfMemory = 2
fault_status is_pipe_closed Write = if is_pipe_closed then 141 else 2

-- how many faults were not told of so many items that were refused, if so many are told at most
abbrev pub not_told : (most : Option ℕ) → (refused : ℕ) → ℕ
not_told None refused = 0
not_told (Some most) refused = refused - most

-- how a run ends that failed: nothing is said if nothing reads what it wrote
abbrev pub failed_ending : Failure → Ending
failed_ending failure = record {
  failure = if failure.is_pipe_closed then None else Some failure;
  not_told = 0;
  summary = None;
  status = fault_status failure.is_pipe_closed failure.fault;
}

-- how a relay ends: its status is 0 if every item was carried, and 1 if some item was not. How many faults were not told is told, and its
-- totals if the kinds of faults are counted, but nothing of both after a fault of the run
abbrev pub relay_ending : Settings → Result Totals Failure → Ending
relay_ending settings (Ok totals) = record {
  failure = None;
  not_told = not_told settings.max_faults totals.counts.refused;
  summary = if settings.counts_kinds then Some totals else None;
  status = if totals.counts.refused == 0 then 0 else 1;
}
relay_ending settings (Err failure) = failed_ending failure

-- why a run failed whose standard error could not be written, of which the system said this
abbrev pub untold_failure : Error → Failure
untold_failure error = record {
  fault = Write;
  device = record { name = None; batch = None; error = Some error };
  is_pipe_closed = is_broken_pipe (error_kind error);
}

-- how a run ends that would end so, once its counts were told: if they could not be told, it has failed
abbrev pub ending_once_told : {T : Type 0} → Ending → (told : Result T Error) → Ending
ending_once_told ending (Ok done) = ending
ending_once_told ending (Err error) = failed_ending (untold_failure error)

-- the exit status of a run that would end so, whose counts may be told or not
abbrev pub IsLastStatus : Ending → ℕ → Type 0
IsLastStatus ending status = (told : Result (Unit {0}) Error) × (status ≡ (ending_once_told ending told).status)

-- how a run ends that has no counts
abbrev pub plain_ending : {T : Type 0} → Result T Failure → Ending
plain_ending (Ok done) = record { failure = None; not_told = 0; summary = None; status = 0 }
plain_ending (Err failure) = failed_ending failure

-- the exit status of a program that printed a text
abbrev pub print_status : {T : Type 0} → Result T Error → ℕ
print_status (Ok done) = 0
print_status (Err error) = fault_status (is_broken_pipe (error_kind error)) Write
