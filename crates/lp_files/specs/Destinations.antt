-- Where lines and refused pieces are written.
use Rattle.std.specs.Prelude.{◌≡◌, Bool, true, false, Option, Some, None, option_map}
use Rattle.std.specs.declared.fs.File.{File as SystemFile}
use Rattle.lp_files.specs.declared.beside.{Destination.Destination, FileBeside.FileBeside}
use Rattle.lp_files.specs.declared.beside.Destination.TheVariants.{Standard, File, Nowhere}
use Rattle.lp_places.specs.declared.streams.Stream.{Stream}
use Rattle.lp_places.specs.declared.streams.Stream.TheVariants.{StandardOutput, Opened}

-- the file that is written to, if one is
abbrev pub file_of : Destination → Option SystemFile
file_of (Standard stdout) = None
file_of (File file) = Some file.now
file_of Nowhere = None

-- whether what is written goes nowhere
abbrev pub is_nowhere : Destination → Bool
is_nowhere (Standard stdout) = false
is_nowhere (File file) = false
is_nowhere Nowhere = true

-- what is written goes nowhere if it is unwanted, else to its file, or to standard output if it has none
abbrev pub GoesTo : Option FileBeside → (is_unwanted : Bool) → Destination → Type 0
GoesTo output true destination = is_nowhere destination ≡ true
GoesTo output false destination =
    (is_nowhere destination ≡ false) × (file_of destination ≡ option_map (λ beside. beside.file) output)

-- refused pieces go to the file that comes to its place, or else to what takes them as they come, or else nowhere
abbrev pub PiecesGoTo : Option FileBeside → Option Stream → Destination → Type 0
PiecesGoTo (Some beside) stream destination =
    (is_nowhere destination ≡ false) × (file_of destination ≡ Some beside.file)
PiecesGoTo None (Some StandardOutput) destination =
    (is_nowhere destination ≡ false) × (file_of destination ≡ None)
PiecesGoTo None (Some (Opened file)) destination =
    (is_nowhere destination ≡ false) × (file_of destination ≡ Some file)
PiecesGoTo None None destination = is_nowhere destination ≡ true
