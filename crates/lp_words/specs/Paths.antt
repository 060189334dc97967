-- The folder of a path, and the name of its file there.
use Rattle.std.specs.Prelude.{ℕ, ◌+◌, ◌==◌, take, drop, List, length, codes, Option, Some, None, if◌then◌else◌}
use Rattle.std.specs.Path.{rfind_below}

-- the place of the last slash of a path
abbrev pub last_slash : List ℕ → Option ℕ
last_slash path = rfind_below 47 path (length path)

-- the folder of a path whose last slash is here
abbrev pub folder_before : List ℕ → Option ℕ → List ℕ
folder_before path None = codes "."
folder_before path (Some at) = if at == 0 then codes "/" else take at path

-- the name of the file of a path whose last slash is here
abbrev pub file_after : List ℕ → Option ℕ → List ℕ
file_after path None = path
file_after path (Some at) = drop (at + 1) path

-- the folder of a path: `.` if it has no slash
abbrev pub folder_of : List ℕ → List ℕ
folder_of path = folder_before path (last_slash path)

-- the name of the file of a path in its folder
abbrev pub file_in : List ℕ → List ℕ
file_in path = file_after path (last_slash path)
