-- What is refused before anything is opened.
use Rattle.std.specs.Prelude.{ℕ, ◌==◌, ◌&&◌, ◌||◌, nat_lt, decimal, Bool, false, List, ◌++◌, bytes_eq, codes, find, Option, Some, None, is_some, if◌then◌else◌}
use Rattle.std.specs.Prelude.{is_none, option_and_then, option_map, unwrap_or}
use Rattle.std.specs.Option.{option_map_or, option_or}
use Rattle.std.specs.{Borrow.Bor, List.flat_map}
use Rattle.lp_escapes.specs.Told.{told_byte}
use Rattle.lp_words.specs.declared.refusals.{FileId.FileId, Located.Located, OldPieces.OldPieces, Refusal.Refusal}
use Rattle.lp_words.specs.declared.refusals.OldPieces.TheVariants.{Refuse, Append, Replace}
use Rattle.lp_words.specs.declared.refusals.Refusal.TheVariants.{BatchIsThere, BatchesUnnamed, FaultsAreInput, OutputIsFaults, OutputIsInput, RefusedHolds, RefusedIsFaults, StreamsUnseen, RefusedIsBatch, RefusedIsInput, RefusedIsOutput}
use Rattle.lp_words.specs.declared.refusals.Refusal.TheVariants.{NoClock, PartsOutOfRange, RangeIsBackwards, RangeIsPastEnd, RangeOfNoFile}
use Rattle.lp_words.specs.declared.options.Range.{Range}
use Rattle.lp_words.specs.BatchNames.{Names, batch_names, is_batch}
use Rattle.lp_words.specs.Paths.{file_in}

-- whether both are files, and one
abbrev pub are_one : Option FileId → Option FileId → Bool
are_one None other = false
are_one (Some file) None = false
are_one (Some file) (Some other) = file.device == other.device && file.number == other.number

-- the name of the first input that is this file
abbrev pub input_at : List Located → Option FileId → Option (Bor (List ℕ))
input_at inputs file = option_map (λ input. input.name) (find (λ input. are_one input.file file) inputs)

-- why the refused pieces cannot go to a file: it is an input, or the output
abbrev pub refused_refusal : List Located → (output : Option FileId) → Located → Option Refusal
refused_refusal inputs output refused =
    option_or (option_map RefusedIsInput (input_at inputs refused.file))
    (if are_one output refused.file then Some (RefusedIsOutput refused.name) else None)

-- why a run is refused over these inputs: its output is one of them, or the file of its refused pieces is one or the output
abbrev pub refusal : List Located → (output : Option FileId) → Option Located → Option Refusal
refusal inputs output refused =
    option_or (option_map OutputIsInput (input_at inputs output))
    (option_and_then (λ file. refused_refusal inputs output file) refused)

-- why a file that is named is refused if it is the one of the faults
abbrev pub named_refusal : (Bor (List ℕ) → Refusal) → Option Located → (faults : Option FileId) → Option Refusal
named_refusal why None faults = None
named_refusal why (Some named) faults = if are_one named.file faults then Some (why named.name) else None

-- why a run is refused over these inputs: its faults go to one of them, or to the file that is named for the lines or the refused pieces
abbrev pub faults_refusal : List Located → (faults : Option FileId) → (output refused : Option Located) → Option Refusal
faults_refusal inputs faults output refused =
    option_or (option_map FaultsAreInput (input_at inputs faults))
    (option_or (named_refusal OutputIsFaults output faults) (named_refusal RefusedIsFaults refused faults))

-- why a run is refused whose standard streams cannot be looked at: one of these files is there
abbrev pub unseen_refusal : List Located → Option Refusal
unseen_refusal files = option_map (λ file. StreamsUnseen file.name) (find (λ file. is_some file.file) files)

-- why refused pieces cannot go to the file of this name, if it is a regular file that holds so many bytes: it holds any, and no option says
-- what becomes of these
abbrev pub held_refusal : OldPieces → Bor (List ℕ) → Option ℕ → Option Refusal
held_refusal Refuse name None = None
held_refusal Refuse name (Some len) = if nat_lt 0 len then Some (RefusedHolds name) else None
held_refusal Append name len = None
held_refusal Replace name len = None

-- whether a range ends before it begins
abbrev pub is_backwards : Range → Bool
is_backwards range = option_map_or (λ to. nat_lt to range.from) range.to false

-- why a range of a file of this name is refused, which has so many bytes, or of an input that is no regular file
abbrev pub range_of_file : Range → Bor (List ℕ) → Option ℕ → Option Refusal
range_of_file range name None = Some (RangeOfNoFile name)
range_of_file range name (Some len) =
    if nat_lt len (unwrap_or range.to range.from) then Some (RangeIsPastEnd name len) else None

-- the same, if it does not end before it begins
abbrev pub range_refusal : Range → Bor (List ℕ) → Option ℕ → Option Refusal
range_refusal range name len = if is_backwards range then Some (RangeIsBackwards range) else range_of_file range name len

-- the greatest number of parts that an input is cut into
abbrev pub most_parts : ℕ
most_parts = 1000000

-- why so many parts are refused: they are none, or too many
abbrev pub parts_refusal : ℕ → Option Refusal
parts_refusal parts = if parts == 0 || nat_lt most_parts parts then Some (PartsOutOfRange parts) else None

-- whether there is no word that says the names of batches
abbrev pub are_unnamed : (output : Option (Bor (List ℕ))) → Bool
are_unnamed output = is_none (option_and_then (λ word. batch_names word.now) output)

-- why the refused pieces cannot go to a file, if lines go to batches of these names: it is named as a batch
abbrev pub refused_batch : Names → Option (Bor (List ℕ)) → Option Refusal
refused_batch names None = None
refused_batch names (Some name) = if is_batch names (file_in name.now) then Some (RefusedIsBatch name) else None

-- why lines cannot go to batches of these names, if there are such, and the refused pieces to a file
abbrev pub named_batches_refusal : Option Names → (refused : Option (Bor (List ℕ))) → Option Refusal
named_batches_refusal None refused = Some BatchesUnnamed
named_batches_refusal (Some names) refused = refused_batch names refused

-- the same of batches whose names a word says
abbrev pub batches_refusal : (output refused : Option (Bor (List ℕ))) → Option Refusal
batches_refusal output refused = named_batches_refusal (option_and_then (λ word. batch_names word.now) output) refused

-- the path of an input
abbrev pub input_path : List ℕ → List ℕ
input_path name = if bytes_eq name (codes "-") then codes "/proc/self/fd/0" else name

-- the path of an output
abbrev pub output_path : List ℕ → List ℕ
output_path name = if bytes_eq name (codes "-") then codes "/proc/self/fd/1" else name

-- how an input is named
abbrev pub input_text : List ℕ → List ℕ
input_text name = if bytes_eq name (codes "-") then codes "standard input" else name

-- a name on one line, with escapes for what ASCII does not print
abbrev pub told_name : List ℕ → List ℕ
told_name name = flat_map told_byte name

-- what is said of a refusal
abbrev pub refusal_text : Refusal → List ℕ
refusal_text (OutputIsInput name) = codes "the output is an input too: " ++ told_name (input_text name.now)
refusal_text (RefusedIsInput name) = codes "the file of --refused is an input too: " ++ told_name (input_text name.now)
refusal_text (RefusedIsOutput name) = codes "the file of --refused is the output too: " ++ told_name name.now
refusal_text (FaultsAreInput name) = codes "standard error is an input too: " ++ told_name (input_text name.now)
refusal_text (OutputIsFaults name) = codes "the output is standard error too: " ++ told_name name.now
refusal_text (RefusedIsFaults name) = codes "the file of --refused is standard error too: " ++ told_name name.now
refusal_text (StreamsUnseen name) = codes "without /proc it cannot be seen whether a standard stream is this file: " ++ told_name name.now
refusal_text (RefusedHolds name) = codes "the file of --refused needs --append or --replace: " ++ told_name name.now
refusal_text (RangeIsBackwards range) =
    codes "the range " ++ decimal range.from ++ codes ".." ++ decimal (unwrap_or range.to 0) ++ codes " ends before it begins"
refusal_text (RangeIsPastEnd name len) =
    codes "the range goes past the " ++ decimal len ++ codes " bytes of " ++ told_name (input_text name.now)
refusal_text (RangeOfNoFile name) = codes "--range reads a regular file, which this is not: " ++ told_name (input_text name.now)
refusal_text BatchesUnnamed = codes "batches need an --output with one %0Nd in the name of the file, as lines-%06d.lp"
refusal_text (BatchIsThere name) = codes "a batch is there already: " ++ told_name name.now
refusal_text (RefusedIsBatch name) = codes "the file of --refused is named as a batch: " ++ told_name name.now
refusal_text (PartsOutOfRange parts) = codes "--cut takes from 1 to 1000000 parts, not " ++ decimal parts
refusal_text NoClock = codes "--now: the time of the system cannot be read"
