-- What words ask of the program.
use Rattle.std.specs.Prelude.{◌==◌, ℕ, ◌^◌, nat_lt, pos, Bool, true, false, not, ◌&&◌, ◌||◌, List, [], ◌∷◌, length, bytes_eq, codes}
use Rattle.std.specs.Prelude.{Option, Some, None, is_none, is_some, option_and_then, option_map, unwrap_or}
use Rattle.std.specs.Prelude.{if◌then◌else◌}
use Rattle.std.specs.Borrow.{Bor}
use Rattle.std.specs.Option.{option_map_or}
use Rattle.influxdb_line_protocol.specs.types.Dialect.{Dialect}
use Rattle.influxdb_line_protocol.specs.types.Dialect.TheVariants.{Crate, Strict, NewlineDelimited}
use Rattle.influxdb_line_protocol.specs.types.{Limits.Limits as Most, Servers.Servers}
use Rattle.influxdb_line_protocol.specs.types.Servers.TheVariants.{Influx1, Victoria, All}
use Rattle.lp_conditions.specs.declared.field_types.{StrictTypes.StrictTypes}
use Rattle.lp_conditions.specs.declared.portable.{Portable.Portable}
use Rattle.lp_escapes.specs.declared.forms.Faults.{Faults}
use Rattle.lp_escapes.specs.declared.forms.Faults.TheVariants.{Raw, OneLine, Json, Editor}
use Rattle.lp_conditions.specs.declared.settings.LineForm.{LineForm}
use Rattle.lp_conditions.specs.declared.settings.LineForm.TheVariants.{Rebuilt, Verbatim, Canonical}
use Rattle.lp_conditions.specs.declared.settings.Numbering.TheVariants as named
use Rattle.lp_conditions.specs.declared.settings.Settings.{Settings}
use Rattle.lp_conditions.specs.declared.times.{Times.Times, TimeUnit.TheVariants.Nanos}
use Rattle.lp_relay_program.specs.declared.words.Given.{Given}
use Rattle.lp_relay_program.specs.TimeWords.{asked_time, asked_times, unit_named}
use Rattle.lp_programs.specs.declared.relays.{Request.Request}
use Rattle.lp_files.specs.declared.batches.{Limits.Limits}
use Rattle.lp_words.specs.declared.refusals.{OldPieces.OldPieces}
use Rattle.lp_words.specs.declared.refusals.OldPieces.TheVariants.{Refuse, Append, Replace}
use Rattle.lp_words.specs.Options.{asked_range, decimal, default_max_line, faults_form, first_number, is_one_if, named_inputs, names_file, names_input, told_file}
use Rattle.lp_relay_program.specs.declared.words.Task.{Task}
use Rattle.lp_relay_program.specs.declared.words.Task.TheVariants.{Relay, Cut, Help, Version}

-- no option was given
abbrev pub nothing_given : Given
nothing_given = record {
  strict = false;
  newline_delimited = false;
  whole_lines = false;
  crlf = false;
  verbatim = false;
  canonical = false;
  portable = None;
  types = false;
  max_fields = None;
  time_unit = None;
  default_time = None;
  now = false;
  times = None;
  lines = false;
  first_item = None;
  first_line = None;
  max_line = None;
  progress = false;
  summary = false;
  check = false;
  faults = None;
  max_faults = None;
  output = None;
  refused = None;
  append = false;
  replace = false;
  batch_lines = None;
  batch_bytes = None;
  range = None;
}

-- whether faults are told as objects
abbrev pub is_json : Option Faults → Bool
is_json None = false
is_json (Some Raw) = false
is_json (Some OneLine) = false
is_json (Some (Json first_line has_piece)) = true
is_json (Some (Editor first_line)) = false

-- whether fault lines name lines of the input, and no items: objects name both
abbrev pub names_lines : Given → Bool
names_lines given = (given.lines || is_some given.first_line) && not (is_json given.faults)

-- how faults are told, if objects and lines for editors name lines from this one on
abbrev pub from_line : (first : ℕ) → Faults → Faults
from_line first Raw = Raw
from_line first OneLine = OneLine
from_line first (Json line has_piece) = Json first has_piece
from_line first (Editor line) = Editor first

-- how faults are told, with the number of the first line that objects and lines for editors name
abbrev pub told_form : Given → Faults
told_form given = from_line (unwrap_or given.first_line 1) (unwrap_or given.faults OneLine)

-- the number of what fault lines name first
abbrev pub first_named : Given → ℕ
first_named given = if names_lines given then unwrap_or given.first_line 1 else unwrap_or given.first_item 1

-- whose rules hold
abbrev pub asked_dialect : Given → Dialect
asked_dialect given = if given.strict then Strict else (if given.newline_delimited then NewlineDelimited else Crate)

-- how lines go out
abbrev pub lines_form : Given → LineForm
lines_form given = if given.verbatim then Verbatim else (if given.canonical then Canonical else Rebuilt)

-- where the input begins in its file: at the range, if one is asked for
abbrev pub first_offset : Given → ℕ
first_offset given = option_map_or (λ range. range.from) given.range 0

-- the number of the first item or line that a word writes: at least 1, and less than 2^63, so that those after it have numbers too
abbrev pub start_number : List ℕ → Option ℕ
start_number word = option_and_then (λ first. if nat_lt first (2 ^ 63) then Some first else None) (first_number word)

-- the servers that a word names
abbrev pub servers_named : List ℕ → Option Servers
servers_named word =
    if bytes_eq word (codes "influx1") then Some Influx1
    else (if bytes_eq word (codes "victoria") then Some Victoria else (if bytes_eq word (codes "all") then Some All else None))

-- the limits of servers whose options are as they come
abbrev pub usual_limits : Most
usual_limits = record { line = 262144; tags = 29; earliest = pos 1000000; latest = pos 9223372036854775807 }

-- to which servers lines are to be portable
abbrev pub portable_form : List ℕ → Option Portable
portable_form word = option_map (λ to. record { to = to; limits = usual_limits }) (servers_named word)

-- whether the types of fields stay, and of how many at most: of a million, if no option says it
abbrev pub types_form : Given → Option StrictTypes
types_form given = if given.types then Some (record { max_fields = unwrap_or given.max_fields 1000000 }) else None

-- with which times lines go out, if an option says so: timestamps that come are in nanoseconds, if no option says it
abbrev pub times_form : Given → Option Times
times_form given =
    if is_none given.time_unit && is_none given.default_time && is_none given.times then None
    else Some (record {
      unit = unwrap_or given.time_unit Nanos;
      missing = given.default_time;
      from = option_and_then (λ range. range.from) given.times;
      to = option_and_then (λ range. range.to) given.times;
    })

-- the settings of the options that were given: those that were not have their defaults
abbrev pub given_settings : Given → Settings
given_settings given = record {
  dialect = asked_dialect given;
  limit = unwrap_or given.max_line default_max_line;
  drops_returns = given.crlf;
  lines = lines_form given;
  portable = given.portable;
  types = types_form given;
  times = times_form given;
  numbering = if names_lines given then named.Lines else named.Items;
  first = first_named given;
  faults = told_form given;
  max_faults = given.max_faults;
  puts_refused = is_some given.refused;
  counts_kinds = given.summary;
  file = None;
  first_offset = first_offset given;
}

-- how large batches are, if the lines go to batches
abbrev pub given_batches : Given → Option Limits
given_batches given =
    if is_some given.batch_lines || is_some given.batch_bytes
    then Some (record { lines = given.batch_lines; bytes = given.batch_bytes }) else None

-- what becomes of the pieces that the file of refused pieces holds: a run is refused, unless an option says it
abbrev pub given_old_pieces : Given → OldPieces
given_old_pieces given = if given.append then Append else (if given.replace then Replace else Refuse)

-- whether two options say of one thing that it is so and otherwise. Lines go out in one way, and the rules are those of one dialect. Refused
-- pieces are added to their file or replace it. Lines without a timestamp have one time
abbrev pub are_opposed : Given → Bool
are_opposed given =
    (given.verbatim && given.canonical) || (given.strict && given.newline_delimited) || (given.append && given.replace)
    || (given.now && is_some given.default_time)

-- whether two options exclude each other. A check has no file for lines, and no batches. The number of the first item is none of a line
abbrev pub are_at_odds : Given → Bool
are_at_odds given =
    (given.check && (is_some given.output || is_some given.batch_lines || is_some given.batch_bytes))
    || (is_some given.first_item && names_lines given) || are_opposed given

-- whether fields have a limit, but no types that stay
abbrev pub lacks_types : Given → Bool
lacks_types given = is_some given.max_fields && not given.types

-- whether only whole lines are read, but a newline may not end a line
abbrev pub lacks_newlines : Given → Bool
lacks_newlines given = given.whole_lines && not given.newline_delimited

-- whether there are options of refused pieces without a file for these, or the pieces would go to standard output with the lines
abbrev pub lacks_refused : Given → Bool
lacks_refused given =
    option_map_or (λ name. bytes_eq name.now (codes "-") && not given.check && is_none given.output) given.refused
    (given.append || given.replace)

-- whether an option lacks the one that it needs
abbrev pub lacks_option : Given → Bool
lacks_option given = lacks_newlines given || lacks_types given || lacks_refused given

-- the relay of the options that were given and of inputs of these names. There is just one if a part of it is asked for, and no more than
-- one by the time of each read. No options exclude each other, and none lacks the one that it needs
abbrev pub request_with : Given → List (Bor (List ℕ)) → Option Request
request_with given names =
    if is_one_if (is_some given.range) names && not (given.now && nat_lt 1 (length names))
    && not (are_at_odds given || lacks_option given)
    then Some (record {
      relay = record (given_settings given) { file = told_file (told_form given) names };
      now = given.now;
      progress = given.progress;
      check = given.check;
      output = given.output;
      refused = given.refused;
      old_pieces = given_old_pieces given;
      batches = given_batches given;
      range = given.range;
      whole_lines = given.whole_lines;
      inputs = length names;
    })
    else None

-- the same, of the inputs that words name after the mark
abbrev pub request_of : Given → List (Bor (List ℕ)) → Option Request
request_of given words = option_and_then (request_with given) (named_inputs words)

-- the options with the one that a word names, if that was not given before and says what becomes of old refused pieces
abbrev pub with_old_pieces : Given → List ℕ → Option Given
with_old_pieces given word =
    if bytes_eq word (codes "--append") && not given.append then Some (record given { append = true })
    else (if bytes_eq word (codes "--replace") && not given.replace then Some (record given { replace = true }) else None)

-- the same, if it says how lines come or go out
abbrev pub with_form : Given → List ℕ → Option Given
with_form given word =
    if bytes_eq word (codes "--whole-lines") && not given.whole_lines then Some (record given { whole_lines = true })
    else (if bytes_eq word (codes "--crlf") && not given.crlf then Some (record given { crlf = true })
    else (if bytes_eq word (codes "--verbatim") && not given.verbatim then Some (record given { verbatim = true })
    else (if bytes_eq word (codes "--canonical") && not given.canonical then Some (record given { canonical = true })
    else (if bytes_eq word (codes "--now") && not given.now then Some (record given { now = true }) else None))))

-- the same, if it takes no word after it and is none of these
abbrev pub with_switch : Given → List ℕ → Option Given
with_switch given word =
    if bytes_eq word (codes "--strict") && not given.strict then Some (record given { strict = true })
    else (if bytes_eq word (codes "--newline-delimited") && not given.newline_delimited
    then Some (record given { newline_delimited = true })
    else (if bytes_eq word (codes "--lines") && not given.lines then Some (record given { lines = true })
    else (if bytes_eq word (codes "--progress") && not given.progress then Some (record given { progress = true })
    else (if bytes_eq word (codes "--summary") && not given.summary then Some (record given { summary = true })
    else (if bytes_eq word (codes "--check") && not given.check then Some (record given { check = true })
    else None)))))

-- the first of two that is there
abbrev pub first_given : Option Given → Option Given → Option Given
first_given (Some given) other = Some given
first_given None other = other

-- the options with the one that a word names, if that was not given before and takes no word after it
abbrev pub with_flag : Given → List ℕ → Option Given
with_flag given word = first_given (with_switch given word) (first_given (with_form given word) (with_old_pieces given word))

-- the same, if the word after it is the number that it takes
abbrev pub with_number : Given → List ℕ → Bor (List ℕ) → Option Given
with_number given word value =
    if bytes_eq word (codes "--max-line") && is_none given.max_line
    then option_map (λ bytes. record given { max_line = Some bytes }) (decimal value.now)
    else (if bytes_eq word (codes "--first-item") && is_none given.first_item
    then option_map (λ first. record given { first_item = Some first }) (start_number value.now)
    else (if bytes_eq word (codes "--first-line") && is_none given.first_line
    then option_map (λ first. record given { first_line = Some first }) (start_number value.now)
    else (if bytes_eq word (codes "--batch-lines") && is_none given.batch_lines
    then option_map (λ most. record given { batch_lines = Some most }) (first_number value.now)
    else (if bytes_eq word (codes "--batch-bytes") && is_none given.batch_bytes
    then option_map (λ most. record given { batch_bytes = Some most }) (first_number value.now)
    else (if bytes_eq word (codes "--max-fields") && is_none given.max_fields
    then option_map (λ most. record given { max_fields = Some most }) (decimal value.now)
    else (if bytes_eq word (codes "--max-faults") && is_none given.max_faults
    then option_map (λ most. record given { max_faults = Some most }) (decimal value.now) else None))))))

-- the same, if the word after it names a file
abbrev pub with_file : Given → List ℕ → Bor (List ℕ) → Option Given
with_file given word value =
    if (bytes_eq word (codes "--output") || bytes_eq word (codes "-o")) && is_none given.output && names_file value.now
    then Some (record given { output = Some value })
    else (if bytes_eq word (codes "--refused") && is_none given.refused && names_input value.now
    then Some (record given { refused = Some value }) else None)

-- the same, if the word after it is another that it takes
abbrev pub with_word : Given → List ℕ → Bor (List ℕ) → Option Given
with_word given word value =
    if bytes_eq word (codes "--faults") && is_none given.faults
    then option_map (λ form. record given { faults = Some form }) (faults_form value.now)
    else (if bytes_eq word (codes "--portable") && is_none given.portable
    then option_map (λ portable. record given { portable = Some portable }) (portable_form value.now)
    else (if bytes_eq word (codes "--types") && not given.types && bytes_eq value.now (codes "strict")
    then Some (record given { types = true })
    else (if bytes_eq word (codes "--range") && is_none given.range
    then option_map (λ range. record given { range = Some range }) (asked_range value.now) else None)))

-- the same, if it is of the times of lines
abbrev pub with_times : Given → List ℕ → Bor (List ℕ) → Option Given
with_times given word value =
    if bytes_eq word (codes "--time-unit") && is_none given.time_unit
    then option_map (λ unit. record given { time_unit = Some unit }) (unit_named value.now)
    else (if bytes_eq word (codes "--default-time") && is_none given.default_time
    then option_map (λ time. record given { default_time = Some time }) (asked_time value.now)
    else (if bytes_eq word (codes "--times") && is_none given.times
    then option_map (λ range. record given { times = Some range }) (asked_times value.now) else None))

-- the same, if the word after it says what it takes
abbrev pub with_value : Given → List ℕ → Bor (List ℕ) → Option Given
with_value given word value =
    first_given (with_number given word value)
    (first_given (with_times given word value) (first_given (with_file given word value) (with_word given word value)))

-- the relay that words in order ask for after the options given: each option is one that was not given before it
abbrev mutual
  pub asked_request : Given → List (Bor (List ℕ)) → Option Request
  asked_request given [] = request_of given []
  asked_request given (word ∷ words) =
      option_map_or (λ more. asked_request more words) (with_flag given word.now) (asked_after given word words)

  -- the same if this word comes before the others, and is no option that takes no word after it
  pub asked_after : Given → Bor (List ℕ) → List (Bor (List ℕ)) → Option Request
  asked_after given word [] = request_of given (word ∷ [])
  asked_after given word (value ∷ words) =
      option_map_or (λ more. asked_request more words) (with_value given word.now value) (request_of given (word ∷ value ∷ words))

-- What `--help` or `-h` asks for with these words after it: the options that people use most, or, with the word `all`, all options.
abbrev pub asked_help : List (Bor (List ℕ)) → Option Task
asked_help [] = Some (Help false)
asked_help (name ∷ []) = if bytes_eq name.now (codes "all") then Some (Help true) else None
asked_help (name ∷ next ∷ words) = None

-- What one option alone asks for: `--help` or `-h` the help, also with the word `all` after it, and `--version` the version.
abbrev pub asked_alone : List (Bor (List ℕ)) → Option Task
asked_alone [] = None
asked_alone (word ∷ []) = None
asked_alone (word ∷ mark ∷ names) =
    if not (bytes_eq mark.now (codes "--")) then None
    else (if bytes_eq word.now (codes "--help") || bytes_eq word.now (codes "-h") then asked_help names
    else (if bytes_eq word.now (codes "--version") && length names == 0 then Some Version else None))

-- `--cut` and a number ask for the ends of so many parts of the inputs that the other words name
abbrev pub cut_task : Dialect → List (Bor (List ℕ)) → Option Task
cut_task dialect [] = None
cut_task dialect (word ∷ []) = None
cut_task dialect (word ∷ count ∷ words) =
    if bytes_eq word.now (codes "--cut")
    then option_and_then (λ names. option_map (λ parts. Cut dialect parts (length names)) (decimal count.now)) (named_inputs words) else None

-- the cut that words ask for, first or after the option of a dialect
abbrev pub asked_cut : List (Bor (List ℕ)) → Option Task
asked_cut [] = None
asked_cut (word ∷ words) =
    if bytes_eq word.now (codes "--strict") then cut_task Strict words
    else (if bytes_eq word.now (codes "--newline-delimited") then cut_task NewlineDelimited words else cut_task Crate (word ∷ words))

-- what words in order ask for
abbrev pub asked_task : List (Bor (List ℕ)) → Option Task
asked_task words =
    if is_some (asked_alone words) then asked_alone words
    else (if is_none (asked_cut words) then option_map Relay (asked_request nothing_given words) else asked_cut words)
