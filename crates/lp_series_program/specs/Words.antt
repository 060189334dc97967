-- What words ask of the program.
use Rattle.std.specs.Prelude.{ℕ, ◌+◌, nat_lt, take, drop, Bool, true, false, not, ◌&&◌, ◌||◌, ◌==◌, List, [], ◌∷◌, length, bytes_eq, codes}
use Rattle.std.specs.Prelude.{Option, Some, None, is_none, is_some, option_map, option_and_then, unwrap_or, if◌then◌else◌}
use Rattle.std.specs.{Borrow.Bor, List.position, Option.option_map_or}
use Rattle.influxdb_line_protocol.specs.types.Dialect.{Dialect, TheVariants.Crate, TheVariants.Strict, TheVariants.NewlineDelimited}
use Rattle.lp_conditions.specs.declared.settings.{LineForm.LineForm, Shard.Shard}
use Rattle.lp_escapes.specs.declared.forms.{Faults.TheVariants.OneLine}
use Rattle.lp_conditions.specs.declared.settings.LineForm.TheVariants.{Verbatim, Keyed, OfShard}
use Rattle.lp_conditions.specs.declared.settings.Numbering.TheVariants as named
use Rattle.lp_words.specs.Options.{decimal, default_max_line, faults_form, first_number, named_inputs, names_file, told_file}
use Rattle.lp_programs.specs.declared.relays.Request.{Request}
use Rattle.lp_words.specs.declared.refusals.OldPieces.TheVariants.{Refuse}
use Rattle.lp_series_program.specs.declared.words.{Given.Given, Report.Report, Task.Task, Task.TheVariants.Relay, Task.TheVariants.Count, Task.TheVariants.Help, Task.TheVariants.Version}

-- no option was given
abbrev pub nothing_given : Given
nothing_given = record {
  strict = false;
  newline_delimited = false;
  stats = false;
  json = false;
  key = false;
  shard = None;
  faults = None;
  max_line = None;
  max_series = None;
  every = None;
  prometheus = None;
}

-- how many series are kept if no option says it
abbrev pub default_max_series : ℕ
default_max_series = 1000000

-- whose rules hold: keys stand on lines of their own, so those of the dialect in which each newline ends a line
abbrev pub asked_dialect : Given → Dialect
asked_dialect given =
    if given.key || given.newline_delimited then NewlineDelimited else (if given.strict then Strict else Crate)

-- how lines go out
abbrev pub lines_form : Given → LineForm
lines_form given = if given.key then Keyed else option_map_or OfShard given.shard Verbatim

-- whether lines go out, and nothing is counted
abbrev pub is_relay : Given → Bool
is_relay given = given.key || is_some given.shard

-- whether an option of counting was given
abbrev pub asks_to_count : Given → Bool
asks_to_count given =
    given.stats || given.json || is_some given.max_series || is_some given.every || is_some given.prometheus

-- whether two options exclude each other: the rules are those of one dialect, a key stands on a line, and one thing is asked for
abbrev pub are_at_odds : Given → Bool
are_at_odds given =
    (given.strict && (given.newline_delimited || given.key)) || (given.key && is_some given.shard) || (is_relay given && asks_to_count given)

-- the relay of the options that were given, and of the inputs that words name. The kinds of faults are counted if lines are
abbrev pub given_relay : Given → List (Bor (List ℕ)) → Request
given_relay given words = record {
  relay = record {
    dialect = asked_dialect given;
    limit = unwrap_or given.max_line default_max_line;
    drops_returns = false;
    lines = lines_form given;
    portable = None;
    types = None;
    times = None;
    numbering = named.Items;
    first = 1;
    faults = unwrap_or given.faults OneLine;
    max_faults = None;
    puts_refused = false;
    counts_kinds = not (is_relay given);
    file = told_file (unwrap_or given.faults OneLine) words;
    first_offset = 0;
  };
  now = false;
  progress = false;
  check = not (is_relay given);
  output = None;
  refused = None;
  old_pieces = Refuse;
  batches = None;
  range = None;
  whole_lines = false;
  inputs = length words;
}

-- how it is told what was counted
abbrev pub given_report : Given → Report
given_report given = record {
  json = given.json;
  max_series = unwrap_or given.max_series default_max_series;
  every = given.every;
  prometheus = given.prometheus;
}

-- the task of the options that were given and of inputs of these names, if no options exclude each other
abbrev pub task_with : Given → List (Bor (List ℕ)) → Option Task
task_with given names =
    if not (are_at_odds given)
    then Some (if is_relay given then Relay (given_relay given names) else Count (given_relay given names) (given_report given))
    else None

-- the same, of the inputs that words name after the mark
abbrev pub task_given : Given → List (Bor (List ℕ)) → Option Task
task_given given words = option_and_then (task_with given) (named_inputs words)

-- the options with the one that a word names, if that was not given before and takes no word after it
abbrev pub with_flag : Given → List ℕ → Option Given
with_flag given word =
    if bytes_eq word (codes "--strict") && not given.strict then Some (record given { strict = true })
    else (if bytes_eq word (codes "--newline-delimited") && not given.newline_delimited
    then Some (record given { newline_delimited = true })
    else (if bytes_eq word (codes "--stats") && not given.stats then Some (record given { stats = true })
    else (if bytes_eq word (codes "--json") && not given.json then Some (record given { json = true })
    else (if bytes_eq word (codes "--key") && not given.key then Some (record given { key = true }) else None))))

-- the shard whose number and count these words write, if there is one
abbrev pub shard_between : (number count : List ℕ) → Option Shard
shard_between number count =
    option_and_then (λ n. option_and_then (λ of. if nat_lt n of then Some (record { number = n; count = of }) else None) (decimal count))
    (decimal number)

-- the shard that a word writes, as `0/4`
abbrev pub asked_shard : List ℕ → Option Shard
asked_shard word = option_and_then (λ at. shard_between (take at word) (drop (at + 1) word)) (position (λ b. b == 47) word)

-- the same, if the word after it says what it takes
abbrev pub with_value : Given → List ℕ → Bor (List ℕ) → Option Given
with_value given word value =
    if bytes_eq word (codes "--shard") && is_none given.shard
    then option_map (λ shard. record given { shard = Some shard }) (asked_shard value.now)
    else (if bytes_eq word (codes "--faults") && is_none given.faults
    then option_map (λ form. record given { faults = Some form }) (faults_form value.now)
    else (if bytes_eq word (codes "--max-line") && is_none given.max_line
    then option_map (λ bytes. record given { max_line = Some bytes }) (decimal value.now)
    else (if bytes_eq word (codes "--max-series") && is_none given.max_series
    then option_map (λ series. record given { max_series = Some series }) (decimal value.now)
    else (if bytes_eq word (codes "--every") && is_none given.every
    then option_map (λ seconds. record given { every = Some seconds }) (first_number value.now)
    else (if bytes_eq word (codes "--prometheus") && is_none given.prometheus && names_file value.now
    then Some (record given { prometheus = Some value }) else None)))))

-- the task that words in order ask for after the options given: each option is one that was not given before it
abbrev mutual
  pub asked_after_options : Given → List (Bor (List ℕ)) → Option Task
  asked_after_options given [] = task_given given []
  asked_after_options given (word ∷ words) =
      option_map_or (λ more. asked_after_options more words) (with_flag given word.now) (asked_after given word words)

  -- the same if this word comes before the others, and is no option that takes no word after it
  pub asked_after : Given → Bor (List ℕ) → List (Bor (List ℕ)) → Option Task
  asked_after given word [] = task_given given (word ∷ [])
  asked_after given word (value ∷ words) =
      option_map_or (λ more. asked_after_options more words) (with_value given word.now value) (task_given given (word ∷ value ∷ words))

-- what one option alone asks for: `--help` or `-h` the usage, `--version` the version
abbrev pub asked_alone : List (Bor (List ℕ)) → Option Task
asked_alone [] = None
asked_alone (word ∷ []) = None
asked_alone (word ∷ mark ∷ []) =
    if not (bytes_eq mark.now (codes "--")) then None
    else (if bytes_eq word.now (codes "--help") || bytes_eq word.now (codes "-h") then Some Help
    else (if bytes_eq word.now (codes "--version") then Some Version else None))
asked_alone (word ∷ mark ∷ name ∷ words) = None

-- what words in order ask for
abbrev pub asked_task : List (Bor (List ℕ)) → Option Task
asked_task words = if is_some (asked_alone words) then asked_alone words else asked_after_options nothing_given words
