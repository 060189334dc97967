-- What a relay leaves that gives each line without a timestamp the time of the read with which its piece ended.
use Rattle.std.specs.Prelude.{◌≡◌, ◌⊎◌, ℕ, ℤ, ◌^◌, ◌-◌, min, List, [], ◌∷◌, ◌++◌, map, Option, Some, None, unwrap_or}
use Rattle.std.specs.Prelude.{Result, IfOk, IfSome, OnOk, OnErr, MatchResult}
use Rattle.std.specs.List.{flat_map}
use Rattle.influxdb_line_protocol.specs.format.Dialects.{Dialect}
use Rattle.influxdb_line_protocol.specs.format.Pieces.{IsLastPiece, Pieces}
use Rattle.influxdb_line_protocol.specs.code.Bounded.{HeldWithin, Holds}
use Rattle.influxdb_line_protocol.specs.code.Rules.{rules_of}
use Rattle.lp_rebuild.specs.declared.program.RunFault.{RunFault}
use Rattle.lp_rebuild.specs.Running.{ReaderTold}
use Rattle.lp_relay.specs.declared.reads.{ReadEnd.ReadEnd}
use Rattle.lp_conditions.specs.declared.kinds.{Relayed.Relayed}
use Rattle.lp_conditions.specs.declared.settings.{Settings.Settings, Numbering.Numbering}
use Rattle.lp_faults.specs.declared.telling.{Place.Place}
use Rattle.lp_conditions.specs.declared.times.{Times.Times}
use Rattle.lp_escapes.specs.declared.forms.{Faults.Faults}
use Rattle.lp_conditions.specs.declared.settings.Numbering.TheVariants as named
use Rattle.lp_escapes.specs.declared.forms.Faults.TheVariants.{Raw, OneLine, Json, Editor}
use Rattle.lp_conditions.specs.declared.times.TimeUnit.TheVariants.{Nanos}
use Rattle.lp_faults.specs.FaultsTold.{first_place}
use Rattle.lp_conditions.specs.FieldTypes.{Types, no_types}
use Rattle.lp_relay.specs.Inputs.{AddsUp, TellsFaults, most_after, nothing_relayed}
use Rattle.lp_faults.specs.Objects.{line_or_none}
use Rattle.lp_faults.specs.Relaying.{types_past}
use Rattle.lp_relay.specs.Relays.{RelaysFronts, RelaysPieces, RelaysPiecesFronts}
use Rattle.lp_relay.specs.RelaySteps.{place_past}
use Rattle.lp_relay.specs.Writers.{AreFlushed, Known, Told, bytes_of}

-- a read: its time, and the pieces that ended with it
pub record Read : Type 0 where
  pub time : ℤ
  pub pieces : List (List ℕ)

-- the pieces of reads, in order
abbrev pub pieces_of : List Read → List (List ℕ)
pieces_of reads = flat_map (λ read. read.pieces) reads

-- their times
abbrev pub times_of : List Read → List ℤ
times_of reads = map (λ read. read.time) reads

-- a clock told these times, if those that it told before are known
abbrev pub TellsTimes : Option (List ℤ) → Option (List ℤ) → List ℤ → Type 0
TellsTimes told told_after times = IfSome told (λ ts. told_after ≡ Some (ts ++ times))

-- all times stay as they come
abbrev pub no_times : Times
no_times = record { unit = Nanos; missing = None; from = None; to = None }

-- the settings by which a line without a timestamp has this time
abbrev pub settings_at : ℤ → Settings → Settings
settings_at time s = record s { times = Some (record (unwrap_or s.times no_times) { missing = Some time }) }

-- what is numbered after some pieces: items, if the form of the faults names the line by itself
abbrev pub numbering_from : Faults → Numbering → Numbering
numbering_from Raw numbering = numbering
numbering_from OneLine numbering = numbering
numbering_from (Json line has_piece) numbering = named.Items
numbering_from (Editor line) numbering = named.Items

-- the number of the first item or line from this place on
abbrev pub first_from : Numbering → Place → ℕ
first_from named.Items place = min (2 ^ 64 - 1) place.number
first_from named.Lines place = line_or_none place.line

-- the form of the faults from this line on
abbrev pub faults_from : Faults → (line : ℕ) → Faults
faults_from Raw line = Raw
faults_from OneLine line = OneLine
faults_from (Json first has_piece) line = Json line has_piece
faults_from (Editor first) line = Editor line

-- the settings that go on from this place, after items that were counted so
abbrev pub settings_from : Settings → Place → Relayed → Settings
settings_from s place counts =
    let numbering = numbering_from s.faults s.numbering in
    record s {
      numbering = numbering;
      first = first_from numbering place;
      faults = faults_from s.faults (line_or_none place.line);
      max_faults = most_after s.max_faults counts;
      first_offset = place.offset;
    }

-- the settings that go on after these pieces
abbrev pub settings_then : Settings → Types → List (List ℕ) → Relayed → Settings
settings_then s types pieces counts = settings_from s (place_past s types (first_place s) pieces) counts

-- the pieces of reads were relayed, those of each read with its time, by settings that go on after the reads before it, and by the types
-- that fields have then
pub data RelaysReads (s : Settings) (before : Known) : List Read → Relayed → (now : Settings) → Types → Known → Type 0 where
  none : RelaysReads s before [] nothing_relayed s no_types before
  more : (reads : List Read) (so_far counts total : Relayed) (now : Settings) (types : Types) (read : Read) (mid after : Known)
      → RelaysReads s before reads so_far now types mid
      → RelaysPieces (settings_at read.time now) types read.pieces counts mid after
      → AddsUp so_far counts total
      → RelaysReads s before (reads ++ read ∷ []) total (settings_then (settings_at read.time now) types read.pieces counts)
      (types_past (settings_at read.time now) types read.pieces) after

-- these bytes were relayed whole, by reads at the times that the clock told
pub record RelaysByReads (s : Settings) (bytes : List ℕ) (counts : Relayed) (told told_after : Option (List ℤ)) (before after : Known)
    : Type 0 where
  pub reads : List Read
  pub now : Settings
  pub types : Types
  pub are : Pieces (rules_of s.dialect) bytes (pieces_of reads)
  pub relays : RelaysReads s before reads counts now types after
  pub times : TellsTimes told told_after (times_of reads)

-- these bytes were relayed up to a read, and of its pieces, and of all after them, each writer gained a front: nothing, or what they give at
-- the last time that the clock told
pub record RelaysReadsFront (s : Settings) (bytes : List ℕ) (told told_after : Option (List ℤ)) (before after : Known) : Type 0 where
  pub reads : List Read
  pub time : ℤ
  pub rest : List (List ℕ)
  pub so_far : Relayed
  pub now : Settings
  pub types : Types
  pub mid : Known
  pub are : Pieces (rules_of s.dialect) bytes (pieces_of reads ++ rest)
  pub relays : RelaysReads s before reads so_far now types mid
  pub fronts : RelaysPiecesFronts (settings_at time now) types rest mid after
  pub times : (TellsTimes told told_after (times_of reads) × (after ≡ mid)) ⊎ TellsTimes told told_after (times_of reads ++ time ∷ [])

-- a relay with the time of each read: what it answers, and what it leaves in its reader, in its clock and in its three writers
pub record RelaysNow (s : Settings) (result : Result Relayed RunFault) (reader reader_after : ReaderTold)
    (told told_after : Option (List ℤ)) (before after : Told) : Type 0 where
  -- all was read, and the items of it were written
  pub all : IfOk result (λ counts. IfSome reader.bytes (λ bs.
      (reader_after.bytes ≡ Some []) × RelaysByReads s bs counts told told_after (bytes_of before) (bytes_of after)))
  -- all that was written to each writer was flushed
  pub flushed : OnOk result (AreFlushed after)
  -- after a fault, each writer has a front of what was meant for it
  pub part : OnErr result (IfSome reader.bytes (λ bs. RelaysReadsFront s bs told told_after (bytes_of before) (bytes_of after)))
  -- which fault is answered
  pub faults : TellsFaults result reader.failures reader_after.failures before after

-- whatever comes after, these pieces and the pieces of what is left are those of what was given
abbrev pub GivesPieces : Dialect → (given : List ℕ) → List (List ℕ) → (left : List ℕ) → Type 0
GivesPieces dialect given pieces left = (t : List ℕ) (others : List (List ℕ))
    → Pieces dialect (left ++ t) others → Pieces dialect (given ++ t) (pieces ++ others)

-- the pieces that ended with a part were relayed, and this is left of it and of the text before it
pub record EndsRead (s : Settings) (types types_after : Types) (given left : List ℕ) (end : ReadEnd) (before after : Known) : Type 0 where
  pub pieces : List (List ℕ)
  pub gives : GivesPieces (rules_of s.dialect) given pieces left
  pub is_last : IsLastPiece (rules_of s.dialect) left
  pub relays : RelaysPieces s types pieces end.counts before after
  pub types_are : types_after ≡ types_past s types pieces
  pub settings : end.settings ≡ settings_then s types pieces end.counts

-- what the stream held, and then a part, was relayed up to the last newline that ends a piece
abbrev pub RelaysRead : Settings → (part : List ℕ) → Result ReadEnd RunFault → (types types_after : Types)
    → (stream stream_after : HeldWithin) → (before after : Told) → Type 0
RelaysRead s part result types types_after stream stream_after before after =
    (text : List ℕ) → Holds stream text → IsLastPiece (rules_of s.dialect) text
    → MatchResult result
    (λ end. (left : List ℕ) × Holds stream_after left × EndsRead s types types_after (text ++ part) left end (bytes_of before) (bytes_of after))
    (λ _. (t : List ℕ) → RelaysFronts s types ((text ++ part) ++ t) (bytes_of before) (bytes_of after))

-- what the stream held was relayed, with its last piece
abbrev pub RelaysRest : Settings → Result Relayed RunFault → Types → (stream : HeldWithin) → (before after : Told) → Type 0
RelaysRest s result types stream before after =
    (text : List ℕ) → Holds stream text → IsLastPiece (rules_of s.dialect) text
    → MatchResult result
    (λ counts. (pieces : List (List ℕ)) × Pieces (rules_of s.dialect) text pieces × RelaysPieces s types pieces counts (bytes_of before) (bytes_of after))
    (λ _. RelaysFronts s types text (bytes_of before) (bytes_of after))
