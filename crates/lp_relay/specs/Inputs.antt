-- What a relay of several inputs, one after another, answers, and what it leaves in their reader and in its three writers.
use Rattle.std.specs.Prelude.{◌≡◌, ◌≢◌, ◌⊎◌, ◌↔◌, ℕ, ◌+◌, ◌-◌, ◌^◌, ◌<◌, ◌≤◌, min, nat_lt, Bool, List, [], ◌∷◌, ◌++◌, length, drop}
use Rattle.std.specs.Prelude.{Option, Some, None, Result, Err, IfOk, IfSome, OnOk, OnErr, if◌then◌else◌}
use Rattle.std.specs.Borrow.{Bor}
use Rattle.lp_rebuild.specs.declared.program.RunFault.{RunFault}
use Rattle.lp_rebuild.specs.declared.program.RunFault.TheVariants.{Read, NotUtf8, Write}
use Rattle.lp_conditions.specs.declared.kinds.Relayed.{Relayed}
use Rattle.lp_conditions.specs.declared.settings.Numbering.{Numbering}
use Rattle.lp_conditions.specs.declared.settings.Numbering.TheVariants as named
use Rattle.lp_conditions.specs.declared.settings.Settings.{Settings}
use Rattle.lp_escapes.specs.declared.forms.Faults.{Faults}
use Rattle.lp_escapes.specs.declared.forms.Faults.TheVariants.{Raw, OneLine, Json, Editor}
use Rattle.lp_conditions.specs.KindCounts.{Counts, counts_if}
use Rattle.lp_faults.specs.Relaying.{first_of}
use Rattle.lp_conditions.specs.FieldTypes.{Types, no_types}
use Rattle.lp_relay.specs.Relays.{RelaysAll, RelaysFronts, TypesAfter}
use Rattle.lp_relay.specs.Writers.{AreFlushed, Known, Told, bytes_of}

-- an input: its name and its text
pub record Input : Type 0 where
  pub name : Bor (List ℕ)
  pub text : List ℕ

-- the text of the next input: no bytes if none is left
abbrev pub next_text : List (List ℕ) → List ℕ
next_text [] = []
next_text (text ∷ texts) = text

-- the inputs that have these names and texts
abbrev pub inputs_of : List (Bor (List ℕ)) → List (List ℕ) → List Input
inputs_of [] texts = []
inputs_of (name ∷ names) texts = record { name = name; text = next_text texts } ∷ inputs_of names (drop 1 texts)

-- a reader was turned to the next of the texts that were left, if these are known
abbrev pub Opens : (left left_after : Option (List (List ℕ))) → (bytes : Option (List ℕ)) → Type 0
Opens left left_after bytes = IfSome left (λ texts. (left_after ≡ Some (drop 1 texts)) × (bytes ≡ Some (next_text texts)))

-- what faults name first, of an input that comes after items that were counted so: items are counted on, lines from 1 on
abbrev pub first_after : Numbering → ℕ → Relayed → ℕ
first_after named.Items first so_far = min (2 ^ 64 - 1) (first_of first + (so_far.carried + so_far.refused))
first_after named.Lines first so_far = 1

-- how its faults are told: objects name its lines from 1 on
abbrev pub faults_after : Faults → Faults
faults_after Raw = Raw
faults_after OneLine = OneLine
faults_after (Json first_line has_piece) = Json 1 has_piece
faults_after (Editor first_line) = Editor 1

-- how many of its faults are told at most, if so many are of all inputs
abbrev pub most_after : Option ℕ → Relayed → Option ℕ
most_after None so_far = None
most_after (Some most) so_far = Some (most - so_far.refused)

-- the settings for it, which begins its file: all others stay
abbrev pub settings_after : Settings → Relayed → Settings
settings_after s so_far = record s {
  first = first_after s.numbering s.first so_far;
  faults = faults_after s.faults;
  max_faults = most_after s.max_faults so_far;
  first_offset = 0;
}

-- the settings for an input that comes after these, whose items were counted so
abbrev pub settings_past : Settings → List Input → Relayed → Settings
settings_past s [] so_far = s
settings_past s (input ∷ inputs) so_far = settings_after s so_far

-- whether there are several inputs
abbrev pub are_several : List (Bor (List ℕ)) → Bool
are_several names = nat_lt 1 (length names)

-- the settings for the input of this name: of several inputs faults name theirs
abbrev pub settings_for : Bool → Bor (List ℕ) → Settings → Settings
settings_for several name s = record s { file = if several then Some name else s.file }

-- nothing was relayed so far
abbrev pub nothing_relayed : Relayed
nothing_relayed = record { carried = 0; refused = 0; kinds = None }

-- the counts of both for each kind
abbrev pub counts_sum : Counts → Counts → Counts
counts_sum so_far more kind = min (2 ^ 64 - 1) (so_far kind + more kind)

-- the same, if the second input has counts for kinds
abbrev pub kinds_sum : Option Counts → Option Counts → Option Counts
kinds_sum None more = more
kinds_sum (Some so_far) None = None
kinds_sum (Some so_far) (Some more) = Some (counts_sum so_far more)

-- the counts of an input and of what came before it were added up
pub record AddsUp (so_far counts total : Relayed) : Type 0 where
  pub carried : total.carried ≡ min (2 ^ 64 - 1) (so_far.carried + counts.carried)
  pub refused : total.refused ≡ min (2 ^ 64 - 1) (so_far.refused + counts.refused)
  pub kinds : counts_if total.kinds ≡ kinds_sum (counts_if so_far.kinds) (counts_if counts.kinds)

-- inputs were relayed whole, one after another, by the settings that count on after those before it, and by the types that fields have
-- then
pub data RelaysEach (s : Settings) (several : Bool) (before : Known) : List Input → Relayed → Types → Known → Type 0 where
  none : RelaysEach s several before [] nothing_relayed no_types before
  more : (done : List Input) (so_far counts total : Relayed) (types types_after : Types) (input : Input) (mid after : Known)
      → RelaysEach s several before done so_far types mid
      → RelaysAll (settings_for several input.name (settings_past s done so_far)) types input.text counts mid after
      → TypesAfter (settings_for several input.name (settings_past s done so_far)) types input.text types_after
      → AddsUp so_far counts total → RelaysEach s several before (done ++ input ∷ []) total types_after after

-- inputs were relayed whole up to one, and of that each writer gained a front of what was meant for it
pub record RelaysUpTo (s : Settings) (several : Bool) (inputs : List Input) (before after : Known) : Type 0 where
  pub done : List Input
  pub input : Input
  pub others : List Input
  pub are : inputs ≡ done ++ input ∷ others
  pub so_far : Relayed
  pub types : Types
  pub mid : Known
  pub each : RelaysEach s several before done so_far types mid
  pub fronts : RelaysFronts (settings_for several input.name (settings_past s done so_far)) types input.text mid after

-- the texts of the inputs that are left, if they are known, and how many calls of their reader failed so far
pub record InputsTold : Type 0 where
  pub left : Option (List (List ℕ))
  pub failures : ℕ

-- the same, by the members of the traits of what turns their reader to the next one, and of that reader
abbrev pub inputs_told : {N R : Type 0} → (N → Option (List (List ℕ))) → (R → ℕ) → N → R → InputsTold
inputs_told left failures opener reader = record { left = left opener; failures = failures reader }

-- which fault is answered, by the counts of the failures
pub record TellsFaults (result : Result Relayed RunFault) (failures failures_after : ℕ) (before after : Told) : Type 0 where
  -- `Read` is answered exactly if an input could not be opened or read
  pub read : (result ≡ Err Read) ↔ (failures < failures_after)
  -- `Write` is answered exactly if a writer failed
  pub write : (result ≡ Err Write) ↔ ((before.lines.failures < after.lines.failures)
      ⊎ ((before.faults.failures < after.faults.failures) ⊎ (before.refused.failures < after.refused.failures)))
  -- `NotUtf8` is never answered
  pub utf8 : result ≢ Err NotUtf8
  -- no count of failures falls
  pub counts : (failures ≤ failures_after) × (before.lines.failures ≤ after.lines.failures)
      × (before.faults.failures ≤ after.faults.failures) × (before.refused.failures ≤ after.refused.failures)

-- the next input was relayed by these settings, and by these types that fields have before it and after it
pub record RelaysNext (s : Settings) (types types_after : Types) (result : Result Relayed RunFault) (inputs inputs_after : InputsTold)
    (before after : Told) : Type 0 where
  pub all : IfOk result (λ counts. IfSome inputs.left (λ texts.
      (inputs_after.left ≡ Some (drop 1 texts)) × RelaysAll s types (next_text texts) counts (bytes_of before) (bytes_of after)))
  pub types_are : OnOk result (IfSome inputs.left (λ texts. TypesAfter s types (next_text texts) types_after))
  pub flushed : OnOk result (AreFlushed after)
  pub part : OnErr result (IfSome inputs.left (λ texts. RelaysFronts s types (next_text texts) (bytes_of before) (bytes_of after)))
  pub faults : TellsFaults result inputs.failures inputs_after.failures before after

-- a relay of the inputs of these names: what it answers, and what it leaves in their reader and in its three writers
pub record RelaysInputs (s : Settings) (names : List (Bor (List ℕ))) (result : Result Relayed RunFault)
    (inputs inputs_after : InputsTold) (before after : Told) : Type 0 where
  -- each was read, and the items of it were written
  pub all : IfOk result (λ total. IfSome inputs.left (λ texts. (inputs_after.left ≡ Some (drop (length names) texts))
      × ((types : Types) × RelaysEach s (are_several names) (bytes_of before) (inputs_of names texts) total types (bytes_of after))))
  -- all that was written to each writer was flushed
  pub flushed : OnOk result (0 < length names → AreFlushed after)
  -- after a fault, those before one were written whole, and a front of that one
  pub part : OnErr result (IfSome inputs.left (λ texts.
      RelaysUpTo s (are_several names) (inputs_of names texts) (bytes_of before) (bytes_of after)))
  -- which fault is answered
  pub faults : TellsFaults result inputs.failures inputs_after.failures before after
