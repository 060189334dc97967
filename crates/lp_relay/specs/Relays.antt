-- What a relay answers, and what it leaves in its reader and in its three writers.
use Rattle.std.specs.Prelude.{◌≡◌, ◌≢◌, ◌⊎◌, ◌↔◌, ℕ, ◌<◌, ◌≤◌, List, [], length, Option, Some, None, Result, Err, IfOk, IfSome, true, false}
use Rattle.std.specs.Prelude.{OnOk, OnErr}
use Rattle.std.specs.List.{All}
use Rattle.std.specs.Str.{IsUtf8}
use Rattle.std.specs.Io.KnownBytes.{Appends}
use Rattle.influxdb_line_protocol.specs.format.Dialects.{Dialect}
use Rattle.influxdb_line_protocol.specs.format.Pieces.{Pieces}
use Rattle.influxdb_line_protocol.specs.code.Rules.{rules_of}
use Rattle.lp_rebuild.specs.declared.program.RunFault.{RunFault}
use Rattle.lp_rebuild.specs.declared.program.RunFault.TheVariants.{Read, NotUtf8, Write}
use Rattle.lp_conditions.specs.declared.kinds.Relayed.{Relayed}
use Rattle.lp_rebuild.specs.declared.batch.Rebuilt.{Rebuilt}
use Rattle.lp_rebuild.specs.Rebuilding.{RebuildsIn}
use Rattle.lp_rebuild.specs.Running.{AppendsFront, ReaderTold, WriterTold}
use Rattle.lp_faults.specs.Relaying.{first_of, limit_of, items_of, items_batch, carried_items, refused_items, refused_pieces, types_past}
use Rattle.lp_conditions.specs.FieldTypes.{Types}
use Rattle.lp_conditions.specs.KindCounts.{counts_if, counts_of, sum_of}
use Rattle.lp_faults.specs.Kinds.{refused_kinds}
use Rattle.lp_relay.specs.Writers.{Known, Writers, bytes_of}
use Rattle.lp_faults.specs.FaultsTold.{told_faults}
use Rattle.lp_conditions.specs.declared.settings.LineForm.TheVariants as going
use Rattle.lp_conditions.specs.declared.settings.Numbering.TheVariants as named
use Rattle.lp_conditions.specs.declared.settings.Settings.{Settings}
use Rattle.lp_escapes.specs.declared.forms.Faults.TheVariants.{Raw}

-- the first writer gained the batch of the items of these pieces, before which fields have these types, the second one their faults, and
-- the third one the refused pieces, if these go out, and these are their counts
pub record RelaysPieces (s : Settings) (types : Types) (pieces : List (List ℕ)) (counts : Relayed) (before after : Known) : Type 0 where
  pub batch : Appends before.lines after.lines (items_batch (items_of s types pieces))
  pub faults : Appends before.faults after.faults (told_faults s types pieces)
  pub put : Appends before.refused after.refused (refused_pieces s types pieces)
  pub carried : counts.carried ≡ carried_items (items_of s types pieces)
  pub refused : counts.refused ≡ refused_items (items_of s types pieces)
  pub kinds : counts_if counts.kinds ≡ refused_kinds s (items_of s types pieces)
  pub kinds_add_up : IfSome counts.kinds (λ kinds. sum_of (counts_of kinds) ≡ counts.refused)

-- the pieces of these bytes were relayed so
pub record RelaysAll (s : Settings) (types : Types) (bytes : List ℕ) (counts : Relayed) (before after : Known) : Type 0 where
  pub pieces : List (List ℕ)
  pub are : Pieces (rules_of s.dialect) bytes pieces
  pub relays : RelaysPieces s types pieces counts before after

-- fields have these types after these bytes, by those that they have before
pub record TypesAfter (s : Settings) (types : Types) (bytes : List ℕ) (after : Types) : Type 0 where
  pub pieces : List (List ℕ)
  pub are : Pieces (rules_of s.dialect) bytes pieces
  pub types_are : after ≡ types_past s types pieces

-- the first writer gained a front of the batch of the items of these pieces, the second one a front of their faults, and the third one a
-- front of the refused pieces
pub record RelaysPiecesFronts (s : Settings) (types : Types) (pieces : List (List ℕ)) (before after : Known) : Type 0 where
  pub batch : AppendsFront before.lines after.lines (items_batch (items_of s types pieces))
  pub faults : AppendsFront before.faults after.faults (told_faults s types pieces)
  pub put : AppendsFront before.refused after.refused (refused_pieces s types pieces)

-- of the pieces of these bytes each writer gained a front
pub record RelaysFronts (s : Settings) (types : Types) (bytes : List ℕ) (before after : Known) : Type 0 where
  pub pieces : List (List ℕ)
  pub are : Pieces (rules_of s.dialect) bytes pieces
  pub relays : RelaysPiecesFronts s types pieces before after

-- the first writer gained the batch of a rebuild, and these are its counts; if fault lines name items from 1 on, and are told as
-- they are, all of them, the second writer gained its faults
pub record RelaysRebuilt (s : Settings) (r : Rebuilt) (counts : Relayed) (before after : Known) : Type 0 where
  pub batch : Appends before.lines after.lines r.batch.items
  pub faults : s.numbering ≡ named.Items → first_of s.first ≡ 1 → s.faults ≡ Raw → s.max_faults ≡ None → Appends before.faults after.faults r.faults.items
  pub carried : counts.carried ≡ r.carried
  pub refused : counts.refused ≡ r.refused

-- the first writer gained a front of the batch of a rebuild, and if fault lines name items from 1 on, and are told as they are, all of
-- them, the second one a front of its faults
abbrev pub RelaysRebuiltFronts : Settings → Rebuilt → (before after : Known) → Type 0
RelaysRebuiltFronts s r before after = AppendsFront before.lines after.lines r.batch.items
    × (s.numbering ≡ named.Items → first_of s.first ≡ 1 → s.faults ≡ Raw → s.max_faults ≡ None → AppendsFront before.faults after.faults r.faults.items)

-- no piece of a text has more bytes than this
abbrev pub HasShortPieces : Dialect → ℕ → List ℕ → Type 0
HasShortPieces dialect limit text = (pieces : List (List ℕ)) × Pieces dialect text pieces × All (λ piece. length piece ≤ limit) pieces

-- if a text is UTF-8, and no piece of it is too long, this holds of each rebuild of it
abbrev pub IfRebuilt : Dialect → Option ℕ → List ℕ → (Rebuilt → Type 0) → Type 0
IfRebuilt dialect None text P = IsUtf8 text → (r : Rebuilt) → RebuildsIn dialect text r → P r
IfRebuilt dialect (Some limit) text P =
    IsUtf8 text → HasShortPieces dialect limit text → (r : Rebuilt) → RebuildsIn dialect text r → P r

-- a relay by its settings, before which fields have these types: what it answers, and what it leaves in its reader and in its three
-- writers
pub record Relays (s : Settings) (types : Types) (result : Result Relayed RunFault) (reader reader_after : ReaderTold)
    (before after : Writers WriterTold) : Type 0 where
  -- all was read, and the items of it were written
  pub all : IfOk result (λ counts. IfSome reader.bytes (λ bs.
      (reader_after.bytes ≡ Some []) × RelaysAll s types bs counts (bytes_of before) (bytes_of after)))
  -- all that was written to each writer was flushed
  pub flushed : OnOk result
      ((after.lines.is_flushed ≡ true) × (after.faults.is_flushed ≡ true) × (after.refused.is_flushed ≡ true))
  -- after a fault, each writer has a front of what was meant for it
  pub part : OnErr result (IfSome reader.bytes (λ bs. RelaysFronts s types bs (bytes_of before) (bytes_of after)))
  -- if all lines are written again, all that was read is UTF-8, and none of it too long, that is what a rebuild of it gives. Fault lines
  -- that name lines, or items from another number than 1 on, or that are told on one line, are others
  pub rebuilt : s.lines ≡ going.Rebuilt → s.portable ≡ None → s.types ≡ None → s.times ≡ None → s.drops_returns ≡ false → IfOk result (λ counts. IfSome reader.bytes (λ bs.
      IfRebuilt (rules_of s.dialect) (limit_of s.limit) bs (λ r. RelaysRebuilt s r counts (bytes_of before) (bytes_of after))))
  -- after a fault, a front of that
  pub rebuilt_part : s.lines ≡ going.Rebuilt → s.portable ≡ None → s.types ≡ None → s.times ≡ None → s.drops_returns ≡ false → OnErr result (IfSome reader.bytes (λ bs.
      IfRebuilt (rules_of s.dialect) (limit_of s.limit) bs (λ r. RelaysRebuiltFronts s r (bytes_of before) (bytes_of after))))
  -- `Read` is answered exactly if the reader failed
  pub read : (result ≡ Err Read) ↔ (reader.failures < reader_after.failures)
  -- `Write` is answered exactly if a writer failed
  pub write : (result ≡ Err Write) ↔ ((before.lines.failures < after.lines.failures)
      ⊎ ((before.faults.failures < after.faults.failures) ⊎ (before.refused.failures < after.refused.failures)))
  -- `NotUtf8` is never answered
  pub utf8 : result ≢ Err NotUtf8
  -- no count of failures falls, so one that has not risen is as before
  pub counts : (reader.failures ≤ reader_after.failures) × (before.lines.failures ≤ after.lines.failures)
      × (before.faults.failures ≤ after.faults.failures) × (before.refused.failures ≤ after.refused.failures)
