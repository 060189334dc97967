-- Many items in one call, by offsets, with their verdicts.
use Rattle.std.specs.Prelude.{◌≡◌, ◌≤◌, ◌<◌, ℕ, Bool, List, take, drop}
use Rattle.std.specs.List.{AllZip}
use Rattle.influxdb_line_protocol.specs.format.Dialects.{Dialect}
use Rattle.lp_offsets.specs.OffsetBlocks.{ReadsOffsets}
use Rattle.lp_c.specs.Verdicts.{MayTakeMemory, TellsVerdict}
use Rattle.lp_offsets.specs.declared.offsets.Block.{Block}
use Rattle.lp_offsets.specs.declared.offsets.OffsetRow.{OffsetRow}
use Rattle.lp_offsets.specs.declared.placed.OffsetPart.{OffsetPart}
use Rattle.lp_c.specs.declared.verdicts.Limits.{Limits}

-- a block was read into rows, and the first of the filled ones were told their verdicts after that: all, or those before one that may take
-- memory
pub record ReadsVerdicts (dialect : Dialect) (last : Bool) (text : List ℕ) (before : Block) (rows : List OffsetRow)
    (parts : List OffsetPart) (room : List ℕ) (after : Block) (limits : Limits) (told answer : ℕ) : Type 0 where
  pub filled : List OffsetRow
  pub reads : ReadsOffsets dialect last text before filled parts room after answer
  pub verdicts : AllZip (TellsVerdict limits text) (take told filled) (take told rows)
  pub others : drop told rows ≡ drop told filled
  pub within : told ≤ after.rows
  pub memory : told < after.rows → MayTakeMemory text (drop told filled)
