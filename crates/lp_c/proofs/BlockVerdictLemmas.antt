-- Blocks of rows of which the filled ones tell their verdicts.
use Rattle.std.proofs.Common.{◌≡◌, ◌∙◌, ℕ, ◌<◌, ◌≤◌, Bool, List, [], ◌∷◌, ◌++◌, length, take, drop, Bor, Option, Some, None, IfSome}
use Rattle.std.proofs.Common.{sym, ap, subst, arith}
use Rattle.std.specs.List.{AllByRecursion, AllZip}
use Rattle.std.proofs.lemmas.List.{drop-append-le, length-take-le, take-append-drop, take-append-le, take-take}
use Rattle.influxdb_line_protocol.specs.format.Dialects.{Dialect}
use Rattle.lp_format.specs.format.{Strict}
use Rattle.lp_c.specs.BlockVerdicts.{ReadsVerdicts}
use Rattle.lp_offsets.specs.OffsetBlocks.{OffsetRows, ReadsOffsets, begins_at, filled_in}
use Rattle.lp_c.specs.SureRows.{IsShownRow}
use Rattle.lp_c.specs.Verdicts.{MayTakeMemory, TellsVerdict}
use Rattle.lp_offsets.specs.declared.offsets.Block.{Block}
use Rattle.lp_offsets.specs.declared.offsets.OffsetRow.{OffsetRow}
use Rattle.lp_offsets.specs.declared.placed.OffsetPart.{OffsetPart}
use Rattle.lp_c.specs.declared.verdicts.Limits.{Limits}
use Rattle.lp_c.proofs.SureRowLemmas.{rows_shown}

-- what may take memory at the first of rows may do so if more rows follow
may_more : (text : List ℕ) (rows others : List OffsetRow) → MayTakeMemory text rows → MayTakeMemory text (rows ++ others)
may_more text [] others may = absurd may
may_more text (row ∷ rows) others may = may

module _ (dialect : Dialect) (last : Bool) (text : List ℕ) (before : Block) (rows : List OffsetRow) (parts : List OffsetPart) (room : List ℕ)
    (after : Block) (answer : ℕ) (reads : ReadsOffsets dialect last text before rows parts room after answer) where
  -- each row that the strict rules filled shows its line, if it has one
  pub block_shown : dialect ≡ Strict → AllByRecursion (IsShownRow text parts) (take after.rows rows)
  block_shown strict =
      let filled = take after.rows rows in
      let own = take after.parts parts in
      let is = subst (λ (d : Dialect). OffsetRows d last text (begins_at text before) room after.room filled own (filled_in after).spot)
      strict reads.reads.reads in
      subst (λ (ps : List OffsetPart). AllByRecursion (IsShownRow text ps) filled) (take-append-drop after.parts parts)
      (rows_shown last text (begins_at text before) room after.room reads.fits.2 filled own (drop after.parts parts) (filled_in after).spot is)

  -- so it is, if there are parts
  pub block_if_shown : (own : Option (Bor (List OffsetPart))) → IfSome own (λ ps. (dialect ≡ Strict) × (ps.now ≡ parts))
      → IfSome own (λ ps. AllByRecursion (IsShownRow text ps.now) (take after.rows rows))
  block_if_shown None is = tt
  block_if_shown (Some ps) (strict, same) =
      subst (λ (l : List OffsetPart). AllByRecursion (IsShownRow text l) (take after.rows rows)) (sym same) (block_shown strict)

  -- filled rows that tell their verdicts are those of a block that does
  pub block_told : (limits : Limits) (told : ℕ) (new : List OffsetRow)
      → AllZip (TellsVerdict limits text) (take told (take after.rows rows)) (take told new)
      → drop told new ≡ drop told (take after.rows rows) → length new ≡ length (take after.rows rows) → told ≤ length new
      → (told < length new → MayTakeMemory text (drop told (take after.rows rows)))
      → ReadsVerdicts dialect last text before (new ++ drop after.rows rows) parts room after limits told answer
  block_told limits told new verdicts others size within memory =
      let many : length (take after.rows rows) ≡ after.rows = length-take-le after.rows rows reads.fits.0 in
      let few : told ≤ after.rows = omega (arith, within, size, many) in
      let front : take told (new ++ drop after.rows rows) ≡ take told new = take-append-le told new (drop after.rows rows) within in
      let first : take told rows ≡ take told (take after.rows rows) = sym (take-take told after.rows rows few) in
      let rest : drop told (take after.rows rows) ++ drop after.rows rows ≡ drop told rows =
      sym (drop-append-le told (take after.rows rows) (drop after.rows rows) (omega (arith, few, many)))
      ∙ ap (drop told) (take-append-drop after.rows rows) in
      record {
        filled = rows;
        reads = reads;
        verdicts = rw (front, first) verdicts;
        others = drop-append-le told new (drop after.rows rows) within
            ∙ (ap (λ (l : List OffsetRow). l ++ drop after.rows rows) others ∙ rest);
        within = few;
        memory = λ less. subst (MayTakeMemory text) rest
            (may_more text (drop told (take after.rows rows)) (drop after.rows rows) (memory (omega (arith, less, size, many))));
      }
