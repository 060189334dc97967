-- What callers in C get of a text that is rebuilt.
use Rattle.std.specs.Prelude.{◌≡◌, ◌⊎◌, ℕ, ◌<◌, ◌≤◌, List, ◌++◌, length, drop}
use Rattle.influxdb_line_protocol.specs.format.Dialects.{Dialect}
use Rattle.lp_rebuild.specs.declared.batch.Rebuilt.{Rebuilt}
use Rattle.lp_rebuild.specs.Rebuilding.{RebuildsIn}
use Rattle.lp_offsets.specs.declared.enums.Answer.TheVariants.{MoreRoom, Written}
use Rattle.lp_c.specs.declared.rebuilding.Counts.{Counts}
use Rattle.lp_offsets.specs.Numbers.{answer_number}

-- both texts of what was rebuilt have room in these buffers
pub record HaveRoom (r : Rebuilt) (batch faults : List ℕ) : Type 0 where
  pub of_batch : length r.batch.items ≤ length batch
  pub of_faults : length r.faults.items ≤ length faults

-- one of them has none
abbrev pub LackRoom : Rebuilt → List ℕ → List ℕ → Type 0
LackRoom r batch faults = (length batch < length r.batch.items) ⊎ (length faults < length r.faults.items)

-- what was rebuilt is counted
pub record Counted (r : Rebuilt) (counts : Counts) : Type 0 where
  pub batch : counts.batch_len ≡ length r.batch.items
  pub faults : counts.faults_len ≡ length r.faults.items
  pub carried : counts.carried ≡ r.carried
  pub refused : counts.refused ≡ r.refused

-- what was rebuilt is put out at the starts of two buffers, and what is after it there is as before; where one of the two
-- is too short, both are as before
pub record PutsBoth (r : Rebuilt) (batch batch_after faults faults_after : List ℕ) (answer : ℕ) : Type 0 where
  pub batch_bytes : HaveRoom r batch faults → batch_after ≡ r.batch.items ++ drop (length r.batch.items) batch
  pub faults_bytes : HaveRoom r batch faults → faults_after ≡ r.faults.items ++ drop (length r.faults.items) faults
  pub answered : HaveRoom r batch faults → answer ≡ answer_number Written
  pub batch_kept : LackRoom r batch faults → batch_after ≡ batch
  pub faults_kept : LackRoom r batch faults → faults_after ≡ faults
  pub short : LackRoom r batch faults → answer ≡ answer_number MoreRoom

-- a text is rebuilt into two buffers
pub record RebuildsInto (dialect : Dialect) (text batch batch_after faults faults_after : List ℕ) (counts : Counts)
    (answer : ℕ) : Type 0 where
  pub rebuilt : Rebuilt
  pub is : RebuildsIn dialect text rebuilt
  pub counted : Counted rebuilt counts
  pub puts : PutsBoth rebuilt batch batch_after faults faults_after answer
