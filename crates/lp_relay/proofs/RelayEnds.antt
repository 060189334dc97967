-- How a relay ends.
use Rattle.std.proofs.Common.{◌≡◌, ℕ, ◌<◌, ◌⊎◌, ◌≤◌, [], Some, IfSome, Result, Ok, Err, IsErr, IsErrAnd}
use Rattle.std.proofs.Common.{arith, ◌∙◌}
use Rattle.std.proofs.lemmas.Option.{IfSome_then}
use Rattle.lp_rebuild.specs.declared.program.RunFault.{RunFault}
use Rattle.lp_conditions.specs.declared.settings.Settings.{Settings}
use Rattle.lp_conditions.specs.declared.kinds.Relayed.{Relayed}
use Rattle.lp_rebuild.specs.Running.{CountsReadFault, ReaderTold}
use Rattle.lp_relay.specs.Writers.{AreFlushed, CountsNone, CountsOne, CountsWriteFault, Told, Writers, bytes_of, failures_of}
use Rattle.lp_conditions.specs.FieldTypes.{Types}
use Rattle.lp_relay.specs.Inputs.{TellsFaults}
use Rattle.lp_relay.specs.Relays.{Relays, RelaysAll, RelaysFronts}
use Rattle.influxdb_line_protocol.specs.laws.Laws.{PiecesAreUnique}
use Rattle.influxdb_line_protocol.specs.laws.StreamLaws.{Utf8ByPieces}
use Rattle.lp_relay.proofs.RelaysOfText.{all_rebuilt, fronts_rebuilt}

-- counts that are the same have not risen
none_rose : (old new : Writers ℕ) → CountsNone old new
    → (old.lines < new.lines) ⊎ ((old.faults < new.faults) ⊎ (old.refused < new.refused)) → ⊥
none_rose old new n h = grind (arith)

-- one of these counts has risen
one_rose : (old new : Writers ℕ) → CountsOne old new → (old.lines < new.lines) ⊎ ((old.faults < new.faults) ⊎ (old.refused < new.refused))
one_rose old new h = grind (arith)

-- and none has fallen
none_fell : (old new : Writers ℕ) → CountsOne old new → (old.lines ≤ new.lines) × (old.faults ≤ new.faults) × (old.refused ≤ new.refused)
none_fell old new h = grind (arith)

-- counts that have not changed, and then one failure more
one_more : (old mid new : Writers ℕ) → CountsNone old mid → CountsOne mid new → CountsOne old new
one_more old mid new n h = grind (arith)

-- counts that have not changed twice
pub none_twice : (old mid new : Writers ℕ) → CountsNone old mid → CountsNone mid new → CountsNone old new
none_twice old mid new n h = record { lines = h.lines ∙ n.lines; faults = h.faults ∙ n.faults; refused = h.refused ∙ n.refused }

-- which fault is told, if the reader failed or memory was refused
pub read_fault : (result : Result Relayed RunFault) (fault : RunFault) (start count count_after : ℕ) (before after : Told)
    → IsErrAnd result (λ e. e ≡ fault) → CountsReadFault {T = ℕ} (Err fault) count count_after → count ≡ start
    → CountsNone (failures_of before) (failures_of after) → TellsFaults result start count_after before after
read_fault e fault start count count_after before after is c same n =
    record { read = grind (arith); write = grind (arith, none_rose); utf8 = grind (arith); counts = grind (arith) }

-- which one is told, if a writer failed or memory was refused
pub write_fault : (result : Result Relayed RunFault) (fault : RunFault) (start count : ℕ) (before mid after : Told)
    → IsErrAnd result (λ e. e ≡ fault) → CountsWriteFault {T = Unit {0}} (Err fault) mid after
    → CountsNone (failures_of before) (failures_of mid) → count ≡ start → TellsFaults result start count before after
write_fault e fault start count before mid after is c n same =
    record {
      read = grind (arith);
      write = grind (arith, one_rose, none_rose, one_more, none_twice);
      utf8 = grind (arith);
      counts = grind (arith, none_fell, one_more, none_twice);
    }

-- after a fault each writer has a front
pub failed : Utf8ByPieces → PiecesAreUnique → (s : Settings) (types : Types) (result : Result Relayed RunFault)
    (reader reader_after : ReaderTold) (before after : Told) → IsErr result
    → IfSome reader.bytes (λ bs. RelaysFronts s types bs (bytes_of before) (bytes_of after))
    → TellsFaults result reader.failures reader_after.failures before after → Relays s types result reader reader_after before after
failed law unique s types (Ok counts) reader reader_after before after is fronts told = absurd (cc)
failed law unique s types (Err fault) reader reader_after before after is fronts told =
    record {
      all = tt;
      flushed = tt;
      part = fronts;
      rebuilt = λ again each any untimed kept. tt;
      rebuilt_part = λ again each any untimed kept.
          IfSome_then reader.bytes fronts (λ bs. fronts_rebuilt law unique s types bs (bytes_of before) (bytes_of after) again each any untimed kept);
      read = told.read;
      write = told.write;
      utf8 = told.utf8;
      counts = told.counts;
    }

-- all was written
pub ended : Utf8ByPieces → PiecesAreUnique → (s : Settings) (types : Types)
    (counts : Relayed) (reader reader_after : ReaderTold) (before after : Told)
    → IfSome reader.bytes (λ bs. (reader_after.bytes ≡ Some []) × RelaysAll s types bs counts (bytes_of before) (bytes_of after))
    → AreFlushed after
    → reader_after.failures ≡ reader.failures → CountsNone (failures_of before) (failures_of after)
    → Relays s types (Ok counts) reader reader_after before after
ended law unique s types counts reader reader_after before after all flushed r n =
    record {
      all = all;
      flushed = flushed;
      part = tt;
      rebuilt = λ again each any untimed kept.
          IfSome_then reader.bytes all
          (λ bs whole. all_rebuilt law unique s types bs counts (bytes_of before) (bytes_of after) again each any untimed kept whole.1);
      rebuilt_part = λ again each any untimed kept. tt;
      read = grind (arith);
      write = grind (arith, none_rose);
      utf8 = grind (arith);
      counts = grind (arith);
    }
