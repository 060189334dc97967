use Rattle.std.proofs.Common.{◌≡◌, ◌+◌, drop}
use Rattle.lp_conditions.specs.FieldTypes.{after_fields}
use Rattle.lp_conditions.specs.TypeSteps.{fields_of, of_table, with_fresh}
use Rattle.lp_conditions.proofs.field_types.check.Given as goal

abbrev pub invariant-loop-key : goal.invariant-loop-key
invariant-loop-key l = record {
  number : l.number ≡ l.key-index;
  so_far : after_fields l.fn.most (of_table l.fn.known l.fn.count) 1 (fields_of l.fn.fields)
      ≡ after_fields l.fn.most (with_fresh l.fn.known l.fn.count l.fresh) (l.key-index + 1) (fields_of (drop l.key-index l.fn.fields));
}
