use Rattle.std.proofs.Common.{◌≡◌, List, ℕ, None, Some, ap, refl, subst, arith}
use Rattle.std.specs.{BTreeMap.get_by_text, Map.update, Str.bytes_eq}
use Rattle.std.proofs.lemmas.Map.Text.{text_keys}
use Rattle.influxdb_line_protocol.specs.code.Parsed.{parsed_point}
use Rattle.lp_conditions.specs.TypeSteps.{KeepsIn, fields_of}
use Rattle.lp_conditions.proofs.FieldTypeLemmas.{point_kept, point_refused, types_in_none, types_in_table, types_same}
use Rattle.lp_conditions.proofs.field_types.KnownTypes.keep.Goals as goal

pub returns-in-Err : goal.returns-in-Err
returns-in-Err c =
    let old = c.args.self.now in
    let name = c.as_str-name.result.now in
    let fs = fields_of c.as_slice-fields.result.now in
    let t = c.in-Some.known.now in
    let left = c.get_mut.follows.lender c.keep_in.new.known in
    let had : get_by_text old.fields name ≡ Some t = grind (arith, text_keys) in
    let kept = subst (λ r. KeepsIn c.args.most t old.count fs r c.keep_in.new.known) c.in-Err.is c.in_ok-fault.ensures in
    let held = c.get_mut.follows.holds c.keep_in.new.known in
    let put : (q : List ℕ) → get_by_text left q ≡ update bytes_eq (get_by_text old.fields) name (Some c.keep_in.new.known) q =
    λ q. grind (arith, text_keys) in (
      point_refused c.args.most old (parsed_point c.args.line.now) name fs t c.in-Err.fault c.as_str-name.ensures.value
          (ap fields_of c.as_slice-fields.ensures) (types_in_table old name t had) kept.0,
      types_same old (record { fields = left; count = old.count }) name t had
          (λ q. subst (λ table. get_by_text left q ≡ update bytes_eq (get_by_text old.fields) name (Some table) q) kept.1 (put q)) refl,
    )

pub returns-in-Ok : goal.returns-in-Ok
returns-in-Ok c =
    let old = c.args.self.now in
    let name = c.as_str-name.result.now in
    let fs = fields_of c.as_slice-fields.result.now in
    let t = c.in-Some.known.now in
    let left = c.get_mut.follows.lender c.keep_in.new.known in
    let had : get_by_text old.fields name ≡ Some t = grind (arith, text_keys) in
    let kept = subst (λ r. KeepsIn c.args.most t old.count fs r c.keep_in.new.known) c.in-Ok.is c.in_ok-fault.ensures in
    let held = c.get_mut.follows.holds c.keep_in.new.known in
    let put : (q : List ℕ) → get_by_text left q ≡ update bytes_eq (get_by_text old.fields) name (Some c.keep_in.new.known) q =
    λ q. grind (arith, text_keys) in
    point_kept c.args.most old (record { fields = left; count = c.in-Ok.count }) (parsed_point c.args.line.now) name fs t c.keep_in.new.known
    c.in-Ok.count c.as_str-name.ensures.value (ap fields_of c.as_slice-fields.ensures) (types_in_table old name t had) kept put refl

pub returns-in_ok-insert-in-Ok-2 : goal.returns-in_ok-insert-in-Ok-2
returns-in_ok-insert-in-Ok-2 c =
    let old = c.args.self.now in
    let name = c.as_str-name.result.now in
    let fs = fields_of c.as_slice-fields.result.now in
    let t = c.new-known.result in
    let had : get_by_text old.fields name ≡ None = grind (arith, text_keys) in
    let kept = subst (λ r. KeepsIn c.args.most t old.count fs r c.keep_in-2.new.known) c.in-Ok-2.is c.in_ok-fault-2.ensures in
    let put : (q : List ℕ) → get_by_text c.insert.new.self q ≡ update bytes_eq (get_by_text old.fields) name (Some c.keep_in-2.new.known) q =
    λ q. grind (arith, text_keys) in
    point_kept c.args.most old (record { fields = c.insert.new.self; count = c.in-Ok-2.count }) (parsed_point c.args.line.now) name fs t
    c.keep_in-2.new.known c.in-Ok-2.count c.as_str-name.ensures.value (ap fields_of c.as_slice-fields.ensures)
    (types_in_none old name t had c.new-known.ensures.empty) kept put refl
