use Rattle.std.proofs.Common.{◌≡◌, ◌∙◌, ap, sym, arith, length, take, ◌-◌, false, is_lt, nat_cmp}
use Rattle.std.specs.{Cmp.Lexicographic.slice_cmp}
use Rattle.std.proofs.lemmas.{Bool.cases_Bool, Bool.false≢true}
use Rattle.lp_format.specs.format.{a_tag_key, equals, spelling}
use Rattle.lp_format.proofs.lemmas.{values.ValueForms.byte_missing}
use Rattle.lp_written.proofs.lemmas.parts.WrittenKeys.{front_is, key_of_tag, no_key, no_value, tag_is}
use Rattle.lp_written.proofs.lemmas.parts.WrittenNames.{byte_left}
use Rattle.lp_written.proofs.keys.next_tag.Goals as goal

pub returns-in_default-clause-value : goal.returns-in_default-clause-value
returns-in_default-clause-value c before spelled t rest is whole ends not_less = no_key c.args.text.now c.in_default.ensures t rest is whole

pub returns-then-not-is_in_order-clause-value : goal.returns-then-not-is_in_order-clause-value
returns-then-not-is_in_order-clause-value c before spelled t rest is whole ends not_less =
    let k = c.in-Some.ensures in
    let same = key_of_tag c.args.text.now c.in-Some.key_end.now k.0 k.1 t rest is whole in
    let front : take (length c.args.text.now - length c.in-Some.key_end.now) c.as_bytes.result.now ≡ spelling a_tag_key k.0.thing =
    ap (take (length c.args.text.now - length c.in-Some.key_end.now)) c.as_bytes.ensures.value
    ∙ front_is (spelling a_tag_key k.0.thing) c.in-Some.key_end.now c.args.text.now k.0.written in
    let order = c.is_in_order.ensures before k.0.thing spelled front in
    let key = same.0 in
    grind (arith, cases_Bool, false≢true)

pub returns-in_default-strip_byte-clause-value : goal.returns-in_default-strip_byte-clause-value
returns-in_default-strip_byte-clause-value c before spelled t rest is whole ends not_less =
    let k = c.in-Some.ensures in
    let same = key_of_tag c.args.text.now c.in-Some.key_end.now k.0 k.1 t rest is whole in
    byte_missing equals c.in-Some.key_end.now c.in_default-strip_byte.ensures.value _ same.1

pub returns-in_default-after_written_name-clause-value :
    goal.returns-in_default-after_written_name-clause-value
returns-in_default-after_written_name-clause-value c before spelled t rest is whole ends not_less =
    let k = c.in-Some.ensures in
    let same = key_of_tag c.args.text.now c.in-Some.key_end.now k.0 k.1 t rest is whole in
    let sign = byte_left equals c.in-Some.key_end.now c.in-Some-strip_byte.value.now c.in-Some-strip_byte.ensures.value in
    no_value c.in-Some-strip_byte.value.now c.in-Some.key_end.now rest t sign is same.1 ends c.in_default-after_written_name.ensures

pub returns-clause-value : goal.returns-clause-value
returns-clause-value c before spelled =
    let k = c.in-Some.ensures in
    let sign = byte_left equals c.in-Some.key_end.now c.in-Some-strip_byte.value.now c.in-Some-strip_byte.ensures.value in
    let v = c.in-Some-after_written_name.ensures in
    let (t, is, whole, key, only) = tag_is c.args.text.now c.in-Some.key_end.now c.in-Some-strip_byte.value.now
    c.in-Some-after_written_name.rest.now k.0 k.1 sign v.0 v.1 in
    let front : take (length c.args.text.now - length c.in-Some.key_end.now) c.as_bytes.result.now ≡ spelling a_tag_key k.0.thing =
    ap (take (length c.args.text.now - length c.in-Some.key_end.now)) c.as_bytes.ensures.value
    ∙ front_is (spelling a_tag_key k.0.thing) c.in-Some.key_end.now c.args.text.now k.0.written in
    let order = c.is_in_order.ensures before k.0.thing spelled front in
    let not_less : is_lt (slice_cmp nat_cmp t.key before) ≡ false = grind (arith, cases_Bool, false≢true) in
    (t, is, whole, front ∙ ap (spelling a_tag_key) (sym key), not_less, only)
