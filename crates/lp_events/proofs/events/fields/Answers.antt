use Rattle.std.proofs.{Common.rules, Common.arith, Common.refl, Common.◌∙◌, lemmas.Result.err_from_is_err_and}
use Rattle.lp_format.specs.format.{comma, field}
use Rattle.lp_format.proofs.lemmas.meanings.ShorterRests.{field_no_longer}
use Rattle.lp_events.specs.code.Events.{valued}
use Rattle.lp_events.proofs.lemmas.events.LineEvents.{told_all, told_fatal, told_last, told_next, told_these}
use Rattle.lp_events.proofs.lemmas.events.PlacedParts.{byte_end, ends_within, same_end, value_within}
use Rattle.lp_events.proofs.events.fields.Goals as goal

pub returns-in_err-key-clause-told : goal.returns-in_err-key-clause-told
returns-in_err-key-clause-told g c =
    let p = err_from_is_err_and c.from_residual.result c.from_residual.ensures.1 in
    rw (p.1, p.2) (told_these (told_fatal g.S.PlacedSink.takes valued field field_no_longer (λ parts. Unit {0}) _ _ _ _ _ _ _ c.loop-key.invariant.told c.in_err-key.ensures.value))

pub field-requires : goal.field-requires
field-requires g c κs =
    let placed = rw c.in-Some.is at c.in_ok-key.ensures.places in
    let place = c.loop-key.place.now in
    let end = same_end _ _ place c.loop-key.invariant.line c.loop-key.invariant.ends in
    ((refl, tt), (ends_within _ place _ _ end placed.key, value_within _ place _ _ end placed.value))

pub loop-key-preserved : goal.loop-key-preserved
loop-key-preserved g c = record {
  utf8_rest = search rules;
  utf8_place = search rules;
  line = c.field.ensures.line ∙ c.loop-key.invariant.line;
  ends =
      let placed = rw c.in-Some.is at c.in_ok-key.ensures.places in
      byte_end comma _ c.loop-key.place.now c.in-Some.after.now _ c.loop-key.invariant.ends placed.ends c.in-Some-strip_byte.ensures.value;
  told = grind (arith, told_next g.S.PlacedSink.takes valued field field_no_longer (λ parts. Unit {0}) (λ parts. Unit {0}) c.args.sink.now c.loop-key.sink);
  room = grind arith;
}

pub returns-in-None-clause-told : goal.returns-in-None-clause-told
returns-in-None-clause-told g c =
    let is = rw c.in-Some.is at c.in_ok-key.ensures.value in
    told_these (told_last g.S.PlacedSink.takes valued field field_no_longer (λ parts. Unit {0}) (λ parts. Unit {0}) _ _ _ _
    (λ parts u. tt) c.field.ensures.takes _ _ _ _ c.loop-key.invariant.told _ refl c.in-Some.after is c.in-None.ensures.value)

pub returns-clause-told : goal.returns-clause-told
returns-clause-told g c = told_these {Also = λ parts. Unit {0}} (grind (arith, told_all g.S.PlacedSink.takes valued field field_no_longer (λ parts. Unit {0}) c.args.sink.now c.loop-key.sink))
