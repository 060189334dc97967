use Rattle.std.proofs.{Common.rules, Common.arith, Common.refl, Common.◌∙◌, lemmas.Result.err_from_is_err_and}
use Rattle.lp_format.specs.format.{comma, tag}
use Rattle.lp_format.proofs.lemmas.meanings.ShorterRests.{tag_no_longer}
use Rattle.lp_events.specs.code.{Events.spelled_tag, Events.tagged, OwnBases.KeepsOn}
use Rattle.lp_events.proofs.lemmas.bases.KeptKeys.{key_some}
use Rattle.lp_events.proofs.lemmas.events.LineEvents.{told_all, told_fatal, told_last, told_next, told_none}
use Rattle.lp_events.proofs.lemmas.events.PlacedParts.{byte_end, ends_within, same_end}
use Rattle.lp_events.proofs.events.tags.Goals as goal

pub returns-in_err-key-clause-told : goal.returns-in_err-key-clause-told
returns-in_err-key-clause-told g c =
    let p = err_from_is_err_and c.from_residual.result c.from_residual.ensures.1 in
    rw (p.1, p.2) (told_fatal g.S.PlacedSink.takes tagged tag tag_no_longer _ _ _ _ _ _ _ _ c.loop-key.invariant.told c.in_err-key.ensures.value)

pub tag-requires : goal.tag-requires
tag-requires g c κs =
    let placed = rw c.in-Some.is at c.in_ok-key.ensures.places in
    let place = c.loop-key.place.now in
    let end = same_end _ _ place c.loop-key.invariant.line c.loop-key.invariant.ends in
    ((refl, tt), (ends_within _ place _ _ end placed.key, ends_within _ place _ _ end placed.value))

pub loop-key-preserved : goal.loop-key-preserved
loop-key-preserved g c = record {
  utf8_rest = search rules;
  utf8_place = search rules;
  line = c.tag.ensures.line ∙ c.loop-key.invariant.line;
  ends =
      let placed = rw c.in-Some.is at c.in_ok-key.ensures.places in
      byte_end comma _ c.loop-key.place.now c.in-Some.after.now _ c.loop-key.invariant.ends placed.ends c.in-Some-strip_byte.ensures.value;
  told =
      told_next g.S.PlacedSink.takes tagged tag tag_no_longer _ (λ parts. KeepsOn c.args.kept.now parts c.after_tag.result) _ _ _ _
      (λ parts kept m first. c.after_tag.ensures m parts (kept m first)) c.tag.ensures.takes _ _ _ _ c.loop-key.invariant.told _ refl
      c.in-Some.after.now _ (rw c.in-Some.is at c.in_ok-key.ensures.value) c.in-Some-strip_byte.ensures.value;
  room = grind arith;
}

pub after_tag-requires : goal.after_tag-requires
after_tag-requires g c =
    key_some c.loop-key.place.now (spelled_tag (c.in-Some.key, c.in-Some.value)) c.in-Some.after.now
    (rw c.in-Some.is at c.in_ok-key.ensures.value)

pub returns-in-None-clause-told : goal.returns-in-None-clause-told
returns-in-None-clause-told g c =
    told_last g.S.PlacedSink.takes tagged tag tag_no_longer _ (λ parts. KeepsOn c.args.kept.now parts c.after_tag.result) _ _ _ _
    (λ parts kept m first. c.after_tag.ensures m parts (kept m first)) c.tag.ensures.takes _ _ _ _ c.loop-key.invariant.told _ refl
    c.in-Some.after (rw c.in-Some.is at c.in_ok-key.ensures.value) c.in-None.ensures.value

pub returns-then-count-eq0-clause-told : goal.returns-then-count-eq0-clause-told
returns-then-count-eq0-clause-told g c =
    told_none g.S.PlacedSink.takes tagged tag tag_no_longer _ _ _ _ _ _ c.loop-key.invariant.told (grind arith) (grind arith)

pub returns-clause-told : goal.returns-clause-told
returns-clause-told g c =
    told_all g.S.PlacedSink.takes tagged tag tag_no_longer _ _ _ _ _ _ c.loop-key.rest c.loop-key.invariant.told (grind arith) (grind arith)
