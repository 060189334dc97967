use Rattle.std.proofs.{Common.[], Common.refl, Common.sym, Common.ap, Common.◌∙◌, Common.Ok, Common.Err, Common.arith, lemmas.Grind.common_steps, lemmas.Result.err_from_is_err_and}
use Rattle.lp_format.specs.format.{a_measurement, answer, spaces}
use Rattle.lp_values.proofs.lemmas.fields.ReadingLemmas.{name_ends}
use Rattle.lp_split.specs.code.{rules_of}
use Rattle.lp_values.specs.declared.error.ErrorKind.TheVariants.{TakeWhile1}
use Rattle.lp_values.specs.declared.spelled.SpelledFault.TheVariants.{CannotParseEntireLine, FieldSetMissing, GenericParsingError}
use Rattle.lp_events.specs.code.OwnBases.{is_own_base}
use Rattle.lp_events.proofs.lemmas.bases.ReadNames.{names_tell_base}
use Rattle.lp_events.proofs.lemmas.events.LineEvents.{complete_none, complete_some, fields_fault, line_told, tags_fault, told_these}
use Rattle.lp_events.proofs.lemmas.fields.ManyLemmas.{series_ends}
use Rattle.lp_events.proofs.lemmas.fields.FaultStops.{names_stop, trailing_stop}
use Rattle.lp_events.proofs.lemmas.events.PlacedParts.{drop_end, ends_within, name_before, same_end}
use Rattle.lp_events.proofs.events.parts.Goals as goal

pub measurement-requires : goal.measurement-requires
measurement-requires g c κs =
    let name = rw c.in-Some.is at c.in_ok-measurement.ensures.value in
    let line = c.args.line.now in
    ((refl, tt), ends_within _ line _ _ ([], c.requires) (name_before a_measurement line _ c.in-Some.rest.now name))

pub tag_set-requires : goal.tag_set-requires
tag_set-requires g c κs =
    let name = rw c.in-Some.is at c.in_ok-measurement.ensures.value in
    let end = name_ends a_measurement c.args.line.now _ c.in-Some.rest.now name in
    ((refl, tt), same_end _ _ c.in-Some.rest.now (c.measurement.ensures.line ∙ c.requires) (end.front, end.is))

pub field_set-requires : goal.field_set-requires
field_set-requires g c κs =
    let name = rw c.in-Some.is at c.in_ok-measurement.ensures.value in
    let rest = c.in_ok-rest.rest.now in
    let end = series_ends c.args.line.now _ _ _ name c.in_ok-rest.ensures.told.are.0.1 in
    let dropped = drop_end (spaces rest) c.args.line.now rest _ (end.front, end.is) c.trim_start_spaces.ensures in
    ((refl, tt), same_end _ _ _ (c.tag_set.ensures.line ∙ (c.measurement.ensures.line ∙ c.requires)) dropped)

pub returns-in_err-rest-clause-told : goal.returns-in_err-rest-clause-told
unfolding answer
returns-in_err-rest-clause-told g c =
    let p = err_from_is_err_and c.from_residual-in_err-rest.result c.from_residual-in_err-rest.ensures.1 in
    let name = rw c.in-Some.is at c.in_ok-measurement.ensures.value in
    let are = c.in_err-rest.ensures.told.are.0 in
    rw (p.1, p.2) (tags_fault g.S.PlacedSink.takes c.args.line.now name c.measurement.ensures.takes c.in_err-rest.ensures.told _ (grind arith) are.2 are.3)

pub returns-in_default-strip_byte-clause-told : goal.returns-in_default-strip_byte-clause-told
unfolding answer
returns-in_default-strip_byte-clause-told g c =
    let name = rw c.in-Some.is at c.in_ok-measurement.ensures.value in
    tags_fault g.S.PlacedSink.takes c.args.line.now name c.measurement.ensures.takes c.in_ok-rest.ensures.told (GenericParsingError TakeWhile1) (grind arith)
    c.in_ok-rest.ensures.told.are.0.3 (grind arith)

pub front_before-series-requires-clause-ends : goal.front_before-series-requires-clause-ends
front_before-series-requires-clause-ends g c =
    let name = rw c.in-Some.is at c.in_ok-measurement.ensures.value in
    let ends = series_ends c.args.line.now _ _ _ name c.in_ok-rest.ensures.told.are.0.1 in
    (ends.front, ends.is)

pub returns-in_err-rest-2-clause-told : goal.returns-in_err-rest-2-clause-told
unfolding answer
returns-in_err-rest-2-clause-told g c =
    let p = err_from_is_err_and c.from_residual-in_err-rest-2.result c.from_residual-in_err-rest-2.ensures.1 in
    let name = rw c.in-Some.is at c.in_ok-measurement.ensures.value in
    let fault = c.in_err-rest-2.ensures.told.are.given in
    rw (p.1, p.2) (fields_fault g.S.PlacedSink.takes c.args.line.now name c.measurement.ensures.takes c.in_ok-rest.rest (told_these c.in_ok-rest.ensures.told)
    c.in-Some-strip_byte.ensures.value c.trim_start_spaces.ensures (rules_of c.args.dialect) (Err c.in_err-rest-2.field-0.0)
    c.in_err-rest-2.ensures.told _ (grind arith))

pub returns-in_default-2-clause-told : goal.returns-in_default-2-clause-told
unfolding answer
returns-in_default-2-clause-told g c =
    let name = rw c.in-Some.is at c.in_ok-measurement.ensures.value in
    fields_fault g.S.PlacedSink.takes c.args.line.now name c.measurement.ensures.takes c.in_ok-rest.rest (told_these c.in_ok-rest.ensures.told) c.in-Some-strip_byte.ensures.value
    c.trim_start_spaces.ensures (rules_of c.args.dialect) (Ok c.in_ok-rest-2.field-0) c.in_ok-rest-2.ensures.told FieldSetMissing (grind arith)

pub returns-in_err-timestamp-clause-told : goal.returns-in_err-timestamp-clause-told
unfolding answer
returns-in_err-timestamp-clause-told g c =
    let p = err_from_is_err_and c.from_residual-in_err-timestamp.result c.from_residual-in_err-timestamp.ensures.1 in
    let name = rw c.in-Some.is at c.in_ok-measurement.ensures.value in
    rw (p.1, p.2) (fields_fault g.S.PlacedSink.takes c.args.line.now name c.measurement.ensures.takes c.in_ok-rest.rest (told_these c.in_ok-rest.ensures.told)
    c.in-Some-strip_byte.ensures.value c.trim_start_spaces.ensures (rules_of c.args.dialect) (Ok c.in_ok-rest-2.field-0)
    c.in_ok-rest-2.ensures.told _ (grind arith))

pub returns-then-not-is_empty-clause-told : goal.returns-then-not-is_empty-clause-told
unfolding answer
returns-then-not-is_empty-clause-told g c =
    let name = rw c.in-Some.is at c.in_ok-measurement.ensures.value in
    fields_fault g.S.PlacedSink.takes c.args.line.now name c.measurement.ensures.takes c.in_ok-rest.rest (told_these c.in_ok-rest.ensures.told) c.in-Some-strip_byte.ensures.value
    c.trim_start_spaces.ensures (rules_of c.args.dialect) (Ok c.in_ok-rest-2.field-0) c.in_ok-rest-2.ensures.told
    (CannotParseEntireLine c.in_ok-timestamp.rest) (grind (arith, common_steps, complete_some))

pub end-requires : goal.end-requires
end-requires g c κs =
    let name = rw c.in-Some.is at c.in_ok-measurement.ensures.value in
    let tags = c.in_ok-rest.ensures.told in
    let base = (tags.are.1 _ c.before_tags-kept.ensures).is_base ∙ ap (is_own_base _) (sym tags.are.0.2) in
    let same = c.field_set.ensures.line ∙ (c.tag_set.ensures.line ∙ (c.measurement.ensures.line ∙ c.requires)) in
    ((refl, tt), rw same (names_tell_base c.args.line.now name tags.are.0.1 _ base))

pub returns-clause-told : goal.returns-clause-told
unfolding answer
returns-clause-told g c =
    let name = rw c.in-Some.is at c.in_ok-measurement.ensures.value in
    line_told g.S.PlacedSink.takes c.args.line.now name c.measurement.ensures.takes c.in_ok-rest.rest (told_these c.in_ok-rest.ensures.told) c.in-Some-strip_byte.ensures.value
    c.trim_start_spaces.ensures (rules_of c.args.dialect) (Ok c.in_ok-rest-2.field-0) c.in_ok-rest-2.ensures.told _ _ _ c.end.ensures
    (grind (arith, common_steps, complete_none))

pub returns-in_default-strip_byte-clause-stop : goal.returns-in_default-strip_byte-clause-stop
returns-in_default-strip_byte-clause-stop g c =
    let name = rw c.in-Some.is at c.in_ok-measurement.ensures.value in
    let are = c.in_ok-rest.ensures.told.are.0 in
    names_stop (rules_of c.args.dialect) c.args.line.now name are.3 are.1 (grind arith)

pub returns-then-not-is_empty-clause-stop : goal.returns-then-not-is_empty-clause-stop
returns-then-not-is_empty-clause-stop g c =
    let name = rw c.in-Some.is at c.in_ok-measurement.ensures.value in
    let fields = c.in_ok-rest-2.ensures.told in
    trailing_stop (rules_of c.args.dialect) c.args.line.now name c.in_ok-rest.ensures.told.are.0.3 c.in-Some-strip_byte.ensures.value
    c.trim_start_spaces.ensures c.in-Some-2.rest fields.parts (rw c.in-Some-2.is at fields.are) _ c.in_ok-timestamp.rest.now
    c.in_ok-timestamp.ensures
