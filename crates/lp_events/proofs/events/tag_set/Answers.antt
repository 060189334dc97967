use Rattle.std.proofs.Common.{[], None, refl}
use Rattle.std.proofs.lemmas.Result.{err_from_is_err_and}
use Rattle.lp_format.specs.format.{after_comma, comma, tag}
use Rattle.lp_events.proofs.lemmas.fields.ManyLemmas.{none_most}
use Rattle.lp_events.proofs.lemmas.fields.FrontLemmas.{set_fault, set_malformed, set_told}
use Rattle.lp_events.proofs.lemmas.events.PlacedParts.{byte_end}
use Rattle.lp_events.proofs.events.tag_set.Goals as goal

pub tags-requires : goal.tags-requires
tags-requires g c κs = ((refl, tt), byte_end comma _ c.args.text.now c.args.text.now c.in-Some.rest.now c.requires ([], refl) c.in-Some.ensures.value)

pub returns-in_err-rest-clause-told : goal.returns-in_err-rest-clause-told
returns-in_err-rest-clause-told g c =
    let p = err_from_is_err_and c.from_residual.result c.from_residual.ensures.1 in
    let was = c.in_err-rest.ensures.told in
    rw (p.1, p.2)
    (record { parts = was.parts; told = was.told; are = (set_fault c.args.text.now c.in-Some.rest.now was.parts _ c.in-Some.ensures.value was.are.0, was.are.1) })

pub returns-in_default-2-clause-told : goal.returns-in_default-2-clause-told
returns-in_default-2-clause-told g c =
    let was = c.in_ok-rest.ensures.told in
    let none = rw c.in_default-2.is at was.are.0 in
    record {
      parts = was.parts;
      told = was.told;
      are = (rw none.1 (set_malformed c.args.text.now c.in-Some.rest.now c.in-Some.ensures.value none.0), was.are.1);
    }

pub returns-in_default-clause-told : goal.returns-in_default-clause-told
returns-in_default-clause-told g c =
    let bare = rw c.in_default.is at c.strip_byte.ensures.value in
    let none = none_most (after_comma tag) (after_comma tag) c.args.text.now (rw bare (tt {0})) in
    record { parts = []; told = refl; are = ((None, rw bare refl, refl, none), λ m kept. kept) }

pub returns-clause-told : goal.returns-clause-told
returns-clause-told g c =
    let was = c.in_ok-rest.ensures.told in
    let read = rw c.in-Some-2.is at was.are.0 in
    let mark = c.in-Some.ensures.value in
    record { parts = was.parts; told = was.told; are = (set_told c.args.text.now c.in-Some.rest.now was.parts c.in-Some-2.rest mark read.1 read.2, was.are.1) }
