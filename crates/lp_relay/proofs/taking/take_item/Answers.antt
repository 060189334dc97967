use Rattle.std.proofs.Common.{◌≡◌, refl, subst, sym}
use Rattle.lp_conditions.specs.FieldTypes.{types_of}
use Rattle.lp_relay.specs.RelaySteps.{types_given}
use Rattle.lp_faults.proofs.ItemLemmas.{types_of_no_text}
use Rattle.std.proofs.lemmas.Result.{on_ok_weaker}
use Rattle.lp_faults.specs.declared.refusals.Refusal.TheVariants as why
use Rattle.lp_relay.specs.declared.taking.Taken.TheVariants as took
use Rattle.lp_faults.specs.Refusals.{IsKnown, given_of}
use Rattle.lp_relay.specs.Taking.{TakesPiece}
use Rattle.lp_faults.specs.Relaying.{line_of}
use Rattle.lp_relay.proofs.RefusalLemmas.{takes_no_text, takes_too_long}
use Rattle.lp_faults.proofs.ReturnLemmas.{piece_utf8}
use Rattle.lp_relay.proofs.taking.take_item.Goals as goal

pub returns-in-NoText-clause-taken : goal.returns-in-NoText-clause-taken
returns-in-NoText-clause-taken c =
    let before = c.args.pending.now.so_far.batch.items in
    let types = types_of c.args.pending.now.types in
    let bad = subst IsKnown c.in-NoText.is c.requires.known in
    let one = subst (λ p. TakesPiece c.args.settings.now types p (took.Refused why.NotUtf8) before before) (sym c.in-NoText.is)
    (takes_no_text c.args.settings.now types c.in-NoText.field-0 before bad) in
    let same = subst (λ p. types ≡ types_given c.args.settings.now types (given_of p)) (sym c.in-NoText.is)
    (sym (types_of_no_text c.args.settings.now types (line_of c.args.settings.now c.in-NoText.field-0.now)
    (λ u. bad (piece_utf8 c.args.settings.now c.in-NoText.field-0.now u)))) in
    on_ok_weaker c.refuse.result (λ takes. takes one.0.0 types one.0.1 same) c.refuse.ensures.taken

pub returns-in-TooLong-clause-taken : goal.returns-in-TooLong-clause-taken
returns-in-TooLong-clause-taken c =
    let before = c.args.pending.now.so_far.batch.items in
    let types = types_of c.args.pending.now.types in
    let one = subst (λ p. TakesPiece c.args.settings.now types p (took.Refused (why.TooLong c.kept_of.result)) before before) (sym c.in-TooLong.is)
    (takes_too_long c.args.settings.now types c.in-TooLong.field-0 c.kept_of.result before c.kept_of.ensures) in
    let same = subst (λ p. types ≡ types_given c.args.settings.now types (given_of p)) (sym c.in-TooLong.is) refl in
    on_ok_weaker c.refuse-in-TooLong.result (λ takes. takes one.0.0 types one.0.1 same) c.refuse-in-TooLong.ensures.taken
