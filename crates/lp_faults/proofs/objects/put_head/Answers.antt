use Rattle.std.proofs.Common.{string_bytes}
use Rattle.std.proofs.lemmas.Result.{on_ok_weaker}
use Rattle.lp_faults.specs.Objects.{bytes_given, fault_members, length_member, object_start, over_given}
use Rattle.lp_faults.specs.Refusals.{front_in, given_of, refusal_kind, wrong_of}
use Rattle.lp_escapes.proofs.JsonTexts.{three_added}
use Rattle.lp_faults.proofs.objects.put_head.Goals as goal

pub returns : goal.returns
returns c =
    let given = given_of c.args.piece in
    let start = object_start c.args.place (front_in c.args.line) in
    let len = length_member (over_given c.args.telling.limit given) (bytes_given given) in
    let fault = fault_members (refusal_kind c.args.refusal.now) (wrong_of c.args.refusal.now) in
    on_ok_weaker c.put_fault.result
    (λ put. three_added (string_bytes c.args.faults.now) _ _ _ start len fault c.in_ok-put_start.ensures c.in_ok-put_length.ensures put)
    c.put_fault.ensures
