use Rattle.std.proofs.Common.{string_bytes}
use Rattle.std.proofs.lemmas.Iterator.{YieldsList-from_chars}
use Rattle.std.proofs.lemmas.Iterator.Consumers.{YieldsList-end}
use Rattle.lp_escapes.proofs.JsonTexts.{all_came, one_more}
use Rattle.lp_escapes.proofs.json.put_json_text.Goals as goal

pub loop-c-preserved : goal.loop-c-preserved
loop-c-preserved c =
    one_more (string_bytes c.args.json.now) (string_bytes c.loop-c.json) (string_bytes c.put_character.new.json) c.loop-c.yielded c.in-Some.c
    c.loop-c.invariant c.in_ok-put_character.ensures

pub returns : goal.returns
returns c =
    let end =
    YieldsList-end (YieldsList-from_chars c.args.text.now c.utf8.text cc) c.loop-c.yielded _ c.loop-c.yielded_by _ _ c.in-None.is
    c.next.ensures.steps in
    all_came (string_bytes c.args.json.now) (string_bytes c.loop-c.json) c.args.text.now c.loop-c.yielded c.loop-c.invariant end.0
