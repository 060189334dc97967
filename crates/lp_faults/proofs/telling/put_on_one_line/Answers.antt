use Rattle.std.proofs.Common.{string_bytes, arith}
use Rattle.std.proofs.lemmas.Str.{IsUtf8-string_bytes}
use Rattle.lp_escapes.proofs.OneLine.{front_is_text}
use Rattle.lp_faults.proofs.telling.put_on_one_line.Goals as goal

pub tell_from-requires-clause-front : goal.tell_from-requires-clause-front
tell_from-requires-clause-front c =
    let old = c.put_file.new.faults in
    front_is_text (string_bytes old) _ _ _ (IsUtf8-string_bytes old) (omega (arith, c.len-from.ensures)) c.in_ok-put_fault_text.ensures
