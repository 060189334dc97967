use Rattle.lp_written.proofs.lemmas.parts.WrittenNames.{string_answer}
use Rattle.lp_written.proofs.tokens.after_written_string.Goals as goal

pub returns : goal.returns
returns c = string_answer _ _ _ _ _ _ c.in_ok-opened.ensures.value c.range_from.ensures.value c.written_len-len.ensures.value
    c.as_bytes.ensures.value c.strip_byte-2.ensures.value
