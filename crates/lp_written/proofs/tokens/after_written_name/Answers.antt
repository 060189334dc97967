use Rattle.lp_written.proofs.lemmas.parts.WrittenNames.{name_found, name_none}
use Rattle.lp_written.proofs.tokens.after_written_name.Goals as goal

pub returns-then-is_admitted_spelling : goal.returns-then-is_admitted_spelling
returns-then-is_admitted_spelling c = name_found _ _ _ _ _ _ _ _ c.range_from.ensures.value c.written_len-len.ensures.value
    c.is_admitted_spelling.ensures c.if-is_admitted_spelling.true c.as_bytes-bytes.ensures.value c.token.ensures.known c.token.ensures.stops

pub returns-else-is_admitted_spelling : goal.returns-else-is_admitted_spelling
returns-else-is_admitted_spelling c rest = name_none _ _ _ _ rest _ _ _ c.written_len-len.ensures.value c.is_admitted_spelling.ensures
    c.if-is_admitted_spelling.false c.as_bytes-bytes.ensures.value c.token.ensures.known c.token.ensures.stops
