use Rattle.std.proofs.Common.{List, ℕ, ◌+◌, slice_index, ap, arith}
use Rattle.std.proofs.lemmas.Str.{lead_after_ascii}
use Rattle.lp_words.proofs.batch_names.batch_names_of.Goals as goal

pub range_from-requires : goal.range_from-requires
range_from-requires c = λ some. (
  omega (arith, c.in_ok-width.ensures.end.0, c.as_bytes-bytes.ensures.len),
  lead_after_ascii c.args.word.now (c.in_ok-at.at + 3) c.utf8.word
      (omega (
        arith,
        ap (λ (l : List ℕ). slice_index l (c.in_ok-at.at + 3)) c.as_bytes-bytes.ensures.value,
        c.in_ok-width.ensures.end.1,
      )),
)
