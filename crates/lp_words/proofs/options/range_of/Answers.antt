use Rattle.std.proofs.Common.{List, ℕ, ◌+◌, slice_index, ap, arith}
use Rattle.std.proofs.lemmas.Str.{lead_after_ascii}
use Rattle.lp_words.proofs.options.range_of.Goals as goal

pub range_from-requires : goal.range_from-requires
range_from-requires c = λ some. (
  omega (arith, c.if-next-word.false),
  lead_after_ascii c.args.word.now (c.in_ok-at.at + 1) c.utf8.word
      (omega (
        arith,
        ap (λ (l : List ℕ). slice_index l (c.in_ok-at.at + 1)) c.as_bytes-else-next-word.ensures.value,
        c.if-as_bytes-next-ne46.false,
      )),
)
