use Rattle.std.proofs.Common.{List, ℕ, ◌+◌, slice_index, ap, arith}
use Rattle.std.proofs.lemmas.Str.{lead_after_ascii}
use Rattle.lp_words.proofs.paths.folder_and_file.Goals as goal

pub range_from-requires : goal.range_from-requires
range_from-requires c = λ some. (
  omega (arith, c.in-Some.ensures.byte.0, c.as_bytes.ensures.len),
  lead_after_ascii c.args.path.now c.in-Some.at c.utf8.path
      (omega (
        arith,
        ap (λ (l : List ℕ). slice_index l c.in-Some.at) c.as_bytes.ensures.value,
        c.in-Some.ensures.byte.1,
      )),
)
