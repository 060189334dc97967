use Rattle.std.proofs.Common.{List, ℕ, ◌≡◌, ◌∙◌, ◌+◌, ◌==◌, Some, drop, take, slice_index, ap, arith}
use Rattle.std.specs.{Prelude.option_and_then, List.position, List.slice_range}
use Rattle.std.proofs.lemmas.Str.{lead_after_ascii}
use Rattle.lp_series_program.specs.Words.{shard_between}
use Rattle.lp_series_program.proofs.words.shard_of.Goals as goal

-- the range from the start
slice_range_front : (bytes : List ℕ) (at : ℕ) → slice_range bytes 0 at ≡ take at bytes
slice_range_front bytes at = grind (arith)

pub range_from-requires : goal.range_from-requires
range_from-requires c = λ some. (
  omega (arith, c.in_ok-at.ensures.byte.0, ap (λ (l : List ℕ). slice_index l c.in_ok-at.at) c.as_bytes.ensures.value, c.as_bytes.ensures.len),
  lead_after_ascii c.args.word.now c.in_ok-at.at c.utf8.word
      (omega (arith, ap (λ (l : List ℕ). slice_index l c.in_ok-at.at) c.as_bytes.ensures.value, c.in_ok-at.ensures.byte.1)),
)

pub returns : goal.returns
returns c =
    let word = c.args.word.now in
    let at = c.in_ok-at.at in
    let found : Some at ≡ position (λ b. b == 47) word =
    c.in_ok-at.ensures.place ∙ ap (position (λ b. b == 47)) c.as_bytes.ensures.value in
    c.shard_between.ensures
    ∙ ap (shard_between c.range.result.now) c.range_from.ensures.value
    ∙ ap (λ (l : List ℕ). shard_between l (drop (at + 1) word)) (c.range.ensures.value ∙ slice_range_front word at)
    ∙ ap (option_and_then (λ (at : ℕ). shard_between (take at word) (drop (at + 1) word))) found
