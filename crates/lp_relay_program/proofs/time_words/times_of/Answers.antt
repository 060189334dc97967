use Rattle.std.proofs.Common.{◌≡◌, ◌∙◌, List, ℕ, ◌+◌, ◌==◌, Some, drop, take, slice_index, ap, arith}
use Rattle.std.proofs.lemmas.Str.{lead_after_ascii}
use Rattle.std.specs.{List.position, List.slice_range, Option.option_and_then}
use Rattle.lp_relay_program.proofs.TimeLemmas.{dots, no_dots}
use Rattle.lp_relay_program.proofs.time_words.times_of.Goals as goal
use Rattle.lp_relay_program.proofs.time_words.times_of.Goals.{then-next-word-via-then-next-word, then-next-word-via-else-next-word+then-as_bytes-next-ne46}
use Rattle.lp_relay_program.specs.TimeWords.{times_at, times_between}

-- the range from the start
slice_range_front : (bytes : List ℕ) (at : ℕ) → slice_range bytes 0 at ≡ take at bytes
slice_range_front bytes at = grind (arith)

pub range_from-requires : goal.range_from-requires
range_from-requires c = λ some. (
  omega (arith, c.if-next-word.false),
  lead_after_ascii c.args.word.now (c.in_ok-at.at + 1) c.utf8.word
      (omega (
        arith,
        ap (λ (l : List ℕ). slice_index l (c.in_ok-at.at + 1)) c.as_bytes-else-next-word.ensures.value,
        c.if-as_bytes-next-ne46.false,
      )),
)

pub returns-in_err-at : goal.returns-in_err-at
returns-in_err-at c =
    c.from_residual.ensures
    ∙ ap (option_and_then (λ (at : ℕ). times_at c.args.word.now at (at + 1)))
    (c.in_err-at.ensures.place ∙ ap (position (λ b. b == 46)) c.as_bytes.ensures.value)

pub returns-then-next-word : goal.returns-then-next-word
returns-then-next-word c =
    let word = c.args.word.now in
    let found : Some c.in_ok-at.at ≡ position (λ b. b == 46) word =
    c.in_ok-at.ensures.place ∙ ap (position (λ b. b == 46)) c.as_bytes.ensures.value in
    elim c.then-next-word.branch [
      | then-next-word-via-then-next-word w ↦ no_dots word c.in_ok-at.at found (grind (arith, w.if-next-word.true))
      | then-next-word-via-else-next-word+then-as_bytes-next-ne46 w ↦
          no_dots word c.in_ok-at.at found (grind (arith, w.as_bytes-else-next-word.ensures.value, w.if-as_bytes-next-ne46.true))
    ]

pub returns : goal.returns
returns c =
    let word = c.args.word.now in
    let at = c.in_ok-at.at in
    let found : Some at ≡ position (λ b. b == 46) word =
    c.in_ok-at.ensures.place ∙ ap (position (λ b. b == 46)) c.as_bytes.ensures.value in
    let dot : slice_index word (at + 1) ≡ 46 =
    omega (
      arith,
      ap (λ (l : List ℕ). slice_index l (at + 1)) c.as_bytes-else-next-word.ensures.value,
      c.if-as_bytes-next-ne46.false,
    ) in
    c.times_between.ensures
    ∙ ap (times_between c.range.result.now) c.range_from.ensures.value
    ∙ ap (λ (l : List ℕ). times_between l (drop (at + 1 + 1) word)) (c.range.ensures.value ∙ slice_range_front word at)
    ∙ dots word at found (omega (arith, c.if-next-word.false)) dot
