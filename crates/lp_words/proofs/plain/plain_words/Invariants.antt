use Rattle.std.proofs.Common.{◌≡◌, take, fold}
use Rattle.lp_words.specs.Plain.{no_order, order_of, texts, with_word}
use Rattle.lp_words.proofs.plain.plain_words.Given as goal

-- the words so far are in order
abbrev pub invariant-loop-at : goal.invariant-loop-at
invariant-loop-at l = order_of l.sorting ≡ fold (with_word l.valued) no_order (texts (take l.at l.words))
