-- What the last word asks for.
use Rattle.std.proofs.Common.{◌≡◌, ℕ, ◌-◌, ◌<◌, ◌≤◌, List, [], ◌∷◌, length, take, drop, slice_index_or, Bor, ap, None, arith, length-take}
use Rattle.std.specs.Option.{option_map_or}
use Rattle.lp_series_program.specs.declared.words.Given.{Given}
use Rattle.lp_series_program.specs.Words.{asked_after_options, task_given, with_flag}

-- a word that no other follows names an input, or nothing is asked for, if it is no option that takes no word after it
pub last_word : (given : Given) (d : Bor (List ℕ)) (words : List (Bor (List ℕ)))
    → 1 ≤ length words → length (take (length words - 1) (drop 1 words)) < 1 → with_flag given (slice_index_or words 0 d).now ≡ None
    → asked_after_options given words ≡ task_given given words
last_word given d [] some few none = absurd (omega (arith, some))
last_word given d (word ∷ []) some few none =
    ap (λ more. option_map_or (λ m. asked_after_options m []) more (task_given given (word ∷ []))) none
last_word given d (word ∷ value ∷ words) some few none = absurd (grind (arith, few, length-take))
