use Rattle.std.proofs.Common.{◌≡◌, ◌≢◌, ℕ, ◌≤◌, ◌∙◌, arith, codes, List, [], ◌∷◌, length, slice_index_or, Bor}
use Rattle.std.proofs.lemmas.Slice.Eq.{bytes_eq-Decides}
use Rattle.influxdb_line_protocol.specs.types.Dialect.TheVariants.{Crate}
use Rattle.lp_relay_program.specs.Words.{asked_cut, cut_task}
use Rattle.lp_relay_program.proofs.words.cut_of.Goals as goal

-- a first word that names no dialect leaves the words to the dialect of the crate
no_dialect : (words : List (Bor (List ℕ))) (d : Bor (List ℕ)) → 1 ≤ length words → (slice_index_or words 0 d).now ≢ codes "--strict"
    → (slice_index_or words 0 d).now ≢ codes "--newline-delimited" → cut_task Crate words ≡ asked_cut words
no_dialect [] d some s n = absurd (omega (arith, some))
no_dialect (word ∷ words) d some s n = grind (arith, bytes_eq-Decides)

pub returns-in_default-word : goal.returns-in_default-word
returns-in_default-word c =
    c.cut_task_of-in_default-word.ensures
    ∙ no_dialect c.args.words.now _ c.in-len1-up.len_at_least c.in_default-word.not-text c.in_default-word.not-text-2
