use Rattle.std.proofs.Common.{◌≡◌, ℕ, List, length}
use denote.Text.{Utf8}
use denote.Shadow.{shadow}
use Rattle.lp_portable.specs.format.Spellings.{AreAfterCommas, key_text}
use Rattle.lp_portable.specs.code.Walks.{either_key, keys_breaks}
use Rattle.lp_portable.proofs.names.more_breaks.Given as goal

abbrev pub invariant-loop-left : goal.invariant-loop-left
invariant-loop-left l = record {
  utf8 : shadow (Utf8 l.rest);
  told : (keys : List (List ℕ)) (rest : List ℕ) → AreAfterCommas key_text keys l.text rest → length keys ≡ l.count
      → (more : List (List ℕ)) × AreAfterCommas key_text more l.rest rest × (length more ≡ l.left)
      × (either_key l.fn.first (keys_breaks l.series_len keys) ≡ either_key l.found (keys_breaks l.series_len more));
}

abbrev pub decreases-loop-left : goal.decreases-loop-left
decreases-loop-left l = l.left
