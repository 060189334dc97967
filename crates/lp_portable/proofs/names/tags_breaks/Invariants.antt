use Rattle.std.proofs.Common.{◌≡◌, ℕ, List, length}
use denote.Text.{Utf8}
use denote.Shadow.{shadow}
use Rattle.lp_format.specs.format.{Pair}
use Rattle.lp_portable.specs.format.Spellings.{AreAfterCommas, tag_text}
use Rattle.lp_portable.specs.code.Walks.{either_tag, tags_breaks}
use Rattle.lp_portable.proofs.names.tags_breaks.Given as goal

abbrev pub invariant-loop-left : goal.invariant-loop-left
invariant-loop-left l = record {
  utf8 : shadow (Utf8 l.rest);
  told : (tags : List (Pair (List ℕ) (List ℕ))) (rest : List ℕ) → AreAfterCommas tag_text tags l.text rest → length tags ≡ l.count
      → (more : List (Pair (List ℕ) (List ℕ))) × AreAfterCommas tag_text more l.rest rest × (length more ≡ l.left)
      × (tags_breaks tags ≡ either_tag l.found (tags_breaks more));
}

abbrev pub decreases-loop-left : goal.decreases-loop-left
decreases-loop-left l = l.left
