use denote.Shadow.{shadow}
use denote.Text.{Utf8}
use Rattle.std.proofs.Common.{◌≡◌, ℕ, List, length, Option, Bor}
use Rattle.lp_format.specs.format.{a_tag_key, spelling}
use Rattle.lp_written.specs.code.AsWritten.{IsOnlyRest}
use Rattle.lp_written.specs.code.WrittenKeys.{AreTagsAfter, AreTagsFront, EndsSeries}
use Rattle.lp_written.proofs.keys.after_tags.Given as goal

-- The result for the tags that are left, after the key of the last tag, is the result for all tags.
abbrev pub invariant-loop-tag : goal.invariant-loop-tag
invariant-loop-tag l = record {
  utf8_left : shadow (Utf8 l.left);
  same : (before : List ℕ) × (l.key ≡ spelling a_tag_key before)
      × ((told : Option (Bor (List ℕ))) → IsOnlyRest (AreTagsAfter before l.left) EndsSeries told → IsOnlyRest (AreTagsFront l.text) EndsSeries told);
}

abbrev pub decreases-loop-tag : goal.decreases-loop-tag
decreases-loop-tag l = length l.left
