-- Parts that are read of a line, and the spelling of their names.
use Rattle.std.proofs.Common.{◌≡◌, ℕ, List, [], ◌∷◌, ◌++◌, length, take, refl, sym, ◌∙◌, ap, arith, take-append-drop, ◌-◌, ◌<◌, ◌||◌, Bool, map, length-append}
use Rattle.std.proofs.Math.Seq.{take-append_seam}
use Rattle.lp_format.specs.format.{NameKind, Reading, Text, after_comma, name, reads, spelled, spelled_len}
use Rattle.lp_values.proofs.lemmas.fields.ReadingLemmas.{name_parts, reads_parts}
use Rattle.std.proofs.Math.Bool.{or_assoc}
use Rattle.std.specs.List.{list_any}
use Rattle.lp_format.specs.format.{Pair}
use Rattle.lp_portable.specs.declared.names.{TagBreaks.TagBreaks, KeyBreaks.KeyBreaks}
use Rattle.lp_portable.specs.format.Spellings.{AreAfterCommas, name_text}
use Rattle.lp_portable.specs.format.Portable.{has_bare_comma, has_comma, has_escape, has_marked_escape, has_sign, is_long_after}
use Rattle.lp_portable.specs.code.Walks.{either_key, either_tag, key_breaks, keys_breaks, tag_breaks, tags_breaks}

-- The front of a text before an end is the part of the text that the end leaves.
front_is : (xs ys text : List ℕ) → xs ++ ys ≡ text → take (length text - length ys) text ≡ xs
front_is xs ys text whole =
    let n : length text - length ys ≡ length xs = omega (arith, ap length whole, length-append xs ys) in
    rw (n, ← whole) (take-append_seam xs ys)

-- The front of a text before the rest that follows a name is the name as it is spelled.
pub cut_name : (kind : NameKind) (text rest : List ℕ) (t : Text) → name kind text ≡ reads t rest
    → name_text kind text ≡ reads (take (length text - length rest) text) rest
cut_name kind text rest t e =
    let after = (name_parts kind text t rest e).1 in
    let front = front_is (spelled kind text) rest text (rw after (take-append-drop (spelled_len kind text) text)) in
    rw (e, front) refl

pub ruleset name_steps = (cut_name)

module _ {A : Type 0} (one : List ℕ → Reading A) where
  -- The first of the parts after commas is the part that is read.
  pub next_after : (xs : List A) (text rest after : List ℕ) (x : A) → AreAfterCommas one xs text rest → 0 < length xs
      → after_comma one text ≡ reads x after → (more : List A) × (xs ≡ x ∷ more) × AreAfterCommas one more after rest
  next_after [] text rest after x h some e = absurd (omega arith)
  next_after (y ∷ ys) text rest after x h some e =
      let same = reads_parts x y after h.0 (sym e ∙ h.1) in
      (ys, rw same.0 refl, rw same.1 h.2)

  -- where a part comes after a comma, one is read
  pub some_next : (xs : List A) (text rest : List ℕ) → AreAfterCommas one xs text rest → 0 < length xs
      → (x : A) × (after : List ℕ) × (after_comma one text ≡ reads x after)
  some_next [] text rest h some = absurd (omega arith)
  some_next (y ∷ ys) text rest h some = (y, h.0, h.1)

-- The clauses that tags break are the clauses that the first tag breaks and the clauses that the others break.
pub tags_step : (found : TagBreaks) (t : Pair (List ℕ) (List ℕ)) (tags : List (Pair (List ℕ) (List ℕ)))
    → either_tag found (tags_breaks (t ∷ tags)) ≡ either_tag (either_tag found (tag_breaks t)) (tags_breaks tags)
tags_step found t tags = rw (
  or_assoc found.escape (has_escape t) (list_any has_escape tags),
  or_assoc found.comma (has_comma t) (list_any has_comma tags),
  or_assoc found.sign (has_sign t) (list_any has_sign tags),
) refl

-- The clauses that field keys break are the clauses that the first key breaks and the clauses that the others break.
pub keys_step : (series_len : ℕ) (found : KeyBreaks) (key : List ℕ) (keys : List (List ℕ))
    → either_key found (keys_breaks series_len (key ∷ keys)) ≡ either_key (either_key found (key_breaks series_len key)) (keys_breaks series_len keys)
keys_step series_len found key keys = rw (
  or_assoc found.escape (has_marked_escape key) (list_any has_marked_escape keys),
  or_assoc found.comma (has_bare_comma key) (list_any has_bare_comma keys),
  or_assoc found.long (is_long_after series_len key) (list_any (is_long_after series_len) keys),
) refl

-- Some image of an element passes a test exactly if some element passes the test of its image.
pub any_map : {X Y : Type 0} (p : Y → Bool) (f : X → Y) (xs : List X) → list_any p (map f xs) ≡ list_any (λ x. p (f x)) xs
any_map p f [] = refl
any_map p f (x ∷ xs) = ap (λ (b : Bool). p (f x) || b) (any_map p f xs)
