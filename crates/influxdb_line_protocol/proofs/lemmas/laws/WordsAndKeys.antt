-- The word at the start of a text is the longest that is there; tags by their keys are the one list of them whose keys rise.
use Rattle.std.proofs.Common.{◌≡◌, ◌⊎◌, ℕ, ◌≤◌, List, [], ◌∷◌, ◌++◌, length, take, drop, true, false, eqb, refl, sym, ap, ◌∙◌, subst, inl}
use Rattle.std.proofs.Common.{inr, arith, Contains, fold, ltb-true, ltb-false, length-take-le, take-append-drop, take_at, IsPermutation}
use Rattle.std.specs.{List.starts_with}
use Rattle.std.proofs.lemmas.{Bool.cases_Bool, Bool.both_ways, Bool.and_from, Bool.Decides.Decides-eqb, Slice.Eq.starts_is}
use Rattle.std.proofs.lemmas.List.{Elements.All-head, Sorted.IsPermutation-sym, Sorted.IsPermutation-trans}
use Rattle.lp_format.specs.{format.longer_front, laws.Meanings.WordFrontIsWord, laws.Meanings.WordFrontIsLongest}
use Rattle.lp_lines.{proofs.lemmas.names.ParsedNames.nothing_in_nil, specs.laws.BaseLaws.entry_keys, specs.laws.BaseLaws.TagsByKeyAreSorted}
use Rattle.lp_format.proofs.lemmas.lists.Elements.{first_element, first_or_later, later_element}
use Rattle.lp_lines.specs.code.Bases.{by_key, in_order}
use Rattle.lp_events.specs.code.OwnBases.{is_strictly_sorted}
use Rattle.lp_lines.proofs.lemmas.series.SortedTags.{Rise, by_key_placed, passes_rise, same_moved}
use Rattle.lp_format.proofs.lemmas.line.TrimLemmas.{trimmed_is_after, trimmed_is_longest}

-- Facts about the longer of a front and a word.
record Step (text : List ℕ) (n : ℕ) (word : List ℕ) (m : ℕ) : Type 0 where
  more : n ≤ m
  front : (k : ℕ) → k ≤ length text → word ≡ take k text → k ≤ m
  one : (m ≡ n) ⊎ (word ≡ take m text)

-- a word at the start of the text
starts : (text word : List ℕ) → starts_with eqb text word ≡ true → word ≡ take (length word) text
starts text word h =
    let is = (starts_is Decides-eqb text word (starts_with eqb text word) refl).0 h in
    sym (ap (take (length word)) is ∙ take_at word (drop (length word) text) (length word) refl)

-- A word with which a text does not begin is no front of the text.
starts_not : (text word : List ℕ) (k : ℕ) → k ≤ length text → starts_with eqb text word ≡ false → word ≡ take k text → ⊥
starts_not text word k fits h e =
    let is : text ≡ word ++ drop k text = sym (take-append-drop k text) ∙ ap (λ (w : List ℕ). w ++ drop k text) (sym e) in
    both_ways (starts_with eqb text word) h ((starts_is Decides-eqb text word (starts_with eqb text word) refl).1 (drop k text) is)

-- Each step of the search for the longest word takes the longer of the front and the word.
step_is : (text : List ℕ) (n : ℕ) (word : List ℕ) → Step text n word (longer_front text n word)
step_is text n word = grind (arith, cases_Bool, ltb-true, ltb-false, length-take-le, starts, starts_not)

-- Facts about the longest of a front and words.
record Longest (text : List ℕ) (n : ℕ) (words : List (List ℕ)) (len : ℕ) : Type 0 where
  more : n ≤ len
  front : (k : ℕ) → k ≤ length text → Contains words (take k text) → k ≤ len
  one : (len ≡ n) ⊎ Contains words (take len text)

-- The search gives the longest of a front and these words.
longest_is : (text : List ℕ) (n : ℕ) (words : List (List ℕ)) → Longest text n words (fold (λ n word. longer_front text n word) n words)
longest_is text n [] = record { more = omega arith; front = λ k fits h. absurd (nothing_in_nil (take k text) h); one = inl refl }
longest_is text n (word ∷ words) =
    let s = step_is text n word in
    let more = longest_is text (longer_front text n word) words in
    record {
      more = let a = s.more in let b = more.more in omega arith;
      front = λ k fits h. elim (first_or_later word (take k text) words h) [
        | inl same ↦ let a = s.front k fits same in let b = more.more in omega arith
        | inr later ↦ more.front k fits later
      ];
      one = grind (arith, first_element, later_element);
    }

-- a front that is taken is one of the words
pub word_front_is_word : WordFrontIsWord
word_front_is_word words text some = grind (arith, longest_is)

-- No front that is longer than the word that is taken is one of the words.
pub word_front_is_longest : WordFrontIsLongest
word_front_is_longest words text n fits here = (longest_is text 0 words).front n fits here

-- keys that rise pass the test
rise_passes : (es : List (List ℕ × List ℕ)) → Rise es → is_strictly_sorted (entry_keys es) ≡ true
rise_passes [] h = refl
rise_passes (e ∷ []) h = refl
rise_passes (e ∷ f ∷ es) h = grind (arith, All-head, and_from, rise_passes (f ∷ es) h.1)

-- the tags by their keys, and no other list
pub tags_by_key_are_sorted : TagsByKeyAreSorted
tags_by_key_are_sorted tags entries once =
    let placed = by_key_placed tags once in (
      (λ e. (
        ap (λ es. is_strictly_sorted (entry_keys es)) e ∙ rise_passes (by_key tags) placed.1,
        subst (IsPermutation (in_order tags)) (sym e) placed.0,
      )),
      (λ h. same_moved entries (by_key tags) (passes_rise entries h.0) placed.1 (IsPermutation-trans entries (in_order tags) (by_key tags)
          (IsPermutation-sym (in_order tags) entries h.1) placed.0)),
    )

-- The laws of words and blanks that are read by their longest front.
pub ruleset word_laws = (word_front_is_word, word_front_is_longest, trimmed_is_after, trimmed_is_longest)
