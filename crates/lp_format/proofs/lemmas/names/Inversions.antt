-- Lists that were read: their parts, and properties of all their elements.
use Rattle.std.proofs.Common.{◌≡◌, ℕ, ◌≤◌, List, [], ◌∷◌, ◌++◌, length, arith}
use Rattle.std.specs.List.{AllByRecursion}
use Rattle.lp_format.specs.{format.Reading, format.reads, format.prepend, format.separated_list, laws.Meanings.SeparatedAfterComma}
use Rattle.lp_format.proofs.lemmas.meanings.JoinedMeaning.{the_most_is_read}
pub use Rattle.lp_format.proofs.lemmas.meanings.JoinedMeaning.{count_is_of_the_most}

-- a reading gives the elements `more`, and `xs` and `more` together are `zs`
pub record Onto {A : Type 0} (xs : List A) (r : Reading (List A)) (zs : List A) (rest : List ℕ) : Type 0 where
  pub more : List A
  pub are : r ≡ reads more rest
  pub all : xs ++ more ≡ zs

-- a list that `prepend` gives is `xs` and then the elements of the reading
pub prepend_parts : {A : Type 0} (xs : List A) (r : Reading (List A)) (zs : List A) (rest : List ℕ)
    → prepend xs r ≡ reads zs rest → Onto xs r zs rest
prepend_parts xs r zs rest h = grind arith

module _ {A : Type 0} (P : A → Type 0) (one : List ℕ → Reading A)
    (each : (line : List ℕ) (x : A) (rest : List ℕ) → one line ≡ reads x rest → P x) where
  -- a property of each element that is read holds of all elements after commas
  pub after_all : (xs : List A) (line rest : List ℕ) → SeparatedAfterComma one xs line rest → AllByRecursion P xs
  after_all [] line rest h = tt
  after_all (x ∷ xs) line rest h = (each h.0 x h.1 h.3, after_all xs h.1 rest h.4)

  -- a property of each element that is read holds of all elements of a list that is read
  pub joined_of : ((line : List ℕ) (x : A) (rest : List ℕ) → one line ≡ reads x rest → length rest ≤ length line)
      → (line rest : List ℕ) (xs : List A) → separated_list one line ≡ reads xs rest → AllByRecursion P xs
  joined_of no_longer line rest xs h =
      let are = ((the_most_is_read one no_longer line xs rest).0 h).longest.separated in
      grind (arith, after_all)
