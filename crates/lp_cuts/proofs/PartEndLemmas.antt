-- The ends of parts that were found so far.
use Rattle.std.proofs.Common.{◌≡◌, ℕ, suc, ◌+◌, ◌-◌, ◌*◌, ◌/◌, ◌<◌, ◌≤◌, List, [], ◌∷◌, ◌++◌, length, max, slice_index, slice_index_or}
use Rattle.std.proofs.Common.{refl, sym, ap, subst, ◌∙◌, length-append, arith}
use Rattle.std.specs.List.Sorted.{IsNonDecreasing}
use Rattle.std.proofs.Math.Nat.{div-mul-le_self, eq-or-lt_of_le}
use Rattle.std.proofs.Math.Seq.{get_or-append_seam}
use Rattle.std.proofs.lemmas.List.{get_or_append_left}
use Rattle.std.proofs.lemmas.List.Sorted.{IsNonDecreasingBy-push}
use Rattle.std.proofs.lemmas.Nat.{le-div, mul-le}
use Rattle.influxdb_line_protocol.specs.format.Dialects.{Dialect}
use Rattle.influxdb_line_protocol.specs.laws.Laws.{PiecesExist, PiecesAreUnique}
use Rattle.lp_cuts.specs.Cuts.{ArePartEnds, IsCutAt, IsCutFor, JoinsPieces, parts_from}
use Rattle.lp_cuts.proofs.CutLemmas.{nothing_is_piece}
use Rattle.lp_cuts.proofs.PartLemmas.{AreCutsFrom, parts_after}

-- these ends were found, and the walk is at the last one, or at the text's start
pub record EndsSoFar (dialect : Dialect) (text : List ℕ) (count : ℕ) (ends : List ℕ) (at : ℕ) : Type 0 where
  pub each : (k : ℕ) → k < length ends → IsCutFor dialect text (max 1 ((k + 1) * length text / count)) (slice_index ends k)
  pub below : (k d : ℕ) → k < length ends → slice_index_or ends k d ≤ at
  pub rise : IsNonDecreasing ends
  pub first : (other : ℕ) → IsCutAt dialect text other → max 1 (length ends * length text / count) ≤ other → at ≤ other

-- the start of a text is a cut
pub start_is_cut : PiecesExist → (dialect : Dialect) (text : List ℕ) → IsCutAt dialect text 0
start_is_cut exist dialect text = record { within = omega arith; pieces = []; are = nothing_is_piece exist dialect }

-- none was found
pub ends_none : (dialect : Dialect) (text : List ℕ) (count : ℕ) → EndsSoFar dialect text count [] 0
ends_none dialect text count = grind (arith)

-- the greater of 1 and a number rises with it
max_rises : (a b : ℕ) → a ≤ b → max 1 a ≤ max 1 b
max_rises a b h = grind arith

-- the parts of one length end in order
even_ends_rise : (k len count : ℕ) → 0 < count → max 1 (k * len / count) ≤ max 1 ((k + 1) * len / count)
even_ends_rise k len count some = grind (arith, max_rises, le-div, div-mul-le_self, mul-le)

-- the walk has passed no cut for the next end
pub none_passed : (dialect : Dialect) (text : List ℕ) (count k : ℕ) (ends : List ℕ) (at : ℕ) → EndsSoFar dialect text count ends at
    → length ends + 1 ≡ k → k < count → (other : ℕ) → IsCutAt dialect text other → max 1 (k * length text / count) ≤ other → at ≤ other
none_passed dialect text count k ends at so_far is few other cut_there there =
    so_far.first other cut_there
    (omega (
      arith,
      even_ends_rise (length ends) (length text) count (omega arith),
      ap (λ (n : ℕ). max 1 (n * length text / count)) is,
    ))

-- an element of a list, and one after them
push_cases : (P : ℕ → ℕ → Type 0) (xs : List ℕ) (y d : ℕ) → ((k : ℕ) → k < length xs → P k (slice_index_or xs k d)) → P (length xs) y
    → (k : ℕ) → k < length (xs ++ y ∷ []) → P k (slice_index_or (xs ++ y ∷ []) k d)
push_cases P xs y d before new k h = grind (arith, length-append, eq-or-lt_of_le, slice_index_or, get_or-append_seam, get_or_append_left)

-- one more was found
pub ends_more : (dialect : Dialect) (text : List ℕ) (count k : ℕ) (ends : List ℕ) (at new : ℕ) → EndsSoFar dialect text count ends at
    → length ends + 1 ≡ k → IsCutFor dialect text (max 1 (k * length text / count)) new → at ≤ new
    → EndsSoFar dialect text count (ends ++ new ∷ []) new
ends_more dialect text count k ends at new so_far is found up =
    let len = length-append ends (new ∷ []) in
    let here : IsCutFor dialect text (max 1 ((length ends + 1) * length text / count)) new =
    subst (λ (n : ℕ). IsCutFor dialect text (max 1 (n * length text / count)) new) (sym is) found in
    record {
      each = push_cases (λ j x. IsCutFor dialect text (max 1 ((j + 1) * length text / count)) x) ends new 0 so_far.each here;
      below = λ j d. push_cases (λ i x. x ≤ new) ends new d (λ i h. omega (arith, so_far.below i d h)) (omega arith) j;
      rise = IsNonDecreasingBy-push (λ x. x) ends new so_far.rise
          (λ d some. omega (arith, so_far.below (length ends - 1) d (omega arith)));
      first = λ other cut_there there.
          found.first other cut_there (subst (λ (n : ℕ). max 1 (n * length text / count) ≤ other) (len ∙ is) there);
    }

-- places that rise and are cuts
cuts_from : (dialect : Dialect) (text : List ℕ) (start : ℕ) (ats : List ℕ) → start ≤ length text
    → ((k : ℕ) → k < length ats → IsCutAt dialect text (slice_index ats k))
    → ((k : ℕ) → k < length ats → start ≤ slice_index ats k) → IsNonDecreasing ats → AreCutsFrom dialect text start ats
cuts_from dialect text start [] within each low rise = within
cuts_from dialect text start (at ∷ ats) within each low rise =
    let here = each 0 (omega arith) in (
      low 0 (omega arith),
      here,
      cuts_from dialect text at ats here.within (λ k h. each (suc k) (omega arith))
          (λ k h. rise 0 (suc k) 0 (omega arith) (omega arith))
          (λ i j d up h. rise (suc i) (suc j) d (omega arith) (omega arith)),
    )

-- all were found, but for the last
pub ends_all : (dialect : Dialect) (text : List ℕ) (count : ℕ) (ends all : List ℕ) (at : ℕ) → EndsSoFar dialect text count ends at
    → at ≤ length text → length ends ≡ count - 1 → all ≡ ends ++ length text ∷ [] → ArePartEnds dialect text count all
ends_all dialect text count ends all at so_far within is are =
    subst (λ (l : List ℕ). ArePartEnds dialect text count l) (sym are)
    (record {
      cuts = ends;
      are = refl;
      count_is = is;
      each = so_far.each;
      rise = IsNonDecreasingBy-push (λ x. x) ends (length text) so_far.rise
          (λ d some. omega (arith, so_far.below (length ends - 1) d (omega arith)));
    })

-- the last end is the text's length
pub last_end : (ends all : List ℕ) (len n : ℕ) → all ≡ ends ++ n ∷ [] → len ≡ n → all ≡ ends ++ len ∷ []
last_end ends all len n are is = are ∙ ap (λ (k : ℕ). ends ++ k ∷ []) (sym is)

-- a front of a list that rises
front_rises : (xs : List ℕ) (y : ℕ) → IsNonDecreasing (xs ++ y ∷ []) → IsNonDecreasing xs
front_rises xs y rise i j d up h = grind (arith, rise i j d, length-append, get_or_append_left)

-- the parts have the pieces of the text
pub ends_join : PiecesExist → PiecesAreUnique → (dialect : Dialect) (text : List ℕ) (count : ℕ) (ends : List ℕ)
    → ArePartEnds dialect text count ends → JoinsPieces dialect text (parts_from 0 text ends)
ends_join exist unique dialect text count ends h =
    subst (λ (l : List ℕ). JoinsPieces dialect text (parts_from 0 text l)) (sym h.are)
    (parts_after exist unique dialect text 0 h.cuts (start_is_cut exist dialect text)
    (cuts_from dialect text 0 h.cuts (omega arith) (λ k few. (h.each k few).is_cut) (λ k few. omega arith)
    (front_rises h.cuts (length text) (subst IsNonDecreasing h.are h.rise))))
