-- What is told of the pieces of a relay, one after another.
use Rattle.std.proofs.Common.{◌≡◌, ℕ, ◌+◌, List, [], ◌∷◌, ◌++◌, refl, sym, ap, ◌∙◌, arith, append_assoc}
use Rattle.lp_conditions.specs.declared.settings.Numbering.{Numbering}
use Rattle.lp_conditions.specs.declared.settings.Numbering.TheVariants as named
use Rattle.lp_conditions.specs.declared.settings.Settings.{Settings}
use Rattle.lp_faults.specs.declared.telling.Place.{Place}
use Rattle.lp_faults.specs.FaultsTold.{after_piece, first_item, first_place, told_from, told_piece}
use Rattle.lp_conditions.specs.FieldTypes.{Types}
use Rattle.lp_faults.specs.Relaying.{types_after, types_past}
use Rattle.lp_relay.specs.RelaySteps.{items_before, next_place, place_past, unwritten_of_none}

-- the place after pieces and others
pub place_append : (s : Settings) (types : Types) (place : Place) (ps qs : List (List ℕ))
    → place_past s types place (ps ++ qs) ≡ place_past s (types_past s types ps) (place_past s types place ps) qs
place_append s types place [] qs = refl
place_append s types place (p ∷ ps) qs = place_append s (types_after s types p) (after_piece s types place p) ps qs

-- what is told of pieces and others
pub told_append : (s : Settings) (types : Types) (place : Place) (ps qs : List (List ℕ))
    → told_from s types place (ps ++ qs)
    ≡ told_from s types place ps ++ told_from s (types_past s types ps) (place_past s types place ps) qs
told_append s types place [] qs = refl
told_append s types place (p ∷ ps) qs =
    let next = types_after s types p in
    let after = after_piece s types place p in
    ap (λ (l : List ℕ). told_piece s types place p ++ l) (told_append s next after ps qs)
    ∙ sym (append_assoc (told_piece s types place p) (told_from s next after ps)
    (told_from s (types_past s next ps) (place_past s next after ps) qs))

-- the number of the first item
first_number : (numbering : Numbering) (first : ℕ) → items_before numbering first + 0 + 1 ≡ first_item numbering first
first_number named.Items first = omega arith
first_number named.Lines first = refl

-- before the first item, the next place is the first
pub first_is : (s : Settings) (types : Types) → next_place s (unwritten_of_none s types) ≡ first_place s
first_is s types = ap (λ (n : ℕ). record (first_place s) { number = n }) (first_number s.numbering s.first)
