use Rattle.std.proofs.Common.{◌≡◌, map, take}
use Rattle.lp_places.proofs.places.inputs_at.Given as goal

-- the inputs so far have the names so far
abbrev pub invariant-loop-at : goal.invariant-loop-at
invariant-loop-at l = map (λ input. input.name) l.inputs.items ≡ take l.at l.names
