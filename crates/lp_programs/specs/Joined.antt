-- Inputs that are read as one.
use Rattle.std.specs.Prelude.{◌≡◌, List, ℕ, [], ◌∷◌, ◌++◌, drop, Option, Some, IfSome, if◌then◌else◌}
use Rattle.influxdb_line_protocol.specs.format.Bytes.{newline}
use Rattle.lp_relay.specs.Inputs.{Input, next_text}
use Rattle.lp_inputs.specs.Counted.{ends_in_line}

-- a text with a newline after it, if it ends within a line
abbrev pub ended : List ℕ → List ℕ
ended text = if ends_in_line text then text ++ newline ∷ [] else text

-- a text, and those of inputs after it: each that ends within a line is followed by a newline, if another comes after it
abbrev pub joined_after : List ℕ → List Input → List ℕ
joined_after text [] = text
joined_after text (input ∷ inputs) = joined_after (ended text ++ input.text) inputs

-- the texts of inputs as one
abbrev pub joined : List Input → List ℕ
joined inputs = joined_after [] inputs

-- the next of the texts that are left, if these are known, was read after a text
abbrev pub JoinsNext : (left left_after : Option (List (List ℕ))) → (text text_after : List ℕ) → Type 0
JoinsNext left left_after text text_after =
    IfSome left (λ texts. (left_after ≡ Some (drop 1 texts)) × (text_after ≡ ended text ++ next_text texts))
