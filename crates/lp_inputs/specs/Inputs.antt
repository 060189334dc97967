-- Inputs that are read one after another.
use Rattle.std.specs.Prelude.{◌≡◌, ℕ, ◌<◌, ◌==◌, ◌&&◌, Bool, true, List, [], ◌∷◌, nat_lt, drop, map, take, Option, Some, None, Result, Ok, Err}
use Rattle.std.specs.Io.KnownBytes.{Consumes, IsAtEnd, Keeps}
use Rattle.lp_inputs.specs.declared.inputs.Inputs.{Inputs}

-- the rest of an input that is open, and the bytes of those with these names, as far as they are known
abbrev pub texts_after : {I : Type 0} → (I → Option (List ℕ)) → Option I → List (Option (List ℕ)) → List (Option (List ℕ))
texts_after remaining None texts = texts
texts_after remaining (Some input) texts = remaining input ∷ texts

-- what is left of each input, as far as it is known
abbrev pub texts_left : {O I : Type 0} → (O → List ℕ → Option (List ℕ)) → (I → Option (List ℕ)) → Inputs O I → List (Option (List ℕ))
texts_left bytes remaining inputs =
    texts_after remaining inputs.current (map (λ name. bytes inputs.opener name.now) inputs.names.now)

-- whether an input ends early: a read into some room gave nothing, and so many bytes of it are left
abbrev pub ends_early : (read room left : ℕ) → Bool
ends_early read room left = (read == 0) && nat_lt 0 room && nat_lt 0 left

-- the text that is left of the first input: none if no input is left
abbrev pub first_text : List (Option (List ℕ)) → Option (List ℕ)
first_text [] = Some []
first_text (text ∷ texts) = text

-- a read takes bytes of the first input that is left, and none at its end: then the next one is the first. After an error all are left
abbrev pub ReadsOne : {E : Type 0} → (old new : List (Option (List ℕ))) → Result ℕ E → List ℕ → Type 0
ReadsOne old new (Ok n) buf =
    (n ≡ 0 → IsAtEnd (first_text old) × (new ≡ drop 1 old))
    × (0 < n → Consumes (first_text old) (first_text new) (take n buf) × (drop 1 new ≡ drop 1 old))
ReadsOne old new (Err error) buf = Keeps (first_text old) (first_text new) × (drop 1 new ≡ drop 1 old)

-- an input is open after a read that gave bytes, none is after one that gave none, and one that was open still is after an error
abbrev pub ReadsOn : {E : Type 0} → (is_open is_open_after : Bool) → Result ℕ E → Type 0
ReadsOn is_open is_open_after (Ok n) = is_open_after ≡ nat_lt 0 n
ReadsOn is_open is_open_after (Err error) = is_open ≡ true → is_open_after ≡ true
