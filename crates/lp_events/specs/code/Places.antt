-- Places of the parts of a line, by the number of bytes of the line that are left after each part.
use Rattle.std.specs.Prelude.{◌≡◌, ◌+◌, ℕ, List, ◌++◌, length, true}
use Rattle.lp_format.specs.format.{Pair, Text, Value, boolean, float, integer, string, unsigned}
use Rattle.lp_values.specs.declared.{spelled.Spelled.Spelled, spelled.SpelledValue.SpelledValue}
use Rattle.lp_events.specs.code.Events.{Event, spelled_field, spelled_tag}
use Rattle.lp_events.specs.declared.events.Unplaced.{Unplaced}

-- the line ends in this text
abbrev pub IsEndOf : List ℕ → List ℕ → Type 0
IsEndOf line text = (front : List ℕ) × (line ≡ front ++ text)

-- the bytes are in the line, and `left` bytes of the line are after them
abbrev pub AreBefore : List ℕ → List ℕ → ℕ → Type 0
AreBefore line bytes left = (rest : List ℕ) × (length rest ≡ left) × IsEndOf line (bytes ++ rest)

-- a text that is a part of the line is in it, and `left` bytes of the line are after it
abbrev pub EndsBefore : List ℕ → Text → ℕ → Type 0
EndsBefore line text left = text.is_single ≡ true → AreBefore line text.bytes left

-- the text of a float, or of a string before its closing quote, is in the line, and `left` bytes of the line are after the value
abbrev pub ValueEndsBefore : List ℕ → Value Text → ℕ → Type 0
ValueEndsBefore line (float text) left = AreBefore line text left
ValueEndsBefore line (string text) left = EndsBefore line text (left + 1)
ValueEndsBefore line (integer z) left = Unit {0}
ValueEndsBefore line (unsigned n) left = Unit {0}
ValueEndsBefore line (boolean b) left = Unit {0}

-- a key and a value are at the start of a text: `key_left` bytes are after the key, and `rest` follows the value, which lies as `Ends` says
pub record LiesAt {V : Type 0} (Ends : List ℕ → V → ℕ → Type 0) (text : List ℕ) (pair : Pair Text V) (key_left : ℕ) (rest : List ℕ)
    : Type 0 where
  pub key : EndsBefore text pair.key key_left
  pub value : Ends text pair.value (length rest)
  pub ends : IsEndOf text rest

-- the tag that a spelled tag is read as, given with the number of bytes that are left after its key
abbrev pub placed_tag : Spelled × Spelled × ℕ → Pair Text Text
placed_tag t = spelled_tag (t.0, t.1)

-- the field that a spelled field is read as, given with the number of bytes that are left after its key
abbrev pub placed_field : Spelled × SpelledValue × ℕ → Pair Text (Value Text)
placed_field f = spelled_field (f.0, f.1)

-- a sink that does not ask for the places of parts takes an event as the sink in it does
abbrev pub TakesUnplaced : {S : Type 0} → (S → Event → S → Type 0) → Unplaced S → Event → Unplaced S → Type 0
TakesUnplaced takes old event new = takes old.sink.now event new.sink.now × (new.sink.ghost_name ≡ old.sink.ghost_name)
