-- Readings: the outcome of reading the front of a text.
use Rattle.std.specs.Prelude.{ℕ, List, Bool, Result, Ok, Err}

-- the side on which a number is out of range: above the greatest number of its type, or below the least
pub data Side : Type 0 where
  above below : Side

-- the faults of a line
pub data Fault : Type 0 where
  measurement_value_invalid field_set_missing ends_with_backslash tag_set_malformed take_while1 : Fault
  integer_value_invalid uinteger_value_invalid timestamp_value_invalid : Side → List ℕ → Fault
  cannot_parse_entire_line : List ℕ → Fault

-- a text that was read: its bytes, and whether it is a part of the input or a fixed text, and not a copy
pub record Text : Type 0 where
  pub bytes : List ℕ
  pub is_single : Bool

-- a value that was read, and the rest of the text after it
pub record Read (A : Type 0) : Type 0 where
  pub value : A
  pub rest : List ℕ

-- the outcome of reading the front of a text: the front reads, or it misses and another case can be tried, or it is fatal for the line
pub data Reading (A : Type 0) : Type 0 where
  miss : Reading A
  fatal : Fault → Reading A
  reads : A → List ℕ → Reading A

-- the second reading, of the rest after the first; a first reading that misses or is fatal stays as it is
infixl 10 ◌>>=◌
abbrev pub ◌>>=◌ : {A B : Type 0} → Reading A → (Read A → Reading B) → Reading B
miss >>= f = miss
fatal e >>= f = fatal e
reads x rest >>= f = f (record { value = x; rest = rest })

-- the first reading, or the second if the first misses
infixl 5 ◌otherwise◌
abbrev pub ◌otherwise◌ : {A : Type 0} → Reading A → Reading A → Reading A
miss otherwise r = r
fatal e otherwise r = fatal e
reads x rest otherwise r = reads x rest

-- a part that must be read: if it misses, it has this fault
abbrev pub or_fault : {A : Type 0} → Fault → Reading A → Result (Read A) Fault
or_fault e miss = Err e
or_fault e (fatal d) = Err d
or_fault e (reads x rest) = Ok (record { value = x; rest = rest })
