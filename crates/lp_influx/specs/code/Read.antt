-- The results of the reader in code, as results of the definitions.
use Rattle.std.specs.Prelude.{◌≡◌, ℕ, ◌+◌, ◌==◌, ◌&&◌, Bool, true, false, not, List, ◌∷◌, Option, Some, None, if◌then◌else◌, nat_lt}
use Rattle.std.specs.Borrow.{Bor}
use Rattle.lp_format.specs.format.{Pair, Reading, Text, Value, backslash, boolean, comma, equals, float, integer, miss, quotable, read_text, quote, reads, space, string, unsigned}
use Rattle.lp_influx.specs.format.InfluxFields.{a_backslash, a_byte, a_divider, after_fields, an_escape, has_value}
use Rattle.lp_influx.specs.format.InfluxFields as fields
use Rattle.lp_influx.specs.declared.{fields.Before.Before, fields.Scan.Scan, fields.Step.Step}
use Rattle.lp_influx.specs.declared.fields.Before.TheVariants.{Escape, Backslash, Divider, Byte}
use Rattle.lp_influx.specs.declared.fields.Step.TheVariants.{Refused, Ended, On}
use Rattle.lp_influx.specs.declared.read.Spelled.{Spelled}
use Rattle.lp_influx.specs.declared.read.Spelled.TheVariants.{Integer, Unsigned, Float, Quoted, Boolean}

-- With a result, viewed in this way, the reading gives this result. Without a result, the reading misses.
abbrev pub Gives : {X A : Type 0} → (X → A) → Option (X × Bor (List ℕ)) → Reading A → Type 0
Gives view None reading = reading ≡ miss
Gives view (Some p) reading = reading ≡ reads (view p.0) p.1.now

-- The key and the value of a lent tag.
abbrev pub spelled_tag : Bor (List ℕ) × Bor (List ℕ) → Pair (List ℕ) (List ℕ)
spelled_tag t = record { key = t.0.now; value = t.1.now }

-- The value of the definitions for a value as it is spelled.
abbrev pub spelled_value : Spelled → Value Text
spelled_value (Integer z) = integer z
spelled_value (Unsigned n) = unsigned n
spelled_value (Float literal) = float literal.now
spelled_value (Quoted body) = string (read_text quotable body.now)
spelled_value (Boolean b) = boolean b

-- The key and the value of a lent field.
abbrev pub spelled_field : Bor (List ℕ) × Spelled → Pair (List ℕ) (Value Text)
spelled_field f = record { key = f.0.now; value = spelled_value f.1 }

-- The byte directly before a byte of the fields, as the definitions name it.
abbrev pub before_of : Before → fields.Before
before_of Escape = an_escape
before_of Backslash = a_backslash
before_of Divider = a_divider
before_of Byte = a_byte

-- The text after the fields, if the first scan goes on from this state.
abbrev pub goes_on : Scan → List ℕ → Option (List ℕ)
goes_on s text = after_fields s.signs s.commas s.quoted (before_of s.before) text

-- The text after the fields, if the first scan goes on after the step for this byte.
abbrev pub on_from : Step → ℕ → List ℕ → Option (List ℕ)
on_from Refused b rest = None
on_from Ended b rest = Some (b ∷ rest)
on_from (On s) b rest = goes_on s rest

-- The number of equals signs and commas so far.
abbrev pub counts_in : Step → ℕ
counts_in (On s) = s.signs + s.commas
counts_in other = 0

-- The text after the fields, after an equals sign outside of quotes.
abbrev pub after_sign : Scan → List ℕ → Option (List ℕ)
after_sign s rest = if has_key s.before && has_value rest then after_fields (s.signs + 1) s.commas s.quoted a_byte rest else None
  where
    has_key : Before → Bool
    has_key Divider = false
    has_key before = true

-- The state of the first scan after a comma outside of quotes.
abbrev pub after_comma_of : Scan → Scan
after_comma_of s = record s { commas = s.commas + 1; before = divider s.before }
  where
    divider : Before → Before
    divider Backslash = Byte
    divider before = Divider

-- The text after the fields, after any byte outside of quotes that is not escaped.
abbrev pub after_bare : Scan → ℕ → List ℕ → Option (List ℕ)
after_bare s b rest =
    if b == equals then after_sign s rest
    else if b == space then if s.signs == s.commas + 1 then Some (b ∷ rest) else None
    else if b == comma then goes_on (after_comma_of s) rest else after_fields s.signs s.commas s.quoted a_byte rest

-- The text after the fields, after a byte that is not escaped.
abbrev pub after_plain : Scan → ℕ → List ℕ → Option (List ℕ)
after_plain s b rest =
    if b == backslash then after_fields s.signs s.commas s.quoted an_escape rest
    else if b == quote && nat_lt s.commas s.signs then after_fields s.signs s.commas (not s.quoted) a_byte rest
    else if s.quoted then after_fields s.signs s.commas true a_byte rest else after_bare s b rest
