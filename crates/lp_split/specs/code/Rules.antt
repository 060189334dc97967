-- The dialects of the code, as dialects of the definitions.
use Rattle.lp_split.specs.declared.split.Dialect as code
use Rattle.lp_split.specs.declared.split.Dialect.TheVariants as variants
use Rattle.lp_format.specs.format.Dialects.{Dialect, Crate, Strict, NewlineDelimited}

-- the dialect of the definitions that a dialect of the code means
abbrev pub rules_of : code.Dialect → Dialect
rules_of variants.Crate = Crate
rules_of variants.Strict = Strict
rules_of variants.NewlineDelimited = NewlineDelimited
