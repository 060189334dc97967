-- Loads: the masks that a load shows of the bytes of a text before they are searched.
use Rattle.std.specs.Prelude.{◌≡◌, ℕ, Bool, ◌+◌, ◌<◌, ◌≤◌, ◌==◌, ◌||◌, true, List, length, take}
use Rattle.lp_split.specs.declared.split.Ahead.{Ahead}
use Rattle.lp_format.specs.format.{Dialect, NewlineDelimited, comma, equals, newline, quote, backslash, is_bare_at, is_escaped_after, IsBareAfter}
use Rattle.lp_scan.specs.code.{mask_at, mask_of}
use Rattle.memchr.specs.Find.{is_byte, is_byte3}

-- the masks of `count` bytes, at most 64, from a bare place on: of the bare newlines and quotes, of the bare equals signs and of the bare
-- commas. A bare place comes after these bytes and the byte that they escape.
pub record IsAhead (text : List ℕ) (at : ℕ) (ahead : Ahead) : Type 0 where
  pub starts_bare : IsBareAfter (take at text)
  pub count : ℕ
  pub few : count ≤ 64
  pub within : at + count ≤ ahead.end
  pub near : ahead.end ≤ at + count + 1
  pub fits : ahead.end ≤ length text
  pub is_bare : IsBareAfter (take ahead.end text)
  pub escaped : at + count < ahead.end → is_escaped_after (take (at + count) text) ≡ true
  pub stops_are : ahead.stops ≡ mask_at (is_bare_at (λ b. b == newline || b == quote) text) at count
  pub equals_are : ahead.equals ≡ mask_at (is_bare_at (λ b. b == equals) text) at count
  pub commas_are : ahead.commas ≡ mask_at (is_bare_at (λ b. b == comma) text) at count

-- whether a byte can tell of a cut in a dialect: a newline in the newline-delimited dialect, and a newline, a quote or a backslash in the
-- others
abbrev pub is_mark : Dialect → ℕ → Bool
is_mark NewlineDelimited b = is_byte newline b
is_mark other b = is_byte3 backslash newline quote b

-- `marks` is the mask of the marks among the first bytes of a text, at most 64
pub record AreSeen (dialect : Dialect) (text : List ℕ) (marks : ℕ) : Type 0 where
  pub count : ℕ
  pub within : count ≤ length text
  pub few : count ≤ 64
  pub are : marks ≡ mask_of (is_mark dialect) text 0 count
