-- Raw tokens: the data of a scan about the escapes of a name or a string.
use Rattle.std.specs.Prelude.{◌≡◌, ℕ, Bool, List, length, not}
use Rattle.lp_format.specs.format.{backslash, is_one_of, without_escapes}

-- the data of a scan about a text: how many bytes it has without its escapes, and whether it holds no backslash
pub record IsTold (known text : List ℕ) (len : ℕ) (plain : Bool) : Type 0 where
  pub counts : len ≡ length (without_escapes known text)
  pub tells : plain ≡ not (is_one_of text backslash)
