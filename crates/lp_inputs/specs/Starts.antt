-- What the first bytes of an input say of it.
use Rattle.std.specs.Prelude.{ℕ, ◌-◌, List, [], ◌∷◌, ◌++◌, length, take, nat_eq, if◌then◌else◌}
use Rattle.std.specs.List.{starts_with}
use Rattle.lp_inputs.specs.declared.starts.Start.{Start}
use Rattle.lp_inputs.specs.declared.starts.Start.TheVariants.{Text, Gzip, Zstd, ByteOrderMark}

-- what an input is that begins with these bytes
abbrev pub start_of : List ℕ → Start
start_of bytes =
    if starts_with nat_eq bytes (31 ∷ 139 ∷ []) then Gzip
    else (if starts_with nat_eq bytes (40 ∷ 181 ∷ 47 ∷ 253 ∷ []) then Zstd
    else (if starts_with nat_eq bytes (239 ∷ 187 ∷ 191 ∷ []) then ByteOrderMark else Text))

-- the first bytes of an input, of which these were kept, once others come after them: four are kept
abbrev pub first_bytes : (kept more : List ℕ) → List ℕ
first_bytes kept more = kept ++ take (4 - length kept) more
