-- The key of a series: a text that no other series has, by which series can be grouped and compared.
use Rattle.std.specs.Prelude.{ℕ, ◌*◌, ◌%◌, ◌^◌, List, [], ◌∷◌, ◌++◌, flat_map, fold, if◌then◌else◌}
use Rattle.std.specs.{Borrow.Bor, Cmp.Lexicographic.slice_cmp, Int.Bits.bit_xor, Ordering.is_lt, Ordering.nat_cmp}
use Rattle.lp_format.specs.format.{Tag, built_tag, spelling, a_measurement}

-- an element put before the first element whose key is not less, by bytes
abbrev pub placed_by : {X : Type 0} → (X → List ℕ) → X → List X → List X
placed_by key x [] = x ∷ []
placed_by key x (y ∷ ys) = if is_lt (slice_cmp nat_cmp (key y) (key x)) then y ∷ placed_by key x ys else x ∷ y ∷ ys

-- elements in the order of their keys, by bytes; elements with equal keys stay in their own order
abbrev pub sorted_by : {X : Type 0} → (X → List ℕ) → List X → List X
sorted_by key [] = []
sorted_by key (x ∷ xs) = placed_by key x (sorted_by key xs)

-- the text of a measurement and of tags in this order, as the builder writes them
abbrev pub key_text : List ℕ → List Tag → List ℕ
key_text measurement tags = spelling a_measurement measurement ++ flat_map built_tag tags

-- the key of a series: the text of its measurement and of its tags as the builder writes them, in the order of the tag keys
unfoldable pub series_key : List ℕ → List Tag → List ℕ
series_key measurement tags = key_text measurement (sorted_by (λ t. t.key) tags)

-- the tag of names that are lent
abbrev pub lent_tag : Bor (List ℕ) × Bor (List ℕ) → Tag
lent_tag t = record { key = t.0.now; value = t.1.now }

-- the hash after one more byte, by FNV-1a of 64 bits
abbrev pub hash_byte : ℕ → ℕ → ℕ
hash_byte hash byte = (bit_xor hash byte * 1099511628211) % 2 ^ 64

-- the hash of a text, by FNV-1a of 64 bits
unfoldable pub hash_of : List ℕ → ℕ
hash_of text = fold hash_byte 14695981039346656037 text
