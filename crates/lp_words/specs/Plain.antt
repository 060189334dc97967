-- Words in one order: options with their values, a mark, and the names of inputs.
use Rattle.std.specs.Prelude.{ℕ, ◌+◌, ◌==◌, ◌||◌, take, drop, Bool, List, [], ◌∷◌, ◌++◌, bytes_eq, codes, fold, map, is_none, if◌then◌else◌}
use Rattle.std.specs.{Borrow.Bor, List.list_any, List.position, Option.option_map_or}
use Rattle.lp_words.specs.declared.plain.{Next.Next, Next.TheVariants.Any, Next.TheVariants.Value, Next.TheVariants.Named, Sorting.Sorting}
use Rattle.lp_words.specs.Options.{names_input}

-- texts as they stand in words
abbrev pub texts : List (Bor (List ℕ)) → List (List ℕ)
texts words = map (λ word. word.now) words

-- the words that came so far: options with their values, names of inputs, and what the next word is
pub record Order : Type 0 where
  pub options : List (List ℕ)
  pub names : List (List ℕ)
  pub next : Next

-- no word came
abbrev pub no_order : Order
no_order = record { options = []; names = []; next = Any }

-- whether a word is one of these options, which have a value after them
abbrev pub has_value : (valued : List (Bor (List ℕ))) → List ℕ → Bool
has_value valued word = list_any (λ option. bytes_eq option.now word) valued

-- an option and its value, if one of these is in a word, with `=` between them; else the word
abbrev pub parted : (valued : List (Bor (List ℕ))) → List ℕ → List (List ℕ)
parted valued word =
    option_map_or (λ at. if has_value valued (take at word) then take at word ∷ drop (at + 1) word ∷ [] else word ∷ [])
    (position (λ b. b == 61) word) (word ∷ [])

-- the order with a word that may be anything: the mark that only names come after, a name, an option that has a value after it, or
-- another option
abbrev pub with_any : (valued : List (Bor (List ℕ))) → Order → List ℕ → Order
with_any valued order word =
    if bytes_eq word (codes "--") then record order { next = Named }
    else (if bytes_eq word [] || names_input word then record order { names = order.names ++ word ∷ [] }
    else (if has_value valued word then record order { options = order.options ++ word ∷ []; next = Value }
    else record order { options = order.options ++ parted valued word }))

-- the order with one more word, which may be anything, is the value of an option, or a name
abbrev pub with_next : (valued : List (Bor (List ℕ))) → Order → Next → List ℕ → Order
with_next valued order Any word = with_any valued order word
with_next valued order Value word = record order { options = order.options ++ word ∷ []; next = Any }
with_next valued order Named word = record order { names = order.names ++ word ∷ [] }

-- the same, of which the order says what it is
abbrev pub with_word : (valued : List (Bor (List ℕ))) → Order → List ℕ → Order
with_word valued order word = with_next valued order order.next word

-- the options with their values, the mark, and the names of inputs
abbrev pub in_order : Order → List (List ℕ)
in_order order = order.options ++ codes "--" ∷ order.names

-- words in one order, of which these options have a value
abbrev pub plain_words : (valued : List (Bor (List ℕ))) → (words : List (List ℕ)) → List (List ℕ)
plain_words valued words = in_order (fold (with_word valued) no_order words)

-- the words that came so far, as the code holds them
abbrev pub order_of : Sorting → Order
order_of sorting = record { options = texts sorting.options.items; names = texts sorting.names.items; next = sorting.next }
