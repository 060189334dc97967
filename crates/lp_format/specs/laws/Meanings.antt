-- The meanings of the computing definitions: relations that say the same, and the statements of the laws that tie the two.
use Rattle.std.specs.Prelude.{◌≡◌, ◌≢◌, ◌↔◌, ℕ, ◌<◌, ◌≤◌, ◌==◌, Bool, false, true, List, [], ◌∷◌, ◌++◌, length, take, All, Contains}
use Rattle.lp_format.specs.format.{tab, newline, space, quote, hash, comma, backslash, is_one_of, bare, without_escapes, IsBareAfter}
use Rattle.lp_format.specs.format.{NameKind, is_stop, spelled, body_len, IsFloat, float_len, word_len, Fault, Reading, miss, fatal, reads}
use Rattle.lp_format.specs.format.{trimmed, separated_list}
use Rattle.lp_format.specs.code.Light.{read_count}

-- the logical text of a text in which a backslash may escape the known bytes
pub data IsLogical (known : List ℕ) : List ℕ → List ℕ → Type 0 where
  -- the logical text of the empty text is empty
  empty : IsLogical known [] []
  -- a byte that is no backslash stays
  plain : (b : ℕ) (spelled logical : List ℕ) → b ≢ backslash → IsLogical known spelled logical → IsLogical known (b ∷ spelled) (b ∷ logical)
  -- a backslash before a known byte goes, and the known byte stays
  escape : (c : ℕ) (spelled logical : List ℕ) → is_one_of known c ≡ true → IsLogical known spelled logical
      → IsLogical known (backslash ∷ c ∷ spelled) (c ∷ logical)
  -- a backslash before another byte stays, and the other byte stays
  other : (c : ℕ) (spelled logical : List ℕ) → is_one_of known c ≡ false → IsLogical known spelled logical
      → IsLogical known (backslash ∷ c ∷ spelled) (backslash ∷ c ∷ logical)
  -- a backslash at the end of the text stays
  end : IsLogical known (backslash ∷ []) (backslash ∷ [])

-- Each text has exactly one logical text, whichever bytes are known: the text without escapes.
abbrev pub LogicalIsWithoutEscapes : Type 0
LogicalIsWithoutEscapes = (known spelled logical : List ℕ) → IsLogical known spelled logical ↔ (logical ≡ without_escapes known spelled)

-- the elements `xs`, each after a comma, are at the start of `text`, and `rest` follows them
abbrev pub SeparatedAfterComma : {A : Type 0} → (List ℕ → Reading A) → List A → List ℕ → List ℕ → Type 0
SeparatedAfterComma one [] text rest = text ≡ rest
SeparatedAfterComma one (x ∷ xs) text rest =
    (suffix after : List ℕ) × (text ≡ comma ∷ suffix) × (one suffix ≡ reads x after) × SeparatedAfterComma one xs after rest

-- the elements `xs`, joined by commas, are at the start of `text`, and `rest` follows them
abbrev pub SeparatedBy : {A : Type 0} → (List ℕ → Reading A) → List A → List ℕ → List ℕ → Type 0
SeparatedBy one [] text rest = text ≡ rest
SeparatedBy one (x ∷ xs) text rest = (after : List ℕ) × (one text ≡ reads x after) × SeparatedAfterComma one xs after rest

-- the elements `xs`, joined by commas, are at the start of `text`, and no greater number of elements is there
pub record LongestList {A : Type 0} (one : List ℕ → Reading A) (text : List ℕ) (xs : List A) (rest : List ℕ) : Type 0 where
  pub separated : SeparatedBy one xs text rest
  pub most : (others : List A) (after : List ℕ) → SeparatedBy one others text after → length others ≤ length xs

-- the element after `xs` has this fault: it is at the start if `xs` is empty, and else after a comma
abbrev pub NextHasFault : {A : Type 0} → (List ℕ → Reading A) → List A → List ℕ → Fault → Type 0
NextHasFault one [] rest e = one rest ≡ fatal e
NextHasFault one (x ∷ xs) rest e = (after : List ℕ) × (rest ≡ comma ∷ after) × (one after ≡ fatal e)

-- the elements `xs` are one or more, the most that are at the start of `text`, and the element after them has no fault
pub record WholeList {A : Type 0} (one : List ℕ → Reading A) (text : List ℕ) (xs : List A) (rest : List ℕ) : Type 0 where
  pub some : 0 < length xs
  pub longest : LongestList one text xs rest
  pub no_fault : (e : Fault) → ¬ NextHasFault one xs rest e

-- A list is read exactly if its elements are one or more, the most that are at the start of the text, joined by commas, and the element after
-- them has no fault.
abbrev pub TheMostIsRead : {A : Type 0} → (List ℕ → Reading A) → Type 0
TheMostIsRead {A} one =
    (text : List ℕ) (xs : List A) (rest : List ℕ) → (separated_list one text ≡ reads xs rest) ↔ WholeList one text xs rest

-- A list has a fault exactly if the element after the most elements that are at the start of the text has this fault.
abbrev pub TheNextHasTheFault : {A : Type 0} → (List ℕ → Reading A) → Type 0
TheNextHasTheFault {A} one =
    (text : List ℕ) (e : Fault)
    → (separated_list one text ≡ fatal e) ↔ ((xs : List A) × (rest : List ℕ) × LongestList one text xs rest × NextHasFault one xs rest e)

-- A list misses exactly if its first element misses.
abbrev pub TheFirstMisses : {A : Type 0} → (List ℕ → Reading A) → Type 0
TheFirstMisses one = (text : List ℕ) → (separated_list one text ≡ miss) ↔ (one text ≡ miss)

-- The count of a list is the greatest number of elements that are at the start of the text, joined by commas, whatever follows them.
abbrev pub CountIsOfTheMost : {A : Type 0} → (List ℕ → Reading A) → Type 0
CountIsOfTheMost {A} one =
    (text : List ℕ) → (xs : List A) × (rest : List ℕ) × LongestList one text xs rest × (read_count one text ≡ length xs)

-- the end of a line: nothing, or a text that begins with a newline
abbrev pub IsLineEnd : List ℕ → Type 0
IsLineEnd [] = Unit {0}
IsLineEnd (b ∷ rest) = b ≡ newline

-- a front of blanks and comments, if `after` follows it: each comment takes all of its line
pub data IsBlankFront : List ℕ → List ℕ → Type 0 where
  -- the empty front
  empty : (after : List ℕ) → IsBlankFront [] after
  -- a space, a tab or a newline before a front of blanks and comments
  blank : (b : ℕ) (front after : List ℕ) → is_one_of (space ∷ tab ∷ newline ∷ []) b ≡ true
      → IsBlankFront front after → IsBlankFront (b ∷ front) after
  -- a comment up to the end of its line, before a front of blanks and comments
  comment : (text front after : List ℕ) → All (λ b. b ≢ newline) text → IsLineEnd (front ++ after)
      → IsBlankFront front after → IsBlankFront (hash ∷ text ++ front) after

-- A piece is a front of blanks and comments, and then its trimmed text.
abbrev pub TrimmedIsAfterBlanks : Type 0
TrimmedIsAfterBlanks = (piece : List ℕ) → (front : List ℕ) × (piece ≡ front ++ trimmed piece) × IsBlankFront front (trimmed piece)

-- No front of blanks and comments of a piece is longer than the front before its trimmed text.
abbrev pub TrimmedFrontIsLongest : Type 0
TrimmedFrontIsLongest =
    (piece front other after : List ℕ)
    → piece ≡ front ++ trimmed piece → piece ≡ other ++ after → IsBlankFront other after → length other ≤ length front

-- the text after `front` is empty or begins with a bare byte that passes
abbrev pub IsAtStop : (ℕ → Bool) → List ℕ → List ℕ → Type 0
IsAtStop passes front [] = Unit {0}
IsAtStop passes front (b ∷ rest) = IsBareAfter front × (passes b ≡ true)

-- `front` ends before the first bare byte that passes, or is the whole text if there is none
pub record IsBeforeStop (passes : ℕ → Bool) (front after : List ℕ) : Type 0 where
  pub none : All (λ b. passes b ≡ false) (bare front)
  pub at_stop : IsAtStop passes front after

-- A front of a text is its spelled name exactly if the front ends before the first bare byte that ends a name of this kind, or is the whole
-- text if there is none.
abbrev pub NameEndsBeforeStop : Type 0
NameEndsBeforeStop =
    (kind : NameKind) (front after : List ℕ)
    → (spelled kind (front ++ after) ≡ front) ↔ IsBeforeStop (is_stop kind) front after

-- A front of a text is the body of a string exactly if the front ends before the first bare quote after the opening one, or is the whole text
-- if there is none.
abbrev pub BodyEndsBeforeQuote : Type 0
BodyEndsBeforeQuote =
    (front after : List ℕ)
    → (take (body_len (front ++ after)) (front ++ after) ≡ front) ↔ IsBeforeStop (λ b. b == quote) front after

-- The bytes of the longest float at the start of a text are a float literal.
abbrev pub FloatFrontIsFloat : Type 0
FloatFrontIsFloat = (text : List ℕ) → 0 < float_len text → IsFloat (take (float_len text) text)

-- No float literal at the start of a text is longer than its longest float.
abbrev pub FloatFrontIsLongest : Type 0
FloatFrontIsLongest = (text : List ℕ) (n : ℕ) → n ≤ length text → IsFloat (take n text) → n ≤ float_len text

-- The bytes of the longest word at the start of a text are one of the words.
abbrev pub WordFrontIsWord : Type 0
WordFrontIsWord = (words : List (List ℕ)) (text : List ℕ) → 0 < word_len words text → Contains words (take (word_len words text) text)

-- No word at the start of a text is longer than its longest word.
abbrev pub WordFrontIsLongest : Type 0
WordFrontIsLongest =
    (words : List (List ℕ)) (text : List ℕ) (n : ℕ) → n ≤ length text → Contains words (take n text) → n ≤ word_len words text
