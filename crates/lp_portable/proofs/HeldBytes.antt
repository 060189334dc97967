-- The bytes that a name holds, escaped or bare.
use Rattle.std.proofs.Common.{◌≡◌, ℕ, ◌<◌, ◌≤◌, List, [], ◌∷◌, ◌++◌, length, if◌then◌else◌, Bool, true, false, ◌||◌, ◌==◌, refl, sym, ap, ◌∙◌, arith, inl, inr, eqb-true, eq-eqb, ne_eqb}
use Rattle.std.specs.List.{list_any}
use Rattle.std.proofs.lemmas.{Bool.cases_Bool, Bool.or_parts, Bool.eqb-false, Bool.false≢true}
use Rattle.lp_format.specs.format.{NameKind, backslash, bare_after, escapable, is_escaped_after, is_one_of, without_escapes}
use Rattle.lp_format.proofs.lemmas.tokens.EscapeLemmas.{is_escaped_push}
use Rattle.lp_portable.specs.format.Spellings.{holds, without_each}
use Rattle.lp_portable.specs.laws.PortableLaws.{BareBytesAreHeld, EscapedBytesAreHeld, MeansTheSame}

-- a disjunction that is false
pub neither : (a b : Bool) → (a || b) ≡ false → (a ≡ false) × (b ≡ false)
neither false b h = (refl, h)
neither true b h = absurd (cc)

-- two sets of escapes that differ only in bytes that are not escaped in a text give one logical text
same_text : (some others xs ys text : List ℕ)
    → ((b : ℕ) → is_one_of some b ≡ false → is_one_of others b ≡ false → is_one_of xs b ≡ is_one_of ys b)
    → holds some [] text ≡ false → holds others [] text ≡ false → without_escapes xs text ≡ without_escapes ys text
unfolding without_escapes holds
same_text some others xs ys [] agree h k = refl
same_text some others xs ys (b ∷ []) agree h k = refl
same_text some others xs ys (b ∷ c ∷ rest) agree h k =
    grind (arith, cases_Bool, or_parts, agree c, same_text some others xs ys rest agree, same_text some others xs ys (c ∷ rest) agree)

-- a byte that is no backslash stays, whatever follows it
stays : (known : List ℕ) (b : ℕ) (text : List ℕ) → (b == backslash) ≡ false → without_each known (b ∷ text) ≡ b ∷ without_each known text
stays known b [] plain = refl
stays known b (c ∷ text) plain = rw plain refl

-- a text without an escaped backslash has one logical text, whether or not a reader takes each backslash by itself
each_alone : (known text : List ℕ) → holds (backslash ∷ []) [] text ≡ false → without_each known text ≡ without_escapes known text
unfolding without_escapes holds
each_alone known [] h = refl
each_alone known (b ∷ []) h = refl
each_alone known (b ∷ c ∷ rest) h = elim (cases_Bool (b == backslash)) [
  | inl slash ↦
      let both = neither _ _ (rw slash at h) in
      let other : (c == backslash) ≡ false = ne_eqb c backslash (λ is. false≢true (sym (neither _ _ both.0).0 ∙ eq-eqb backslash c (sym is))) in
      let more = each_alone known rest both.1 in
      elim (cases_Bool (is_one_of known c)) [
        | inl goes ↦ rw (slash, goes) (ap (λ (t : List ℕ). c ∷ t) more)
        | inr kept ↦ rw (slash, kept) (ap (λ (t : List ℕ). b ∷ t) (stays known c rest other ∙ ap (λ (t : List ℕ). c ∷ t) more))
      ]
  | inr plain ↦ rw plain (ap (λ (t : List ℕ). b ∷ t) (each_alone known (c ∷ rest) (rw plain at h)))
]

-- A text that holds none of some bytes escaped does not hold a single one of these bytes escaped.
not_one : (marks : List ℕ) (c : ℕ) (text : List ℕ) → is_one_of marks c ≡ true → holds marks [] text ≡ false → holds (c ∷ []) [] text ≡ false
unfolding holds
not_one marks c [] mark h = refl
not_one marks c (b ∷ []) mark h = refl
not_one marks c (b ∷ d ∷ rest) mark h = elim (cases_Bool (b == backslash)) [
  | inl slash ↦
      let both = neither _ _ (rw slash at h) in
      let other : (c == d) ≡ false = ne_eqb c d (λ is. false≢true (sym both.0 ∙ ap (is_one_of marks) (sym is) ∙ mark)) in
      rw (slash, other) (not_one marks c rest mark both.1)
  | inr plain ↦ rw plain (not_one marks c (d ∷ rest) mark (rw plain at h))
]

-- A name that holds the bytes of neither of two lists escaped means the same, if the second list has the backslash.
pub without_both : (some others : List ℕ) (kind : NameKind) (name known : List ℕ) → is_one_of others backslash ≡ true
    → ((b : ℕ) → is_one_of some b ≡ false → is_one_of others b ≡ false → is_one_of known b ≡ is_one_of (escapable kind) b)
    → holds some [] name ≡ false → holds others [] name ≡ false
    → (without_escapes known name ≡ without_escapes (escapable kind) name) × (without_each known name ≡ without_escapes (escapable kind) name)
without_both some others kind name known slash agree h k =
    let same = same_text some others known (escapable kind) name agree h k in
    (same, each_alone known name (not_one others backslash name slash k) ∙ same)

-- If a name holds none of these bytes escaped, it means the same to each reader that may escape them.
pub without_marks : (marks : List ℕ) (kind : NameKind) (name : List ℕ) → is_one_of marks backslash ≡ true → holds marks [] name ≡ false
    → MeansTheSame marks kind name
without_marks marks kind name slash h known agree = without_both marks marks kind name known slash (λ b none _. agree b none) h h

-- a disjunction by its second part
or_second : (a b : Bool) → b ≡ true → (a || b) ≡ true
or_second true b h = refl
or_second false b h = h

-- A text that holds some of these bytes escaped holds a single one of them escaped.
one_mark : (marks text : List ℕ) → holds marks [] text ≡ true → (c : ℕ) × (is_one_of marks c ≡ true) × (holds (c ∷ []) [] text ≡ true)
unfolding holds
one_mark marks [] h = absurd (false≢true h)
one_mark marks (b ∷ []) h = absurd (false≢true h)
one_mark marks (b ∷ c ∷ rest) h = elim (cases_Bool (b == backslash)) [
  | inl slash ↦ elim (cases_Bool (is_one_of marks c)) [
    | inl here ↦ (c, here, rw (slash, eq-eqb c c refl) refl)
    | inr other ↦
        let later = one_mark marks rest (rw (slash, other) at h) in
        (later.0, later.1, rw slash (or_second _ _ later.2))
  ]
  | inr plain ↦
      let later = one_mark marks (c ∷ rest) (rw plain at h) in
      (later.0, later.1, rw plain later.2)
]

-- If one more byte may be escaped, the text without escapes is no longer than before, and shorter if this byte is escaped in the text.
shorter : (c : ℕ) (xs ys text : List ℕ) → ((b : ℕ) → (b == c) ≡ false → is_one_of xs b ≡ is_one_of ys b)
    → is_one_of xs c ≡ true → is_one_of ys c ≡ false
    → (length (without_escapes xs text) ≤ length (without_escapes ys text))
    × (holds (c ∷ []) [] text ≡ true → length (without_escapes xs text) < length (without_escapes ys text))
unfolding without_escapes holds
shorter c xs ys [] agree more less = (omega arith, λ h. absurd (false≢true h))
shorter c xs ys (b ∷ []) agree more less = (omega arith, λ h. absurd (false≢true h))
shorter c xs ys (b ∷ d ∷ rest) agree more less =
    let two = shorter c xs ys rest agree more less in
    let one = shorter c xs ys (d ∷ rest) agree more less in
    elim (cases_Bool (b == backslash)) [
      | inl slash ↦ elim (cases_Bool (d == c)) [
        | inl here ↦ let is : d ≡ c = eqb-true d c here in grind arith
        | inr other ↦ let same = agree d other in grind (arith, cases_Bool)
      ]
      | inr plain ↦ grind arith
    ]

-- These bytes without one byte.
abbrev without : ℕ → List ℕ → List ℕ
without c [] = []
without c (b ∷ bytes) = if b == c then without c bytes else b ∷ without c bytes

-- A list of bytes without a byte does not have this byte.
without_it : (c : ℕ) (bytes : List ℕ) → is_one_of (without c bytes) c ≡ false
without_it c [] = refl
without_it c (b ∷ bytes) = elim (cases_Bool (b == c)) [
  | inl here ↦ rw here (without_it c bytes)
  | inr other ↦ rw (other, other) (without_it c bytes)
]

-- A list of bytes without a byte has each other byte that it had.
without_other : (c : ℕ) (bytes : List ℕ) (b : ℕ) → (b == c) ≡ false → is_one_of (without c bytes) b ≡ is_one_of bytes b
without_other c [] b h = refl
without_other c (d ∷ bytes) b h = elim (cases_Bool (d == c)) [
  | inl here ↦
      let is = eqb-true d c here in
      let more = without_other c bytes b h in
      grind (arith, cases_Bool)
  | inr other ↦ rw other (ap (λ (x : Bool). d == b || x) (without_other c bytes b h))
]

-- a byte that is not one of some is not the one that is
not_it : (marks : List ℕ) (b c : ℕ) → is_one_of marks b ≡ false → is_one_of marks c ≡ true → (b == c) ≡ false
not_it marks b c none some = elim (cases_Bool (b == c)) [
  | inl is ↦ absurd (false≢true (sym none ∙ ap (is_one_of marks) (eqb-true b c is) ∙ some))
  | inr other ↦ other
]

-- A name that holds one of these bytes escaped does not mean the same to all readers that may escape them.
with_mark : (marks : List ℕ) (kind : NameKind) (name : List ℕ) → MeansTheSame marks kind name → ¬ (holds marks [] name ≡ true)
with_mark marks kind name same held =
    let (c, mark, here) = one_mark marks name held in
    let known = escapable kind in
    elim (cases_Bool (is_one_of known c)) [
      | inl some ↦
          let fewer = without c known in
          let longer = (shorter c known fewer name (λ b other. sym (without_other c known b other)) some (without_it c known)).1 here in
          omega (arith, longer, ap length (same fewer (λ b none. without_other c known b (not_it marks b c none mark))).0)
      | inr none ↦
          let more = c ∷ known in
          let here_is : is_one_of more c ≡ true = rw (eq-eqb c c refl) refl in
          let agree : (b : ℕ) → (b == c) ≡ false → is_one_of more b ≡ is_one_of known b = λ b other. grind (arith, cases_Bool, eqb-true, eqb-false, other) in
          let longer = (shorter c more known name agree here_is none).1 here in
          omega (arith, longer, ap length (same more (λ b absent. agree b (not_it marks b c absent mark))).0)
    ]

-- A name means the same to readers with other escapes exactly if it holds none of their bytes escaped.
pub escaped_bytes_are_held : EscapedBytesAreHeld
escaped_bytes_are_held marks kind name slash = (
  λ same. elim (cases_Bool (holds marks [] name)) [
    | inl held ↦ absurd (with_mark marks kind name same held)
    | inr none ↦ none
  ],
  without_marks marks kind name slash,
)

-- bytes that come after a bare place, in twos as they are walked over
bare_held : (marks front text : List ℕ) → is_one_of marks backslash ≡ false → is_escaped_after front ≡ false
    → holds [] marks text ≡ list_any (is_one_of marks) (bare_after front text)
unfolding holds
bare_held marks front [] other plain_here = refl
bare_held marks front (b ∷ []) other plain_here = rw plain_here (grind arith)
bare_held marks front (b ∷ c ∷ rest) other plain_here = elim (cases_Bool (b == backslash)) [
  | inl slash ↦
      let is = eqb-true b backslash slash in
      let first : is_escaped_after (front ++ b ∷ []) ≡ true = is_escaped_push front b ∙ grind arith in
      let second : is_escaped_after ((front ++ b ∷ []) ++ c ∷ []) ≡ false = is_escaped_push (front ++ b ∷ []) c ∙ grind arith in
      let more = bare_held marks ((front ++ b ∷ []) ++ c ∷ []) rest other second in
      let none : is_one_of marks b ≡ false = ap (is_one_of marks) is ∙ other in
      rw (plain_here, first, slash, none) more
  | inr plain ↦
      let first : is_escaped_after (front ++ b ∷ []) ≡ false = is_escaped_push front b ∙ grind arith in
      let more = bare_held marks (front ++ b ∷ []) (c ∷ rest) other first in
      rw (plain_here, plain) (ap (λ (x : Bool). is_one_of marks b || x) more)
]

-- a name holds bytes bare exactly if they are among its bare bytes
pub bare_bytes_are_held : BareBytesAreHeld
unfolding is_escaped_after
bare_bytes_are_held marks name other = bare_held marks [] name other refl
