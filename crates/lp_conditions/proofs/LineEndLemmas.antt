-- Pieces that a newline ends, by the walk over their bytes.
use Rattle.std.proofs.Common.{◌≡◌, ◌≢◌, ◌∙◌, ◌↔◌, ◌⊎◌, ◌==◌, ◌&&◌, ◌++◌, ◌∷◌, ◌+◌, ◌<◌, ◌≤◌, [], List, ℕ, Bool, true, false, not, nat_lt, length, IsTrue, All, cond, eqb}
use Rattle.std.proofs.Common.{refl, sym, ap, subst, inl, inr, arith, append-nil, append_assoc, add-zero, if◌then◌else◌}
use Rattle.std.proofs.lemmas.Bool.{cases_Bool, eqb-true, eqb-false, false≢true}
use Rattle.std.proofs.lemmas.Bool.Decides.{nat_tests}
use Rattle.std.proofs.lemmas.List.Elements.{All-cons, All-head, All-nil, All-tail}
use Rattle.lp_format.proofs.lemmas.split.SplitBare.{is_escaped-nil}
use Rattle.lp_format.specs.format.Pieces.{begins_comment}
use Rattle.lp_format.specs.format.{Dialect, Crate, Strict, NewlineDelimited, IsBareAfter, IsClosed, IsCutPiece, IsLastPiece, HasNoNewline, is_escaped_after}
use Rattle.lp_format.specs.format.Bytes.{backslash, comma, equals, newline, quote, space}
use Rattle.lp_format.proofs.lemmas.split.SplitPieces.{IsLastPiece-cut, no_cut_within}
use Rattle.lp_split.proofs.lemmas.split.SplitWalk.{Head-other, Head-space, IsIn-escaped, Plain-any, Plain-opens, Plain-other, Quoted-closes, Quoted-other, escapes_next, then_bare}
use Rattle.lp_split.specs.code.{EndsIn, IsCountOf, Region}
use Rattle.lp_split.specs.declared.split.resumed.Region.TheVariants.{Head, Plain, Quoted}
use Rattle.lp_conditions.specs.LineEnds.{are_on_one_line, counted_on, ends_at_newline, ends_from}

-- whether a newline ends a piece, and whether the walk over the rest of its bytes says so
abbrev TellsEnd : Region → Bool → (e c : ℕ) → (bytes rest : List ℕ) → Type 0
TellsEnd region escaped e c bytes rest = IsTrue (ends_from region escaped e c rest) ↔ IsCutPiece Crate (bytes ++ rest)

-- a byte further
a_byte_on : (region : Region) (escaped : Bool) (e c : ℕ) (bytes : List ℕ) (b : ℕ) (rest : List ℕ) → TellsEnd region escaped e c (bytes ++ b ∷ []) rest
    → IsTrue (ends_from region escaped e c rest) ↔ IsCutPiece Crate (bytes ++ b ∷ rest)
a_byte_on region escaped e c bytes b rest = subst (λ t. IsTrue (ends_from region escaped e c rest) ↔ IsCutPiece Crate t) (append_assoc bytes (b ∷ []) rest)

-- after a newline that ends a piece there is none that goes on with it
not_after : (bytes rest : List ℕ) → IsClosed bytes → IsBareAfter bytes → IsTrue false ↔ IsCutPiece Crate (bytes ++ newline ∷ rest)
not_after bytes rest closed is_bare =
    (λ never. absurd (false≢true never), λ cut. absurd (no_cut_within Crate bytes rest (closed, is_bare) (IsLastPiece-cut Crate _ cut)))

-- in its head a piece is closed
closed_head : (e c : ℕ) (bytes : List ℕ) → EndsIn Head e c bytes → IsClosed bytes
closed_head e c bytes h = inl h.0

-- in a plain stretch it is closed too
closed_plain : (e c : ℕ) (bytes : List ℕ) → EndsIn Plain e c bytes → IsClosed bytes
closed_plain e c bytes h = inr (h.0, h.1)

-- in a string no newline ends a piece
open_quoted : (e c : ℕ) (bytes : List ℕ) → EndsIn Quoted e c bytes → ¬ IsCutPiece Crate bytes
open_quoted e c bytes h cut =
    let more = Quoted-other e c bytes newline cut.1 (omega arith) h in
    no_cut_within Crate bytes [] cut (inr (more.0, more.1))

-- a quote opens a string after more `=` than `,`
opened : (e c : ℕ) (bytes : List ℕ) (b : ℕ) → IsBareAfter bytes → (b == quote && nat_lt c e) ≡ true → EndsIn Plain e c bytes
    → EndsIn Quoted (counted_on equals e b) (counted_on comma c b) (bytes ++ b ∷ [])
opened e c bytes b is opens h =
    elim (cases_Bool (b == quote)) [
      | inl quoted ↦
          let more : nat_lt c e ≡ true = rw quoted at opens in
          rw (eqb-true b quote quoted, add-zero, add-zero) (Plain-opens e c bytes is (grind (arith, nat_tests)) h)
      | inr other ↦ absurd (false≢true (rw other at opens))
    ]

-- another byte stays in the plain stretch
still_plain : (e c : ℕ) (bytes : List ℕ) (b : ℕ) → IsBareAfter bytes → (b == newline) ≡ false → (b == quote && nat_lt c e) ≡ false → EndsIn Plain e c bytes
    → EndsIn Plain (counted_on equals e b) (counted_on comma c b) (bytes ++ b ∷ [])
still_plain e c bytes b is on stays h =
    elim (cases_Bool (b == quote)) [
      | inl quoted ↦
          let few : nat_lt c e ≡ false = rw quoted at stays in
          rw (eqb-true b quote quoted, add-zero, add-zero)
          (Plain-other e c bytes quote is (omega arith) (omega arith) (omega arith) (λ _. grind (arith, nat_tests)) h)
      | inr other ↦ Plain-any e c bytes b is (rw (on, other) refl) h
    ]

-- the walk over the rest of a piece tells whether a newline ends it
walk : (region : Region) (escaped : Bool) (e c : ℕ) (bytes rest : List ℕ) → is_escaped_after bytes ≡ escaped → EndsIn region e c bytes
    → TellsEnd region escaped e c bytes rest
walk Quoted escaped e c bytes [] is h = (λ never. absurd (false≢true never), λ cut. absurd (open_quoted e c bytes h (subst (IsCutPiece Crate) (append-nil bytes) cut)))
walk Head true e c bytes [] is h = (λ never. absurd (false≢true never), λ cut. absurd (false≢true (sym cut.1 ∙ (rw append-nil is))))
walk Head false e c bytes [] is h = rw append-nil (λ yes. (closed_head e c bytes h, is), λ cut. refl)
walk Plain true e c bytes [] is h = (λ never. absurd (false≢true never), λ cut. absurd (false≢true (sym cut.1 ∙ (rw append-nil is))))
walk Plain false e c bytes [] is h = rw append-nil (λ yes. (closed_plain e c bytes h, is), λ cut. refl)
walk Head true e c bytes (b ∷ rest) is h =
    a_byte_on Head false e c bytes b rest (walk Head false e c (bytes ++ b ∷ []) rest (then_bare bytes b is) (IsIn-escaped Head e c bytes b is h))
walk Plain true e c bytes (b ∷ rest) is h =
    a_byte_on Plain false e c bytes b rest (walk Plain false e c (bytes ++ b ∷ []) rest (then_bare bytes b is) (IsIn-escaped Plain e c bytes b is h))
walk Quoted true e c bytes (b ∷ rest) is h =
    a_byte_on Quoted false e c bytes b rest (walk Quoted false e c (bytes ++ b ∷ []) rest (then_bare bytes b is) (IsIn-escaped Quoted e c bytes b is h))
walk Head false e c bytes (b ∷ rest) is h =
    elim (cases_Bool (b == newline)) [
      | inl end ↦ rw (eqb-true b newline end) (not_after bytes rest (closed_head e c bytes h) is)
      | inr on ↦ elim (cases_Bool (b == space)) [
        | inl blank ↦
            rw (on, blank)
            (a_byte_on Plain (b == backslash) e c bytes b rest (walk Plain (b == backslash) e c (bytes ++ b ∷ []) rest (escapes_next bytes b is)
            (rw (eqb-true b space blank) (Head-space e c bytes is h))))
        | inr other ↦
            rw (on, other)
            (a_byte_on Head (b == backslash) e c bytes b rest (walk Head (b == backslash) e c (bytes ++ b ∷ []) rest (escapes_next bytes b is)
            (Head-other e c bytes b is (eqb-false b space other) (eqb-false b newline on) h)))
      ]
    ]
walk Plain false e c bytes (b ∷ rest) is h =
    elim (cases_Bool (b == newline)) [
      | inl end ↦ rw (eqb-true b newline end) (not_after bytes rest (closed_plain e c bytes h) is)
      | inr on ↦ elim (cases_Bool (b == quote && nat_lt c e)) [
        | inl opens ↦
            rw (on, opens)
            (a_byte_on Quoted (b == backslash) (counted_on equals e b) (counted_on comma c b) bytes b rest
            (walk Quoted (b == backslash) (counted_on equals e b) (counted_on comma c b) (bytes ++ b ∷ []) rest (escapes_next bytes b is)
            (opened e c bytes b is opens h)))
        | inr stays ↦
            rw (on, stays)
            (a_byte_on Plain (b == backslash) (counted_on equals e b) (counted_on comma c b) bytes b rest
            (walk Plain (b == backslash) (counted_on equals e b) (counted_on comma c b) (bytes ++ b ∷ []) rest (escapes_next bytes b is)
            (still_plain e c bytes b is on stays h)))
      ]
    ]
walk Quoted false e c bytes (b ∷ rest) is h =
    elim (cases_Bool (b == quote)) [
      | inl closes ↦
          rw closes
          (a_byte_on Plain (b == backslash) e c bytes b rest (walk Plain (b == backslash) e c (bytes ++ b ∷ []) rest (escapes_next bytes b is)
          (rw (eqb-true b quote closes) (Quoted-closes e c bytes is h))))
      | inr other ↦
          rw other
          (a_byte_on Quoted (b == backslash) e c bytes b rest (walk Quoted (b == backslash) e c (bytes ++ b ∷ []) rest (escapes_next bytes b is)
          (Quoted-other e c bytes b is (eqb-false b quote other) h)))
    ]

-- whether bytes are on one line, by the test of each
on_one_line : (bytes : List ℕ) → IsTrue (are_on_one_line bytes) ↔ HasNoNewline bytes
on_one_line [] = (λ _. All-nil (λ b. b ≢ newline), λ _. refl)
on_one_line (b ∷ bytes) =
    let others = on_one_line bytes in
    elim (cases_Bool (b == newline)) [
      | inl end ↦ rw end (λ never. absurd (false≢true never), λ none. absurd (All-head (λ d. d ≢ newline) b bytes none (eqb-true b newline end)))
      | inr on ↦
          rw on (
            λ yes. All-cons (λ d. d ≢ newline) b bytes (eqb-false b newline on) (others.0 yes),
            λ none. others.1 (All-tail (λ d. d ≢ newline) b bytes none),
          )
    ]

-- the walk over a whole piece
whole : (piece : List ℕ) → IsTrue (ends_from Head false 0 0 piece) ↔ IsCutPiece Crate piece
whole piece = walk Head false 0 0 [] piece is_escaped-nil (All-nil _, record { equals_is = refl; commas_is = refl })

-- the test of a piece by the strict rules, whether it begins a comment or not
by_comment : (piece : List ℕ) (comment : Bool) → begins_comment piece ≡ comment
    → IsTrue (if comment then are_on_one_line piece else ends_from Head false 0 0 piece) ↔ IsCutPiece Strict piece
by_comment piece true is =
    let line = on_one_line piece in (
      λ yes. inl (is, line.0 yes),
      λ (cut : IsCutPiece Strict piece). elim cut [ inl of ↦ line.1 of.1 | inr of ↦ absurd (false≢true (sym of.0 ∙ is)) ],
    )
by_comment piece false is =
    let line = whole piece in (
      λ yes. inr (is, (line.0 yes).0, (line.0 yes).1),
      λ (cut : IsCutPiece Strict piece). elim cut [ inl of ↦ absurd (false≢true (sym is ∙ of.0)) | inr of ↦ line.1 (of.1, of.2) ],
    )

-- the test of a piece is whether a newline ends it
pub ends_exactly : (dialect : Dialect) (piece : List ℕ) → IsTrue (ends_at_newline dialect piece) ↔ IsCutPiece dialect piece
ends_exactly Crate piece = whole piece
ends_exactly Strict piece = by_comment piece (begins_comment piece) refl
ends_exactly NewlineDelimited piece = on_one_line piece

-- another test of that is the same
pub test_is : (dialect : Dialect) (piece : List ℕ) (test : Bool) → (IsTrue test ↔ IsCutPiece dialect piece) → test ≡ ends_at_newline dialect piece
test_is dialect piece test is =
    let exact = ends_exactly dialect piece in
    same_test test (ends_at_newline dialect piece) (λ t. exact.1 (is.0 t)) (λ t. is.1 (exact.0 t))
  where
    -- two tests that hold together are the same
    same_test : (a b : Bool) → (IsTrue a → IsTrue b) → (IsTrue b → IsTrue a) → a ≡ b
    same_test true b there back = sym (there refl)
    same_test false true there back = back refl
    same_test false false there back = refl
