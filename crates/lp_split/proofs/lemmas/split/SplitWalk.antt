-- A walk over a piece: its region and its counts after one more byte.
use Rattle.std.proofs.Common.{◌≡◌, ◌≢◌, ℕ, ◌+◌, ◌<◌, ◌≤◌, Bool, true, false, cond, eqb, List, [], ◌∷◌, ◌++◌, ◌∙◌, ap, refl, arith, add-zero, ◌&&◌}
use Rattle.std.proofs.Common.{not, count_by, ne_eqb, ◌==◌, ◌||◌}
use Rattle.std.proofs.lemmas.{List.Sums.sum_by-append, Bool.Decides.nat_tests}
use Rattle.lp_split.specs.code.{IsCountOf, Region}
use Rattle.lp_format.specs.format.{is_escaped_after, IsBareAfter, newline, quote, backslash}
use Rattle.lp_format.proofs.lemmas.split.SplitBare.{IsHead-escaped, IsHead-bare, EndsPlain-escaped, EndsPlain-bare, EndsPlain-start}
use Rattle.lp_format.proofs.lemmas.split.SplitBare.{EndsQuoted-escaped, EndsQuoted-bare, EndsQuoted-start, EndsQuoted-close}
use Rattle.lp_format.proofs.lemmas.tokens.EscapeLemmas.{is_escaped_push}
use Rattle.lp_format.specs.format.Bytes.{comma, equals, space}
pub use Rattle.lp_split.specs.declared.split.resumed.Region.{Region}
pub use Rattle.lp_split.specs.declared.split.resumed.Region.TheVariants.{Head, Plain, Quoted}
pub use Rattle.lp_split.specs.code.Tracks.{EndsIn as IsIn}

-- the count of a list with one more element
pub count_by-push : (p : ℕ → Bool) (xs : List ℕ) (b : ℕ) → count_by p (xs ++ b ∷ []) ≡ count_by p xs + cond (p b) 1 0
count_by-push p xs b = omega (arith, sum_by-append (λ x. cond (p x) 1 0) xs (b ∷ []))

-- one more byte is counted if it is `=` or `,`
IsCountOf-push : (counted : List ℕ) (e c b : ℕ) → IsCountOf counted e c
    → IsCountOf (counted ++ b ∷ []) (e + cond (eqb b equals) 1 0) (c + cond (eqb b comma) 1 0)
IsCountOf-push counted e c b h = grind (arith, count_by-push, eqb)

-- one more byte that is neither `=` nor `,` is not counted
IsCountOf-other : (counted : List ℕ) (e c b : ℕ) → IsCountOf counted e c → b ≢ equals → b ≢ comma → IsCountOf (counted ++ b ∷ []) e c
IsCountOf-other counted e c b h n m = grind (arith, count_by-push, eqb, ne_eqb)

-- an escaped byte changes no region and no count
pub IsIn-escaped : (region : Region) (e c : ℕ) (piece : List ℕ) (b : ℕ) → is_escaped_after piece ≡ true
    → IsIn region e c piece → IsIn region e c (piece ++ b ∷ [])
IsIn-escaped region e c piece b h k = grind (arith, IsHead-escaped, EndsPlain-escaped, EndsQuoted-escaped)

-- a bare space ends a head
pub Head-space : (e c : ℕ) (piece : List ℕ) → IsBareAfter piece → IsIn Head e c piece → IsIn Plain e c (piece ++ space ∷ [])
Head-space e c piece f h = (space ∷ [], EndsPlain-start piece h.0 f, IsCountOf-other [] e c space h.1 (omega arith) (omega arith))

-- a bare byte that is neither a space nor a newline stays in the head
pub Head-other : (e c : ℕ) (piece : List ℕ) (b : ℕ) → IsBareAfter piece → b ≢ space → b ≢ newline → IsIn Head e c piece
    → IsIn Head e c (piece ++ b ∷ [])
Head-other e c piece b f n m h = (IsHead-bare piece b h.0 f n m, h.1)

-- a bare byte that is no newline or quote stays in the plain stretch, and counts if it is `=` or `,`
pub Plain-any : (e c : ℕ) (piece : List ℕ) (b : ℕ) → IsBareAfter piece → (b == newline || b == quote) ≡ false → IsIn Plain e c piece
    → IsIn Plain (e + cond (eqb b equals) 1 0) (c + cond (eqb b comma) 1 0) (piece ++ b ∷ [])
Plain-any e c piece b f none h = (
  h.0 ++ b ∷ [],
  EndsPlain-bare b h.1 f (grind (arith, nat_tests)) (λ q. absurd (grind (arith, nat_tests))),
  IsCountOf-push h.0 e c b h.2,
)

-- a bare `=` is counted
pub Plain-equals : (e c : ℕ) (piece : List ℕ) → IsBareAfter piece → IsIn Plain e c piece → IsIn Plain (e + 1) c (piece ++ equals ∷ [])
Plain-equals e c piece f h = rw add-zero at (Plain-any e c piece equals f refl h)

-- a bare `,` is counted
pub Plain-comma : (e c : ℕ) (piece : List ℕ) → IsBareAfter piece → IsIn Plain e c piece → IsIn Plain e (c + 1) (piece ++ comma ∷ [])
Plain-comma e c piece f h = rw add-zero at (Plain-any e c piece comma f refl h)

-- a bare quote after more `=` than `,` opens a string
pub Plain-opens : (e c : ℕ) (piece : List ℕ) → IsBareAfter piece → c < e → IsIn Plain e c piece → IsIn Quoted e c (piece ++ quote ∷ [])
Plain-opens e c piece f l h = (h.0, EndsQuoted-start h.1 f (omega (arith, h.2.equals_is, h.2.commas_is)), h.2)

-- a bare byte stays in the plain stretch if it is no `=`, no `,`, no newline and no quote that opens a string
pub Plain-other : (e c : ℕ) (piece : List ℕ) (b : ℕ) → IsBareAfter piece → b ≢ equals → b ≢ comma → b ≢ newline
    → (b ≡ quote → e ≤ c) → IsIn Plain e c piece → IsIn Plain e c (piece ++ b ∷ [])
Plain-other e c piece b f n m l q h =
    (h.0 ++ b ∷ [], EndsPlain-bare b h.1 f l (λ i m. omega (arith, q i, h.2.equals_is, h.2.commas_is)), IsCountOf-other h.0 e c b h.2 n m)

-- a bare quote closes a string
pub Quoted-closes : (e c : ℕ) (piece : List ℕ) → IsBareAfter piece → IsIn Quoted e c piece → IsIn Plain e c (piece ++ quote ∷ [])
Quoted-closes e c piece f h = (h.0, EndsQuoted-close h.1 f, h.2)

-- a bare byte that is no quote stays in the string
pub Quoted-other : (e c : ℕ) (piece : List ℕ) (b : ℕ) → IsBareAfter piece → b ≢ quote → IsIn Quoted e c piece
    → IsIn Quoted e c (piece ++ b ∷ [])
Quoted-other e c piece b f n h = (h.0, EndsQuoted-bare b h.1 f n, h.2)

-- a bare backslash changes no region and no count
pub IsIn-backslash : (region : Region) (e c : ℕ) (piece : List ℕ) → IsBareAfter piece → IsIn region e c piece → IsIn region e c (piece ++ backslash ∷ [])
IsIn-backslash Head e c piece f h = Head-other e c piece backslash f (omega arith) (omega arith) h
IsIn-backslash Plain e c piece f h = Plain-other e c piece backslash f (omega arith) (omega arith) (omega arith) (λ q. absurd (omega arith)) h
IsIn-backslash Quoted e c piece f h = Quoted-other e c piece backslash f (omega arith) h

-- a bare byte escapes the next byte exactly if it is a backslash
pub escapes_next : (bytes : List ℕ) (b : ℕ) → IsBareAfter bytes → is_escaped_after (bytes ++ b ∷ []) ≡ (b == backslash)
escapes_next bytes b h = is_escaped_push bytes b ∙ ap (λ (t : Bool). not t && b == backslash) h

-- an escaped byte does not escape the next byte
pub then_bare : (bytes : List ℕ) (b : ℕ) → is_escaped_after bytes ≡ true → IsBareAfter (bytes ++ b ∷ [])
then_bare bytes b h = is_escaped_push bytes b ∙ ap (λ (t : Bool). not t && b == backslash) h

-- the rules that lead from a place to the next
pub ruleset byte_steps = (escapes_next, then_bare, IsIn-escaped, IsIn-backslash, Head-space, IsHead-bare, Plain-equals, Plain-comma, Plain-opens, Plain-other, Quoted-closes, Quoted-other)
