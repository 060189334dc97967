-- The first bare byte that passes a test, found from left to right, and the front before it.
use Rattle.std.proofs.Common.{◌≡◌, ◌↔◌, ℕ, suc, ◌≤◌, List, [], ◌∷◌, ◌++◌, length, take, Bool, true, false, not, ◌&&◌, cond, refl, sym, ap}
use Rattle.std.proofs.Common.{◌∙◌, subst, ◌==◌, append_assoc, append-nil, length-append, length-take, All, arith}
use Rattle.std.specs.List.{position_or_len, range_with_len}
use Rattle.std.proofs.lemmas.Bool.{cases_Bool, and_parts, and_right, not-true}
use Rattle.std.proofs.lemmas.List.{FromFn.length-range_with_len, Sums.prefix_len-le-length}
use Rattle.std.proofs.Math.Seq.{get_or-append_seam, take-append_seam}
use Rattle.lp_format.specs.format.{backslash, bare_after, first_bare, is_bare_at, is_escaped_after}
use Rattle.lp_format.specs.laws.Meanings.{IsAtStop, IsBeforeStop}
use Rattle.lp_format.proofs.lemmas.{split.SplitBare.is_escaped-nil, tokens.EscapeLemmas.is_escaped_push}

-- the number of bytes before the first bare byte that passes, by whether the first byte of the text is escaped
abbrev pub bare_len : (ℕ → Bool) → Bool → List ℕ → ℕ
bare_len passes escaped [] = 0
bare_len passes escaped (b ∷ text) = cond (passes b && not escaped) 0 (suc (bare_len passes (not escaped && b == backslash) text))

module _ (passes : ℕ → Bool) where
  -- `bare_len` is the number of bytes after a front before the first bare byte that passes
  after_front : (front text : List ℕ)
      → position_or_len (is_bare_at passes (front ++ text)) (range_with_len (length front) (length text))
      ≡ bare_len passes (is_escaped_after front) text
  after_front front [] = refl
  after_front front (b ∷ text) =
      let more = after_front (front ++ b ∷ []) text in
      grind (arith, get_or-append_seam, take-append_seam, length-append, append_assoc, is_escaped_push, cases_Bool)

  -- `first_bare` and `bare_len` give the same number
  pub first_bare_len : (text : List ℕ) → first_bare passes text ≡ bare_len passes false text
  unfolding first_bare
  first_bare_len text = after_front [] text ∙ ap (λ (e : Bool). bare_len passes e text) is_escaped-nil

  -- all of these bytes fail the test
  abbrev AllFail : List ℕ → Type 0
  AllFail bytes = All (λ b. passes b ≡ false) bytes

  -- a byte is escaped or fails the test, if all bare bytes from it on fail
  first_fails : (e : Bool) (b : ℕ) (rest : List ℕ) → AllFail (cond e [] (b ∷ []) ++ rest) → (passes b && not e) ≡ false
  first_fails e b rest h = grind (arith, and_right)

  -- the bare bytes after the first byte fail the test, if all bare bytes do
  others_fail : (e : Bool) (b : ℕ) (rest : List ℕ) → AllFail (cond e [] (b ∷ []) ++ rest) → AllFail rest
  others_fail true b rest h = h
  others_fail false b rest h = λ k d l. h (suc k) d (omega arith)

  -- one more byte before the stop makes `bare_len` one greater
  len_more : (p : List ℕ) (b : ℕ) (rest : List ℕ) → (passes b && not (is_escaped_after p)) ≡ false
      → bare_len passes (is_escaped_after p) (b ∷ rest) ≡ suc (bare_len passes (is_escaped_after (p ++ b ∷ [])) rest)
  len_more p b rest h = rw h (ap (λ (e : Bool). suc (bare_len passes e rest)) (sym (is_escaped_push p b)))

  -- the front before the stop has `bare_len` bytes
  stop_len : (p front after : List ℕ) → AllFail (bare_after p front) → IsAtStop passes (p ++ front) after
      → bare_len passes (is_escaped_after p) (front ++ after) ≡ length front
  stop_len p [] [] none at = refl
  stop_len p [] (b ∷ after) none at = grind (arith, append-nil)
  stop_len p (b ∷ front) after none at =
      let here = first_fails (is_escaped_after p) b (bare_after (p ++ b ∷ []) front) none in
      let others = others_fail (is_escaped_after p) b (bare_after (p ++ b ∷ []) front) none in
      let there = subst (λ (t : List ℕ). IsAtStop passes t after) (sym (append_assoc p (b ∷ []) front)) at in
      len_more p b (front ++ after) here ∙ ap suc (stop_len (p ++ b ∷ []) front after others there)

  -- a front of `bare_len` bytes ends before the stop
  before_by : (p front after : List ℕ) → bare_len passes (is_escaped_after p) (front ++ after) ≡ length front
      → AllFail (bare_after p front) × IsAtStop passes (p ++ front) after
  before_by p [] [] h = grind (arith, append-nil)
  before_by p [] (b ∷ after) h = grind (arith, append-nil, cases_Bool, and_parts, not-true)
  before_by p (b ∷ front) after h = grind (arith, cases_Bool, append_assoc, len_more, (before_by (p ++ b ∷ []) front after))

  -- `first_bare` is `bare_len` at the start of a text
  first_len : (text : List ℕ) → first_bare passes text ≡ bare_len passes (is_escaped_after []) text
  first_len text = first_bare_len text ∙ ap (λ (e : Bool). bare_len passes e text) (sym is_escaped-nil)

  -- the first bare byte that passes is in the text, or the number is the length of the text
  first_fits : (text : List ℕ) → first_bare passes text ≤ length text
  unfolding first_bare
  first_fits text = grind (arith, prefix_len-le-length, length-range_with_len)

  -- a front of a text ends before the first bare byte that passes exactly if it has `first_bare` bytes
  pub before_stop : (front after : List ℕ) → (take (first_bare passes (front ++ after)) (front ++ after) ≡ front)
      ↔ IsBeforeStop passes front after
  before_stop front after = (
    (λ h.
        let fits = first_fits (front ++ after) in
        let len : first_bare passes (front ++ after) ≡ length front = grind (arith, length-take) in
        let b = before_by [] front after (sym (first_len (front ++ after)) ∙ len) in
        record { none = b.0; at_stop = b.1 }),
    (λ h.
        ap (λ (n : ℕ). take n (front ++ after)) (first_len (front ++ after) ∙ stop_len [] front after h.none h.at_stop)
        ∙ take-append_seam front after),
  )
