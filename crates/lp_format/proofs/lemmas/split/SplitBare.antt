-- Bare bytes: the effect of a backslash on the byte after it, and the shape of a piece by its bare bytes, which determine the cut.
use Rattle.std.proofs.Common.{◌≡◌, ◌≢◌, ℕ, Bool, true, false, cond, not, eqb, List, [], ◌∷◌, ◌++◌, sym, ◌∙◌, ap, refl, arith, append_assoc}
use Rattle.std.proofs.Common.{append-nil, ◌⊎◌, inr, subst, ◌&&◌, All, count_by, ne_eqb, lt-ltb, le-ltb, ◌==◌, if◌then◌else◌, nat_lt, fold}
use Rattle.std.proofs.lemmas.{List.reverse-append, List.Sums.fold-append, Bool.cases_eq, Bool.and_left, Bool.and_right}
use Rattle.lp_format.specs.format.{is_escaped_after, bare_after, bare, IsBareAfter, backslash, newline, quote, space, comma, equals, IsHead}
use Rattle.lp_format.specs.format.{HasMoreEquals, IsPlain, EndsPlain, EndsQuoted, Opens, IsQuoted, IsClosed, IsOpen}
use Rattle.lp_format.specs.format.Piece.{EndsPlain.first, EndsPlain.later, EndsQuoted.opened}
use Rattle.std.proofs.lemmas.List.Elements.{All-append, All-cons, All-nil, All-push, All-head, All-tail}

-- the first byte of a text is not escaped
pub is_escaped-nil : is_escaped_after [] ≡ false
unfolding is_escaped_after
is_escaped-nil = refl

-- a byte is escaped exactly if the byte before it is a bare backslash
pub is_escaped-push : (front : List ℕ) (b : ℕ)
    → is_escaped_after (front ++ b ∷ []) ≡ cond (eqb b backslash) (not (is_escaped_after front)) false
unfolding is_escaped_after
is_escaped-push front b = rw reverse-append (grind arith)

-- the flag that a walk over a text keeps: whether the next byte is escaped
abbrev pub flag_after : Bool → List ℕ → Bool
flag_after f [] = f
flag_after f (b ∷ bs) = flag_after (cond (eqb b backslash) (not f) false) bs

-- whether the byte after two texts is escaped, by whether the byte after the first is escaped
pub is_escaped-append : (front text : List ℕ) → is_escaped_after (front ++ text) ≡ flag_after (is_escaped_after front) text
is_escaped-append front [] = ap is_escaped_after (append-nil front)
is_escaped-append front (b ∷ bs) = grind (arith, append_assoc, is_escaped-push, is_escaped-append (front ++ b ∷ []) bs)

-- a run of backslashes does not reach past another byte
pub is_escaped-after_other : (front text : List ℕ) (b : ℕ) → eqb b backslash ≡ false
    → is_escaped_after (front ++ b ∷ text) ≡ is_escaped_after text
is_escaped-after_other front text b h =
    is_escaped-append front (b ∷ text) ∙ ap (λ t. flag_after (cond t (not (is_escaped_after front)) false) text) h
    ∙ ap (λ f. flag_after f text) (sym is_escaped-nil) ∙ sym (is_escaped-append [] text)

-- the last byte of a text is bare unless it is escaped
pub bare_after-push : (front text : List ℕ) (b : ℕ)
    → bare_after front (text ++ b ∷ []) ≡ bare_after front text ++ cond (is_escaped_after (front ++ text)) [] (b ∷ [])
bare_after-push front [] b = append-nil _ ∙ ap (λ f. cond (is_escaped_after f) [] (b ∷ [])) (sym (append-nil front))
bare_after-push front (a ∷ text) b = rw (bare_after-push (front ++ a ∷ []) text b) (simp append_assoc)

-- the byte after an escaped byte is not escaped
pub is_escaped-push_escaped : (front : List ℕ) (b : ℕ) → is_escaped_after front ≡ true → is_escaped_after (front ++ b ∷ []) ≡ false
is_escaped-push_escaped front b h = grind (arith, is_escaped-push, eqb)

-- the byte after a bare backslash is escaped
pub is_escaped-push_backslash : (front : List ℕ) → is_escaped_after front ≡ false → is_escaped_after (front ++ backslash ∷ []) ≡ true
is_escaped-push_backslash front h = is_escaped-push front backslash ∙ ap not h

-- the byte after a byte that is no backslash is not escaped
pub is_escaped-push_other : (front : List ℕ) (b : ℕ) → b ≢ backslash → is_escaped_after (front ++ b ∷ []) ≡ false
is_escaped-push_other front b h = is_escaped-push front b ∙ ap (λ t. cond t (not (is_escaped_after front)) false) (ne_eqb b backslash h)

-- a byte that is not escaped is bare
pub bare-push_bare : (text : List ℕ) (b : ℕ) → is_escaped_after text ≡ false → bare (text ++ b ∷ []) ≡ bare text ++ b ∷ []
bare-push_bare text b h = bare_after-push [] text b ∙ ap (λ f. bare text ++ cond f [] (b ∷ [])) h

-- the bare bytes of a text depend on the text before it only by whether its first byte is escaped
same_bare : (front other text : List ℕ) → is_escaped_after front ≡ is_escaped_after other → bare_after front text ≡ bare_after other text
same_bare front other [] e = refl
same_bare front other (b ∷ text) e = grind (arith, is_escaped-push, same_bare (front ++ b ∷ []) (other ++ b ∷ []) text)

-- the bare bytes of two texts are the bare bytes of the first and the bare bytes of the second after the first
bare_after-append : (front xs ys : List ℕ) → bare_after front (xs ++ ys) ≡ bare_after front xs ++ bare_after (front ++ xs) ys
bare_after-append front [] ys = ap (λ t. bare_after t ys) (sym (append-nil front))
bare_after-append front (x ∷ xs) ys = grind (arith, append_assoc, bare_after-append (front ++ x ∷ []) xs ys)

-- the bare bytes of two texts are the bare bytes of each, if the first byte of the second is not escaped
pub bare-append : (xs ys : List ℕ) → IsBareAfter xs → bare (xs ++ ys) ≡ bare xs ++ bare ys
bare-append xs ys h = bare_after-append [] xs ys ∙ ap (λ t. bare xs ++ t) (same_bare xs [] ys (h ∙ sym is_escaped-nil))

-- a place in two joined lists is in one of the two
pub place_in_append : (xs ys : List ℕ) (c : ℕ) (before after : List ℕ) → xs ++ ys ≡ before ++ c ∷ after
    → ((rest : List ℕ) × (xs ≡ before ++ c ∷ rest)) ⊎ ((front : List ℕ) × (before ≡ xs ++ front) × (ys ≡ front ++ c ∷ after))
place_in_append [] ys c before after e = inr (before, refl, e)
place_in_append (x ∷ xs) ys c [] after e = grind arith
place_in_append (x ∷ xs) ys c (y ∷ before) after e =
    let t : xs ++ ys ≡ before ++ c ∷ after = cc in
    grind (arith, place_in_append xs ys c before after t)

-- an empty list has no place
pub nil_has_no_place : {X : Type 0} (before : List X) (c : X) (after : List X) → [] ≡ before ++ c ∷ after → ⊥
nil_has_no_place [] c after e = cc
nil_has_no_place (y ∷ before) c after e = cc

-- a head and an escaped byte after it are a head
pub IsHead-escaped : (text : List ℕ) (b : ℕ) → IsHead text → is_escaped_after text ≡ true → IsHead (text ++ b ∷ [])
IsHead-escaped text b h e = rw (bare_after-push, e, append-nil) h

-- a head and a bare byte after it that is no space and no newline are a head
pub IsHead-bare : (text : List ℕ) (b : ℕ) → IsHead text → is_escaped_after text ≡ false → b ≢ space → b ≢ newline → IsHead (text ++ b ∷ [])
IsHead-bare text b h e s n = rw bare-push_bare (All-push (λ c. (c ≢ space) × (c ≢ newline)) (bare text) b h (s, n))

-- no quote among the bare bytes `added` opens a string, where `counted` are the bare bytes before them
abbrev pub NoOpening : List ℕ → List ℕ → Type 0
NoOpening counted added = (before after : List ℕ) → added ≡ before ++ quote ∷ after → ¬ HasMoreEquals (counted ++ before)

-- one byte opens no string, unless it is a quote after more `=` than `,`
NoOpening-one : (counted : List ℕ) (b : ℕ) → (b ≡ quote → ¬ HasMoreEquals counted) → NoOpening counted (b ∷ [])
NoOpening-one counted b q [] after p = rw append-nil (q (cc))
NoOpening-one counted b q (c ∷ before) after p = absurd (nil_has_no_place before quote after (cc))

-- one byte that is no newline is a text without a newline
no_newline : (b : ℕ) → b ≢ newline → All (λ c. c ≢ newline) (b ∷ [])
no_newline b n = All-cons (λ c. c ≢ newline) b [] n (All-nil (λ c. c ≢ newline))

-- a byte that is no newline and opens no string is a plain stretch
IsPlain-one : (counted : List ℕ) (b : ℕ) → b ≢ newline → (b ≡ quote → ¬ HasMoreEquals counted) → IsPlain counted (b ∷ [])
IsPlain-one counted b n q = grind (arith, bare-push_bare, is_escaped-nil, no_newline, NoOpening-one)

-- a plain stretch stays plain if no byte after it ends the piece or opens a string
IsPlain-extend : (counted xs ys added : List ℕ) → IsPlain counted xs → bare_after xs ys ≡ added → All (λ c. c ≢ newline) added
    → NoOpening (counted ++ bare xs) added → IsPlain counted (xs ++ ys)
IsPlain-extend counted xs ys added h e n q =
    let more = bare_after-append [] xs ys ∙ ap (λ t. bare xs ++ t) e in
    record {
      no_newline = rw more (All-append (λ c. c ≢ newline) (bare xs) added h.no_newline n);
      no_opening = grind (arith, place_in_append, append_assoc);
    }

-- equal texts with equal bare bytes end in a plain stretch alike
pub EndsPlain-same : {text more counted seen : List ℕ} → text ≡ more → counted ≡ seen → EndsPlain text counted → EndsPlain more seen
EndsPlain-same {text} {more} {counted} e f h = subst (λ s. EndsPlain more s) f (subst (λ t. EndsPlain t counted) e h)

-- a text that ends in a plain stretch still does if no byte after it ends the piece or opens a string
EndsPlain-extend : {piece counted : List ℕ} (text added : List ℕ) → EndsPlain piece counted → bare_after piece text ≡ added
    → All (λ c. c ≢ newline) added → NoOpening counted added → EndsPlain (piece ++ text) (counted ++ added)
EndsPlain-extend text added (first head plain h i p) e n q =
    let same = is_escaped-after_other [] plain space refl ∙ sym (is_escaped-after_other head plain space refl) in
    let f = same_bare (space ∷ plain) (head ++ space ∷ plain) text same ∙ e in
    EndsPlain-same (sym (append_assoc head (space ∷ plain) text))
    (bare_after-append [] (space ∷ plain) text ∙ ap (λ t. bare (space ∷ plain) ++ t) f)
    (first head (plain ++ text) h i (IsPlain-extend [] (space ∷ plain) text added p f n q))
EndsPlain-extend text added (later piece counted quoted plain h o k i p) e n q =
    let same = sym (is_escaped-after_other (piece ++ quote ∷ quoted) plain quote refl) in
    let f = same_bare plain ((piece ++ quote ∷ quoted) ++ quote ∷ plain) text same ∙ e in
    EndsPlain-same (sym (append_assoc (piece ++ quote ∷ quoted) (quote ∷ plain) text))
    (ap (λ t. counted ++ t) (bare_after-append [] plain text ∙ ap (λ t. bare plain ++ t) f) ∙ sym (append_assoc counted (bare plain) added))
    (later piece counted quoted (plain ++ text) h o k i (IsPlain-extend counted plain text added p f n q))

-- a text that ends in a plain stretch still does after an escaped byte
pub EndsPlain-escaped : {text counted : List ℕ} (b : ℕ) → EndsPlain text counted → is_escaped_after text ≡ true
    → EndsPlain (text ++ b ∷ []) counted
EndsPlain-escaped {text} {counted} b h e =
    EndsPlain-same refl (append-nil counted)
    (EndsPlain-extend (b ∷ []) [] h (rw e refl) (All-nil (λ c. c ≢ newline))
    (λ before after p. absurd (nil_has_no_place before quote after p)))

-- a text that ends in a plain stretch still does after a bare byte that neither ends the piece nor opens a string
pub EndsPlain-bare : {text counted : List ℕ} (b : ℕ) → EndsPlain text counted → IsBareAfter text → b ≢ newline
    → (b ≡ quote → ¬ HasMoreEquals counted) → EndsPlain (text ++ b ∷ []) (counted ++ b ∷ [])
EndsPlain-bare {text} {counted} b h e n m = EndsPlain-extend (b ∷ []) (b ∷ []) h (rw e refl) (no_newline b n) (NoOpening-one counted b m)

-- a head and a bare space after it end in a plain stretch
pub EndsPlain-start : (head : List ℕ) → IsHead head → IsBareAfter head → EndsPlain (head ++ space ∷ []) (space ∷ [])
EndsPlain-start head h i =
    EndsPlain-same refl (bare-push_bare [] space is_escaped-nil)
    (first head [] h i (IsPlain-one [] space (omega arith) (λ e. absurd (omega arith))))

-- a text that ends in a string still does if no bare byte after it is a quote
EndsQuoted-extend : {text counted : List ℕ} (more : List ℕ) → EndsQuoted text counted → All (λ c. c ≢ quote) (bare_after text more)
    → EndsQuoted (text ++ more) counted
EndsQuoted-extend more (opened piece counted quoted h o q) n =
    let same = same_bare (piece ++ quote ∷ quoted) quoted more (is_escaped-after_other piece quoted quote refl) in
    let all = subst (All (λ c. c ≢ quote)) same n in
    let quotes = All-append (λ c. c ≢ quote) (bare quoted) (bare_after quoted more) q all in
    subst (λ t. EndsQuoted t counted) (sym (append_assoc piece (quote ∷ quoted) more))
    (opened piece counted (quoted ++ more) h o (subst (All (λ c. c ≢ quote)) (sym (bare_after-append [] quoted more)) quotes))

-- a text that ends in a string still does after an escaped byte
pub EndsQuoted-escaped : {text counted : List ℕ} (b : ℕ) → EndsQuoted text counted → is_escaped_after text ≡ true
    → EndsQuoted (text ++ b ∷ []) counted
EndsQuoted-escaped b h e = EndsQuoted-extend (b ∷ []) h (rw e (All-nil (λ c. c ≢ quote)))

-- a text that ends in a string still does after a bare byte that is no quote
pub EndsQuoted-bare : {text counted : List ℕ} (b : ℕ) → EndsQuoted text counted → IsBareAfter text → b ≢ quote
    → EndsQuoted (text ++ b ∷ []) counted
EndsQuoted-bare b h e n = EndsQuoted-extend (b ∷ []) h (rw e (All-cons (λ c. c ≢ quote) b [] n (All-nil (λ c. c ≢ quote))))

-- a bare quote after more `=` than `,` opens a string
pub EndsQuoted-start : {text counted : List ℕ} → EndsPlain text counted → IsBareAfter text → HasMoreEquals counted
    → EndsQuoted (text ++ quote ∷ []) counted
EndsQuoted-start {text} {counted} h i m = opened text counted [] h (i, m) (All-nil (λ c. c ≢ quote))

-- a bare quote closes a string
pub EndsQuoted-close : {text counted : List ℕ} → EndsQuoted text counted → IsBareAfter text → EndsPlain (text ++ quote ∷ []) counted
EndsQuoted-close (opened piece counted quoted h o q) e = EndsPlain-same refl (append-nil counted)
    (later piece counted quoted [] h o q e (grind (arith, no_newline, nil_has_no_place)))

-- the states of a machine that reads the bare bytes of a piece, with the bare bytes of the plain stretches that it has read
data State : Type 0 where
  in_head : State
  in_plain in_quoted : List ℕ → State
  ended : State

-- the state after a byte in a plain stretch
abbrev plain_step : List ℕ → ℕ → State
plain_step counted b =
    let opens = b == quote && nat_lt (count_by (λ c. c == comma) counted) (count_by (λ c. c == equals) counted) in
    if b == newline then ended else if opens then in_quoted counted else in_plain (counted ++ b ∷ [])

abbrev step : State → ℕ → State
step in_head b = if b == newline then ended else if b == space then plain_step [] b else in_head
step (in_plain counted) b = plain_step counted b
step (in_quoted counted) b = if b == quote then in_plain counted else in_quoted counted
step ended b = ended

abbrev run : State → List ℕ → State
run s bs = fold step s bs

-- a machine that has ended stays in this state
run-ended : (xs : List ℕ) → run ended xs ≡ ended
run-ended [] = refl
run-ended (x ∷ xs) = run-ended xs

-- the bare bytes of a text whose first byte is no backslash are this byte and the bare bytes after it
bare-cons : (b : ℕ) (text : List ℕ) → b ≢ backslash → bare (b ∷ text) ≡ b ∷ bare text
bare-cons b text h =
    bare-append (b ∷ []) text (is_escaped-push_other [] b h) ∙ ap (λ t. t ++ bare text) (bare-push_bare [] b is_escaped-nil)

-- a machine reads a front, a bare byte that is no backslash and the text after it one after another
run-around : (s : State) (front : List ℕ) (b : ℕ) (text : List ℕ) → IsBareAfter front → b ≢ backslash
    → run s (bare (front ++ b ∷ text)) ≡ run (step (run s (bare front)) b) (bare text)
run-around s front b text i h = grind (arith, bare-append, bare-cons, fold-append)

-- bytes that are no spaces and no newlines leave the machine in the head
run_head : (xs : List ℕ) → All (λ b. (b ≢ space) × (b ≢ newline)) xs → run in_head xs ≡ in_head
run_head [] h = refl
run_head (b ∷ xs) h =
    let here = All-head (λ c. (c ≢ space) × (c ≢ newline)) b xs h in
    rw (ne_eqb b newline here.1, ne_eqb b space here.0) (run_head xs (All-tail (λ c. (c ≢ space) × (c ≢ newline)) b xs h))

-- bytes that neither end the piece nor open a string leave the machine in a plain stretch
run_plain : (counted xs : List ℕ) → All (λ b. b ≢ newline) xs → NoOpening counted xs → run (in_plain counted) xs ≡ in_plain (counted ++ xs)
run_plain counted [] n q = rw append-nil refl
run_plain counted (b ∷ xs) n q =
    let opens_none : b ≡ quote → ¬ HasMoreEquals counted = λ e. rw append-nil at (q [] xs (ap (λ c. c ∷ xs) e)) in
    let on = All-head (λ c. c ≢ newline) b xs n in
    let counts : plain_step counted b ≡ in_plain (counted ++ b ∷ []) = grind (arith, cases_eq, and_right, le-ltb, and_left, ne_eqb) in
    ap (λ s. run s xs) counts
    ∙ run_plain (counted ++ b ∷ []) xs (All-tail (λ c. c ≢ newline) b xs n)
    (λ before after e. rw append_assoc (q (b ∷ before) after (ap (λ t. b ∷ t) e))) ∙ ap in_plain (append_assoc counted (b ∷ []) xs)

-- bytes that are no quotes leave the machine in a string
run_quoted : (counted xs : List ℕ) → All (λ b. b ≢ quote) xs → run (in_quoted counted) xs ≡ in_quoted counted
run_quoted counted [] n = refl
run_quoted counted (b ∷ xs) n =
    rw (ne_eqb b quote (All-head (λ c. c ≢ quote) b xs n)) (run_quoted counted xs (All-tail (λ c. c ≢ quote) b xs n))

-- a quote after more `=` than `,` opens a string
opening : (piece counted quoted : List ℕ) → run in_head (bare piece) ≡ in_plain counted → Opens piece counted → IsQuoted quoted
    → run in_head (bare (piece ++ quote ∷ quoted)) ≡ in_quoted counted
opening piece counted quoted r o q = grind (arith, run-around, lt-ltb, run_quoted)

-- a text that ends in a plain stretch leaves the machine in a plain stretch
ends_plain : {text counted : List ℕ} → EndsPlain text counted → run in_head (bare text) ≡ in_plain counted
ends_plain (first head plain h i p) =
    let counted = run_plain [] (bare (space ∷ plain)) p.no_newline p.no_opening in
    grind (arith, bare-cons, run-around, run_head)
ends_plain (later piece counted quoted plain h o q i p) =
    run-around in_head (piece ++ quote ∷ quoted) quote plain i (omega arith)
    ∙ rw (opening piece counted quoted (ends_plain h) o q) (run_plain counted (bare plain) p.no_newline p.no_opening)

-- a text that ends in a string leaves the machine in a string
ends_quoted : {text counted : List ℕ} → EndsQuoted text counted → run in_head (bare text) ≡ in_quoted counted
ends_quoted (opened piece counted quoted h o q) = opening piece counted quoted (ends_plain h) o q

-- a bare newline after a closed piece ends the machine
cut_ends : (piece rest : List ℕ) → IsClosed piece → IsBareAfter piece → run in_head (bare (piece ++ newline ∷ rest)) ≡ ended
cut_ends piece rest h i = grind (arith, run-around, run_head, run-ended, ends_plain)

-- a closed piece with a bare newline after it is not the beginning of a longer piece
pub cut_not_within : (piece rest : List ℕ) → IsClosed piece → IsBareAfter piece → IsClosed (piece ++ newline ∷ rest)
    ⊎ IsOpen (piece ++ newline ∷ rest) → ⊥
cut_not_within piece rest c i h = let e = cut_ends piece rest c i in grind (arith, run_head, ends_plain, ends_quoted)
