use Rattle.std.proofs.Common.{zero, suc, sym, ◌∙◌, ◌≡◌, ℕ, ◌+◌, ◌-◌, ◌<◌, ◌≤◌, true, false, List, [], ◌∷◌, ◌++◌, length, get_or, slice_index, take}
use Rattle.std.proofs.Common.{drop, refl, rules, arith, append_assoc, append-nil, length-drop}
use Rattle.std.proofs.{Math.Nat.sub_self, Output.has_written_append, Output.has_written_of_eq}
use Rattle.std.proofs.lemmas.{Bool.not-true, Grind.common_steps, Grind.flat_map-append, List.take_more}
use Rattle.std.proofs.lemmas.Str.{IsCharBoundary-start, IsCharBoundary-before_ascii}
use Rattle.lp_format.specs.{format.backslash, format.is_one_of, format.escaped, format.escaped_byte, code.Shown.shown_escapes}
use Rattle.lp_scan.specs.{code.known_of, declared.sets.TokenKind.TokenKind}
use Rattle.lp_values.proofs.shown.show_escaped.Goals as goal
use Rattle.lp_values.proofs.shown.show_escaped.Goals.{then-bytes-at-ne92+then-is_known+in_ok-write_str+in_ok-write_str-2}
use Rattle.lp_values.proofs.shown.show_escaped.Goals.{else-bytes-at-ne92}

-- an empty text has no escapes to write
escaped_nil : (bytes : List ℕ) → [] ≡ escaped bytes []
unfolding escaped
escaped_nil bytes = refl

-- one more byte is written with a backslash before it, or as it is
escaped_more : (bytes text : List ℕ) (i : ℕ) → i < length text
    → escaped bytes (take (i + 1) text) ≡ escaped bytes (take i text) ++ escaped_byte bytes (slice_index text i)
unfolding escaped
escaped_more bytes text i h = grind (arith, common_steps, take_more, flat_map-append, append-nil)

-- the run that is not yet written, with one more byte
run_more : (text : List ℕ) (start at : ℕ) → start ≤ at → at < length text
    → take (at + 1 - start) (drop start text) ≡ take (at - start) (drop start text) ++ slice_index text at ∷ []
run_more text start at low within =
    let n : at + 1 - start ≡ (at - start) + 1 = omega arith in
    let here : get_or (drop start text) (at - start) 0 ≡ get_or text at 0 = grind (arith, common_steps) in
    rw (n, take_more (drop start text) (at - start) 0 (omega (arith, length-drop start text)), here) refl

-- a byte without a backslash before it goes to the run
keep_byte : (bytes text done : List ℕ) (start at : ℕ) → start ≤ at → at < length text → is_one_of bytes (slice_index text at) ≡ false
    → done ++ take (at - start) (drop start text) ≡ escaped bytes (take at text)
    → done ++ take (at + 1 - start) (drop start text) ≡ escaped bytes (take (at + 1) text)
keep_byte bytes text done start at low within plain whole = grind (arith, run_more, escaped_more, append_assoc)

-- a byte with a backslash before it begins a new run, after the old run and the backslash
escape_byte : (bytes text done : List ℕ) (start at : ℕ) → at < length text → is_one_of bytes (slice_index text at) ≡ true
    → done ++ take (at - start) (drop start text) ≡ escaped bytes (take at text)
    → (done ++ (take (at - start) (drop start text) ++ backslash ∷ [])) ++ take (at + 1 - at) (drop at text) ≡ escaped bytes (take (at + 1) text)
escape_byte bytes text done start at within special whole = grind (arith, sub_self, run_more, escaped_more, append_assoc)

-- a front without bytes to escape is written as it is
free_front : (bytes text : List ℕ) (n : ℕ) → n ≤ length text → ((k : ℕ) → k < n → is_one_of bytes (slice_index text k) ≡ false)
    → [] ++ take (n - 0) (drop 0 text) ≡ escaped bytes (take n text)
free_front bytes text zero within free = escaped_nil bytes
free_front bytes text (suc n) within free =
    let before = free_front bytes text n (omega arith) (λ k l. free k (omega arith)) in
    let next : n + 1 ≡ suc n = omega arith in
    rw next at (keep_byte bytes text [] 0 n (omega arith) (omega arith) (free n (omega arith)) before)

-- a byte that a backslash may not escape is written without one
not_shown : (kind : TokenKind) (b : ℕ) → is_one_of (known_of kind) b ≡ false → is_one_of (shown_escapes (known_of kind)) b ≡ false
not_shown kind b h = grind arith

-- a byte that is written with a backslash is ASCII
shown_ascii : (kind : TokenKind) (b : ℕ) → is_one_of (shown_escapes (known_of kind)) b ≡ true → b < 128
shown_ascii kind b h = grind arith

pub loop-at-init : goal.loop-at-init
loop-at-init g c =
    let text = c.args.text.now in
    let first = c.before_first-at.result in
    let run = rw c.as_bytes-bytes.ensures.value at c.before_first-at.ensures in
    let free : (k : ℕ) → k < first → is_one_of (shown_escapes (known_of c.args.kind)) (slice_index text k) ≡ false = λ k l.
    not_shown c.args.kind (slice_index text k)
    (sym (c.known.ensures.bytes (slice_index text k)) ∙ not-true (is_one_of c.known.result (slice_index text k)) (run.passes k (omega arith) l)) in (
      omega arith,
      IsCharBoundary-start text c.utf8.text,
      [],
      free_front (shown_escapes (known_of c.args.kind)) text first (run.within) free,
      search rules,
    )

pub loop-at-preserved : goal.loop-at-preserved
loop-at-preserved g c =
    let l = c.loop-at in
    let text = c.args.text.now in
    let bytes = shown_escapes (known_of c.args.kind) in
    let (low, bound, done, whole, wrote) = l.invariant in
    let within : l.at < length text = omega (arith, c.as_bytes-bytes.ensures.len) in
    elim c.if-bytes-at-ne92.branch [
      | then-bytes-at-ne92+then-is_known+in_ok-write_str+in_ok-write_str-2 w ↦
          let special : is_one_of bytes (get_or text l.at 0) ≡ true = grind (arith, common_steps) in
          rw (w.start-is, w.f-is) (
            omega arith,
            IsCharBoundary-before_ascii text l.at within (shown_ascii c.args.kind _ special),
            done ++ ((take (l.at - l.start) (drop l.start text)) ++ backslash ∷ []),
            escape_byte bytes text done l.start l.at within special whole,
            λ plain.
                let so_far = wrote plain in
                let one = w.write_str.ensures.writes so_far.plain (search rules) in
                let two = w.write_str-then-is_known.ensures.writes one.plain (search rules) in
                has_written_of_eq _ _ _ _ _ (grind (arith, common_steps, append_assoc))
                (has_written_append _ _ _ _ _ _ (has_written_append _ _ _ _ _ _ so_far one) two),
          )
      | else-bytes-at-ne92 w ↦
          let plain : is_one_of bytes (get_or text l.at 0) ≡ false = grind (arith, common_steps) in
          rw (w.start-is, w.f-is) (omega arith, bound, done, keep_byte bytes text done l.start l.at low within plain whole, wrote)
    ]
