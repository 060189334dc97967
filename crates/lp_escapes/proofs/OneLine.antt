-- A text that is told on one line.
use Rattle.std.proofs.Common.{◌≡◌, ℕ, ◌+◌, ◌<◌, ◌≤◌, nat_lt, Bool, true, false, cond, List, [], ◌∷◌, ◌++◌, length, slice_index, take}
use Rattle.std.proofs.Common.{◌∙◌, ap, subst, sym, append-nil, arith}
use Rattle.std.specs.Str.{IsUtf8}
use Rattle.std.proofs.Math.Seq.{take-append_seam}
use Rattle.std.specs.List.{flat_map}
use Rattle.std.proofs.lemmas.Bool.Decides.{nat_tests}
use Rattle.std.proofs.lemmas.List.{length-take-le, take_all, take_more}
use Rattle.std.proofs.lemmas.Grind.{flat_map-append}
use Rattle.lp_escapes.specs.Told.{cut_mark, on_one_line, told_byte}

-- a front alone, if nothing is to follow
no_more : (front more : List ℕ) (test : Bool) → test ≡ false → front ≡ front ++ cond test more []
no_more front more test is = sym (append-nil front) ∙ ap (λ (t : Bool). front ++ cond t more []) (sym is)

-- a front and more, if that is to follow
some_more : (front more : List ℕ) (test : Bool) → test ≡ true → front ++ more ≡ front ++ cond test more []
some_more front more test is = ap (λ (t : Bool). front ++ cond t more []) (sym is)

-- a text of few bytes is told whole
pub told_whole : (text : List ℕ) → length text ≤ 200 → flat_map told_byte text ≡ on_one_line text
told_whole text few =
    let short : nat_lt 200 (length text) ≡ false = grind (arith, nat_tests) in
    ap (flat_map told_byte) (sym (take_all 200 text few))
    ∙ no_more (flat_map told_byte (take 200 text)) (cut_mark (length text)) (nat_lt 200 (length text)) short

-- of a longer one a front is told, and its length
pub told_front : (text : List ℕ) → 200 < length text
    → flat_map told_byte (take 200 text) ++ cut_mark (length text) ≡ on_one_line text
told_front text many =
    let long : nat_lt 200 (length text) ≡ true = grind (arith, nat_tests) in
    some_more (flat_map told_byte (take 200 text)) (cut_mark (length text)) (nat_lt 200 (length text)) long

-- that front has 200 bytes
pub front_len : (text : List ℕ) → 200 < length text → 200 ≡ length (take 200 text)
front_len text many = sym (length-take-le 200 text (omega (arith, many)))

-- if bytes are told as they are, and so is the next, so are all of them
pub one_more_plain : (bytes : List ℕ) (at : ℕ) → at < length bytes → flat_map told_byte (take at bytes) ≡ take at bytes
    → told_byte (slice_index bytes at) ≡ slice_index bytes at ∷ [] → flat_map told_byte (take (at + 1) bytes) ≡ take (at + 1) bytes
one_more_plain bytes at more front next =
    let longer : take (at + 1) bytes ≡ take at bytes ++ slice_index bytes at ∷ [] = take_more bytes at 0 (omega (arith, more)) in
    ap (flat_map told_byte) longer ∙ flat_map-append told_byte (take at bytes) (slice_index bytes at ∷ [])
    ∙ ap (λ (l : List ℕ). l ++ flat_map told_byte (slice_index bytes at ∷ [])) front
    ∙ ap (λ (l : List ℕ). take at bytes ++ l) (append-nil (told_byte (slice_index bytes at)) ∙ next) ∙ sym longer

-- a text of few bytes that are told as they are is told as it is
pub told_plain : (text : List ℕ) → length text ≤ 200 → flat_map told_byte text ≡ text → on_one_line text ≡ text
told_plain text few plain = sym (told_whole text few) ∙ plain

-- what a text was before more was added to it is UTF-8
pub front_is_text : (old new more : List ℕ) (from : ℕ) → IsUtf8 old → from ≡ length old → new ≡ old ++ more → IsUtf8 (take from new)
front_is_text old new more from u is added =
    subst IsUtf8 (sym (ap (λ (n : ℕ). take n new) is ∙ ap (take (length old)) added ∙ take-append_seam old more)) u
