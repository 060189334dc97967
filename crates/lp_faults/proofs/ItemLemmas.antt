-- The items of a relay, one after another.
use Rattle.std.proofs.Common.{◌≡◌, ℕ, ◌+◌, ◌≤◌, nat_lt, false, not, cond, List, [], ◌∷◌, ◌++◌, length, take, map, Option, Some, None, Result}
use Rattle.std.proofs.Common.{refl, sym, ap, ◌∙◌, fold, append_assoc, arith, append-nil, inl, inr}
use Rattle.std.specs.Str.{IsUtf8, is_utf8}
use Rattle.std.proofs.lemmas.Bool.{cases_Bool}
use Rattle.std.proofs.lemmas.Bool.Decides.{nat_tests}
use Rattle.std.proofs.lemmas.Grind.{flat_map-append}
use Rattle.std.proofs.lemmas.List.Sums.{sum_by-append}
use Rattle.std.proofs.lemmas.Str.{IsUtf8-from_is_utf8, is_utf8-from_IsUtf8}
use Rattle.influxdb_line_protocol.specs.format.Items.{answers_of_piece}
use Rattle.influxdb_line_protocol.specs.code.Bounded.{IsTooLong}
use Rattle.lp_conditions.specs.declared.settings.Settings.{Settings}
use Rattle.influxdb_line_protocol.specs.code.Rules.{rules_of}
use Rattle.lp_faults.specs.Objects.{seen_line, over_of_piece, stop_of_bytes, stop_of_piece}
use Rattle.lp_conditions.specs.FieldTypes.{Types}
use Rattle.lp_faults.specs.Relaying.{Item, not_utf8, too_long, limit_of, is_too_long, items_of_bytes, items_of_piece, items_of, line_of, timed_item}
use Rattle.lp_faults.specs.Relaying.{refused_pieces, types_after, types_after_timed, types_of_bytes, types_past}
use Rattle.lp_faults.specs.Relaying.{is_carried_item, items_batch, carried_items, refused_items}
use Rattle.lp_faults.specs.Relaying.{kept_bytes, kept_of, refused_lines, refused_piece}
use Rattle.lp_rebuild.proofs.RebuildLemmas.{one_of_two}
use Rattle.lp_conditions.specs.declared.times.Times.{Times}
use Rattle.lp_conditions.specs.LineTimes.{front_of, timed}
use Rattle.lp_faults.specs.Relaying.{item_in, typed_item, types_after_answer, types_in_after}
use Rattle.influxdb_line_protocol.specs.format.Lines.{Line}
use Rattle.influxdb_line_protocol.specs.format.Readings.{Fault}

-- the batch of items and others
pub batch_append : (xs ys : List Item) → items_batch (xs ++ ys) ≡ items_batch xs ++ items_batch ys
batch_append xs ys = grind (arith, flat_map-append)

-- how many of them are carried
pub carried_append : (xs ys : List Item) → carried_items (xs ++ ys) ≡ carried_items xs + carried_items ys
carried_append xs ys = sum_by-append (λ (i : Item). cond (is_carried_item i) 1 0) xs ys

-- how many are not
pub refused_append : (xs ys : List Item) → refused_items (xs ++ ys) ≡ refused_items xs + refused_items ys
refused_append xs ys = sum_by-append (λ (i : Item). cond (not (is_carried_item i)) 1 0) xs ys

-- how many of an item and others are carried
pub carried_first : (x : Item) (xs : List Item) → carried_items (x ∷ xs) ≡ cond (is_carried_item x) 1 0 + carried_items xs
carried_first x xs = omega (arith, carried_append (x ∷ []) xs)

-- how many are not
pub refused_first : (x : Item) (xs : List Item) → refused_items (x ∷ xs) ≡ cond (not (is_carried_item x)) 1 0 + refused_items xs
refused_first x xs = omega (arith, refused_append (x ∷ []) xs)

-- each item is carried or refused
pub items_add_up : (xs : List Item) → carried_items xs + refused_items xs ≡ length xs
items_add_up [] = refl
items_add_up (x ∷ xs) =
    omega (arith, carried_first x xs, refused_first x xs, one_of_two (is_carried_item x), items_add_up xs)

-- the items of a line that is UTF-8
pub items_of_text : (s : Settings) (types : Types) (piece : List ℕ) → IsUtf8 piece
    → items_of_bytes s types piece ≡ map (timed_item s types piece) (answers_of_piece (rules_of s.dialect) piece)
unfolding items_of_bytes
items_of_text s types piece h = rw (is_utf8-from_IsUtf8 piece h) refl

-- the types that fields have after it
pub types_of_text : (s : Settings) (types : Types) (piece : List ℕ) → IsUtf8 piece
    → types_of_bytes s types piece ≡ fold (types_after_timed s piece) types (answers_of_piece (rules_of s.dialect) piece)
unfolding types_of_bytes
types_of_text s types piece h = rw (is_utf8-from_IsUtf8 piece h) refl

-- the item of a line that is not
pub item_of_no_text : (s : Settings) (types : Types) (piece : List ℕ) → (¬ IsUtf8 piece) → items_of_bytes s types piece ≡ not_utf8 ∷ []
unfolding items_of_bytes
item_of_no_text s types piece h =
    elim (cases_Bool (is_utf8 piece)) [
      | inl good ↦ absurd (h (IsUtf8-from_is_utf8 piece good))
      | inr bad ↦ rw bad refl
    ]

-- it changes no types
pub types_of_no_text : (s : Settings) (types : Types) (piece : List ℕ) → (¬ IsUtf8 piece) → types_of_bytes s types piece ≡ types
unfolding types_of_bytes
types_of_no_text s types piece h =
    elim (cases_Bool (is_utf8 piece)) [
      | inl good ↦ absurd (h (IsUtf8-from_is_utf8 piece good))
      | inr bad ↦ rw bad refl
    ]

-- the items of a piece that is not too long
pub items_of_fitting : (s : Settings) (types : Types) (piece : List ℕ) → is_too_long (limit_of s.limit) piece ≡ false
    → items_of_piece s types piece ≡ items_of_bytes s types (line_of s piece)
unfolding items_of_piece
items_of_fitting s types piece h = rw h refl

-- the types after it
pub types_of_fitting : (s : Settings) (types : Types) (piece : List ℕ) → is_too_long (limit_of s.limit) piece ≡ false
    → types_after s types piece ≡ types_of_bytes s types (line_of s piece)
unfolding types_after
types_of_fitting s types piece h = rw h refl

-- so if it has no more bytes than the limit
pub items_of_short : (s : Settings) (types : Types) (piece : List ℕ) → length piece ≤ s.limit
    → items_of_piece s types piece ≡ items_of_bytes s types (line_of s piece)
items_of_short s types piece h = grind (arith, cases_Bool, items_of_fitting)

-- and so are the types after it
pub types_of_short : (s : Settings) (types : Types) (piece : List ℕ) → length piece ≤ s.limit
    → types_after s types piece ≡ types_of_bytes s types (line_of s piece)
types_of_short s types piece h = grind (arith, cases_Bool, types_of_fitting)

-- the item of a piece that is too long
pub item_of_long : (s : Settings) (types : Types) (piece : List ℕ) → IsTooLong s.limit piece
    → items_of_piece s types piece ≡ too_long (kept_of s) ∷ []
unfolding items_of_piece
item_of_long s types piece h = grind (arith, nat_lt)

-- it changes no types
pub types_of_long : (s : Settings) (types : Types) (piece : List ℕ) → IsTooLong s.limit piece → types_after s types piece ≡ types
unfolding types_after
types_of_long s types piece h = grind (arith, nat_lt)

-- what goes out as refused of a piece that has no more bytes than the limit
pub refused_short : (s : Settings) (types : Types) (piece : List ℕ) → length piece ≤ s.limit
    → refused_piece s types piece ≡ refused_lines s.puts_refused piece (items_of_piece s types piece)
unfolding refused_piece
refused_short s types piece h = grind (arith, cases_Bool, nat_tests)

-- and of one that is too long
pub refused_long : (s : Settings) (types : Types) (piece : List ℕ) → IsTooLong s.limit piece
    → refused_piece s types piece ≡ refused_lines s.puts_refused (take s.limit piece) (too_long (kept_of s) ∷ [])
unfolding refused_piece
refused_long s types piece h = grind (arith, nat_lt, item_of_long)

-- where reading stops in a piece that is not too long
pub stop_short : (s : Settings) (piece : List ℕ) → length piece ≤ s.limit
    → stop_of_piece s piece ≡ stop_of_bytes (rules_of s.dialect) (line_of s piece)
unfolding stop_of_piece
stop_short s piece h = grind (arith, cases_Bool, nat_tests)

-- it stops nowhere in one that is too long
pub stop_long : (s : Settings) (piece : List ℕ) → IsTooLong s.limit piece → stop_of_piece s piece ≡ None
unfolding stop_of_piece
stop_long s piece h = grind (arith, nat_lt)

-- what is kept of the line of a piece that is not too long is all of it
pub line_short : (s : Settings) (piece : List ℕ) → length piece ≤ s.limit → seen_line s piece ≡ line_of s piece
unfolding seen_line
line_short s piece h = grind (arith, cases_Bool, nat_tests)

-- of one that is too long the first bytes are kept
pub line_long : (s : Settings) (piece : List ℕ) → IsTooLong s.limit piece → seen_line s piece ≡ take s.limit piece
unfolding seen_line
line_long s piece h = grind (arith, nat_lt)

-- what is kept of a piece that is not too long is all of it
pub kept_short : (s : Settings) (piece : List ℕ) → length piece ≤ s.limit → kept_bytes s piece ≡ piece
kept_short s piece h = grind (arith, cases_Bool, nat_tests)

-- and of one that is too long its first bytes
pub kept_long : (s : Settings) (piece : List ℕ) → IsTooLong s.limit piece → kept_bytes s piece ≡ take s.limit piece
kept_long s piece h = grind (arith, nat_lt)

-- a piece that is not too long is over no limit
pub over_short : (s : Settings) (piece : List ℕ) → length piece ≤ s.limit → over_of_piece s piece ≡ None
unfolding over_of_piece
over_short s piece h = grind (arith, cases_Bool, nat_tests)

-- and one that is too long is over its limit
pub over_long : (s : Settings) (piece : List ℕ) → IsTooLong s.limit piece → over_of_piece s piece ≡ Some s.limit
unfolding over_of_piece
over_long s piece h = grind (arith, nat_lt)

-- the types after pieces and others
pub types_append : (s : Settings) (types : Types) (ps qs : List (List ℕ))
    → types_past s types (ps ++ qs) ≡ types_past s (types_past s types ps) qs
types_append s types [] qs = refl
types_append s types (p ∷ ps) qs = types_append s (types_after s types p) ps qs

-- the items of pieces and others
pub items_append : (s : Settings) (types : Types) (ps qs : List (List ℕ))
    → items_of s types (ps ++ qs) ≡ items_of s types ps ++ items_of s (types_past s types ps) qs
items_append s types [] qs = refl
items_append s types (p ∷ ps) qs =
    let after = types_after s types p in
    ap (λ (l : List Item). items_of_piece s types p ++ l) (items_append s after ps qs)
    ∙ sym (append_assoc (items_of_piece s types p) (items_of s after ps) (items_of s (types_past s after ps) qs))

-- the items of pieces and one more
pub items_push : (s : Settings) (types : Types) (pieces : List (List ℕ)) (piece : List ℕ)
    → items_of s types (pieces ++ piece ∷ []) ≡ items_of s types pieces ++ items_of_piece s (types_past s types pieces) piece
items_push s types pieces piece =
    items_append s types pieces (piece ∷ [])
    ∙ ap (λ (l : List Item). items_of s types pieces ++ l) (append-nil (items_of_piece s (types_past s types pieces) piece))

-- what goes out of pieces and others as refused
pub put_append : (s : Settings) (types : Types) (ps qs : List (List ℕ))
    → refused_pieces s types (ps ++ qs) ≡ refused_pieces s types ps ++ refused_pieces s (types_past s types ps) qs
put_append s types [] qs = refl
put_append s types (p ∷ ps) qs =
    let after = types_after s types p in
    ap (λ (l : List ℕ). refused_piece s types p ++ l) (put_append s after ps qs)
    ∙ sym (append_assoc (refused_piece s types p) (refused_pieces s after ps) (refused_pieces s (types_past s after ps) qs))

-- if the times of lines are not looked at, the item is that of the answer
pub untimed_item : (s : Settings) (types : Types) (piece : List ℕ) (a : Result Line Fault) → s.times ≡ None
    → timed_item s types piece a ≡ typed_item s types piece a
untimed_item s types piece a none = ap (λ (t : Option Times). item_in s types (front_of piece) (timed t piece a)) none

-- and so are the types after it
pub untimed_types : (s : Settings) (types : Types) (piece : List ℕ) (a : Result Line Fault) → s.times ≡ None
    → types_after_timed s piece types a ≡ types_after_answer s piece types a
untimed_types s types piece a none = ap (λ (t : Option Times). types_in_after s types (timed t piece a)) none
