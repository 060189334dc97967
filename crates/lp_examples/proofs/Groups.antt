-- Groups of lines, with one line more.
use Rattle.std.proofs.Common.{◌≡◌, ℕ, List, [], ◌∷◌, ◌++◌, Bool, true, false, Option, Some, None, String, BTreeMap, Bor, refl, sym, ap, subst, ◌∙◌, arith}
use Rattle.std.proofs.Common.{nat_cmp, bytes_eq, string_bytes, append-nil, map}
use Rattle.std.specs.{BTreeMap.UpdatesBy, BTreeMap.get_by_text, Cmp.Lexicographic.same_text, Cmp.Lexicographic.slice_cmp, Global.Vec, Vec.vec_items, List.filter}
use Rattle.std.specs.String.{string_cmp}
use Rattle.std.proofs.lemmas.{Cmp.nat_list_eq_equiv, List.Elements.filter-append, List.map-append, Map.update_other, Map.update_same, Map.Text.btree_map_updates_text}
use Rattle.influxdb_line_protocol.specs.types.ParsedLine.{ParsedLine}
use Rattle.lp_examples.specs.Grouped.{has_key, key_of, lines_at, lines_in}

-- a line more that passes a test is the last that does
kept : (p : ParsedLine → Bool) (before : List ParsedLine) (l : ParsedLine) → p l ≡ true → filter p before ++ l ∷ [] ≡ filter p (before ++ l ∷ [])
kept p before l passes = let apart = filter-append p before (l ∷ []) in grind arith

-- If a line fails a test, the lines that pass the test are as before.
left_out : (p : ParsedLine → Bool) (before : List ParsedLine) (l : ParsedLine) → p l ≡ false → filter p before ≡ filter p (before ++ l ∷ [])
left_out p before l fails = let apart = filter-append p before (l ∷ []) in grind (arith, append-nil)

-- the lines of a group that a line was pushed to
pub pushed_lines : (found : Option (Vec (Bor ParsedLine))) (group pushed : Vec (Bor ParsedLine)) (l : Bor ParsedLine)
    → lines_in found ≡ map (λ l. l.now) (vec_items group) → vec_items pushed ≡ vec_items group ++ l ∷ []
    → lines_in (Some pushed) ≡ lines_in found ++ l.now ∷ []
pushed_lines found group pushed l same is =
    ap (map (λ l. l.now)) is ∙ map-append (λ (l : Bor ParsedLine). l.now) (vec_items group) (l ∷ [])
    ∙ ap (λ (ls : List ParsedLine). ls ++ l.now ∷ []) (sym same)

-- the groups have a line more once its group has it
pub group_more : {Y : Type 0} (old mid new : BTreeMap (String Y) (Vec (Bor ParsedLine))) (group : Vec (Bor ParsedLine)) (bytes : List ℕ)
    (l : ParsedLine) (before : List ParsedLine) → bytes ≡ key_of l
    → UpdatesBy string_cmp (λ k. slice_cmp nat_cmp bytes (string_bytes k)) old mid None
    → UpdatesBy string_cmp (λ k. slice_cmp nat_cmp bytes (string_bytes k)) mid new (Some group)
    → lines_in (Some group) ≡ lines_at old bytes ++ l ∷ []
    → ((key : List ℕ) → lines_at old key ≡ filter (has_key key) before)
    → (key : List ℕ) → lines_at new key ≡ filter (has_key key) (before ++ l ∷ [])
group_more {Y} old mid new group bytes l before is out put grown so_far key = by_test (bytes_eq bytes key) refl
  where
    -- the group of the line has it
    here : lines_at new bytes ≡ filter (has_key bytes) (before ++ l ∷ [])
    here =
        let same = nat_list_eq_equiv.refl bytes in
        let there = btree_map_updates_text bytes mid new (Some group) put bytes
        ∙ update_same bytes_eq (get_by_text mid) bytes (Some group) bytes same in
        ap lines_in there ∙ grown ∙ ap (λ (ls : List ParsedLine). ls ++ l ∷ []) (so_far bytes)
        ∙ kept (has_key bytes) before l (ap (λ (k : List ℕ). bytes_eq k bytes) (sym is) ∙ same)

    -- Each group has its lines, whether or not its key is the key of the new line.
    by_test : (same : Bool) → bytes_eq bytes key ≡ same → lines_at new key ≡ filter (has_key key) (before ++ l ∷ [])
    by_test true same = subst (λ (k : List ℕ). lines_at new k ≡ filter (has_key k) (before ++ l ∷ [])) (same_text bytes key (sym same)) here
    by_test false other =
        let there = btree_map_updates_text bytes mid new (Some group) put key
        ∙ update_other bytes_eq (get_by_text mid) bytes (Some group) key other in
        let gone = btree_map_updates_text bytes old mid None out key ∙ update_other bytes_eq (get_by_text old) bytes None key other in
        ap lines_in (there ∙ gone) ∙ so_far key
        ∙ left_out (has_key key) before l (ap (λ (k : List ℕ). bytes_eq k key) (sym is) ∙ other)
