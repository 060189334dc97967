-- Refused items, counted by kinds.
use Rattle.std.proofs.Common.{◌≡◌, ℕ, ◌+◌, true, false, cond, not, List, [], ◌∷◌, ◌++◌}
use Rattle.std.proofs.Common.{Option, None, Some, option_map, Ok, Err, refl, sym, ap, ◌∙◌, arith, rules, inl, inr, IfSome}
use Rattle.std.specs.List.{count_by, sum_by}
use Rattle.std.specs.Option.{is_none, option_map_or}
use Rattle.std.proofs.lemmas.Bool.{cases_Bool}
use Rattle.std.proofs.lemmas.List.{Sums.sum-map, Sums.sum_by-append, Sums.sum_by-cons}
use Rattle.std.proofs.Math.{Path.fun_ext}
use Rattle.lp_rebuild.specs.Rebuilding.{is_carried_answer}
use Rattle.lp_conditions.specs.declared.kinds.{Kind.Kind, KindCounts.KindCounts, TheConstants.KINDS}
use Rattle.lp_conditions.specs.declared.settings.Settings.{Settings}
use Rattle.lp_conditions.specs.KindCounts.{Counts, counts_if, counts_of, is_kind, sum_of, with_fault}
use Rattle.lp_faults.specs.Kinds.{is_refused_for, kinds_after, kinds_of_none, refused_kinds}
use Rattle.lp_faults.specs.Objects.{item_kind}
use Rattle.lp_faults.specs.Relaying.{Item, answered, put_out, not_as_written, not_portable, not_of_type, not_of_time, not_utf8, too_long, is_carried_item, refused_items}
use Rattle.lp_faults.proofs.ItemLemmas.{refused_append}

-- an item is carried exactly if it is refused for no fault
carried_kind : (item : Item) → is_carried_item item ≡ is_none (item_kind item)
carried_kind (answered front (Ok line)) =
    elim (cases_Bool (is_carried_answer (Ok line))) [ inl carried ↦ rw carried refl | inr refused ↦ rw refused refl ]
carried_kind (answered front (Err fault)) = refl
carried_kind (put_out out) = refl
carried_kind (not_as_written front wrong) = refl
carried_kind (not_portable front wrong) = refl
carried_kind (not_of_type front fault) = refl
carried_kind (not_of_time front fault) = refl
carried_kind not_utf8 = refl
carried_kind (too_long kept) = refl

-- what is none is `None`
none_is : {A : Type 0} (o : Option A) → is_none o ≡ true → o ≡ None
none_is None is = refl
none_is (Some x) is = absurd (cc)

-- an item that is carried has no kind
pub no_kind : (item : Item) → is_carried_item item ≡ true → item_kind item ≡ None
no_kind item carried = none_is (item_kind item) (sym (carried_kind item) ∙ carried)

-- of no item nothing is counted
pub kinds_of_nothing : (counts : Option Counts) → kinds_after [] counts ≡ counts
kinds_of_nothing None = refl
kinds_of_nothing (Some counts) = ap Some (fun_ext (λ (kind : Kind). omega arith))

-- nor of one item at most that is carried
pub kinds_of_carried : (item : Item) (counts : Option Counts) → is_carried_item item ≡ true → kinds_after (item ∷ []) counts ≡ counts
kinds_of_carried item None carried = refl
kinds_of_carried item (Some counts) carried = ap Some (fun_ext (λ (kind : Kind). rw (no_kind item carried) (omega arith)))

-- an item that is refused for a kind
pub kinds_of_refused : (item : Item) (kind : Kind) (counts : Option Counts) → Some kind ≡ item_kind item
    → option_map (with_fault kind) counts ≡ kinds_after (item ∷ []) counts
kinds_of_refused item kind None is = refl
kinds_of_refused item kind (Some counts) is = ap Some (fun_ext (λ (other : Kind). rw (← is) (omega arith)))

-- items, and then others
pub kinds_of_more : (xs ys : List Item) (counts : Option Counts) → kinds_after ys (kinds_after xs counts) ≡ kinds_after (xs ++ ys) counts
kinds_of_more xs ys None = refl
kinds_of_more xs ys (Some counts) =
    ap Some (fun_ext (λ (kind : Kind). omega (arith, sum_by-append (λ (item : Item). cond (is_refused_for kind item) 1 0) xs ys)))

-- all items
pub kinds_of_all : (s : Settings) (items : List Item) → kinds_after items (kinds_of_none s) ≡ refused_kinds s items
kinds_of_all s items =
    elim (cases_Bool s.counts_kinds) [
      | inl asked ↦ rw asked (ap Some (fun_ext (λ (kind : Kind). omega arith)))
      | inr unasked ↦ rw unasked refl
    ]

-- how many of these items are refused for a kind
abbrev count_in : List Item → Kind → ℕ
count_in items kind = count_by (is_refused_for kind) items

-- how many are refused for these kinds
abbrev total : (kinds : List Kind) → List Item → ℕ
total kinds items = sum_by (count_in items) kinds

-- of no item
total_of_none : (kinds : List Kind) → total kinds [] ≡ 0
total_of_none [] = refl
total_of_none (kind ∷ kinds) = omega (arith, sum_by-cons (count_in []) kind kinds, total_of_none kinds)

-- of an item and others
total_first : (kinds : List Kind) (x : Item) (xs : List Item) → total kinds (x ∷ xs) ≡ total kinds (x ∷ []) + total kinds xs
total_first [] x xs = refl
total_first (kind ∷ kinds) x xs =
    omega (
      arith,
      sum_by-append (λ (item : Item). cond (is_refused_for kind item) 1 0) (x ∷ []) xs,
      sum_by-cons (count_in (x ∷ xs)) kind kinds,
      sum_by-cons (count_in (x ∷ [])) kind kinds,
      sum_by-cons (count_in xs) kind kinds,
      total_first kinds x xs,
    )

-- each kind is listed once
listed_once : (k : Kind) → sum_by (λ (kind : Kind). 0 + cond (is_kind kind k) 1 0) KINDS.now ≡ 1
listed_once k = search rules

-- so what is refused for a fault counts for one kind
total_of_kind : (o : Option Kind) → sum_by (λ (kind : Kind). 0 + cond (option_map_or (is_kind kind) o false) 1 0) KINDS.now
    ≡ 0 + cond (not (is_none o)) 1 0
total_of_kind None = refl
total_of_kind (Some kind) = listed_once kind

-- the items that are refused for each kind are all that are refused
kinds_add_up : (items : List Item) → total KINDS.now items ≡ refused_items items
kinds_add_up [] = total_of_none KINDS.now
kinds_add_up (item ∷ items) =
    let one : total KINDS.now (item ∷ []) ≡ refused_items (item ∷ []) =
    total_of_kind (item_kind item) ∙ ap (λ b. 0 + cond (not b) 1 0) (sym (carried_kind item)) in
    omega (arith, total_first KINDS.now item items, one, refused_append (item ∷ []) items, kinds_add_up items)

-- so it is of what is counted, if it is
pub counts_add_up : (s : Settings) (items : List Item) (kinds : Option KindCounts) (refused : ℕ)
    → counts_if kinds ≡ refused_kinds s items → refused ≡ refused_items items → IfSome kinds (λ counts. sum_of (counts_of counts) ≡ refused)
counts_add_up s items None refused is count = tt
counts_add_up s items (Some counts) refused is count =
    elim (cases_Bool s.counts_kinds) [
      | inl asked ↦
          let all = rw asked at is in
          let same : counts_of counts ≡ count_in items = cc in
          ap sum_of same ∙ sum-map (count_in items) KINDS.now ∙ kinds_add_up items ∙ sym count
      | inr unasked ↦ let none = rw unasked at is in absurd (cc)
    ]
