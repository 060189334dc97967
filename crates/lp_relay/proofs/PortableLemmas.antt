-- What comes of a line that is to be portable.
use Rattle.std.proofs.Common.{◌≡◌, ◌≤◌, ◌<◌, ◌&&◌, ◌++◌, ◌∙◌, nat_lt, Bool, true, false, ℕ, List, length, length-append, Option, None, Some, ap, refl, arith}
use Rattle.lp_conditions.specs.declared.portable.Portable.{Portable}
use Rattle.std.proofs.lemmas.Bool.Decides.{nat_tests}
use Rattle.lp_conditions.specs.declared.settings.LineForm.{LineForm}
use Rattle.lp_relay.specs.declared.taking.Taken.{Taken}
use Rattle.lp_relay.specs.declared.taking.Taken.TheVariants as took
use Rattle.lp_relay.specs.Taking.{TakesItem}
use Rattle.lp_faults.specs.Relaying.{Item, allowed, goes_out, if_portable, is_carried_item, item_line, line_in}
use Rattle.lp_conditions.specs.LineTimes.{front_of}

-- an item of which nothing goes out stays
allowed_same : (portable : Option Portable) (lines : LineForm) (piece : List ℕ) (item : Item) → goes_out item ≡ false
    → allowed portable lines piece item ≡ item
allowed_same None lines piece item none = refl
allowed_same (Some p) lines piece item none = rw none refl

-- what is not carried does not go out
refused_stays_in : (item : Item) → is_carried_item item ≡ false → goes_out item ≡ false
refused_stays_in item refused = rw refused refl

-- what came of a line that was not added stays
pub not_added : (portable : Option Portable) (lines : LineForm) (piece : List ℕ) (item : Item) (taken : Taken) (before after : List ℕ)
    → ((taken ≡ took.Carried) → ⊥) → TakesItem taken item before after → TakesItem taken (allowed portable lines piece item) before after
not_added portable lines piece item took.Blank before after other takes = absurd takes
not_added portable lines piece item took.Carried before after other takes = absurd (other refl)
not_added portable lines piece item (took.Refused refusal) before after other takes =
    rw (allowed_same portable lines piece item (refused_stays_in item takes.0.refused)) takes

-- the second of two tests fails
and_fails : (a : Bool) → (a && false) ≡ false
and_fails true = refl
and_fails false = refl

-- nothing goes out for an item for which nothing was added
pub nothing_out : (item : Item) (before after : List ℕ) (at : ℕ) → at ≡ length before → length after ≤ at
    → TakesItem took.Carried item before after → goes_out item ≡ false
nothing_out item before after at is short takes =
    let len : length after ≡ length (before ++ item_line item) = ap length takes.1 in
    let none : nat_lt 0 (length (item_line item)) ≡ false =
    grind (arith, nat_tests, length-append before (item_line item)) in
    ap (λ (b : Bool). is_carried_item item && b) none ∙ and_fails (is_carried_item item)

-- something goes out for one for which something was
pub something_out : (item : Item) (before after : List ℕ) (at : ℕ) → at ≡ length before → at < length after
    → TakesItem took.Carried item before after → goes_out item ≡ true
something_out item before after at is long takes =
    let len : length after ≡ length (before ++ item_line item) = ap length takes.1 in
    let some : nat_lt 0 (length (item_line item)) ≡ true =
    grind (arith, nat_tests, length-append before (item_line item)) in
    rw (takes.0, some) refl

-- nor does a line of which nothing was added
pub nothing_added : (portable : Option Portable) (lines : LineForm) (piece : List ℕ) (item : Item) (before after : List ℕ) (at : ℕ)
    → at ≡ length before → length after ≤ at → TakesItem took.Carried item before after
    → TakesItem took.Carried (allowed portable lines piece item) before after
nothing_added portable lines piece item before after at is short takes =
    rw (allowed_same portable lines piece item (nothing_out item before after at is short takes)) takes

-- a line of which something was added is looked at
pub something_added : (p : Portable) (lines : LineForm) (piece : List ℕ) (item : Item) (before after : List ℕ) (at : ℕ)
    → at ≡ length before → at < length after → TakesItem took.Carried item before after
    → allowed (Some p) lines piece item ≡ if_portable p (front_of piece) (line_in lines piece (item_line item)) item
something_added p lines piece item before after at is long takes = rw (something_out item before after at is long takes) refl
