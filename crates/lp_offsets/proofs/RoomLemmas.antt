-- What rooms show that have the bytes in use.
use Rattle.std.proofs.Common.{◌≡◌, ◌∙◌, ℕ, ◌+◌, ◌≤◌, List, ◌++◌, length, take, drop, sym, ap, arith, append_assoc}
use borrow.Rule.Slice.PartMut.{post_of, put_mid}
use Rattle.std.proofs.lemmas.List.{drop-take, drop_at, length-take-le, take-take, take_at}
use Rattle.lp_offsets.specs.Rooms.{Grows, Shows}

-- a room that grows and then grows on has grown
pub grows_on : (old mid new : List ℕ) (used m all : ℕ) → Grows old used mid m → Grows mid m new all → Grows old used new all
grows_on old mid new used m all first next = record {
  size = next.size ∙ first.size;
  more = omega (arith, first.more, next.more);
  kept = sym (take-take used m new first.more)
      ∙ (ap (take used) next.kept ∙ (take-take used m mid first.more ∙ first.kept));
}

-- what is shown stays so as the room grows
pub shows_on : {A : Type 0} (f : List ℕ → A) (x : A) (mid new : List ℕ) (m all : ℕ) → Grows mid m new all → Shows f mid m x
    → Shows f new all x
shows_on f x mid new m all grows shows = λ enough r same.
    shows (omega (arith, enough, grows.more, grows.size)) r
    (sym (take-take m all r grows.more) ∙ (ap (take m) same ∙ (take-take m all new grows.more ∙ grows.kept)))

-- a copy that was put after the bytes in use is shown
pub copy_shown : (at n used len all k : ℕ) (room ys bytes rest r : List ℕ) → at ≡ used → n ≡ len → len ≡ length bytes
    → all ≡ used + len → used ≤ length room → ys ≡ bytes ++ rest → take all r ≡ take all (put_mid used k room ys)
    → take n (drop at r) ≡ bytes
copy_shown at n used len all k room ys bytes rest r is_at is_n size sum within is same =
    let new = put_mid used k room ys in
    let post = post_of used k room in
    let parted : drop used new ≡ ys ++ post = drop_at (take used room) (ys ++ post) used (length-take-le used room within) in
    let front : take len (drop used new) ≡ bytes =
    ap (take len) (parted ∙ (ap (λ l. l ++ post) is ∙ append_assoc bytes rest post)) ∙ take_at bytes (rest ++ post) len (sym size) in
    let alike : take (used + len) r ≡ take (used + len) new =
    ap (λ i. take i r) (sym sum) ∙ (same ∙ ap (λ i. take i new) sum) in
    rw (is_at, is_n) (sym (drop-take used len r) ∙ (ap (drop used) alike ∙ (drop-take used len new ∙ front)))
