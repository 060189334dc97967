-- Names as they are spelled, and where InfluxDB's reader ends them.
use Rattle.std.proofs.Common.{◌≡◌, ℕ, ◌<◌, ◌≤◌, zero, suc, List, [], ◌∷◌, ◌++◌, length, drop, Bool, true, false, ◌==◌, refl, sym, ap, ◌∙◌, arith, inl, inr}
use Rattle.std.proofs.Common.{take-append-drop, eqb-true, eq-eqb, ne_eqb}
use Rattle.std.proofs.Math.Seq.{drop-append_seam}
use Rattle.std.proofs.lemmas.{Bool.cases_Bool, Bool.false≢true, Bool.eqb-false}
use Rattle.std.proofs.lemmas.List.Elements.{All-head, All-tail}
use Rattle.std.specs.List.{list_any, All}
use Rattle.lp_format.specs.format.{NameKind, Reading, Text, backslash, bare, ends_in_backslash, is_one_of, is_stop, name, reads, spelled, spelled_len}
use Rattle.lp_format.specs.format.{byte, comma, miss, after_comma, many}
use Rattle.lp_format.proofs.lemmas.names.NameLemmas.{logical_ends}
use Rattle.lp_split.proofs.lemmas.split.ScanLemmas.{before_stop}
use Rattle.lp_values.proofs.lemmas.fields.ReadingLemmas.{bind_reads, byte_parts, name_parts, reads_parts}
use Rattle.lp_portable.specs.format.Spellings.{AreAfterCommas, holds, name_text}
use Rattle.lp_portable.proofs.HeldBytes.{bare_bytes_are_held, neither}
use Rattle.lp_influx.specs.format.InfluxNames.{some_of, until}

-- the last byte of a longer text
pub ends_cons : (b : ℕ) (xs : List ℕ) → 0 < length xs → ends_in_backslash (b ∷ xs) ≡ ends_in_backslash xs
ends_cons b xs h = grind arith

-- a name that holds no escaped backslash, and none of the bytes that end it bare, is read up to one of these
pub until_name : (ends name rest : List ℕ) (b : ℕ) → is_one_of ends backslash ≡ false → is_one_of ends b ≡ true
    → holds (backslash ∷ []) [] name ≡ false → holds [] ends name ≡ false → ends_in_backslash name ≡ false
    → until ends false (name ++ b ∷ rest) ≡ name
unfolding holds until
until_name ends [] rest b other end no_pair no_bare last = rw end refl
until_name ends (c ∷ []) rest b other end no_pair no_bare last = rw (no_bare, last, end) refl
until_name ends (c ∷ d ∷ name) rest b other end no_pair no_bare last = elim (cases_Bool (c == backslash)) [
  | inl slash ↦
      let is = eqb-true c backslash slash in
      let stays : is_one_of ends c ≡ false = ap (is_one_of ends) is ∙ other in
      let pair = neither _ _ (rw slash at no_pair) in
      let plain : (d == backslash) ≡ false = ne_eqb d backslash (λ e. false≢true (sym (neither _ _ pair.0).0 ∙ eq-eqb backslash d (sym e))) in
      let more = until_name ends name rest b other end pair.1 (rw slash at no_bare) (shorter c d name last) in
      rw (stays, slash, plain) (ap (λ (t : List ℕ). c ∷ d ∷ t) more)
  | inr plain ↦
      let bare_here = neither (is_one_of ends c) (holds [] ends (d ∷ name)) (rw plain at no_bare) in
      let more = until_name ends (d ∷ name) rest b other end (rw plain at no_pair) bare_here.1 (sym (ends_cons c (d ∷ name) (omega arith)) ∙ last) in
      rw (bare_here.0, plain) (ap (λ (t : List ℕ). c ∷ t) more)
]
  where
    -- two bytes further
    shorter : (c d : ℕ) (name : List ℕ) → ends_in_backslash (c ∷ d ∷ name) ≡ false → ends_in_backslash name ≡ false
    shorter c d [] last = refl
    shorter c d (e ∷ name) last = sym (ends_cons c (d ∷ e ∷ name) (omega arith) ∙ ends_cons d (e ∷ name) (omega arith)) ∙ last

-- bytes that no name holds bare, if they are all among others that it does not hold so
pub bare_by : (xs ys zs name : List ℕ) → ((b : ℕ) → is_one_of xs b ≡ false → is_one_of ys b ≡ false → is_one_of zs b ≡ false)
    → holds [] xs name ≡ false → holds [] ys name ≡ false → holds [] zs name ≡ false
unfolding holds
bare_by xs ys zs [] all h k = refl
bare_by xs ys zs (b ∷ []) all h k = all b h k
bare_by xs ys zs (b ∷ c ∷ name) all h k = elim (cases_Bool (b == backslash)) [
  | inl slash ↦ rw slash (bare_by xs ys zs name all (rw slash at h) (rw slash at k))
  | inr plain ↦
      let one = neither (is_one_of xs b) (holds [] xs (c ∷ name)) (rw plain at h) in
      let other = neither (is_one_of ys b) (holds [] ys (c ∷ name)) (rw plain at k) in
      rw (plain, all b one.0 other.0) (bare_by xs ys zs (c ∷ name) all one.1 other.1)
]

-- a name at the start of a text, as it is spelled, and this after it
pub record NameFront (kind : NameKind) (text front rest : List ℕ) : Type 0 where
  pub whole : text ≡ front ++ rest
  pub some : 0 < length front
  pub last : ends_in_backslash front ≡ false
  pub bare_bytes : (marks : List ℕ) → is_one_of marks backslash ≡ false → ((b : ℕ) → is_stop kind b ≡ false → is_one_of marks b ≡ false)
      → holds [] marks front ≡ false

-- No byte of a list passes a test, if each of its bytes fails a wider test.
none_of : (p q : ℕ → Bool) → ((b : ℕ) → p b ≡ false → q b ≡ false) → (bytes : List ℕ) → All (λ b. p b ≡ false) bytes → list_any q bytes ≡ false
none_of p q all [] h = refl
none_of p q all (b ∷ bytes) h =
    rw (all b (All-head (λ c. p c ≡ false) b bytes h)) (none_of p q all bytes (All-tail (λ c. p c ≡ false) b bytes h))

-- A name that was read is not empty and does not end in a backslash.
name_is_some : (kind : NameKind) (text : List ℕ) (t : Text) (rest : List ℕ) → name kind text ≡ reads t rest
    → (0 < length (spelled kind text)) × (ends_in_backslash (spelled kind text) ≡ false)
unfolding name
name_is_some kind text t rest e = grind (arith, cases_Bool, eqb-false, logical_ends)

-- A name that was read is the front of the text before the rest, with these facts.
pub name_front : (kind : NameKind) (text front rest : List ℕ) → name_text kind text ≡ reads front rest → NameFront kind text front rest
name_front kind text front rest e =
    let two = bind_reads (name kind text) (λ n. reads (spelled kind text) n.rest) front rest e in
    let same = reads_parts (spelled kind text) front two.mid rest two.next in
    let is = name_is_some kind text two.first two.mid two.was in
    let after : rest ≡ drop (spelled_len kind text) text = sym same.1 ∙ (name_parts kind text two.first two.mid two.was).1 in
    let whole : spelled kind text ++ rest ≡ text = rw after (take-append-drop (spelled_len kind text) text) in
    let stops = (before_stop (is_stop kind) (spelled kind text) rest).0 (rw whole refl) in
    rw (← same.0) (record {
      whole = sym whole;
      some = is.0;
      last = is.1;
      bare_bytes = λ marks other all. bare_bytes_are_held marks (spelled kind text) other ∙ none_of (is_stop kind) (is_one_of marks) all (bare (spelled kind text)) stops.none;
    })

-- A front of a text is the front of a name if it equals the spelled name, and its rest equals the rest.
pub front_is : (kind : NameKind) (text front other rest end : List ℕ) → name_text kind text ≡ reads front rest → front ≡ other → rest ≡ end
    → NameFront kind text other end
front_is kind text front other rest end e same after = rw (← same, ← after) (name_front kind text front rest e)

-- a name and its spelling leave the same
pub name_rest : (kind : NameKind) (text front mid : List ℕ) (t : Text) (rest : List ℕ) → name_text kind text ≡ reads front mid → name kind text ≡ reads t rest
    → mid ≡ rest
name_rest kind text front mid t rest e d = sym (reads_parts (spelled kind text) front rest mid (rw d at e)).1

-- A front of the text that is not empty is read.
pub some_reads : (front rest : List ℕ) → 0 < length front → some_of front (front ++ rest) ≡ reads front rest
some_reads front rest some = rw (ne_eqb (length front) 0 (λ e. absurd (omega (arith, e))), drop-append_seam front rest) refl

-- parts that come after commas are read, if no more do
pub many_reads : {A : Type 0} (one : List ℕ → Reading A) (xs : List A) (n : ℕ) (text rest : List ℕ) → length xs ≤ n → AreAfterCommas one xs text rest
    → after_comma one rest ≡ miss → many (after_comma one) n text ≡ reads xs rest
many_reads one [] zero text rest fits are none = rw are refl
many_reads one [] (suc n) text rest fits are none = rw (are, none) refl
many_reads one (x ∷ xs) zero text rest fits are none = absurd (omega arith)
many_reads one (x ∷ xs) (suc n) text rest fits are none = rw (are.1, many_reads one xs n are.0 rest (omega arith) are.2 none) refl

module _ {A : Type 0} (one : List ℕ → Reading A) (no_longer : (text : List ℕ) (x : A) (rest : List ℕ) → one text ≡ reads x rest → length rest ≤ length text) where
  -- The text after a comma and an element is shorter than the text.
  less_left : (text : List ℕ) (x : A) (rest : List ℕ) → after_comma one text ≡ reads x rest → length rest < length text
  less_left text x rest e =
      let two = bind_reads (byte comma text) (λ after. one after.rest) x rest e in
      omega (arith, no_longer two.mid x rest two.next, ap length (byte_parts comma text two.first two.mid two.was).1)

  -- The parts after commas are no more than the bytes of their text.
  pub are_fewer : (xs : List A) (text rest : List ℕ) → AreAfterCommas one xs text rest → length xs ≤ length text
  are_fewer [] text rest are = omega arith
  are_fewer (x ∷ xs) text rest are = omega (arith, less_left text x are.0 are.1, are_fewer xs are.0 rest are.2)
