-- What commas join at the start of a text is read whatever follows it, if that begins alike.
use Rattle.std.proofs.Common.{◌≡◌, ℕ, List, [], ◌∷◌, ◌++◌, refl, sym, ap, ◌∙◌, arith, subst}
use Rattle.std.proofs.Common.{append_assoc}
use Rattle.lp_format.specs.format.{Reading, reads, miss, comma, after_comma}
use Rattle.lp_format.specs.laws.Meanings.{SeparatedAfterComma, SeparatedBy, WholeList}
use Rattle.lp_format.proofs.lemmas.meanings.{JoinedMeaning.the_most_is_read, ShorterRests.IsNoLonger}
use Rattle.lp_events.proofs.lemmas.fields.ManyLemmas.{joined, read_all}
use Rattle.lp_relay.proofs.ReadFronts.{BeginsAlike, ReadsFront, alike_after}

module _ {A : Type 0} (one : List ℕ → Reading A) (no_longer : (text : List ℕ) → IsNoLonger text (one text)) (Ends : List ℕ → Type 0)
    (comma_ends : (rest : List ℕ) → Ends (comma ∷ rest))
    (fronts : (text : List ℕ) (x : A) (rest : List ℕ) → Ends rest → one text ≡ reads x rest → ReadsFront one text x rest) where
  -- Parts after commas are a front of a text, and they are read too before each other rest that begins alike.
  record LaterFront (xs : List A) (text rest : List ℕ) : Type 0 where
    front : List ℕ
    is : text ≡ front ++ rest
    again : (other : List ℕ) → BeginsAlike rest other → SeparatedAfterComma one xs (front ++ other) other

  -- What parts after commas leave begins with a comma, or is the rest.
  later_ends : (xs : List A) (text rest : List ℕ) → Ends rest → SeparatedAfterComma one xs text rest → Ends text
  later_ends [] text rest ends are = subst Ends (sym are) ends
  later_ends (x ∷ xs) text rest ends are = subst Ends (sym are.2) (comma_ends are.0)

  -- Parts after commas are read too before each other rest that begins alike.
  later_front : (xs : List A) (text rest : List ℕ) → Ends rest → SeparatedAfterComma one xs text rest → LaterFront xs text rest
  later_front [] text rest ends are = record { front = []; is = are; again = λ other alike. refl }
  later_front (x ∷ xs) text rest ends are =
      let first = fronts are.0 x are.1 (later_ends xs are.1 rest ends are.4) are.3 in
      let more = later_front xs are.1 rest ends are.4 in
      record {
        front = comma ∷ (first.front ++ more.front);
        is = are.2 ∙ ap (λ (l : List ℕ). comma ∷ l) (first.is ∙ ap (λ (l : List ℕ). first.front ++ l) more.is ∙ sym (append_assoc first.front more.front rest));
        again = λ other alike.
            let left = more.front ++ other in
            let next = subst (λ (l : List ℕ). BeginsAlike l left) (sym more.is) (alike_after more.front rest other alike) in
            (first.front ++ left, left, ap (λ (l : List ℕ). comma ∷ l) (append_assoc first.front more.front other), first.again left next, more.again other alike);
      }

  -- Parts that commas join are a front of a text, and they are all that is read too before each other rest that begins alike and has no further part.
  pub record ListFront (xs : List A) (text rest : List ℕ) : Type 0 where
    pub front : List ℕ
    pub is : text ≡ front ++ rest
    pub again : (other : List ℕ) → BeginsAlike rest other → after_comma one other ≡ miss → WholeList one (front ++ other) xs other

  -- Parts that commas join are read too before each other rest that begins alike.
  pub list_front : (xs : List A) (text rest : List ℕ) → Ends rest → WholeList one text xs rest → ListFront xs text rest
  list_front [] text rest ends whole = absurd (omega (arith, whole.some))
  list_front (x ∷ xs) text rest ends whole =
      let are = whole.longest.separated in
      let first = fronts text x are.0 (later_ends xs are.0 rest ends are.2) are.1 in
      let more = later_front xs are.0 rest ends are.2 in
      record {
        front = first.front ++ more.front;
        is = first.is ∙ ap (λ (l : List ℕ). first.front ++ l) more.is ∙ sym (append_assoc first.front more.front rest);
        again = λ other alike none.
            let left = more.front ++ other in
            let text_now = (first.front ++ more.front) ++ other in
            let next = subst (λ (l : List ℕ). BeginsAlike l left) (sym more.is) (alike_after more.front rest other alike) in
            let now : SeparatedBy one (x ∷ xs) text_now other = (left, rw (append_assoc first.front more.front other) (first.again left next), more.again other alike) in
            let read = read_all one no_longer (x ∷ xs) text_now other (omega arith) ((joined one no_longer (x ∷ xs) text_now other).1 now) none in
            (the_most_is_read one (λ t. (no_longer t).holds) text_now (x ∷ xs) other).0 read.0;
      }
