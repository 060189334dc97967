-- The verdict on a text agrees with the clauses that the text breaks.
use Rattle.std.proofs.Common.{◌≡◌, ℕ, Bool, ◌&&◌, List, [], ◌∷◌, drop, length, Option, Some, Ok, Err, Result, inl, inr, refl, sym, ap, ◌∙◌, cond}
use Rattle.std.proofs.lemmas.{Bool.cases_Bool}
use Rattle.lp_format.specs.format.{Fault, Line, Pair, Reading, Strict, a_measurement, answers_of_piece, spaces, trimmed}
use Rattle.lp_portable.specs.declared.{broken.Broken.Broken, broken.Clause.Clause, broken.TheConstants.CLAUSES, limits.Limits.Limits, limits.Servers.Servers}
use Rattle.lp_portable.specs.declared.verdicts.Verdict.TheVariants as told
use Rattle.lp_portable.specs.format.{AreAfterCommas, AreJoined, IsSpelled, Spelling, breaks, concerns, key_text, name_text, tag_text}
use Rattle.lp_portable.specs.code.Clauses.{Breaks, clause_of, first_broken, first_of, is_broken_for, limits_of, servers_of}
use Rattle.lp_portable.specs.code.Telling.{IsNoLine}
use Rattle.lp_portable.specs.code.Cut.{is_cut}
use Rattle.lp_portable.specs.code.Verdicts.{after_commas, and_those_after, between_commas, by_first, first_clause, names_in, names_of, read_or, verdict_of, verdict_on}
use Rattle.lp_portable.proofs.CutWalk.{cut_is}

module _ {A : Type 0} (one : List ℕ → Reading A) where
  -- parts after commas are found again
  after_is : (xs : List A) (text rest : List ℕ) → AreAfterCommas one xs text rest → after_commas one (length xs) text ≡ (xs, rest)
  after_is [] text rest h = ap (λ (t : List ℕ). ([], t)) h
  after_is (x ∷ xs) text rest h =
      ap (λ (r : Reading A). and_those_after r (after_commas one (length xs))) h.1
      ∙ ap (λ (p : List A × List ℕ). (x ∷ p.0, p.1)) (after_is xs h.0 rest h.2)

  -- Parts with commas between them are the parts that the function reads.
  between_is : (xs : List A) (text rest : List ℕ) → AreJoined one xs text rest → between_commas one (length xs) text ≡ xs
  between_is [] text rest h = refl
  between_is (x ∷ xs) text rest h =
      ap (λ (r : Reading A). (and_those_after r (after_commas one (length xs))).0) h.1
      ∙ ap (λ (p : List A × List ℕ). x ∷ p.0) (after_is xs h.0 rest h.2)

-- The names of a line with this spelling are the names that the function finds.
names_found : (names : Spelling) (after_name after_tags rest : List ℕ)
    → AreAfterCommas tag_text names.tags after_name after_tags
    → AreJoined key_text names.keys (drop (spaces after_tags) after_tags) rest
    → names_of (names.measurement, after_name) (length names.tags) (length names.keys) ≡ names
names_found names after_name after_tags rest tags keys =
    let found : (p : List (Pair (List ℕ) (List ℕ)) × List ℕ) → (let n : Spelling = record {
      measurement = names.measurement;
      tags = p.0;
      keys = between_commas key_text (length names.keys) (drop (spaces p.1) p.1);
    } in n ≡ n) = λ p. refl in
    let same = after_is tag_text names.tags after_name after_tags tags in
    ap (λ (p : List (Pair (List ℕ) (List ℕ)) × List ℕ). let n : Spelling = record {
      measurement = names.measurement;
      tags = p.0;
      keys = between_commas key_text (length names.keys) (drop (spaces p.1) p.1);
    } in n) same
    ∙ ap (λ (ks : List (List ℕ)). let n : Spelling = record { measurement = names.measurement; tags = names.tags; keys = ks } in n)
    (between_is key_text names.keys (drop (spaces after_tags) after_tags) rest keys)

-- The names of a line are the names that its text spells.
names_are : (text : List ℕ) (line : Line) (names : Spelling) → IsSpelled text line names → names_in text line ≡ names
names_are text line names h =
    ap (λ (n : ℕ). names_of (read_or [] (name_text a_measurement text)) n (length line.fields)) (sym h.all_tags)
    ∙ ap (λ (n : ℕ). names_of (read_or [] (name_text a_measurement text)) (length names.tags) n) (sym h.all_keys)
    ∙ ap (λ (r : Reading (List ℕ)). names_of (read_or [] r) (length names.tags) (length names.keys)) h.measurement
    ∙ names_found names h.after_name h.after_tags h.rest h.tags h.keys

-- the first of clauses that pass alike
first_alike : (p q : Clause → Bool) → ((c : Clause) → p c ≡ q c) → (clauses : List Clause) → first_of p clauses ≡ first_of q clauses
first_alike p q same [] = refl
first_alike p q same (c ∷ clauses) =
    ap (λ (b : Bool). cond b (Some c) (first_of p clauses)) (same c) ∙ ap (λ (o : Option Clause). cond (q c) (Some c) o) (first_alike p q same clauses)

-- The first clause that a line breaks by the definition is the first clause that is broken by the findings of the code.
first_same : (to : Servers) (limits : Limits) (text : List ℕ) (broken : Broken) (b : Breaks limits text broken)
    → first_clause to limits text b.line (names_in (trimmed text) b.line) ≡ first_broken to broken
unfolding first_broken
first_same to limits text broken b =
    ap (first_clause to limits text b.line) (names_are (trimmed text) b.line b.names b.are_names)
    ∙ first_alike (λ c. concerns (servers_of to) (clause_of c) && breaks (limits_of limits) text b.line b.names (clause_of c)) (is_broken_for to broken)
    (λ c. ap (λ (x : Bool). concerns (servers_of to) (clause_of c) && x) (sym (b.tells c))) CLAUSES.now

-- a line is told by the first clause that it breaks
pub line_told : (to : Servers) (limits : Limits) (text : List ℕ) (broken : Broken) → Breaks limits text broken
    → verdict_of to limits text ≡ by_first (first_broken to broken)
unfolding verdict_of
line_told to limits text broken b =
    let cut = (cut_is text).1 b.is_line.piece in
    let on = ap (verdict_on to limits text) b.is_line.read ∙ ap by_first (first_same to limits text broken b) in
    rw cut on

-- answers that are no one line
no_line_on : (to : Servers) (limits : Limits) (text : List ℕ) (answers : List (Result Line Fault))
    → ((line : Line) → ¬ (answers ≡ Ok line ∷ [])) → verdict_on to limits text answers ≡ told.NoLine
no_line_on to limits text [] none = refl
no_line_on to limits text (Err fault ∷ answers) none = refl
no_line_on to limits text (Ok line ∷ []) none = absurd (none line refl)
no_line_on to limits text (Ok line ∷ a ∷ answers) none = refl

-- a text that is no line is told as that
pub no_line_told : (to : Servers) (limits : Limits) (text : List ℕ) → IsNoLine text → verdict_of to limits text ≡ told.NoLine
unfolding verdict_of
no_line_told to limits text none = elim (cases_Bool (is_cut text)) [
  | inl is ↦ rw is (no_line_on to limits text (answers_of_piece Strict text)
      (λ line e. none line (record { piece = (cut_is text).0 is; read = e })))
  | inr differs ↦ rw differs refl
]
