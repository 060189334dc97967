-- A rebuild takes the pieces of a text one after another.
use Rattle.std.proofs.Common.{None, Some, ◌≡◌, ℕ, ◌+◌, ◌==◌, ◌<◌, Bool, true, false, not, cond, List, [], ◌∷◌, ◌++◌, length}
use Rattle.std.proofs.Common.{Result, Ok, string_bytes, refl, sym, ap, subst, ◌∙◌, arith, append_assoc}
use Rattle.std.proofs.Common.{append-nil, eq-eqb, inl, inr}
use Rattle.std.proofs.Math.Nat.{eq-zero-or-pos}
use Rattle.std.specs.List.{flat_map}
use Rattle.std.proofs.lemmas.Grind.{flat_map-append}
use Rattle.std.proofs.lemmas.Bool.Decides.{nat_tests}
use Rattle.std.proofs.lemmas.List.Sums.{sum_by-append}
use Rattle.influxdb_line_protocol.specs.format.Bytes.{newline}
use Rattle.influxdb_line_protocol.specs.format.Dialects.{Dialect}
use Rattle.lp_rebuild.specs.declared.batch.Progress.{Progress}
use Rattle.lp_rebuild.specs.declared.batch.Rebuilt.{Rebuilt}
use Rattle.influxdb_line_protocol.specs.format.Readings.{Fault}
use Rattle.influxdb_line_protocol.specs.format.Points.{Point, built, built_all, is_admitted_point}
use Rattle.influxdb_line_protocol.specs.format.Lines.{Line, point_of, answer}
use Rattle.influxdb_line_protocol.specs.format.Trimming.{trimmed}
use Rattle.influxdb_line_protocol.specs.format.Pieces.{Pieces}
use Rattle.influxdb_line_protocol.specs.format.Items.{answers_of, answers_of_piece}
use Rattle.lp_rebuild.specs.Rebuilding.{RebuildsIn, batch_of, carried_point, faults_from, fault_of, carried_of}
use Rattle.lp_rebuild.specs.Rebuilding.{refused_of, is_carried_answer, refusal_text}
use Rattle.lp_rebuild.specs.RebuildSteps.{IsRefusedFor, Refuses, Takes, TakesLine, line_refusal_text}
use Rattle.lp_rebuild.specs.declared.refusals.LineRefusal.{LineRefusal}
use Rattle.lp_rebuild.specs.declared.refusals.LineRefusal.TheVariants as why

-- An answer that is refused for a reason is not carried, and the text of the refusal is the text of this reason.
pub refused_for : (refusal : LineRefusal) (answer : Result Line Fault) → IsRefusedFor (Some refusal) answer
    → (is_carried_answer answer ≡ false) × (refusal_text answer ≡ line_refusal_text refusal)
refused_for (why.Fault fault) answer is = rw is (refl, refl)
refused_for why.NotAdmitted answer (line, same, not_admitted) = rw same (not_admitted, refl)

-- an answer that is carried or refused so was taken
pub carried_answer : (old new : Progress) (answer : Result Line Fault) → TakesLine old.batch.items None answer new.batch.items
    → new.faults ≡ old.faults → new.carried ≡ old.carried + 1 → new.refused ≡ old.refused → Takes old answer new
carried_answer old new answer took faults carried refused =
    let carries = took.refused in
    record {
      batch = took.batch;
      faults = rw carries (ap string_bytes faults ∙ sym (append-nil (string_bytes old.faults)));
      carried = rw carries carried;
      refused = rw carries refused;
    }

-- An answer that is refused was taken.
pub refused_answer : (old mid new : Progress) (refusal : LineRefusal) (answer : Result Line Fault)
    → TakesLine old.batch.items (Some refusal) answer mid.batch.items → mid.faults ≡ old.faults → mid.carried ≡ old.carried
    → mid.refused ≡ old.refused → Refuses mid (line_refusal_text refusal) new → Takes old answer new
refused_answer old mid new refusal answer took faults carried refused r =
    let is = refused_for refusal answer took.refused in
    record {
      batch = r.batch ∙ took.batch;
      faults = rw (is.0, is.1, ← faults, ← carried, ← refused) r.faults;
      carried = rw is.0 (r.carried ∙ carried);
      refused = rw is.0 (r.refused ∙ ap (λ n. n + 1) refused);
    }

-- an answer before others counts if it is carried
pub carried_cons : (answer : Result Line Fault) (answers : List (Result Line Fault))
    → carried_of (answer ∷ answers) ≡ cond (is_carried_answer answer) 1 0 + carried_of answers
carried_cons answer answers = omega (arith, sum_by-append (λ (a : Result Line Fault). cond (is_carried_answer a) 1 0) (answer ∷ []) answers)

-- an answer before others counts if it is refused
pub refused_cons : (answer : Result Line Fault) (answers : List (Result Line Fault))
    → refused_of (answer ∷ answers) ≡ cond (not (is_carried_answer answer)) 1 0 + refused_of answers
refused_cons answer answers = omega
    (arith, sum_by-append (λ (a : Result Line Fault). cond (not (is_carried_answer a)) 1 0) (answer ∷ []) answers)

-- Exactly one of a test and its negation counts one.
pub one_of_two : (b : Bool) → cond b 1 0 + cond (not b) 1 0 ≡ 1
one_of_two true = refl
one_of_two false = refl

-- each answer is carried or refused
pub counts_add_up : (answers : List (Result Line Fault)) → carried_of answers + refused_of answers ≡ length answers
counts_add_up [] = refl
counts_add_up (answer ∷ answers) =
    omega (arith, carried_cons answer answers, refused_cons answer answers, one_of_two (is_carried_answer answer), counts_add_up answers)

-- The fault line of an answer comes after the fault lines of the answers before it.
faults_push : (number : ℕ) (answers : List (Result Line Fault)) (answer : Result Line Fault)
    → faults_from number (answers ++ answer ∷ []) ≡ faults_from number answers ++ fault_of (number + length answers) answer
faults_push number [] answer = append-nil (fault_of number answer) ∙ ap (λ (n : ℕ). fault_of n answer) {y = number + 0} (omega arith)
faults_push number (a ∷ answers) answer =
    let first = fault_of number a in
    let others = faults_from (number + 1) answers in
    ap (λ (l : List ℕ). first ++ l) (faults_push (number + 1) answers answer)
    ∙ sym (append_assoc first others (fault_of (number + 1 + length answers) answer))
    ∙ ap (λ (n : ℕ). (first ++ others) ++ fault_of n answer) {y = number + length (a ∷ answers)} (omega arith)

-- an answer after others counts if it is carried
carried_push : (answers : List (Result Line Fault)) (answer : Result Line Fault)
    → carried_of (answers ++ answer ∷ []) ≡ carried_of answers + cond (is_carried_answer answer) 1 0
carried_push answers answer = omega (arith, sum_by-append (λ (a : Result Line Fault). cond (is_carried_answer a) 1 0) answers (answer ∷ []))

-- an answer after others counts if it is refused
refused_push : (answers : List (Result Line Fault)) (answer : Result Line Fault)
    → refused_of (answers ++ answer ∷ []) ≡ refused_of answers + cond (not (is_carried_answer answer)) 1 0
refused_push answers answer = omega
    (arith, sum_by-append (λ (a : Result Line Fault). cond (not (is_carried_answer a)) 1 0) answers (answer ∷ []))

-- an answer after others adds its line to the batch, if it is carried
batch_push : (answers : List (Result Line Fault)) (answer : Result Line Fault)
    → batch_of (answers ++ answer ∷ []) ≡ batch_of answers ++ built_all (carried_point answer)
batch_push answers answer =
    let points = flat_map carried_point answers in
    ap (λ (l : List Point). flat_map built l)
    (flat_map-append carried_point answers (answer ∷ [])
    ∙ ap (λ (l : List Point). points ++ l) (append-nil (carried_point answer)))
    ∙ flat_map-append built points (carried_point answer)

-- the answers were taken
pub record Took (answers : List (Result Line Fault)) (so_far : Progress) : Type 0 where
  pub batch : so_far.batch.items ≡ batch_of answers
  pub faults : string_bytes so_far.faults ≡ faults_from 1 answers
  pub carried : so_far.carried ≡ carried_of answers
  pub refused : so_far.refused ≡ refused_of answers

-- A count of the answers that pass a test grows by one if the test holds for the answer.
pub add_where : (b : Bool) (m n : ℕ) → m ≡ n → cond b (m + 1) m ≡ n + cond b 1 0
add_where true m n e = omega arith
add_where false m n e = omega arith

-- A count of the answers that fail a test grows by one if the test does not hold for the answer.
pub add_elsewhere : (b : Bool) (m n : ℕ) → m ≡ n → cond b m (m + 1) ≡ n + cond (not b) 1 0
add_elsewhere true m n e = omega arith
add_elsewhere false m n e = omega arith

-- If one more answer was taken, its fault line names its number, and the list of taken answers has this answer at its end.
pub Took-more : (answers : List (Result Line Fault)) (answer : Result Line Fault) (old new : Progress)
    → Took answers old → Takes old answer new → Took (answers ++ answer ∷ []) new
Took-more answers answer old new h t =
    record {
      batch = t.batch ∙ ap (λ l. l ++ built_all (carried_point answer)) h.batch ∙ sym (batch_push answers answer);
      faults =
          t.faults
          ∙ ap (λ (l : List ℕ). l ++ fault_of (old.carried + old.refused + 1) answer) h.faults
          ∙ ap (λ (n : ℕ). faults_from 1 answers ++ fault_of n answer) {y = 1 + length answers}
          (omega (arith, h.carried, h.refused, counts_add_up answers))
          ∙ sym (faults_push 1 answers answer);
      carried = t.carried ∙ add_where (is_carried_answer answer) _ _ h.carried ∙ sym (carried_push answers answer);
      refused = t.refused ∙ add_elsewhere (is_carried_answer answer) _ _ h.refused ∙ sym (refused_push answers answer);
    }

-- a blank piece has no answer
pub blank_answers : (dialect : Dialect) (piece : List ℕ) → length (trimmed piece) ≡ 0 → answers_of_piece dialect piece ≡ []
unfolding answers_of_piece
blank_answers dialect piece none =
    let e : (length (trimmed piece) == 0) ≡ true = eq-eqb (length (trimmed piece)) 0 none in
    rw e refl

-- a piece that is not blank has one
pub piece_answers : (dialect : Dialect) (piece : List ℕ) → 0 < length (trimmed piece)
    → answers_of_piece dialect piece ≡ answer dialect (trimmed piece) ∷ []
unfolding answers_of_piece
piece_answers dialect piece h =
    let e : (length (trimmed piece) == 0) ≡ false = grind (arith, nat_tests) in
    rw e refl

-- the answers for the pieces before these others were taken
pub record SoFar (dialect : Dialect) (text : List ℕ) (others : List (List ℕ)) (so_far : Progress) : Type 0 where
  pub front : List (List ℕ)
  pub pieces : Pieces dialect text (front ++ others)
  pub took : Took (answers_of dialect front) so_far

-- The answers of one more piece come after the answers of the pieces before it.
answers_push : (dialect : Dialect) (front : List (List ℕ)) (piece : List ℕ)
    → answers_of dialect (front ++ piece ∷ []) ≡ answers_of dialect front ++ answers_of_piece dialect piece
answers_push dialect front piece =
    flat_map-append (answers_of_piece dialect) front (piece ∷ [])
    ∙ ap (λ (l : List (Result Line Fault)). answers_of dialect front ++ l) (append-nil (answers_of_piece dialect piece))

-- the answers of a piece more were taken
took_piece : (dialect : Dialect) (front : List (List ℕ)) (piece : List ℕ) (old new : Progress)
    → Took (answers_of dialect front) old → (length (trimmed piece) ≡ 0 → new ≡ old)
    → (0 < length (trimmed piece) → Takes old (answer dialect (trimmed piece)) new)
    → Took (answers_of dialect front ++ answers_of_piece dialect piece) new
took_piece dialect front piece old new h blank takes =
    elim (eq-zero-or-pos (length (trimmed piece))) [
      | inr some ↦
          subst (λ l. Took (answers_of dialect front ++ l) new) (sym (piece_answers dialect piece some))
          (Took-more (answers_of dialect front) (answer dialect (trimmed piece)) old new h (takes some))
      | inl none ↦
          subst (λ l. Took (answers_of dialect front ++ l) new) (sym (blank_answers dialect piece none))
          (subst (λ l. Took l new) (sym (append-nil (answers_of dialect front)))
          (subst (Took (answers_of dialect front)) (sym (blank none)) h))
    ]

-- a piece more was taken
pub SoFar-piece : (dialect : Dialect) (text piece : List ℕ) (others : List (List ℕ)) (old new : Progress)
    → SoFar dialect text (piece ∷ others) old → (length (trimmed piece) ≡ 0 → new ≡ old)
    → (0 < length (trimmed piece) → Takes old (answer dialect (trimmed piece)) new) → SoFar dialect text others new
SoFar-piece dialect text piece others old new h blank takes =
    record {
      front = h.front ++ piece ∷ [];
      pieces = subst (Pieces dialect text) (sym (append_assoc h.front (piece ∷ []) others)) h.pieces;
      took = subst (λ l. Took l new) (sym (answers_push dialect h.front piece))
          (took_piece dialect h.front piece old new h.took blank takes);
    }

-- If no piece is left, the progress so far is the result of the whole text.
pub SoFar-end : (dialect : Dialect) (text : List ℕ) (so_far : Progress) → SoFar dialect text [] so_far
    → (r : Rebuilt) → r.batch ≡ so_far.batch → r.faults.items ≡ string_bytes so_far.faults
    → r.carried ≡ so_far.carried → r.refused ≡ so_far.refused → RebuildsIn dialect text r
SoFar-end dialect text so_far h r batch faults carried refused =
    record {
      answers = answers_of dialect h.front;
      has = record { pieces = h.front; are = subst (Pieces dialect text) (append-nil h.front) h.pieces; answered = refl };
      batch = ap (λ v. v.items) batch ∙ h.took.batch;
      faults = faults ∙ h.took.faults;
      carried = carried ∙ h.took.carried;
      refused = refused ∙ h.took.refused;
    }

-- the text of a line that the builder writes so was copied
pub copied_line : (dialect : Dialect) (text before after : List ℕ) → ((line : Line) × (answer dialect text ≡ Ok line)
    × ((is_admitted_point (point_of line) ≡ true) × (built (point_of line) ≡ text ++ newline ∷ [])))
    → after ≡ before ++ (text ++ newline ∷ []) → TakesLine before None (answer dialect text) after
copied_line dialect text before after stays copied =
    let line = stays.0 in
    let point : carried_point (Ok line) ≡ point_of line ∷ [] = rw stays.2.0 refl in
    let same : text ++ newline ∷ [] ≡ built_all (carried_point (Ok line)) =
    sym stays.2.1 ∙ sym (append-nil (built (point_of line))) ∙ ap built_all (sym point) in
    rw stays.1 (record { batch = copied ∙ ap (λ (l : List ℕ). before ++ l) same; refused = stays.2.0 })
