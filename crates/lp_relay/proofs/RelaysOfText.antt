-- What is relayed of a text that is UTF-8 is what a rebuild of it gives.
use Rattle.std.proofs.Common.{◌≡◌, ℕ, ◌+◌, ◌≤◌, nat_lt, false, List, [], ◌∷◌, ◌++◌, length, Option, Some, None, Result, Ok, Err}
use Rattle.std.proofs.Common.{refl, sym, ap, subst, ◌∙◌, append_assoc, append-nil, arith, inl, inr}
use Rattle.std.proofs.lemmas.Bool.{cases_Bool}
use Rattle.influxdb_line_protocol.specs.format.Bytes.{newlines_in}
use Rattle.std.specs.List.{All, flat_map}
use Rattle.std.proofs.lemmas.Bool.Decides.{nat_tests}
use Rattle.std.proofs.lemmas.List.Elements.{All-tail}
use Rattle.std.specs.Str.{IsUtf8}
use Rattle.std.specs.Io.KnownBytes.{Appends}
use Rattle.std.proofs.lemmas.Grind.{flat_map-append}
use Rattle.influxdb_line_protocol.specs.format.Dialects.{Dialect}
use Rattle.influxdb_line_protocol.specs.format.Readings.{Fault}
use Rattle.influxdb_line_protocol.specs.format.Points.{built, built_all}
use Rattle.influxdb_line_protocol.specs.format.Lines.{Line, answer}
use Rattle.influxdb_line_protocol.specs.format.Pieces.{Pieces, Pieces.cut, Pieces.last}
use Rattle.influxdb_line_protocol.specs.format.Items.{answers_of}
use Rattle.influxdb_line_protocol.specs.laws.Laws.{PiecesAreUnique}
use Rattle.influxdb_line_protocol.specs.laws.StreamLaws.{Utf8ByPieces}
use Rattle.lp_rebuild.specs.declared.batch.Rebuilt.{Rebuilt}
use Rattle.lp_conditions.specs.declared.kinds.Relayed.{Relayed}
use Rattle.lp_rebuild.specs.Rebuilding.{RebuildsIn, batch_of, carried_of, carried_point, fault_of, faults_from, is_carried_answer, refused_of}
use Rattle.lp_rebuild.specs.Running.{AppendsFront}
use Rattle.lp_conditions.specs.declared.portable.Portable.{Portable}
use Rattle.lp_conditions.specs.declared.field_types.StrictTypes.{StrictTypes}
use Rattle.lp_conditions.specs.FieldTypes.{Types}
use Rattle.lp_faults.specs.Relaying.{Item, after_item, allowed, answered, first_of, if_typed, is_too_long, item_by, item_of, limit_of, items_of, items_of_bytes, items_of_piece, items_batch, types_after}
use Rattle.lp_conditions.specs.LineTimes.{front_of}
use Rattle.lp_faults.specs.Relaying.{carried_items, refused_items}
use Rattle.lp_relay.specs.Writers.{Known}
use Rattle.lp_faults.specs.FaultsTold.{after_piece, first_item, first_line, first_named, first_place, line_after, told_faults, told_from, told_item, told_items}
use Rattle.lp_faults.specs.Objects.{Seen, seen_of_piece}
use Rattle.lp_relay.specs.Relays.{IfRebuilt, RelaysAll, RelaysFronts, RelaysRebuilt, RelaysRebuiltFronts}
use Rattle.lp_conditions.specs.declared.settings.LineForm.TheVariants as going
use Rattle.lp_conditions.specs.declared.settings.Numbering.TheVariants as named
use Rattle.lp_conditions.specs.declared.settings.Settings.{Settings}
use Rattle.lp_escapes.specs.declared.forms.{Faults.TheVariants.Raw}
use Rattle.lp_faults.specs.declared.telling.{Place.Place}
use Rattle.influxdb_line_protocol.specs.code.Rules.{rules_of}
use Rattle.lp_rebuild.proofs.RebuildLemmas.{blank_answers, carried_cons, piece_answers, refused_cons}
use Rattle.lp_faults.proofs.ItemLemmas.{carried_first, refused_first, items_of_fitting, untimed_item}
use Rattle.lp_relay.proofs.RelayLemmas.{blank_items, text_item}
use Rattle.lp_faults.proofs.ReturnLemmas.{whole_line}
use Rattle.std.proofs.Math.Nat.{eq-zero-or-pos}
use Rattle.influxdb_line_protocol.specs.format.Trimming.{trimmed}

-- the answers of these pieces are these, in order: each piece has one item, which is its answer, or none
data AreAnswers (s : Settings) : Types → List (List ℕ) → List (Result Line Fault) → Type 0 where
  no_piece : (types : Types) → AreAnswers s types [] []
  blank : (types : Types) (piece : List ℕ) (pieces : List (List ℕ)) (answers : List (Result Line Fault)) → items_of_piece s types piece ≡ []
      → AreAnswers s (types_after s types piece) pieces answers → AreAnswers s types (piece ∷ pieces) answers
  one : (types : Types) (front : List ℕ) (a : Result Line Fault) (piece : List ℕ) (pieces : List (List ℕ)) (answers : List (Result Line Fault))
      → items_of_piece s types piece ≡ answered front a ∷ [] → AreAnswers s (types_after s types piece) pieces answers
      → AreAnswers s types (piece ∷ pieces) (a ∷ answers)

-- what goes out for the items are the lines of the points of the answers
lines_of_answers : (s : Settings) (types : Types) (pieces : List (List ℕ)) (answers : List (Result Line Fault)) → AreAnswers s types pieces answers
    → items_batch (items_of s types pieces) ≡ batch_of answers
lines_of_answers s types pieces answers (no_piece _) = refl
lines_of_answers s types pieces answers (blank _ p others later none more) = rw none (lines_of_answers s (types_after s types p) others later more)
lines_of_answers s types pieces answers (one _ front a p others later is more) =
    rw is (ap (λ l. built_all (carried_point a) ++ l) (lines_of_answers s (types_after s types p) others later more)
    ∙ sym (flat_map-append built (carried_point a) (flat_map carried_point later)))

-- the fault line of an answer, if items are named
fault_of_answer : (s : Settings) (place : Place) (seen : Seen) (front : List ℕ) (a : Result Line Fault) → s.faults ≡ Raw → s.max_faults ≡ None
    → place.line ≡ None → told_item s place seen (answered front a) ≡ fault_of place.number a
fault_of_answer s place seen front (Ok line) raw all none =
    elim (cases_Bool (is_carried_answer (Ok line))) [
      | inl carried ↦ rw carried refl
      | inr refused ↦ rw (refused, raw, all, none) (grind (arith, append_assoc))
    ]
fault_of_answer s place seen front (Err fault) raw all none = rw (raw, all, none) (grind (arith, append_assoc))

-- so what is told, if fault lines are told as they are, are the fault lines of the answers
faults_of_answers : (s : Settings) (types : Types) (place : Place) (pieces : List (List ℕ)) (answers : List (Result Line Fault)) → s.faults ≡ Raw
    → s.max_faults ≡ None → place.line ≡ None → AreAnswers s types pieces answers → told_from s types place pieces ≡ faults_from place.number answers
faults_of_answers s types place pieces answers raw told unnamed (no_piece _) = refl
faults_of_answers s types place pieces answers raw told unnamed (blank _ p others later none more) =
    let after = after_piece s types place p in
    let number : after.number ≡ place.number = omega (arith, ap length none) in
    ap (λ items. told_items s place (seen_of_piece s p) items ++ told_from s (types_after s types p) after others) none
    ∙ faults_of_answers s (types_after s types p) after others later raw told (ap (λ l. line_after l (newlines_in p)) unnamed) more ∙ ap (λ n. faults_from n later) number
faults_of_answers s types place pieces answers raw told unnamed (one _ front a p others later is more) =
    let after = after_piece s types place p in
    let rest = told_from s (types_after s types p) after others in
    ap (λ items. told_items s place (seen_of_piece s p) items ++ rest) is
    ∙ ap (λ l. l ++ rest) (append-nil _)
    ∙ ap (λ l. l ++ rest) (fault_of_answer s place (seen_of_piece s p) front a raw told unnamed)
    ∙ ap (λ l. fault_of place.number a ++ l)
    (faults_of_answers s (types_after s types p) after others later raw told (ap (λ l. line_after l (newlines_in p)) unnamed) more
    ∙ ap (λ items. faults_from (place.number + length items) later) is)

-- how many items are carried
carried_of_answers : (s : Settings) (types : Types) (pieces : List (List ℕ)) (answers : List (Result Line Fault)) → AreAnswers s types pieces answers
    → carried_items (items_of s types pieces) ≡ carried_of answers
carried_of_answers s types pieces answers (no_piece _) = refl
carried_of_answers s types pieces answers (blank _ p others later none more) = rw none (carried_of_answers s (types_after s types p) others later more)
carried_of_answers s types pieces answers (one _ front a p others later is more) =
    rw is (omega (arith, carried_first (answered front a) (items_of s (types_after s types p) others), carried_cons a later, carried_of_answers s (types_after s types p) others later more))

-- how many are not
refused_of_answers : (s : Settings) (types : Types) (pieces : List (List ℕ)) (answers : List (Result Line Fault)) → AreAnswers s types pieces answers
    → refused_items (items_of s types pieces) ≡ refused_of answers
refused_of_answers s types pieces answers (no_piece _) = refl
refused_of_answers s types pieces answers (blank _ p others later none more) = rw none (refused_of_answers s (types_after s types p) others later more)
refused_of_answers s types pieces answers (one _ front a p others later is more) =
    rw is (omega (arith, refused_first (answered front a) (items_of s (types_after s types p) others), refused_cons a later, refused_of_answers s (types_after s types p) others later more))

-- none of these pieces is too long
abbrev NoneTooLong : Option ℕ → List (List ℕ) → Type 0
NoneTooLong limit [] = Unit {0}
NoneTooLong limit (piece ∷ pieces) = (is_too_long limit piece ≡ false) × NoneTooLong limit pieces

-- if there is no limit
no_limit : (pieces : List (List ℕ)) → NoneTooLong None pieces
no_limit [] = tt
no_limit (piece ∷ pieces) = (refl, no_limit pieces)

-- if none has more bytes than that
short_pieces : (limit : ℕ) (pieces : List (List ℕ)) → All (λ piece. length piece ≤ limit) pieces → NoneTooLong (Some limit) pieces
short_pieces limit [] h = tt
short_pieces limit (piece ∷ pieces) h =
    let short = h 0 piece (omega arith) in
    let fits : nat_lt limit (length piece) ≡ false = grind (arith, nat_tests) in
    (fits, short_pieces limit pieces (All-tail (λ piece. length piece ≤ limit) piece pieces h))

-- a piece that is UTF-8 and not too long comes before others, if lines are written again
one_more : (s : Settings) (types : Types) (piece : List ℕ) (pieces : List (List ℕ)) → s.lines ≡ going.Rebuilt → s.portable ≡ None → s.types ≡ None → s.times ≡ None → s.drops_returns ≡ false
    → is_too_long (limit_of s.limit) piece ≡ false → IsUtf8 piece
    → AreAnswers s (types_after s types piece) pieces (answers_of (rules_of s.dialect) pieces)
    → AreAnswers s types (piece ∷ pieces) (answers_of (rules_of s.dialect) (piece ∷ pieces))
one_more s types piece pieces again each any untimed kept fits u others =
    let d = rules_of s.dialect in
    let a = answer d (trimmed piece) in
    let items = items_of_fitting s types piece fits ∙ ap (items_of_bytes s types) (whole_line s piece kept) in
    elim (eq-zero-or-pos (length (trimmed piece))) [
      | inl none ↦
          subst (λ l. AreAnswers s types (piece ∷ pieces) (l ++ answers_of d pieces)) (sym (blank_answers d piece none))
          (blank types piece pieces _ (items ∙ blank_items s types piece u none) others)
      | inr some ↦
          subst (λ l. AreAnswers s types (piece ∷ pieces) (l ++ answers_of d pieces)) (sym (piece_answers d piece some))
          (one types (front_of piece) a piece pieces _ (items ∙ text_item s types piece u some
          ∙ ap (λ (i : Item). i ∷ []) (untimed_item s types piece a untimed)
          ∙ ap (λ (t : Option StrictTypes). if_typed (front_of piece) (item_by s piece a) (after_item t types a (item_by s piece a)) ∷ []) any
          ∙ ap (λ (p : Option Portable). allowed p s.lines piece (item_of d s.lines piece a) ∷ []) each
          ∙ ap (λ l. item_of d l piece a ∷ []) again) others)
    ]

-- the pieces of a text that is UTF-8, if none is too long, have its answers
pieces_are_answers : Utf8ByPieces → (s : Settings) (types : Types) (text : List ℕ) (pieces : List (List ℕ)) → s.lines ≡ going.Rebuilt → s.portable ≡ None → s.types ≡ None → s.times ≡ None → s.drops_returns ≡ false
    → Pieces (rules_of s.dialect) text pieces → IsUtf8 text → NoneTooLong (limit_of s.limit) pieces
    → AreAnswers s types pieces (answers_of (rules_of s.dialect) pieces)
pieces_are_answers law s types text pieces again each any untimed kept (last piece h) u fit =
    one_more s types piece [] again each any untimed kept fit.0 u (no_piece (types_after s types piece))
pieces_are_answers law s types text pieces again each any untimed kept (cut piece rest others c k) u fit =
    let both = (law piece rest).0 u in
    one_more s types piece others again each any untimed kept fit.0 both.0
    (pieces_are_answers law s (types_after s types piece) rest others again each any untimed kept k both.1 fit.1)

-- so they have those of a rebuild
pieces_of_rebuilt : Utf8ByPieces → PiecesAreUnique → (s : Settings) (types : Types) (text : List ℕ) (pieces : List (List ℕ)) → s.lines ≡ going.Rebuilt → s.portable ≡ None → s.types ≡ None → s.times ≡ None → s.drops_returns ≡ false
    → Pieces (rules_of s.dialect) text pieces → NoneTooLong (limit_of s.limit) pieces → IsUtf8 text → (r : Rebuilt)
    → (h : RebuildsIn (rules_of s.dialect) text r) → AreAnswers s types pieces h.answers
pieces_of_rebuilt law unique s types text pieces again each any untimed kept are fit u r h =
    let same = unique (rules_of s.dialect) text pieces h.has.pieces are h.has.are in
    subst (AreAnswers s types pieces) (ap (answers_of (rules_of s.dialect)) same ∙ sym h.has.answered)
    (pieces_are_answers law s types text pieces again each any untimed kept are u fit)

-- what holds if no piece is too long holds of a text that is rebuilt
if_rebuilt : PiecesAreUnique → (dialect : Dialect) (limit : Option ℕ) (text : List ℕ) (pieces : List (List ℕ)) (P : Rebuilt → Type 0)
    → Pieces dialect text pieces
    → (NoneTooLong limit pieces → IsUtf8 text → (r : Rebuilt) → RebuildsIn dialect text r → P r) → IfRebuilt dialect limit text P
if_rebuilt unique dialect limit text pieces x5 are f = grind (arith, no_limit, short_pieces)

-- the fault lines of a rebuild, if they name items from 1 on, and are told as they are, all of them
faults_of_rebuilt : (s : Settings) (types : Types) (pieces : List (List ℕ)) (answers : List (Result Line Fault)) → AreAnswers s types pieces answers
    → s.numbering ≡ named.Items → first_of s.first ≡ 1 → s.faults ≡ Raw → s.max_faults ≡ None → told_faults s types pieces ≡ faults_from 1 answers
faults_of_rebuilt s types pieces answers same named first raw told =
    faults_of_answers s types (first_place s) pieces answers raw told
    (ap (λ form. first_line form s.numbering s.first) raw ∙ ap (λ n. first_named n s.first) named) same
    ∙ ap (λ n. faults_from n answers) (ap (λ n. first_item n s.first) named ∙ first)

-- what was written of all items is what the rebuild gives
pub all_rebuilt : Utf8ByPieces → PiecesAreUnique → (s : Settings) (types : Types) (text : List ℕ) (counts : Relayed)
    (before after : Known) → s.lines ≡ going.Rebuilt → s.portable ≡ None → s.types ≡ None → s.times ≡ None → s.drops_returns ≡ false → RelaysAll s types text counts before after
    → IfRebuilt (rules_of s.dialect) (limit_of s.limit) text (λ r. RelaysRebuilt s r counts before after)
all_rebuilt law unique s types text counts before after again each any untimed kept all =
    if_rebuilt unique (rules_of s.dialect) (limit_of s.limit) text all.pieces (λ r. RelaysRebuilt s r counts before after) all.are
    (λ fit u r h.
    let same = pieces_of_rebuilt law unique s types text all.pieces again each any untimed kept all.are fit u r h in
    record {
      batch = subst (Appends before.lines after.lines) (lines_of_answers s types all.pieces h.answers same ∙ sym h.batch) all.relays.batch;
      faults = λ named first raw told. subst (Appends before.faults after.faults)
          (faults_of_rebuilt s types all.pieces h.answers same named first raw told ∙ sym h.faults) all.relays.faults;
      carried = all.relays.carried ∙ carried_of_answers s types all.pieces h.answers same ∙ sym h.carried;
      refused = all.relays.refused ∙ refused_of_answers s types all.pieces h.answers same ∙ sym h.refused;
    })

-- and a beginning is a beginning of that
pub fronts_rebuilt : Utf8ByPieces → PiecesAreUnique → (s : Settings) (types : Types) (text : List ℕ) (before after : Known)
    → s.lines ≡ going.Rebuilt → s.portable ≡ None → s.types ≡ None → s.times ≡ None → s.drops_returns ≡ false → RelaysFronts s types text before after
    → IfRebuilt (rules_of s.dialect) (limit_of s.limit) text (λ r. RelaysRebuiltFronts s r before after)
fronts_rebuilt law unique s types text before after again each any untimed kept some =
    if_rebuilt unique (rules_of s.dialect) (limit_of s.limit) text some.pieces (λ r. RelaysRebuiltFronts s r before after) some.are
    (λ fit u r h.
    let same = pieces_of_rebuilt law unique s types text some.pieces again each any untimed kept some.are fit u r h in (
      subst (AppendsFront before.lines after.lines) (lines_of_answers s types some.pieces h.answers same ∙ sym h.batch) some.relays.batch,
      λ named first raw told. subst (AppendsFront before.faults after.faults)
          (faults_of_rebuilt s types some.pieces h.answers same named first raw told ∙ sym h.faults) some.relays.faults,
    ))
