-- The parts of a text that are relayed apart.
use Rattle.std.proofs.Common.{◌≡◌, ℕ, List, [], ◌∷◌, ◌++◌, true, take, if◌then◌else◌, refl, sym, ap, ◌∙◌, append-nil, arith}
use Rattle.std.specs.List.{flat_map}
use Rattle.std.specs.Str.{chars, is_utf8}
use Rattle.std.proofs.lemmas.Grind.{flat_map-append}
use Rattle.influxdb_line_protocol.specs.format.Dialects.{Dialect}
use Rattle.influxdb_line_protocol.specs.format.Items.{answers_of_piece}
use Rattle.influxdb_line_protocol.specs.format.Trimming.{trimmed}
use Rattle.influxdb_line_protocol.specs.code.Rules.{rules_of}
use Rattle.influxdb_line_protocol.specs.laws.Laws.{PiecesAreUnique}
use Rattle.lp_conditions.specs.declared.settings.Settings.{Settings}
use Rattle.lp_cuts.specs.Cuts.{HavePieces}
use Rattle.lp_conditions.specs.declared.field_types.StrictTypes.{StrictTypes}
use Rattle.lp_conditions.specs.FieldTypes.{Types}
use Rattle.lp_conditions.specs.LineTimes.{Timed, relayed, time_fault, timed}
use Rattle.lp_relay.specs.Parts.{FaultsChangeNoLine, HaveEach, PartsGiveLines, PartsGiveRefused}
use Rattle.lp_faults.specs.Relaying.{after_item, is_too_long, item_by, item_line, items_batch, items_of, items_of_bytes, items_of_piece, limit_of, line_of}
use Rattle.lp_faults.specs.Relaying.{refused_lines, refused_piece, refused_pieces, types_after, types_after_timed, types_in_after, types_of_bytes}
use Rattle.std.proofs.Common.{Option, Some, None, Bool, false, Result, fold, inl, inr}
use Rattle.std.specs.Result.{result_unwrap_or}
use Rattle.std.proofs.lemmas.Bool.{cases_Bool}
use Rattle.influxdb_line_protocol.specs.format.Lines.{Line}
use Rattle.influxdb_line_protocol.specs.format.Readings.{Fault}
use Rattle.lp_faults.proofs.ReturnLemmas.{empty_line}

-- no bytes are not too long
short_enough : (limit : Option ℕ) → is_too_long limit [] ≡ false
short_enough None = refl
short_enough (Some limit) = grind arith

-- an empty piece has no item
no_items : (s : Settings) (types : Types) → items_of_piece s types [] ≡ []
unfolding items_of_piece items_of_bytes answers_of_piece trimmed is_utf8 chars
no_items s types = rw (short_enough (limit_of s.limit), empty_line s) refl

-- of no items nothing goes out as refused
no_lines : (goes_out : Bool) (piece : List ℕ) → refused_lines goes_out piece [] ≡ []
no_lines true piece = refl
no_lines false piece = refl

-- so it is of an empty piece
none_refused : (s : Settings) (types : Types) → refused_piece s types [] ≡ []
unfolding refused_piece
none_refused s types = rw (no_items s types) (no_lines s.puts_refused (if is_too_long (limit_of s.limit) [] then take s.limit [] else []))

-- what is made of each piece is made of the pieces of each part, if nothing is made of an empty one
joined : {X : Type 0} (f : List ℕ → List X) → f [] ≡ [] → PiecesAreUnique → (dialect : Dialect) (parts pieces : List (List ℕ))
    (each : List (List (List ℕ))) → HavePieces dialect parts pieces → HaveEach dialect parts each
    → flat_map f pieces ≡ flat_map (flat_map f) each
joined f none unique dialect [] pieces [] h k = ap (flat_map f) h
joined f none unique dialect [] pieces (ps ∷ each) h k = absurd k
joined f none unique dialect (part ∷ parts) pieces [] h k = absurd k
joined f none unique dialect (part ∷ []) pieces (ps ∷ []) h k =
    ap (flat_map f) (unique dialect part pieces ps h k.0) ∙ sym (append-nil (flat_map f ps))
joined f none unique dialect (part ∷ []) pieces (ps ∷ (qs ∷ each)) h k = absurd k.1
joined f none unique dialect (part ∷ (next ∷ parts)) pieces (ps ∷ each) h k =
    let first : h.0 ++ [] ∷ [] ≡ ps = unique dialect part (h.0 ++ [] ∷ []) ps h.2 k.0 in
    ap (flat_map f) h.4
    ∙ flat_map-append f h.0 h.1
    ∙ ap (λ l. flat_map f h.0 ++ l) (joined f none unique dialect (next ∷ parts) h.1 each h.3 k.1)
    ∙ ap (λ l. l ++ flat_map (flat_map f) each)
    (sym (flat_map-append f h.0 ([] ∷ []) ∙ ap (λ l. flat_map f h.0 ++ (l ++ [])) none ∙ append-nil (flat_map f h.0)) ∙ ap (flat_map f) first)

-- if types need not stay, what is relayed of a piece changes none
no_line_changes : (s : Settings) (types : Types) (t : Timed) → s.types ≡ None → types_in_after s types t ≡ types
no_line_changes s types (relayed piece a) any =
    ap (λ (t : Option StrictTypes). result_unwrap_or (after_item t types a (item_by s piece a)) types) any
no_line_changes s types (time_fault fault) any = refl

-- nor do answers
no_answer_changes : (s : Settings) (types : Types) (piece : List ℕ) (answers : List (Result Line Fault)) → s.types ≡ None
    → fold (types_after_timed s piece) types answers ≡ types
no_answer_changes s types piece [] any = refl
no_answer_changes s types piece (a ∷ answers) any =
    ap (λ (t : Types). fold (types_after_timed s piece) t answers) (no_line_changes s types (timed s.times piece a) any)
    ∙ no_answer_changes s types piece answers any

-- nor does a piece
no_piece_changes : (s : Settings) (types : Types) (piece : List ℕ) → s.types ≡ None → types_after s types piece ≡ types
unfolding types_after types_of_bytes
no_piece_changes s types piece any =
    elim (cases_Bool (is_too_long (limit_of s.limit) piece)) [
      | inl long ↦ rw long refl
      | inr fits ↦
          let line = line_of s piece in
          elim (cases_Bool (is_utf8 line)) [
            | inl good ↦ rw (fits, good) (no_answer_changes s types line (answers_of_piece (rules_of s.dialect) line) any)
            | inr bad ↦ rw (fits, bad) refl
          ]
    ]

-- what goes out for the items of pieces, piece by piece
batch_by_piece : (s : Settings) (types : Types) (pieces : List (List ℕ)) → s.types ≡ None
    → items_batch (items_of s types pieces) ≡ flat_map (λ piece. items_batch (items_of_piece s types piece)) pieces
batch_by_piece s types [] any = refl
batch_by_piece s types (piece ∷ pieces) any =
    flat_map-append item_line (items_of_piece s types piece) (items_of s (types_after s types piece) pieces)
    ∙ ap (λ t. items_batch (items_of_piece s types piece) ++ items_batch (items_of s t pieces)) (no_piece_changes s types piece any)
    ∙ ap (λ l. items_batch (items_of_piece s types piece) ++ l) (batch_by_piece s types pieces any)

-- and what goes out of them as refused
put_by_piece : (s : Settings) (types : Types) (pieces : List (List ℕ)) → s.types ≡ None
    → refused_pieces s types pieces ≡ flat_map (refused_piece s types) pieces
put_by_piece s types [] any = refl
put_by_piece s types (piece ∷ pieces) any =
    ap (λ t. refused_piece s types piece ++ refused_pieces s t pieces) (no_piece_changes s types piece any)
    ∙ ap (λ l. refused_piece s types piece ++ l) (put_by_piece s types pieces any)

-- what is made of the pieces of each part
by_part : (f g : List (List ℕ) → List ℕ) → ((part : List (List ℕ)) → f part ≡ g part) → (each : List (List (List ℕ)))
    → flat_map f each ≡ flat_map g each
by_part f g same [] = refl
by_part f g same (part ∷ each) = ap (λ l. l ++ flat_map f each) (same part) ∙ ap (λ l. g part ++ l) (by_part f g same each)

-- the lines of the parts are those of the text
pub parts_give_lines : PiecesAreUnique → PartsGiveLines
parts_give_lines unique s types parts pieces each any h k =
    batch_by_piece s types pieces any
    ∙ joined (λ piece. items_batch (items_of_piece s types piece)) (ap items_batch (no_items s types)) unique (rules_of s.dialect) parts pieces each
    h k
    ∙ by_part (flat_map (λ piece. items_batch (items_of_piece s types piece))) (λ part. items_batch (items_of s types part))
    (λ part. sym (batch_by_piece s types part any)) each

-- and so are their refused pieces
pub parts_give_refused : PiecesAreUnique → PartsGiveRefused
parts_give_refused unique s types parts pieces each any h k =
    put_by_piece s types pieces any
    ∙ joined (refused_piece s types) (none_refused s types) unique (rules_of s.dialect) parts pieces each h k
    ∙ by_part (flat_map (refused_piece s types)) (refused_pieces s types) (λ part. sym (put_by_piece s types part any)) each

-- the numbers and the form of faults are in neither
pub faults_change_no_line : FaultsChangeNoLine
unfolding items_of_piece refused_piece items_of_bytes line_of
faults_change_no_line s types first first_offset faults max_faults file piece = (refl, refl)
