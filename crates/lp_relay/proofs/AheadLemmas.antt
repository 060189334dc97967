-- Pieces that are too long, of which a front was taken ahead of their end.
use Rattle.std.proofs.Common.{◌≡◌, ℕ, ◌+◌, ◌-◌, List, [], ◌∷◌, ◌++◌, length, take, drop, Option, Some, None, false, is_some}
use Rattle.std.proofs.Common.{refl, sym, ap, subst, ◌∙◌, append_assoc, arith, take-append-drop, inl, inr}
use Rattle.std.proofs.Math.Seq.{take-append-add, take-append_seam}
use Rattle.std.proofs.lemmas.Bool.{cases_lt}
use Rattle.std.proofs.lemmas.List.{length-append, take-append-le}
use Rattle.influxdb_line_protocol.specs.code.Bounded.{CutsTo, IsTooLong}
use Rattle.influxdb_line_protocol.specs.code.Rules.{rules_of}
use Rattle.influxdb_line_protocol.specs.format.Bytes.{newline}
use Rattle.influxdb_line_protocol.specs.format.Dialects.{Dialect}
use Rattle.influxdb_line_protocol.specs.format.Pieces.{IsLastPiece, Pieces, Pieces.cut, Pieces.last}
use Rattle.influxdb_line_protocol.specs.laws.Laws.{PiecesAreUnique, PiecesExist}
use Rattle.lp_conditions.specs.declared.settings.Settings.{Settings}
use Rattle.lp_faults.specs.declared.telling.Place.{Place}
use Rattle.lp_conditions.specs.FieldTypes.{Types}
use Rattle.lp_faults.specs.FaultsTold.{first_place, told_faults, told_items, told_piece}
use Rattle.lp_faults.specs.Objects.{seen_line, seen_of_piece}
use Rattle.lp_faults.specs.Relaying.{items_of, items_of_piece, kept_bytes, kept_of, refused_lines, refused_piece, refused_pieces, too_long, types_past}
use Rattle.lp_relay.specs.RelaySteps.{IsAhead, place_past}
use Rattle.lp_cuts.proofs.CutLemmas.{cut_nowhere}
use Rattle.lp_relay.proofs.FaultLines.{told_append}
use Rattle.lp_faults.proofs.ItemLemmas.{item_of_long, items_push, kept_long, line_long, over_long, put_append, refused_long, stop_long, types_append, types_of_long}

-- two lists of pieces make the same
abbrev pub MakesSame : Settings → Types → (pieces others : List (List ℕ)) → Type 0
MakesSame s types pieces others =
    (items_of s types pieces ≡ items_of s types others) × (told_faults s types pieces ≡ told_faults s types others)
    × (refused_pieces s types pieces ≡ refused_pieces s types others) × (types_past s types pieces ≡ types_past s types others)

-- a piece with a front that is too long is too long
pub long_more : (limit : ℕ) (front more piece : List ℕ) → IsTooLong limit front → piece ≡ front ++ more → IsTooLong limit piece
long_more limit front more piece h is = (omega (arith, ap (λ (l : List ℕ). length l) is, length-append front more, h.0), h.1)

-- what is kept of pieces that are too long
kept_same : (s : Settings) (front more piece : List ℕ) → IsTooLong s.limit front → IsTooLong s.limit piece → piece ≡ front ++ more
    → kept_bytes s front ≡ kept_bytes s piece
kept_same s front more piece h k is =
    kept_long s front h ∙ sym (take-append-le s.limit front more (omega (arith, h.0))) ∙ ap (take s.limit) (sym is) ∙ sym (kept_long s piece k)

-- what is kept of their lines
line_same : (s : Settings) (front more piece : List ℕ) → IsTooLong s.limit front → IsTooLong s.limit piece → piece ≡ front ++ more
    → seen_line s front ≡ seen_line s piece
line_same s front more piece h k is =
    line_long s front h ∙ sym (kept_long s front h) ∙ kept_same s front more piece h k is ∙ kept_long s piece k ∙ sym (line_long s piece k)

-- what is told of them
seen_same : (s : Settings) (front more piece : List ℕ) → IsTooLong s.limit front → IsTooLong s.limit piece → piece ≡ front ++ more
    → seen_of_piece s front ≡ seen_of_piece s piece
seen_same s front more piece h k is =
    rw (kept_same s front more piece h k is, line_same s front more piece h k is, over_long s front h, over_long s piece k, stop_long s front h, stop_long s piece k) refl

-- what is told of their items
told_long : (s : Settings) (types : Types) (place : Place) (front more piece : List ℕ) → IsTooLong s.limit front → IsTooLong s.limit piece
    → piece ≡ front ++ more → told_piece s types place front ≡ told_piece s types place piece
told_long s types place front more piece h k is =
    ap (λ l. told_items s place (seen_of_piece s front) l) (item_of_long s types front h ∙ sym (item_of_long s types piece k))
    ∙ ap (λ e. told_items s place e (items_of_piece s types piece)) (seen_same s front more piece h k is)

-- what goes out of them as refused
put_long : (s : Settings) (types : Types) (front more piece : List ℕ) → IsTooLong s.limit front → IsTooLong s.limit piece
    → piece ≡ front ++ more → refused_piece s types front ≡ refused_piece s types piece
put_long s types front more piece h k is =
    refused_long s types front h
    ∙ ap (λ l. refused_lines s.puts_refused l (too_long (kept_of s) ∷ []))
    (sym (take-append-le s.limit front more (omega (arith, h.0))) ∙ ap (take s.limit) (sym is))
    ∙ sym (refused_long s types piece k)

-- after others, a piece makes what its front makes, if that is too long
pub front_makes : (s : Settings) (types : Types) (pieces : List (List ℕ)) (front more piece : List ℕ) → IsTooLong s.limit front
    → piece ≡ front ++ more → MakesSame s types (pieces ++ front ∷ []) (pieces ++ piece ∷ [])
front_makes s types pieces front more piece h is =
    let k = long_more s.limit front more piece h is in
    let past = types_past s types pieces in
    let place = place_past s types (first_place s) pieces in (
      items_push s types pieces front
          ∙ ap (λ l. items_of s types pieces ++ l) (item_of_long s past front h ∙ sym (item_of_long s past piece k))
          ∙ sym (items_push s types pieces piece),
      told_append s types (first_place s) pieces (front ∷ [])
          ∙ ap (λ l. told_faults s types pieces ++ (l ++ [])) (told_long s past place front more piece h k is)
          ∙ sym (told_append s types (first_place s) pieces (piece ∷ [])),
      put_append s types pieces (front ∷ [])
          ∙ ap (λ l. refused_pieces s types pieces ++ (l ++ [])) (put_long s past front more piece h k is)
          ∙ sym (put_append s types pieces (piece ∷ [])),
      types_append s types pieces (front ∷ []) ∙ types_of_long s past front h ∙ sym (types_of_long s past piece k)
          ∙ sym (types_append s types pieces (piece ∷ [])),
    )

-- the first piece of a text that begins with a front begins with it too, if no newline in the front ends a piece
begins_with : PiecesExist → PiecesAreUnique → (dialect : Dialect) (front more piece rest : List ℕ) → IsLastPiece dialect front
    → CutsTo dialect (front ++ more) piece rest → (m : List ℕ) × (piece ≡ front ++ m)
begins_with exist unique dialect front more piece rest h cuts =
    elim (cases_lt (length piece) (length front)) [
      | inr long ↦
          let same : take (length front) piece ≡ front =
          sym (take-append-le (length front) piece (newline ∷ rest) long) ∙ ap (take (length front)) (sym cuts.0)
          ∙ take-append_seam front more in (
            drop (length front) piece,
            sym (take-append-drop (length front) piece) ∙ ap (λ l. l ++ drop (length front) piece) same,
          )
      | inl short ↦
          let n = length front - length piece - 1 in
          let count : length front ≡ length piece + (1 + n) = omega arith in
          let is : front ≡ piece ++ newline ∷ take n rest =
          sym (take-append_seam front more) ∙ ap (take (length front)) cuts.0
          ∙ ap (λ (i : ℕ). take i (piece ++ newline ∷ rest)) count ∙ take-append-add piece (newline ∷ rest) (1 + n)
          ∙ ap (λ l. piece ++ l) (take-append-add (newline ∷ []) rest n) in
          absurd (cut_nowhere exist unique dialect front piece (take n rest) h cuts.1 is)
    ]

-- what was taken ahead of a text is taken ahead of its first piece
pub ahead_of_first : PiecesExist → PiecesAreUnique → (s : Settings) (ahead : Option (List ℕ)) (text piece rest : List ℕ)
    → IsAhead s text ahead → CutsTo (rules_of s.dialect) text piece rest → IsAhead s piece ahead
ahead_of_first exist unique s None text piece rest h cuts = tt
ahead_of_first exist unique s (Some front) text piece rest h cuts = (
  h.0,
  h.1,
  begins_with exist unique (rules_of s.dialect) front h.2.0 piece rest h.1
      (subst (λ l. CutsTo (rules_of s.dialect) l piece rest) h.2.1 cuts),
)

-- of a text and more too
pub ahead_of_more : (s : Settings) (ahead : Option (List ℕ)) (text more : List ℕ) → IsAhead s text ahead → IsAhead s (text ++ more) ahead
ahead_of_more s None text more h = tt
ahead_of_more s (Some front) text more h =
    (h.0, h.1, (h.2.0 ++ more, ap (λ l. l ++ more) h.2.1 ∙ append_assoc front h.2.0 more))

-- nothing is taken ahead of no bytes
pub none_ahead : (s : Settings) (ahead : Option (List ℕ)) → IsAhead s [] ahead → is_some ahead ≡ false
none_ahead s None h = refl
none_ahead s (Some front) h = absurd (omega (arith, h.0.0, ap (λ (l : List ℕ). length l) h.2.1, length-append front h.2.0))

-- these pieces begin with one of which this was taken ahead
abbrev pub BeginsAhead : Settings → Option (List ℕ) → List (List ℕ) → Type 0
BeginsAhead s ahead pieces = (piece : List ℕ) × (others : List (List ℕ)) × (pieces ≡ piece ∷ others) × IsAhead s piece ahead

-- so the pieces of the text begin
pub pieces_ahead : PiecesExist → PiecesAreUnique → (s : Settings) (ahead : Option (List ℕ)) (text : List ℕ) (pieces : List (List ℕ))
    → IsAhead s text ahead → Pieces (rules_of s.dialect) text pieces → BeginsAhead s ahead pieces
pieces_ahead exist unique s ahead text pieces h (last piece k) = (text, [], refl, h)
pieces_ahead exist unique s ahead text pieces h (cut piece rest others c k) =
    (piece, others, refl, ahead_of_first exist unique s ahead text piece rest h (refl, c))
