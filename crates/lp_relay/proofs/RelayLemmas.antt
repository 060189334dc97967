-- The steps of a relay: what is made of pieces, one after another, and written.
use Rattle.std.proofs.Common.{◌≡◌, ◌<◌, ◌+◌, ℕ, List, [], ◌∷◌, ◌++◌, length, map, fold, Bool, false, Option, Some, None}
use Rattle.std.proofs.Common.{Result, refl, sym, ap, subst, ◌∙◌, arith, append-nil}
use Rattle.std.proofs.Common.{Err, IsErr, MatchResult, Ok, OnOk}
use Rattle.std.proofs.lemmas.Result.{MatchResult-from_err}
use Rattle.std.specs.Borrow.{Bor}
use Rattle.std.specs.Str.{IsUtf8}
use Rattle.std.proofs.KnownBytes.{Appends-kept, Appends-nil}
use Rattle.influxdb_line_protocol.specs.format.Bytes.{newlines_in}
use Rattle.influxdb_line_protocol.specs.format.Readings.{Fault}
use Rattle.influxdb_line_protocol.specs.format.Lines.{Line, answer}
use Rattle.influxdb_line_protocol.specs.format.Trimming.{trimmed}
use Rattle.influxdb_line_protocol.specs.code.Bounded.{IsLastOf, IsTooLong}
use Rattle.influxdb_line_protocol.specs.code.Rules.{rules_of}
use Rattle.influxdb_line_protocol.specs.types.PieceTooLong.{PieceTooLong}
use Rattle.lp_conditions.specs.declared.settings.Settings.{Settings}
use Rattle.lp_faults.specs.Kinds.{kinds_after, kinds_of_none}
use Rattle.lp_faults.specs.Objects.{bytes_given, seen_line, line_given, over_given, over_of_piece, seen_given, seen_of_piece, stop_given, stop_of_piece}
use Rattle.lp_conditions.specs.FieldTypes.{Types}
use Rattle.lp_faults.specs.Relaying.{Item, items_batch, items_of, items_of_bytes, items_of_piece, kept_bytes, refused_piece, refused_pieces, timed_item}
use Rattle.lp_faults.specs.Relaying.{carried_items, refused_items, types_after, types_after_timed, types_of_bytes, types_past}
use Rattle.lp_faults.specs.declared.telling.Place.{Place}
use Rattle.lp_faults.specs.FaultsTold.{after_piece, first_place, line_after, place_after, told_faults, told_items, told_piece}
use Rattle.lp_relay.specs.RelaySteps.{EndsAhead, GainsBut, HasMade, HasTaken, HasWritten, IsAhead, Stage, Start, TakesAhead, TakesBy, TakesGiven}
use Rattle.lp_relay.specs.RelaySteps.{Unwritten, after_given, items_before, items_given, made_of, next_place}
use Rattle.lp_faults.specs.Objects.{len_given, newlines_given}
use Rattle.lp_relay.specs.RelaySteps.{place_by, place_past, refused_given, told_given, types_given, unwritten_of_none}
use Rattle.lp_relay.specs.Writers.{GainsFronts, KeepsBytes, Told}
use Rattle.lp_rebuild.proofs.RebuildLemmas.{blank_answers, piece_answers}
use Rattle.lp_relay.proofs.AheadLemmas.{MakesSame, front_makes, long_more}
use Rattle.lp_relay.proofs.PassLemmas.{but_front, but_more, front_none}
use Rattle.lp_faults.proofs.ItemLemmas.{batch_append, carried_append, item_of_long, items_of_short, items_of_text, items_push}
use Rattle.lp_faults.proofs.ItemLemmas.{kept_long, kept_short, line_long, line_short, over_long, over_short, put_append, refused_append, refused_long, refused_short, stop_long, stop_short}
use Rattle.lp_faults.proofs.ItemLemmas.{types_append, types_of_long, types_of_short, types_of_text}
use Rattle.lp_relay.proofs.FaultLines.{first_is, place_append, told_append}
use Rattle.lp_faults.proofs.KindLemmas.{kinds_of_more, kinds_of_nothing}

-- a blank text has no item
pub blank_items : (s : Settings) (types : Types) (piece : List ℕ) → IsUtf8 piece → length (trimmed piece) ≡ 0
    → items_of_bytes s types piece ≡ []
blank_items s types piece u blank =
    items_of_text s types piece u
    ∙ ap (λ (l : List (Result Line Fault)). map (timed_item s types piece) l) (blank_answers (rules_of s.dialect) piece blank)

-- it changes no types
pub blank_types : (s : Settings) (types : Types) (piece : List ℕ) → IsUtf8 piece → length (trimmed piece) ≡ 0
    → types_of_bytes s types piece ≡ types
blank_types s types piece u blank =
    types_of_text s types piece u
    ∙ ap (λ (l : List (Result Line Fault)). fold (types_after_timed s piece) types l) (blank_answers (rules_of s.dialect) piece blank)

-- another text has the item of its answer
pub text_item : (s : Settings) (types : Types) (piece : List ℕ) → IsUtf8 piece → 0 < length (trimmed piece)
    → items_of_bytes s types piece ≡ timed_item s types piece (answer (rules_of s.dialect) (trimmed piece)) ∷ []
text_item s types piece u some =
    items_of_text s types piece u
    ∙ ap (λ (l : List (Result Line Fault)). map (timed_item s types piece) l) (piece_answers (rules_of s.dialect) piece some)

-- and the types after that
pub text_types : (s : Settings) (types : Types) (piece : List ℕ) → IsUtf8 piece → 0 < length (trimmed piece)
    → types_of_bytes s types piece ≡ types_after_timed s piece types (answer (rules_of s.dialect) (trimmed piece))
text_types s types piece u some =
    types_of_text s types piece u
    ∙ ap (λ (l : List (Result Line Fault)). fold (types_after_timed s piece) types l) (piece_answers (rules_of s.dialect) piece some)

-- the items of a piece that a call gave
given_items : (s : Settings) (types : Types) (piece : List ℕ) (result : Result (Bor (List ℕ)) PieceTooLong) → IsLastOf s.limit piece result
    → items_given s types result ≡ items_of_piece s types piece
given_items s types piece e h = grind (arith, items_of_short, item_of_long)

-- the types that fields have after it
given_types : (s : Settings) (types : Types) (piece : List ℕ) (result : Result (Bor (List ℕ)) PieceTooLong) → IsLastOf s.limit piece result
    → types_given s types result ≡ types_after s types piece
given_types s types piece e h = grind (arith, types_of_short, types_of_long)

-- where reading stops in it
given_stop : (s : Settings) (piece : List ℕ) (result : Result (Bor (List ℕ)) PieceTooLong) → IsLastOf s.limit piece result
    → stop_given s result ≡ stop_of_piece s piece
given_stop s piece e h = grind (arith, stop_short, stop_long)

-- what is kept of it
given_bytes : (s : Settings) (piece : List ℕ) (result : Result (Bor (List ℕ)) PieceTooLong) → IsLastOf s.limit piece result
    → bytes_given result ≡ kept_bytes s piece
given_bytes s piece e h = grind (arith, kept_short, kept_long)

-- its line
given_line : (s : Settings) (piece : List ℕ) (result : Result (Bor (List ℕ)) PieceTooLong) → IsLastOf s.limit piece result
    → line_given s result ≡ seen_line s piece
given_line s piece e h = grind (arith, line_short, line_long)

-- the limit that it is over
given_over : (s : Settings) (piece : List ℕ) (result : Result (Bor (List ℕ)) PieceTooLong) → IsLastOf s.limit piece result
    → over_given s.limit result ≡ over_of_piece s piece
given_over s piece e h = grind (arith, over_short, over_long)

-- what is told of it
given_seen : (s : Settings) (piece : List ℕ) (result : Result (Bor (List ℕ)) PieceTooLong) → IsLastOf s.limit piece result
    → seen_given s result ≡ seen_of_piece s piece
given_seen s piece e h = rw (given_bytes s piece e h, given_line s piece e h, given_over s piece e h, given_stop s piece e h) refl

-- what goes out of it as refused
given_refused : (s : Settings) (types : Types) (piece : List ℕ) (result : Result (Bor (List ℕ)) PieceTooLong) → IsLastOf s.limit piece result
    → refused_given s types result ≡ refused_piece s types piece
given_refused s types piece e h = grind (arith, items_of_short, refused_short, refused_long)

-- how many newlines and bytes it has
given_size : (s : Settings) (piece : List ℕ) (result : Result (Bor (List ℕ)) PieceTooLong) → IsLastOf s.limit piece result
    → (newlines_given result ≡ newlines_in piece) × (len_given result ≡ length piece)
given_size s piece e h = grind (arith)

-- the place after it
given_place : (s : Settings) (types : Types) (pieces : List (List ℕ)) (piece : List ℕ) (result : Result (Bor (List ℕ)) PieceTooLong)
    (now next : Place) → IsLastOf s.limit piece result → now ≡ place_past s types (first_place s) pieces
    → next ≡ after_given s (types_past s types pieces) now result → next ≡ place_past s types (first_place s) (pieces ++ piece ∷ [])
given_place s types pieces piece result now next is place step =
    let size = given_size s piece result is in
    let past = types_past s types pieces in
    step ∙ ap (λ l. place_after now l (newlines_given result) (len_given result)) (given_items s past piece result is)
    ∙ ap (λ n. place_after now (items_of_piece s past piece) n (len_given result)) size.0
    ∙ ap (λ n. place_after now (items_of_piece s past piece) (newlines_in piece) n) size.1 ∙ ap (λ q. after_piece s past q piece) place
    ∙ sym (place_append s types (first_place s) pieces (piece ∷ []))

-- what is told of pieces and of one more, which a call gave
given_told : (s : Settings) (types : Types) (pieces : List (List ℕ)) (piece : List ℕ) (result : Result (Bor (List ℕ)) PieceTooLong)
    (now : Place) → IsLastOf s.limit piece result → now ≡ place_past s types (first_place s) pieces
    → told_faults s types (pieces ++ piece ∷ []) ≡ told_faults s types pieces ++ told_given s (types_past s types pieces) now result
given_told s types pieces piece result now is place =
    let past = types_past s types pieces in
    told_append s types (first_place s) pieces (piece ∷ [])
    ∙ ap (λ l. told_faults s types pieces ++ l)
    (append-nil (told_piece s past (place_past s types (first_place s) pieces) piece) ∙ ap (λ q. told_piece s past q piece) (sym place)
    ∙ ap (λ e. told_items s now e (items_of_piece s past piece)) (sym (given_seen s piece result is))
    ∙ ap (told_items s now (seen_given s result)) (sym (given_items s past piece result is)))

-- before the first piece
pub taken_none : (s : Settings) (a : Start)
    → HasTaken s [] None a (record { unwritten = unwritten_of_none s a.types; told = a.told })
taken_none s a =
    record {
      made = record {
        lines = ([], Appends-nil a.told.lines.bytes, refl);
        faults = ([], Appends-nil a.told.faults.bytes, refl);
        refused = ([], Appends-nil a.told.refused.bytes, refl);
        carried = omega arith;
        refusals = refl;
        kinds = sym (kinds_of_nothing (kinds_of_none s));
        types = refl;
      };
      place = first_is s a.types;
      is_ahead = refl;
    }

-- one piece more makes what a call took of it
made_more : (s : Settings) (pieces : List (List ℕ)) (piece : List ℕ) (result : Result (Bor (List ℕ)) PieceTooLong) (a : Start)
    (now : Stage) (next : Unwritten) → HasMade s pieces a now → next_place s now.unwritten ≡ place_past s a.types (first_place s) pieces
    → IsLastOf s.limit piece result → TakesGiven s now.unwritten result next
    → HasMade s (pieces ++ piece ∷ []) a (record { unwritten = next; told = now.told })
made_more s pieces piece result a now next h place is takes =
    let past = types_past s a.types pieces in
    let its = subst (λ (t : Types). TakesGiven s (record now.unwritten { types = t }) result next) h.types takes in
    let before = items_of s a.types pieces in
    let given = items_given s past result in
    let items : items_of s a.types (pieces ++ piece ∷ []) ≡ before ++ given =
    items_push s a.types pieces piece ∙ ap (λ l. before ++ l) (sym (given_items s past piece result is)) in
    let put : refused_pieces s a.types (pieces ++ piece ∷ []) ≡ refused_pieces s a.types pieces ++ refused_given s past result =
    put_append s a.types pieces (piece ∷ [])
    ∙ ap (λ l. refused_pieces s a.types pieces ++ l) (append-nil (refused_piece s past piece) ∙ sym (given_refused s past piece result is)) in
    record {
      lines = but_more _ _ _ _ _ _ _ h.lines its.batch (ap items_batch items ∙ batch_append before given);
      faults = but_more _ _ _ _ _ _ _ h.faults its.faults (given_told s a.types pieces piece result (next_place s now.unwritten) is place);
      refused = but_more _ _ _ _ _ _ _ h.refused its.pieces put;
      carried = omega (arith, its.carried, h.carried, ap carried_items items, carried_append before given);
      refusals = omega (arith, its.refused, h.refusals, ap refused_items items, refused_append before given);
      kinds = its.kinds ∙ ap (kinds_after given) h.kinds ∙ kinds_of_more before given (kinds_of_none s)
          ∙ ap (λ l. kinds_after l (kinds_of_none s)) (sym items);
      types = its.types ∙ given_types s past piece result is ∙ sym (types_append s a.types pieces (piece ∷ []));
    }

-- pieces that make the same were made too, whatever the next place is
made_same : (s : Settings) (pieces others : List (List ℕ)) (a : Start) (now : Stage) (line : Option ℕ) (offset : ℕ) (ahead : Bool)
    → HasMade s pieces a now → MakesSame s a.types pieces others
    → HasMade s others a (record {
      unwritten = record now.unwritten { made = record now.unwritten.made { line = line }; offset = offset; ahead = ahead };
      told = now.told;
    })
made_same s pieces others a now line offset ahead h same =
    record {
      lines = subst (λ l. GainsBut a.told.lines.bytes now.told.lines.bytes (items_batch l) now.unwritten.made.batch) same.0 h.lines;
      faults = subst (λ l. GainsBut a.told.faults.bytes now.told.faults.bytes l now.unwritten.made.faults) same.1 h.faults;
      refused = subst (λ l. GainsBut a.told.refused.bytes now.told.refused.bytes l now.unwritten.pieces) same.2 h.refused;
      carried = h.carried ∙ ap (λ l. items_before s.numbering s.first + carried_items l) same.0;
      refusals = h.refusals ∙ ap refused_items same.0;
      kinds = h.kinds ∙ ap (λ l. kinds_after l (kinds_of_none s)) same.0;
      types = h.types ∙ same.3;
    }

-- one piece more was taken, of which nothing was taken ahead
taken_more : (s : Settings) (pieces : List (List ℕ)) (piece : List ℕ) (result : Result (Bor (List ℕ)) PieceTooLong) (a : Start)
    (now : Stage) (next : Unwritten) → HasTaken s pieces None a now → IsLastOf s.limit piece result
    → TakesBy false s now.unwritten result next
    → HasTaken s (pieces ++ piece ∷ []) None a (record { unwritten = next; told = now.told })
taken_more s pieces piece result a now next h is takes =
    record {
      made = made_more s pieces piece result a now next h.made h.place is takes.0;
      place = given_place s a.types pieces piece result _ _ is h.place
          (takes.1 ∙ ap (λ (t : Types). after_given s t (next_place s now.unwritten) result) h.made.types);
      is_ahead = takes.0.ahead ∙ h.is_ahead;
    }

-- a piece was taken ahead
pub taken_ahead : (s : Settings) (pieces : List (List ℕ)) (front : List ℕ) (result : Result (Bor (List ℕ)) PieceTooLong) (a : Start)
    (now : Stage) (next : Unwritten) → HasTaken s pieces None a now → IsLastOf s.limit front result
    → TakesAhead s now.unwritten result next
    → HasTaken s pieces (Some front) a (record { unwritten = next; told = now.told })
taken_ahead s pieces front result a now next h is takes =
    let mid = record next { ahead = now.unwritten.ahead } in
    record {
      made = made_same s _ _ a (record { unwritten = mid; told = now.told }) next.made.line next.offset next.ahead
          (made_more s pieces front result a now mid h.made h.place is takes.takes) (refl, refl, refl, refl);
      place = takes.place ∙ ap (place_by (Some front)) h.place;
      is_ahead = takes.ahead;
    }

-- the place after a piece that was taken ahead
place_ended : (s : Settings) (types : Types) (pieces : List (List ℕ)) (piece : List ℕ) (result : Result (Bor (List ℕ)) PieceTooLong)
    (old new : Unwritten) (front : List ℕ) → IsTooLong s.limit piece → IsLastOf s.limit piece result
    → next_place s old ≡ place_by (Some front) (place_past s types (first_place s) pieces) → EndsAhead old result new
    → next_place s new ≡ place_past s types (first_place s) (pieces ++ piece ∷ [])
place_ended s types pieces piece result old new front long is place ends =
    let size = given_size s piece result is in
    let past = place_past s types (first_place s) pieces in
    ap (next_place s) ends.is
    ∙ ap (λ l. record (next_place s old) { line = l; offset = new.offset }) (ends.line ∙ ap (line_after old.made.line) size.0)
    ∙ ap (λ n. record (next_place s old) { line = line_after old.made.line (newlines_in piece); offset = n })
    (ends.offset ∙ ap (λ n. old.offset + n + 1) size.1)
    ∙ ap (λ (q : Place). record q { line = line_after q.line (newlines_in piece); offset = q.offset + length piece + 1 }) place
    ∙ ap (λ (l : List Item). place_after past l (newlines_in piece) (length piece)) (sym (item_of_long s (types_past s types pieces) piece long))
    ∙ sym (place_append s types (first_place s) pieces (piece ∷ []))

-- a piece that was taken ahead has ended
taken_ended : (s : Settings) (pieces : List (List ℕ)) (front more piece : List ℕ) (result : Result (Bor (List ℕ)) PieceTooLong)
    (a : Start) (now : Stage) (next : Unwritten) → HasTaken s pieces (Some front) a now → IsTooLong s.limit front → piece ≡ front ++ more
    → IsLastOf s.limit piece result → EndsAhead now.unwritten result next
    → HasTaken s (pieces ++ piece ∷ []) None a (record { unwritten = next; told = now.told })
taken_ended s pieces front more piece result a now next h long begins is ends =
    record {
      made = subst (λ u. HasMade s (pieces ++ piece ∷ []) a (record { unwritten = u; told = now.told })) (sym ends.is)
          (made_same s _ _ a now next.made.line next.offset false h.made (front_makes s a.types pieces front more piece long begins));
      place = place_ended s a.types pieces piece result now.unwritten next front (long_more s.limit front more piece long begins) is h.place ends;
      is_ahead = ap (λ (u : Unwritten). u.ahead) ends.is;
    }

-- one piece more was taken, or ended if it was taken ahead
pub taken_next : (s : Settings) (pieces : List (List ℕ)) (ahead : Option (List ℕ)) (piece : List ℕ)
    (result : Result (Bor (List ℕ)) PieceTooLong) (a : Start) (now : Stage) (next : Unwritten) → HasTaken s pieces ahead a now
    → IsAhead s piece ahead → IsLastOf s.limit piece result → TakesBy now.unwritten.ahead s now.unwritten result next
    → HasTaken s (pieces ++ piece ∷ []) None a (record { unwritten = next; told = now.told })
taken_next s pieces None piece result a now next h begun is takes =
    taken_more s pieces piece result a now next h is (subst (λ b. TakesBy b s now.unwritten result next) h.is_ahead takes)
taken_next s pieces (Some front) piece result a now next h begun is takes =
    taken_ended s pieces front begun.2.0 piece result a now next h begun.0 begun.2.1 is
    (subst (λ b. TakesBy b s now.unwritten result next) h.is_ahead takes)

-- the bytes of the writers stayed
pub taken_kept : (s : Settings) (pieces : List (List ℕ)) (ahead : Option (List ℕ)) (a : Start) (c : Told) (now : Stage)
    → HasTaken s pieces ahead a now → KeepsBytes now.told c
    → HasTaken s pieces ahead a (record { unwritten = now.unwritten; told = c })
taken_kept s pieces ahead a c now h k =
    let made = h.made in
    record {
      made = record {
        lines = (made.lines.0, Appends-kept _ _ _ _ made.lines.1 k.0, made.lines.2);
        faults = (made.faults.0, Appends-kept _ _ _ _ made.faults.1 k.1, made.faults.2);
        refused = (made.refused.0, Appends-kept _ _ _ _ made.refused.1 k.2, made.refused.2);
        carried = made.carried;
        refusals = made.refusals;
        kinds = made.kinds;
        types = made.types;
      };
      place = h.place;
      is_ahead = h.is_ahead;
    }

-- a front of what was held was written
pub taken_some : (s : Settings) (pieces : List (List ℕ)) (ahead : Option (List ℕ)) (a : Start) (c : Told) (now : Stage)
    → HasTaken s pieces ahead a now
    → GainsFronts now.told c now.unwritten.made.batch now.unwritten.made.faults now.unwritten.pieces
    → HasWritten s (made_of pieces ahead) a c
taken_some s pieces ahead a c now h p =
    (but_front _ _ _ _ _ h.made.lines p.0, but_front _ _ _ _ _ h.made.faults p.1, but_front _ _ _ _ _ h.made.refused p.2)

-- what was written so far is one
pub taken_so_far : (s : Settings) (pieces : List (List ℕ)) (ahead : Option (List ℕ)) (a : Start) (now : Stage)
    → HasTaken s pieces ahead a now → HasWritten s (made_of pieces ahead) a now.told
taken_so_far s pieces ahead a now h = taken_some s pieces ahead a now.told now h (front_none _ _, front_none _ _, front_none _ _)

-- what holds at a fault
pub at_fault : {T E Q : Type 0} (P : T → Type 0) (r : Result T E) → IsErr r → Q → MatchResult r P (λ _. Q)
at_fault P r failed q = MatchResult-from_err r P _ failed (λ _. q)

-- what two clauses say where there is none
pub on_ok_pair : {T E : Type 0} (P Q : Type 0) (r : Result T E) → OnOk r P → OnOk r Q → OnOk r (P × Q)
on_ok_pair P Q (Ok v) p q = (p, q)
on_ok_pair P Q (Err e) p q = tt

-- what holds at a fault or not
pub either : {T E P Q : Type 0} (r : Result T E) → P → Q → MatchResult r (λ _. P) (λ _. Q)
either r p q = grind (arith)
