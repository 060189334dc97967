-- How a piece ends: nothing is told of it, or why its item is refused.
use Rattle.std.proofs.Common.{◌≡◌, ℕ, ◌+◌, Bool, false, true, List, [], ◌∷◌, ◌++◌, length, Option, Ok, Err, Result, refl, sym, ap, subst, ◌∙◌, arith}
use Rattle.std.proofs.Common.{append-nil, option_map}
use Rattle.std.specs.Borrow.{Bor}
use Rattle.std.specs.Prelude.{if◌then◌else◌}
use Rattle.influxdb_line_protocol.specs.code.Rules.{rules_of}
use Rattle.influxdb_line_protocol.specs.format.Bytes.{newline, newlines_in}
use Rattle.influxdb_line_protocol.specs.types.PieceTooLong.{PieceTooLong}
use Rattle.lp_faults.specs.declared.pieces.Piece.{Piece}
use Rattle.lp_faults.specs.declared.pieces.Piece.TheVariants.{Text, NoText, TooLong}
use Rattle.lp_faults.specs.declared.refusals.Refusal.{Refusal}
use Rattle.lp_faults.specs.declared.telling.Place.{Place}
use Rattle.lp_conditions.specs.declared.settings.Settings.{Settings}
use Rattle.lp_relay.specs.declared.taking.Taken.TheVariants as took
use Rattle.lp_faults.specs.FaultsTold.{is_told, line_after, told_at, told_fault, told_item}
use Rattle.lp_conditions.specs.KindCounts.{with_fault}
use Rattle.lp_faults.specs.Objects.{Reason, bytes_given, item_front, line_given, over_given, stop_given, len_given, newlines_given}
use Rattle.lp_relay.specs.Taking.{EndsPiece, RefusesPiece}
use Rattle.lp_faults.specs.Refusals.{GaveSame, IsRefusal, front_in, given_of, is_fault, line_piece, reason_of, refusal_kind, stop_in}
use Rattle.lp_conditions.specs.FieldTypes.{Types}
use Rattle.lp_faults.specs.Relaying.{Item, answered, put_out, not_as_written, not_portable, not_of_type, not_of_time, not_utf8, too_long, is_carried_item, item_line, refused_lines}
use Rattle.lp_relay.specs.RelaySteps.{EndsAhead, TakesAhead, TakesBy, TakesGiven, Unwritten, after_given, items_given, next_place, types_given}
use Rattle.lp_faults.proofs.ItemLemmas.{items_add_up}
use Rattle.lp_faults.proofs.KindLemmas.{kinds_of_carried, kinds_of_nothing, kinds_of_refused, no_kind}

-- nothing goes out, whether refused pieces do or not
nothing_put : (goes_out : Bool) (pieces : List ℕ) → pieces ≡ pieces ++ (if goes_out then [] else [])
nothing_put false pieces = sym (append-nil pieces)
nothing_put true pieces = sym (append-nil pieces)

-- of an item that is refused no line goes out
no_line : (item : Item) → is_carried_item item ≡ false → item_line item ≡ []
no_line (answered front (Ok l)) refused = rw refused refl
no_line (answered front (Err fault)) refused = refl
no_line (put_out out) refused = absurd (cc)
no_line (not_as_written front wrong) refused = refl
no_line (not_portable front wrong) refused = refl
no_line (not_of_type front fault) refused = refl
no_line (not_of_time front fault) refused = refl
no_line not_utf8 refused = refl
no_line (too_long kept) refused = refl

-- of an item that is refused, its piece goes out
refused_put : (goes_out : Bool) (piece : List ℕ) (item : Item) → is_carried_item item ≡ false
    → refused_lines goes_out piece (item ∷ []) ≡ (if goes_out then piece ++ newline ∷ [] else [])
refused_put false piece item refused = refl
refused_put true piece item refused = rw refused (append-nil (piece ++ newline ∷ []))

-- what is put out of a piece whose item is refused: nothing, if refused pieces do not go out
pub put_unasked : (pieces bytes : List ℕ) (goes_out : Bool) → goes_out ≡ false
    → pieces ≡ pieces ++ (if goes_out then bytes ++ newline ∷ [] else [])
put_unasked pieces bytes goes_out unasked = rw unasked (sym (append-nil pieces))

-- and else its bytes
pub put_asked : (pieces bytes : List ℕ) (goes_out : Bool) → goes_out ≡ true
    → pieces ++ (bytes ++ newline ∷ []) ≡ pieces ++ (if goes_out then bytes ++ newline ∷ [] else [])
put_asked pieces bytes goes_out asked = rw asked refl

-- a fault beyond those that are told is not told
pub told_none : (s : Settings) (place : Place) (why : Reason) → is_told s.max_faults place.refused ≡ false → told_at s place why ≡ []
told_none s place why beyond = rw beyond refl

-- and each other is
pub told_whole : (s : Settings) (place : Place) (why : Reason) → is_told s.max_faults place.refused ≡ true
    → told_at s place why ≡ told_fault s.faults place why
told_whole s place why within = rw within refl

-- why an item is refused is told as what is told of the item
told_is : (s : Settings) (place : Place) (piece line : Piece) (refusal : Refusal) (item : Item) (bytes : List ℕ) (stop : Option (List ℕ))
    → IsRefusal refusal item → bytes ≡ bytes_given (given_of line)
    → item_front item ≡ front_in line → stop ≡ stop_in (is_fault refusal) (rules_of s.dialect) line
    → told_item s place (record { bytes = bytes_given (given_of piece); line = bytes; over = over_given s.limit (given_of piece); stop = stop }) item
    ≡ told_at s place (reason_of (rules_of s.dialect) s.limit piece line refusal)
told_is s place piece line refusal item bytes stop r told front is = rw (r.kind, r.wrong, told, front, is) refl

-- the line of a piece that a call gave
line_given_is : (s : Settings) (piece : Piece) → line_given s (given_of piece) ≡ bytes_given (given_of (line_piece s piece))
line_given_is s (Text text) = refl
line_given_is s (NoText bytes) = refl
line_given_is s (TooLong fault) = refl

-- a piece without an item ends as it is
pub ends_blank : (s : Settings) (piece : Piece) (mid : Unwritten) → EndsPiece s piece took.Blank mid mid
ends_blank s piece mid before types t is =
    record {
      batch = rw t.0 (t.1 ∙ sym (append-nil before));
      faults = rw t.0 (sym (append-nil mid.made.faults));
      carried = rw t.0 (omega arith);
      refused = rw t.0 (omega arith);
      pieces = rw t.0 (nothing_put s.puts_refused mid.pieces);
      kinds = rw t.0 (sym (kinds_of_nothing mid.kinds));
      ahead = refl;
      types = is;
    }

-- a piece whose line was added ends once that is counted
pub ends_carried : (s : Settings) (piece : Piece) (mid : Unwritten) → EndsPiece s piece took.Carried mid
    (record mid { made = record mid.made { carried = mid.made.carried + 1 } })
ends_carried s piece mid before types (item, one, carries, copied) is =
    record {
      batch = rw one (copied ∙ ap (λ (l : List ℕ). before ++ l) (sym (append-nil (item_line item))));
      faults = rw (one, no_kind item carries) (sym (append-nil mid.made.faults));
      carried = rw (one, carries) (omega arith);
      refused = rw (one, carries) (omega arith);
      pieces = rw (one, carries) (nothing_put s.puts_refused mid.pieces);
      kinds = rw one (sym (kinds_of_carried item mid.kinds carries));
      ahead = refl;
      types = is;
    }

-- a piece whose item is refused ends once that is told and counted, and the piece is put out
pub refuses : (s : Settings) (types : Types) (piece : Piece) (refusal : Refusal) (item : Item) (old new : Unwritten) (n : ℕ)
    → RefusesPiece s types piece refusal item
    → n ≡ old.made.carried + old.made.refused + 1
    → new.made.batch ≡ old.made.batch
    → new.made.faults ≡ old.made.faults ++ told_at s (record (next_place s old) { number = n }) (reason_of (rules_of s.dialect) s.limit piece (line_piece s piece) refusal)
    → new.made.carried ≡ old.made.carried → new.made.refused ≡ old.made.refused + 1
    → new.kinds ≡ option_map (with_fault (refusal_kind refusal)) old.kinds
    → new.pieces ≡ old.pieces ++ (if s.puts_refused then bytes_given (given_of piece) ++ newline ∷ [] else [])
    → new.ahead ≡ old.ahead → new.types ≡ types_given s types (given_of piece)
    → TakesGiven s (record old { types = types }) (given_of piece) new
refuses s types piece refusal item old new n r numbered batch faults carried refused kinds pieces ahead kept =
    let is = r.refused in
    let told = told_is s (record (next_place s old) { number = n }) piece (line_piece s piece) refusal item (line_given s (given_of piece))
    (stop_given s (given_of piece)) is (line_given_is s piece) r.front r.stop in
    record {
      batch = batch ∙ sym (rw (r.is, no_line item is.refused) (append-nil old.made.batch));
      faults = rw (r.is, ← numbered) (faults ∙ ap (λ (l : List ℕ). old.made.faults ++ l) (sym (append-nil _ ∙ told)));
      carried = rw (r.is, is.refused) (carried ∙ omega arith);
      refused = rw (r.is, is.refused) (refused ∙ omega arith);
      pieces = rw r.is (pieces ∙ ap (λ (l : List ℕ). old.pieces ++ l) (sym (refused_put s.puts_refused (bytes_given (given_of piece)) item is.refused)));
      kinds = rw r.is (kinds ∙ kinds_of_refused item (refusal_kind refusal) old.kinds (sym is.kind));
      ahead = ahead;
      types = kept;
    }

-- a piece ends so
pub ends_refused : (s : Settings) (piece : Piece) (refusal : Refusal) (mid new : Unwritten)
    → ((item : Item) (types : Types) → RefusesPiece s types piece refusal item → mid.types ≡ types_given s types (given_of piece)
    → TakesGiven s (record mid { types = types }) (given_of piece) new)
    → EndsPiece s piece (took.Refused refusal) mid new
ends_refused s piece refusal mid new takes before types ((item, r), same) is =
    subst (λ (l : List ℕ). TakesGiven s (record mid { made = record mid.made { batch = l }; types = types }) (given_of piece) new) same
    (takes item types r is)

-- what was taken is taken with another reference to the same bytes
pub given_same : (s : Settings) (old new : Unwritten) (given other : Result (Bor (List ℕ)) PieceTooLong) → GaveSame given other
    → TakesGiven s old given new → TakesGiven s old other new
given_same s old new (Ok piece) (Ok other) same t =
    let h = subst (λ (l : List ℕ). TakesGiven s old (Ok (record piece { now = l })) new) same t in
    record {
      batch = h.batch;
      faults = h.faults;
      carried = h.carried;
      refused = h.refused;
      pieces = h.pieces;
      kinds = h.kinds;
      ahead = h.ahead;
      types = h.types;
    }
given_same s old new (Ok piece) (Err other) same t = absurd same
given_same s old new (Err fault) (Ok other) same t = absurd same
given_same s old new (Err fault) (Err other) same t = subst (λ f. TakesGiven s old (Err f) new) same t

-- the next place is the same too
pub same_place : (s : Settings) (types : Types) (place : Place) (given other : Result (Bor (List ℕ)) PieceTooLong) → GaveSame given other
    → after_given s types place given ≡ after_given s types place other
same_place s types place (Ok piece) (Ok other) same = ap (λ (l : List ℕ). after_given s types place (Ok (record piece { now = l }))) same
same_place s types place (Ok piece) (Err other) same = absurd same
same_place s types place (Err fault) (Ok other) same = absurd same
same_place s types place (Err fault) (Err other) same = ap (λ f. after_given s types place (Err f)) same

-- so is all of the step, or of the end of a piece that was taken ahead
pub step_same : (ahead : Bool) (s : Settings) (old new : Unwritten) (given other : Result (Bor (List ℕ)) PieceTooLong)
    → GaveSame given other → TakesBy ahead s old given new → TakesBy ahead s old other new
step_same false s old new given other same t =
    (given_same s old new given other same t.0, t.1 ∙ same_place s old.types (next_place s old) given other same)
step_same true s old new (Ok piece) (Ok other) same t =
    record {
      is = t.is;
      line = t.line ∙ ap (λ (l : List ℕ). line_after old.made.line (newlines_in l)) same;
      offset = t.offset ∙ ap (λ (l : List ℕ). old.offset + length l + 1) same;
    }
step_same true s old new (Ok piece) (Err other) same t = absurd same
step_same true s old new (Err fault) (Ok other) same t = absurd same
step_same true s old new (Err fault) (Err other) same t = subst (λ f. EndsAhead old (Err f) new) same t

-- of what was taken and counted as refused, the place stays if it is taken ahead
pub counts_ahead : (s : Settings) (old mid : Unwritten) (given : Result (Bor (List ℕ)) PieceTooLong) → TakesGiven s old given mid
    → (mid.made.carried ≡ old.made.carried) × (mid.made.refused ≡ old.made.refused + 1)
    → (mid.made.line ≡ old.made.line) × (mid.offset ≡ old.offset) → TakesAhead s old given (record mid { ahead = true })
counts_ahead s old mid given t counts place =
    let number : mid.made.carried + mid.made.refused + 1 ≡ old.made.carried + old.made.refused + 1 + 1 = omega (arith, counts.0, counts.1) in
    record {
      takes = record {
        batch = t.batch;
        faults = t.faults;
        carried = t.carried;
        refused = t.refused;
        pieces = t.pieces;
        kinds = t.kinds;
        ahead = refl;
        types = t.types;
      };
      place = rw (place.0, place.1, number, counts.1) refl;
      ahead = refl;
    }

-- once a piece was taken, the next place comes after it
pub place_taken : (s : Settings) (old new : Unwritten) (given : Result (Bor (List ℕ)) PieceTooLong) (line : Option ℕ) (offset : ℕ)
    → TakesGiven s old given new → line ≡ line_after old.made.line (newlines_given given) → offset ≡ old.offset + len_given given + 1
    → next_place s (record new { made = record new.made { line = line }; offset = offset })
    ≡ after_given s old.types (next_place s old) given
place_taken s old new given line offset t lines offsets =
    let number : new.made.carried + new.made.refused + 1 ≡ old.made.carried + old.made.refused + 1 + length (items_given s old.types given) =
    omega (arith, t.carried, t.refused, items_add_up (items_given s old.types given)) in
    rw (lines, offsets, number, t.refused) refl
