-- What comes of a piece whose line has its time.
use Rattle.std.proofs.Common.{◌≡◌, ◌<◌, ◌==◌, ◌∙◌, ℕ, ℤ, Bool, false, List, length, Option, None, Some, Result, Ok, Err, is_err, ap, refl, sym, subst, true}
use Rattle.std.specs.Borrow.{Bor}
use Rattle.std.specs.Str.{IsUtf8}
use Rattle.influxdb_line_protocol.specs.code.Rules.{rules_of}
use Rattle.influxdb_line_protocol.specs.format.Lines.{Line, answer}
use Rattle.influxdb_line_protocol.specs.format.Readings.{Fault}
use Rattle.influxdb_line_protocol.specs.format.Trimming.{trimmed}
use Rattle.influxdb_line_protocol.specs.format.Values.{fits_i64}
use Rattle.influxdb_line_protocol.specs.{code.Parsed.line_read, types.ParsedLine.ParsedLine}
use Rattle.lp_values.specs.code.SpelledParts.{spelled_fault}
use Rattle.lp_values.specs.declared.spelled.SpelledFault.{SpelledFault}
use Rattle.lp_rebuild.specs.RebuildSteps.{IsReadAs}
use Rattle.lp_faults.specs.declared.pieces.Piece.{TheVariants.Text}
use Rattle.lp_faults.specs.declared.refusals.Refusal.TheVariants as why
use Rattle.lp_conditions.specs.declared.settings.Settings.{Settings}
use Rattle.lp_conditions.specs.declared.times.{Times.Times, TimeChange.TimeChange, TimeFault.TimeFault}
use Rattle.lp_conditions.specs.declared.times.TimeChange.TheVariants.{Becomes, Stays, Wrong}
use Rattle.lp_conditions.specs.FieldTypes.{Types}
use Rattle.lp_conditions.specs.LineTimes.{Timed, change_of, changed, front_of, line_at, piece_at, relayed, time_fault, timed}
use Rattle.lp_relay.specs.declared.taking.Taken.{Taken}
use Rattle.lp_relay.specs.declared.taking.Taken.TheVariants as took
use Rattle.lp_relay.specs.Taking.{BecomesAt, HasLine, HasTime, TakesItem, TakesPiece}
use Rattle.lp_faults.specs.Relaying.{is_carried_item, item_in, line_of, not_of_time, timed_item, typed_item, types_after_answer, types_in_after, types_of_bytes}
use Rattle.lp_relay.proofs.RefusalLemmas.{IsOf, by_is_of, not_blank, takes_text}
use Rattle.lp_relay.proofs.TimeLaws.{times_are_read_back, trimmed_at}
use Rattle.lp_relay.proofs.TypeLemmas.{types_kept}

-- what was read of a text is a line, if there is no fault
pub read_as_line : (fault : Option SpelledFault) (l : ParsedLine) (a : Result Line Fault) → ((f : SpelledFault) → fault ≡ Some f → ⊥)
    → IsReadAs fault l a → a ≡ Ok (line_read l)
read_as_line None l a none read = read
read_as_line (Some f) l a none read = absurd (none f refl)

-- whether what is relayed of a piece is at fault
abbrev at_fault : Timed → Bool
at_fault (relayed piece a) = is_err a
at_fault (time_fault fault) = false

-- a line of a piece is not, whatever becomes of its time
changed_is_read : (piece : List ℕ) (l : Line) (change : TimeChange) → at_fault (changed piece l change) ≡ false
changed_is_read piece l Stays = refl
changed_is_read piece l (Becomes time) = refl
changed_is_read piece l (Wrong fault) = refl

-- a time changes no fault
same_fault : (t : Option Times) (piece : List ℕ) (a : Result Line Fault) → at_fault (timed t piece a) ≡ is_err a
same_fault None piece a = refl
same_fault (Some times) piece (Ok l) = changed_is_read piece l (change_of times l.timestamp)
same_fault (Some times) piece (Err fault) = refl

-- what is taken of a piece whose line has its time
pub takes_timed : (s : Settings) (types : Types) (whole : Bor (List ℕ)) (piece : List ℕ) (a : Result Line Fault) (taken : Taken) (before after : List ℕ)
    → HasTime s whole.now piece a → TakesItem taken (typed_item s types piece a) before after → TakesPiece s types (Text whole) taken before after
takes_timed s types whole piece a taken before after h takes =
    let came = line_of s whole.now in
    let b = answer (rules_of s.dialect) (trimmed came) in
    let read : is_err a ≡ is_err b = sym (ap at_fault h.timed) ∙ same_fault s.times came b in
    let same : typed_item s types piece a ≡ timed_item s types came b = sym (ap (item_in s types (front_of came)) h.timed) in
    takes_text s types whole came (trimmed came) taken before after refl h.utf8 refl h.some
    (subst (λ i. is_carried_item i ≡ false → IsOf (front_of came) b i) same
    (λ refused. let of = by_is_of s types piece a refused in (of.0 ∙ h.front, of.1 ∙ read)))
    (subst (λ i. TakesItem taken i before after) same takes)

-- the types after it
pub kept_timed : (s : Settings) (types types_then : Types) (whole piece : List ℕ) (a : Result Line Fault) → HasTime s whole piece a
    → types_then ≡ types_after_answer s piece types a → types_then ≡ types_of_bytes s types (line_of s whole)
kept_timed s types types_then whole piece a h kept =
    types_kept s types types_then whole (line_of s whole) (trimmed (line_of s whole)) refl h.utf8 refl h.some
    (kept ∙ sym (ap (types_in_after s types) h.timed))

-- a piece has a line if that is not blank
pub has_line : (s : Settings) (whole piece text : List ℕ) (test : Bool) → piece ≡ line_of s whole → text ≡ trimmed piece → test ≡ (length text == 0)
    → test ≡ false → IsUtf8 piece → HasLine s whole piece text
has_line s whole piece text test its is tests fails u =
    record { piece_is = its; text_is = is; some = subst (λ t. 0 < length t) (sym is) (not_blank text piece test is tests fails); utf8 = u }

-- the line of a piece goes out as it came, if it stays
stays : (s : Settings) (whole piece text : List ℕ) → HasLine s whole piece text
    → timed s.times piece (answer (rules_of s.dialect) text) ≡ relayed piece (answer (rules_of s.dialect) text)
    → HasTime s whole piece (answer (rules_of s.dialect) text)
stays s whole piece text h same =
    let text_of = h.text_is ∙ ap trimmed h.piece_is in
    record {
      some = subst (λ t. 0 < length t) text_of h.some;
      utf8 = subst IsUtf8 h.piece_is h.utf8;
      front = ap front_of h.piece_is;
      timed = subst (λ t. timed s.times (line_of s whole) (answer (rules_of s.dialect) t) ≡ relayed piece (answer (rules_of s.dialect) text)) text_of
          (subst (λ p. timed s.times p (answer (rules_of s.dialect) text) ≡ relayed piece (answer (rules_of s.dialect) text)) h.piece_is same);
    }

-- it does if the times of lines are not looked at
pub stays_untimed : (s : Settings) (whole piece text : List ℕ) → HasLine s whole piece text → s.times ≡ None
    → HasTime s whole piece (answer (rules_of s.dialect) text)
stays_untimed s whole piece text h none = stays s whole piece text h (ap (λ t. timed t piece (answer (rules_of s.dialect) text)) none)

-- it does if it is no line
pub stays_fault : (s : Settings) (whole piece text : List ℕ) (times : Times) (fault : Fault) → HasLine s whole piece text → s.times ≡ Some times
    → answer (rules_of s.dialect) text ≡ Err fault → HasTime s whole piece (answer (rules_of s.dialect) text)
stays_fault s whole piece text times fault h looked is = stays s whole piece text h (rw (looked, is) refl)

-- it does if its time is to stay
pub stays_line : (s : Settings) (whole piece text : List ℕ) (times : Times) (l : ParsedLine) → HasLine s whole piece text → s.times ≡ Some times
    → answer (rules_of s.dialect) text ≡ Ok (line_read l) → change_of times l.timestamp ≡ Stays
    → HasTime s whole piece (answer (rules_of s.dialect) text)
stays_line s whole piece text times l h looked read is = stays s whole piece text h (rw (looked, read, is) refl)

-- what is relayed of a piece whose line gets another time
new_time : (t : Option Times) (times : Times) (piece : List ℕ) (l : Line) (a : Result Line Fault) (time : ℤ) → t ≡ Some times → a ≡ Ok l
    → change_of times l.timestamp ≡ Becomes time → timed t piece a ≡ relayed (piece_at l.timestamp time piece) (Ok (line_at time l))
new_time t times piece l a time looked read is = rw (looked, read, is) refl

-- the line of a piece goes out as a copy that has another time
pub becomes_copy : (s : Settings) (whole piece text new new_text : List ℕ) (came : Option ℤ) (time : ℤ) → HasLine s whole piece text
    → BecomesAt s text came time → fits_i64 time ≡ true → new ≡ piece_at came time piece → front_of new ≡ front_of piece → new_text ≡ trimmed new
    → HasTime s whole new (answer (rules_of s.dialect) new_text)
becomes_copy s whole piece text new new_text came time h b fits new_is front text_of =
    let d = rules_of s.dialect in
    let l = b.line in
    let old : new ≡ piece_at l.timestamp time piece = new_is ∙ ap (λ t. piece_at t time piece) (sym b.timestamp) in
    let some : 0 < length (trimmed piece) = subst (λ t. 0 < length t) h.text_is h.some in
    let its : answer d (trimmed piece) ≡ Ok l = ap (answer d) (sym h.text_is) ∙ b.read in
    let read : answer d new_text ≡ Ok (line_at time l) =
    ap (answer d) (text_of ∙ ap trimmed old ∙ trimmed_at l.timestamp time piece fits some) ∙ times_are_read_back d (trimmed piece) l time its fits in
    let is : timed s.times piece (answer d (trimmed piece)) ≡ relayed new (answer d new_text) =
    new_time s.times b.times piece l (answer d (trimmed piece)) time b.looked its (ap (change_of b.times) b.timestamp ∙ b.becomes)
    ∙ ap (λ p. relayed p (Ok (line_at time l))) (sym old) ∙ ap (relayed new) (sym read) in
    record {
      some = subst (λ p. 0 < length (trimmed p)) h.piece_is some;
      utf8 = subst IsUtf8 h.piece_is h.utf8;
      front = front ∙ ap front_of h.piece_is;
      timed = subst (λ p. timed s.times p (answer d (trimmed p)) ≡ relayed new (answer d new_text)) h.piece_is is;
    }

-- a line is refused for its time if that is what becomes of it
time_fault_is : (t : Option Times) (times : Times) (came : List ℕ) (l : ParsedLine) (a : Result Line Fault) (fault : TimeFault)
    → t ≡ Some times → a ≡ Ok (line_read l) → change_of times l.timestamp ≡ Wrong fault → timed t came a ≡ time_fault fault
time_fault_is t times came l a fault looked read is = rw (looked, read, is) refl

-- a piece whose line is refused for its time, and what is relayed of it
pub record IsLate (s : Settings) (whole : List ℕ) (fault : TimeFault) : Type 0 where
  some : 0 < length (trimmed (line_of s whole))
  utf8 : IsUtf8 (line_of s whole)
  is : timed s.times (line_of s whole) (answer (rules_of s.dialect) (trimmed (line_of s whole))) ≡ time_fault fault

-- a line of which that becomes is such a one
pub is_late : (s : Settings) (whole piece text : List ℕ) (times : Times) (l : ParsedLine) (fault : TimeFault) → HasLine s whole piece text
    → s.times ≡ Some times → answer (rules_of s.dialect) text ≡ Ok (line_read l) → change_of times l.timestamp ≡ Wrong fault → IsLate s whole fault
is_late s whole piece text times l fault h looked read is =
    let text_of = h.text_is ∙ ap trimmed h.piece_is in
    record {
      some = subst (λ t. 0 < length t) text_of h.some;
      utf8 = subst IsUtf8 h.piece_is h.utf8;
      is = time_fault_is s.times times (line_of s whole) l (answer (rules_of s.dialect) (trimmed (line_of s whole))) fault looked
          (ap (answer (rules_of s.dialect)) (sym text_of) ∙ read) is;
    }

-- nothing is taken of it
pub takes_time_fault : (s : Settings) (types : Types) (whole : Bor (List ℕ)) (fault : TimeFault) (before : List ℕ) → IsLate s whole.now fault
    → TakesPiece s types (Text whole) (took.Refused (why.NotOfTime fault)) before before
takes_time_fault s types whole fault before h =
    let came = line_of s whole.now in
    let a = answer (rules_of s.dialect) (trimmed came) in
    let read : false ≡ is_err a = sym (ap at_fault h.is) ∙ same_fault s.times came a in
    let same : not_of_time (front_of came) fault ≡ timed_item s types came a = sym (ap (item_in s types (front_of came)) h.is) in
    takes_text s types whole came (trimmed came) (took.Refused (why.NotOfTime fault)) before before refl h.utf8 refl h.some
    (subst (λ i. is_carried_item i ≡ false → IsOf (front_of came) a i) same (λ refused. (refl, read)))
    (subst (λ i. TakesItem (took.Refused (why.NotOfTime fault)) i before before) same
    (record { refused = refl; wrong = refl; kind = refl; fault = refl }, refl))

-- it changes no types
pub kept_time_fault : (s : Settings) (types : Types) (whole : List ℕ) (fault : TimeFault) → IsLate s whole fault
    → types ≡ types_of_bytes s types (line_of s whole)
kept_time_fault s types whole fault h =
    types_kept s types types whole (line_of s whole) (trimmed (line_of s whole)) refl h.utf8 refl h.some (sym (ap (types_in_after s types) h.is))
