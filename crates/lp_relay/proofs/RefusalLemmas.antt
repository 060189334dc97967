-- What comes of the item of a piece.
use Rattle.std.proofs.Common.{◌≡◌, ◌<◌, ◌==◌, ℕ, Bool, false, true, List, [], ◌∷◌, ◌++◌, length, Option, None, Some, Ok, Err, ◌&&◌, nat_lt}
use Rattle.std.proofs.Common.{Result, is_err, refl, sym, ap, subst, ◌∙◌, append-nil, inl, inr}
use Rattle.std.specs.Borrow.{Bor}
use Rattle.std.specs.Str.{IsUtf8, bytes_eq, is_utf8}
use Rattle.std.proofs.Math.Nat.{eq-zero-or-pos}
use Rattle.std.proofs.lemmas.Bool.{cases_Bool, eqb-false, eqb-true, false≢true}
use Rattle.std.proofs.lemmas.Str.{IsUtf8-from_is_utf8, is_utf8-from_IsUtf8}
use Rattle.influxdb_line_protocol.specs.code.Rules.{rules_of}
use Rattle.influxdb_line_protocol.specs.format.Bytes.{newline}
use Rattle.influxdb_line_protocol.specs.format.Dialects.{Dialect}
use Rattle.influxdb_line_protocol.specs.types.Dialect.{Dialect as TheDialect}
use Rattle.influxdb_line_protocol.specs.format.Readings.{Fault}
use Rattle.influxdb_line_protocol.specs.format.Points.{built, is_admitted_point}
use Rattle.influxdb_line_protocol.specs.format.Lines.{Line, answer, point_of}
use Rattle.influxdb_line_protocol.specs.format.Trimming.{trimmed}
use Rattle.influxdb_line_protocol.specs.types.PieceTooLong.{PieceTooLong}
use Rattle.lp_rebuild.specs.declared.refusals.LineRefusal.{LineRefusal}
use Rattle.lp_rebuild.specs.declared.refusals.LineRefusal.TheVariants as line
use Rattle.lp_rebuild.specs.RebuildSteps.{IsRefusedFor, TakesLine}
use Rattle.lp_values.specs.code.SpelledParts.{spelled_fault}
use Rattle.lp_values.specs.declared.spelled.SpelledFault.{SpelledFault}
use Rattle.lp_faults.specs.declared.pieces.Piece.{TheVariants.Text, TheVariants.NoText, TheVariants.TooLong}
use Rattle.lp_faults.specs.declared.refusals.Refusal.TheVariants as why
use Rattle.lp_conditions.specs.declared.settings.LineForm.{LineForm}
use Rattle.lp_conditions.specs.declared.settings.LineForm.TheVariants.{Rebuilt, Verbatim, Canonical, Keyed, OfShard}
use Rattle.lp_conditions.specs.declared.settings.Settings.{Settings}
use Rattle.lp_relay.specs.declared.taking.Taken.{Taken}
use Rattle.lp_relay.specs.declared.taking.Taken.TheVariants as took
use Rattle.lp_conditions.specs.declared.field_types.{StrictTypes.StrictTypes, TypeFault.TypeFault}
use Rattle.lp_conditions.specs.FieldTypes.{Types, after_point}
use Rattle.lp_faults.specs.Objects.{item_front, stop_given}
use Rattle.lp_faults.specs.Refusals.{IsRefusal, has_fault, is_fault, line_piece, stop_in}
use Rattle.lp_relay.specs.Taking.{TakesItem, TakesPiece}
use Rattle.lp_faults.specs.Relaying.{Item, after_item, allowed, answered, canonical_item, goes_out, if_portable, if_typed, is_carried_item, item_by, item_line, item_of}
use Rattle.lp_conditions.specs.LineEnds.{ends_at_newline}
use Rattle.lp_conditions.specs.LineTimes.{front_of}
use Rattle.lp_faults.specs.Relaying.{is_of_shard, items_of_bytes, kept_of, keyed_item, line_in, line_of, timed_item, too_long, typed_item, unchanged_item}
use Rattle.lp_conditions.specs.Portables.{is_shown_portable, told_of_bytes}
use Rattle.lp_conditions.specs.declared.portable.Portable.{Portable}
use Rattle.lp_conditions.specs.Verdicts.{fault_in}
use Rattle.lp_faults.proofs.ItemLemmas.{item_of_no_text}
use Rattle.lp_relay.proofs.RelayLemmas.{blank_items, text_item}
use Rattle.lp_faults.proofs.ReturnLemmas.{piece_utf8}

-- an answer that a rebuild refuses is refused for this
pub refuses_answer : (front : List ℕ) (refusal : LineRefusal) (a : Result Line Fault) → IsRefusedFor (Some refusal) a
    → IsRefusal (why.Line refusal) (answered front a)
refuses_answer front (line.Fault fault) a is = rw is (record { refused = refl; wrong = refl; kind = refl; fault = refl })
refuses_answer front line.NotAdmitted a (l, same, not_admitted) =
    rw same (record { refused = not_admitted; wrong = refl; kind = rw not_admitted refl; fault = refl })

-- nothing is written for it
pub same_batch : (before after : List ℕ) (refusal : LineRefusal) (a : Result Line Fault) → TakesLine before (Some refusal) a after
    → after ≡ before
same_batch before after (line.Fault fault) a t = rw t.refused at t.batch ∙ append-nil before
same_batch before after line.NotAdmitted a t =
    let (l, same, not_admitted) = t.refused in
    rw (same, not_admitted) at t.batch ∙ append-nil before

-- a line was written again, whose names are all admitted
pub record WritesLine (before after : List ℕ) (a : Result Line Fault) : Type 0 where
  pub line : Line
  pub is : a ≡ Ok line
  pub admitted : is_admitted_point (point_of line) ≡ true
  pub batch : after ≡ before ++ built (point_of line)

-- so it is with an answer that is carried
pub a_line : (before after : List ℕ) (a : Result Line Fault) → TakesLine before None a after → WritesLine before after a
a_line before after (Ok l) t =
    let admitted : is_admitted_point (point_of l) ≡ true = t.refused in
    record {
      line = l;
      is = refl;
      admitted = admitted;
      batch = rw admitted at t.batch ∙ ap (λ (p : List ℕ). before ++ p) (append-nil (built (point_of l)));
    }
a_line before after (Err fault) t = let refused = t.refused in absurd (cc)

-- a line whose piece no newline ends is written again, however it would go out
pub again : (dialect : Dialect) (piece : List ℕ) (a : Result Line Fault) → ends_at_newline dialect piece ≡ false
    → item_of dialect Rebuilt piece a ≡ item_of dialect Verbatim piece a
again dialect piece (Ok l) on = rw on refl
again dialect piece (Err fault) on = refl

-- a line goes out as it came
pub takes_line : (dialect : Dialect) (piece before after : List ℕ) (a : Result Line Fault) → ends_at_newline dialect piece ≡ true → None ≡ fault_in a
    → after ≡ before ++ (piece ++ newline ∷ []) → TakesItem took.Carried (item_of dialect Verbatim piece a) before after
takes_line dialect piece before after (Ok l) ends none copied = rw ends (refl, copied)
takes_line dialect piece before after (Err fault) ends none copied = absurd (cc)

-- a text at fault is refused
pub takes_fault : (dialect : Dialect) (piece before : List ℕ) (fault : SpelledFault) (a : Result Line Fault) → Some (spelled_fault fault) ≡ fault_in a
    → TakesItem (took.Refused (why.Line (line.Fault fault))) (item_of dialect Verbatim piece a) before before
takes_fault dialect piece before fault (Ok l) is = absurd (cc)
takes_fault dialect piece before fault (Err e) is =
    let same : spelled_fault fault ≡ e = cc in
    (refuses_answer (front_of piece) (line.Fault fault) (Err e) (ap Err (sym same)), refl)

-- a line was refused as a rebuild does
pub takes_refused : (dialect : Dialect) (piece before after : List ℕ) (refusal : LineRefusal) (a : Result Line Fault) → TakesLine before (Some refusal) a after
    → TakesItem (took.Refused (why.Line refusal)) (item_of dialect Rebuilt piece a) before after
takes_refused dialect piece before after refusal a t =
    (refuses_answer (front_of piece) refusal a t.refused, same_batch before after refusal a t)

-- what is known of an item that is refused, and of the answer that it is made of
abbrev pub IsOf : (front : List ℕ) → Result Line Fault → Item → Type 0
IsOf front a item = (item_front item ≡ front) × (has_fault item ≡ is_err a)

-- so it is with a line that is refused since it is not as it would be written, or for a name
canonical_is_of : (front text : List ℕ) (l : Line) → is_carried_item (canonical_item front text l) ≡ false
    → IsOf front (Ok l) (canonical_item front text l)
canonical_is_of front text l refused =
    elim (cases_Bool (is_admitted_point (point_of l))) [
      | inl good ↦
          elim (cases_Bool (bytes_eq (built (point_of l)) (text ++ newline ∷ []))) [
            | inl same ↦ let carried = rw (good, same) at refused in absurd (cc)
            | inr other ↦ rw (good, other) (refl, refl)
          ]
      | inr bad ↦ rw bad (refl, refl)
    ]

-- and with a line that has no key to go out
keyed_is_of : (front text : List ℕ) (l : Line) → is_carried_item (keyed_item front text l) ≡ false → IsOf front (Ok l) (keyed_item front text l)
keyed_is_of front text l refused =
    elim (cases_Bool (is_admitted_point (point_of l))) [ inl good ↦ let carried = rw good at refused in absurd (cc) | inr bad ↦ rw bad (refl, refl) ]

-- and with a line that goes out as it came, or is written again
unchanged_is_of : (dialect : Dialect) (piece : List ℕ) (l : Line) → is_carried_item (unchanged_item dialect piece l) ≡ false
    → IsOf (front_of piece) (Ok l) (unchanged_item dialect piece l)
unchanged_is_of dialect piece l refused =
    elim (cases_Bool (ends_at_newline dialect piece)) [ inl ends ↦ let carried = rw ends at refused in absurd (cc) | inr on ↦ rw on (refl, refl) ]

-- and with each item
item_is_of : (dialect : Dialect) (lines : LineForm) (piece : List ℕ) (a : Result Line Fault) → is_carried_item (item_of dialect lines piece a) ≡ false
    → IsOf (front_of piece) a (item_of dialect lines piece a)
item_is_of dialect Rebuilt piece (Ok l) refused = (refl, refl)
item_is_of dialect Rebuilt piece (Err fault) refused = (refl, refl)
item_is_of dialect Verbatim piece (Ok l) refused = unchanged_is_of dialect piece l refused
item_is_of dialect Verbatim piece (Err fault) refused = (refl, refl)
item_is_of dialect Canonical piece (Ok l) refused = canonical_is_of (front_of piece) (trimmed piece) l refused
item_is_of dialect Canonical piece (Err fault) refused = (refl, refl)
item_is_of dialect Keyed piece (Ok l) refused = keyed_is_of (front_of piece) (trimmed piece) l refused
item_is_of dialect Keyed piece (Err fault) refused = (refl, refl)
item_is_of dialect (OfShard shard) piece (Ok l) refused =
    elim (cases_Bool (is_of_shard shard (point_of l))) [
      | inl is ↦ rw is (unchanged_is_of dialect piece l (rw is at refused))
      | inr other ↦ let carried = rw other at refused in absurd (cc)
    ]
item_is_of dialect (OfShard shard) piece (Err fault) refused = (refl, refl)

-- what is carried is made of a line
a_line_is_carried : (dialect : Dialect) (lines : LineForm) (piece : List ℕ) (a : Result Line Fault) → is_carried_item (item_of dialect lines piece a) ≡ true → is_err a ≡ false
a_line_is_carried dialect lines piece (Ok l) carried = refl
a_line_is_carried dialect Rebuilt piece (Err fault) carried = absurd (cc)
a_line_is_carried dialect Verbatim piece (Err fault) carried = absurd (cc)
a_line_is_carried dialect Canonical piece (Err fault) carried = absurd (cc)
a_line_is_carried dialect Keyed piece (Err fault) carried = absurd (cc)
a_line_is_carried dialect (OfShard shard) piece (Err fault) carried = absurd (cc)

-- both hold of two tests that hold together
both_hold : (a b : Bool) → (a && b) ≡ true → (a ≡ true) × (b ≡ true)
both_hold true true is = (refl, refl)
both_hold true false is = absurd (cc)
both_hold false b is = absurd (cc)

-- an item that is refused as not portable, or as it was before
if_portable_is_of : (p : Portable) (front line : List ℕ) (a : Result Line Fault) (item : Item) → is_carried_item item ≡ true → is_err a ≡ false
    → is_carried_item (if_portable p front line item) ≡ false → IsOf front a (if_portable p front line item)
if_portable_is_of p front line a item carried good refused =
    elim (cases_Bool (is_shown_portable (told_of_bytes p line))) [
      | inl is ↦ let same = rw is at refused in absurd (false≢true (sym same ∙ carried))
      | inr not ↦ rw not (refl, sym good)
    ]

-- and with each item that is allowed only if it is portable
allowed_is_of : (portable : Option Portable) (dialect : Dialect) (lines : LineForm) (piece : List ℕ) (a : Result Line Fault)
    → is_carried_item (allowed portable lines piece (item_of dialect lines piece a)) ≡ false
    → IsOf (front_of piece) a (allowed portable lines piece (item_of dialect lines piece a))
allowed_is_of None dialect lines piece a refused = item_is_of dialect lines piece a refused
allowed_is_of (Some p) dialect lines piece a refused =
    let item = item_of dialect lines piece a in
    elim (cases_Bool (goes_out item)) [
      | inl out ↦
          let carried = (both_hold (is_carried_item item) (nat_lt 0 (length (item_line item))) out).0 in
          rw out (if_portable_is_of p (front_of piece) (line_in lines piece (item_line item)) a item carried
          (a_line_is_carried dialect lines piece a carried) (rw out at refused))
      | inr none ↦ rw none (item_is_of dialect lines piece a (rw none at refused))
    ]

-- and with each item, if the types of fields stay
if_typed_is_of : (strict : Option StrictTypes) (types : Types) (front : List ℕ) (a : Result Line Fault) (item : Item)
    → (is_carried_item item ≡ false → IsOf front a item) → is_carried_item (if_typed front item (after_item strict types a item)) ≡ false
    → IsOf front a (if_typed front item (after_item strict types a item))
if_typed_is_of None types front a item is refused = is refused
if_typed_is_of (Some strict) types front (Err fault) item is refused = is refused
if_typed_is_of (Some strict) types front (Ok l) item is refused =
    elim (cases_Bool (goes_out item)) [
      | inl out ↦ rw out (typed_is_of front l item (after_point strict.max_fields types (point_of l)) is (rw out at refused))
      | inr none ↦ rw none (is (rw none at refused))
    ]
  where
    -- whatever came of the types
    typed_is_of : (front : List ℕ) (l : Line) (item : Item) (kept : Result Types TypeFault)
        → (is_carried_item item ≡ false → IsOf front (Ok l) item) → is_carried_item (if_typed front item kept) ≡ false
        → IsOf front (Ok l) (if_typed front item kept)
    typed_is_of front l item (Ok types) is refused = is refused
    typed_is_of front l item (Err fault) is refused = (refl, refl)

-- so it is by the settings
pub by_is_of : (s : Settings) (types : Types) (piece : List ℕ) (a : Result Line Fault) → is_carried_item (typed_item s types piece a) ≡ false
    → IsOf (front_of piece) a (typed_item s types piece a)
by_is_of s types piece a refused =
    if_typed_is_of s.types types (front_of piece) a (item_by s piece a) (allowed_is_of s.portable (rules_of s.dialect) s.lines piece a) refused

-- an item whose line is looked at, once it was added
looked_at : (p : Portable) (front line before after : List ℕ) (item : Item) → is_carried_item item ≡ true → after ≡ before ++ item_line item
    → is_shown_portable (told_of_bytes p line) ≡ true → TakesItem took.Carried (if_portable p front line item) before after
looked_at p front line before after item carried added is = rw is (carried, added)

-- where reading stops in the line of a text, if it is at fault
stop_is : (s : Settings) (piece : Bor (List ℕ)) (fault : Bool) → IsUtf8 (line_of s piece.now)
    → is_err (answer (rules_of s.dialect) (trimmed (line_of s piece.now))) ≡ fault
    → stop_given s (Ok piece) ≡ stop_in fault (rules_of s.dialect) (line_piece s (Text piece))
stop_is s piece true u is = rw (is_utf8-from_IsUtf8 (line_of s piece.now) u, is) refl
stop_is s piece false u is = rw (is_utf8-from_IsUtf8 (line_of s piece.now) u, is) refl

-- the test of what is not UTF-8
not_utf8_test : (bytes : List ℕ) → (¬ IsUtf8 bytes) → is_utf8 bytes ≡ false
not_utf8_test bytes bad =
    elim (cases_Bool (is_utf8 bytes)) [
      | inl good ↦ absurd (bad (IsUtf8-from_is_utf8 bytes good))
      | inr test ↦ test
    ]

-- a text is empty if a test of its length says so
pub is_blank : (text piece : List ℕ) (test : Bool) → text ≡ trimmed piece → test ≡ (length text == 0) → test ≡ true → length (trimmed piece) ≡ 0
is_blank text piece test is tests holds = ap length (sym is) ∙ eqb-true (length text) 0 (sym tests ∙ holds)

-- and else it is not
pub not_blank : (text piece : List ℕ) (test : Bool) → text ≡ trimmed piece → test ≡ (length text == 0) → test ≡ false → 0 < length (trimmed piece)
not_blank text piece test is tests fails =
    elim (eq-zero-or-pos (length text)) [
      | inl none ↦ absurd (eqb-false (length text) 0 (sym tests ∙ fails) none)
      | inr more ↦ subst (λ (l : List ℕ). 0 < length l) is more
    ]

-- of a blank text nothing is taken
pub takes_blank : (s : Settings) (types : Types) (piece : Bor (List ℕ)) (line before : List ℕ) → line ≡ line_of s piece.now → IsUtf8 line
    → length (trimmed line) ≡ 0 → TakesPiece s types (Text piece) took.Blank before before
takes_blank s types piece line before same u blank =
    (ap (items_of_bytes s types) (sym same) ∙ blank_items s types line u blank, refl)

-- of another one the item of its line
takes_item : (s : Settings) (types : Types) (piece : Bor (List ℕ)) (text : List ℕ) (taken : Taken) (before after : List ℕ)
    → IsUtf8 (line_of s piece.now) → text ≡ trimmed (line_of s piece.now) → 0 < length (trimmed (line_of s piece.now))
    → (is_carried_item (timed_item s types (line_of s piece.now) (answer (rules_of s.dialect) text)) ≡ false
    → IsOf (front_of (line_of s piece.now)) (answer (rules_of s.dialect) text) (timed_item s types (line_of s piece.now) (answer (rules_of s.dialect) text)))
    → TakesItem taken (timed_item s types (line_of s piece.now) (answer (rules_of s.dialect) text)) before after
    → TakesPiece s types (Text piece) taken before after
takes_item s types piece text took.Blank before after u is some of takes = absurd takes
takes_item s types piece text took.Carried before after u is some of takes =
    let d = rules_of s.dialect in
    let line = line_of s piece.now in (
      timed_item s types line (answer d text),
      text_item s types line u some ∙ ap (λ (l : List ℕ). timed_item s types line (answer d l) ∷ []) (sym is),
      takes.0,
      takes.1,
    )
takes_item s types piece text (took.Refused refusal) before after u is some is_of takes =
    let d = rules_of s.dialect in
    let line = line_of s piece.now in
    let of = is_of takes.0.refused in (
      (
        timed_item s types line (answer d text),
        record {
          is = text_item s types line u some ∙ ap (λ (l : List ℕ). timed_item s types line (answer d l) ∷ []) (sym is);
          refused = takes.0;
          front = of.0;
          stop = stop_is s piece (is_fault refusal) u
              (ap (λ (l : List ℕ). is_err (answer d l)) (sym is) ∙ sym of.1 ∙ takes.0.fault);
        },
      ),
      takes.1,
    )

-- so it is of these bytes, which are its line
pub takes_text : (s : Settings) (types : Types) (piece : Bor (List ℕ)) (line text : List ℕ) (taken : Taken) (before after : List ℕ)
    → line ≡ line_of s piece.now → IsUtf8 line → text ≡ trimmed line → 0 < length (trimmed line)
    → (is_carried_item (timed_item s types line (answer (rules_of s.dialect) text)) ≡ false
    → IsOf (front_of line) (answer (rules_of s.dialect) text) (timed_item s types line (answer (rules_of s.dialect) text)))
    → TakesItem taken (timed_item s types line (answer (rules_of s.dialect) text)) before after
    → TakesPiece s types (Text piece) taken before after
takes_text s types piece line text taken before after same =
    subst (λ (l : List ℕ). IsUtf8 l → text ≡ trimmed l → 0 < length (trimmed l)
    → (is_carried_item (timed_item s types l (answer (rules_of s.dialect) text)) ≡ false
    → IsOf (front_of l) (answer (rules_of s.dialect) text) (timed_item s types l (answer (rules_of s.dialect) text)))
    → TakesItem taken (timed_item s types l (answer (rules_of s.dialect) text)) before after → TakesPiece s types (Text piece) taken before after)
    (sym same) (takes_item s types piece text taken before after)

-- what came of the item of a line came of it by the settings
pub takes_by : (s : Settings) (piece text : List ℕ) (taken : Taken) (before after : List ℕ) (lines : LineForm) (dialect : TheDialect)
    → s.lines ≡ lines → dialect ≡ s.dialect → TakesItem taken (item_of (rules_of dialect) lines piece (answer (rules_of dialect) text)) before after
    → TakesItem taken (item_of (rules_of s.dialect) s.lines piece (answer (rules_of s.dialect) text)) before after
takes_by s piece text taken before after lines dialect its same takes =
    subst (λ l. TakesItem taken (item_of (rules_of s.dialect) l piece (answer (rules_of s.dialect) text)) before after) (sym its)
    (subst (λ e. TakesItem taken (item_of (rules_of e) lines piece (answer (rules_of e) text)) before after) same takes)

-- a piece that is too long is refused
pub takes_too_long : (s : Settings) (types : Types) (fault : PieceTooLong) (kept : Option ℕ) (before : List ℕ) → kept ≡ kept_of s
    → TakesPiece s types (TooLong fault) (took.Refused (why.TooLong kept)) before before
takes_too_long s types fault kept before is =
    rw is (
      (
        too_long (kept_of s),
        record {
          is = refl;
          refused = record { refused = refl; wrong = refl; kind = refl; fault = refl };
          front = refl;
          stop = refl;
        },
      ),
      refl,
    )

-- a piece that is not UTF-8 is refused
pub takes_no_text : (s : Settings) (types : Types) (bytes : Bor (List ℕ)) (before : List ℕ) → (¬ IsUtf8 bytes.now)
    → TakesPiece s types (NoText bytes) (took.Refused why.NotUtf8) before before
takes_no_text s types bytes before bad =
    let no_line : ¬ IsUtf8 (line_of s bytes.now) = λ u. bad (piece_utf8 s bytes.now u) in
    let none = not_utf8_test (line_of s bytes.now) no_line in (
      (
        _,
        record {
          is = item_of_no_text s types (line_of s bytes.now) no_line;
          refused = record { refused = refl; wrong = refl; kind = refl; fault = refl };
          front = refl;
          stop = rw none refl;
        },
      ),
      refl,
    )
