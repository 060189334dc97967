-- Worked lines about single calls: an example that each relation covers, and one just outside.
use Rattle.std.proofs.Common.{◌≡◌, ◌++◌, ℕ, List, [], ◌∷◌, length, None, Some, Ok, Err, refl, sym, ap, subst, codes, arith, pos, length-append}
use Rattle.std.specs.Borrow.{Bor}
use Rattle.lp_format.specs.format.{Strict, NewlineDelimited, integer, GivesPiece, IsAsWrittenIn, IsLastPiece, field_set_missing, Pieces.Pieces, Pieces.cut}
use Rattle.lp_format.proofs.lemmas.split.SplitPieces.{Pieces-nil, IsLastPiece-cut, same_pieces}
use Rattle.lp_lines.specs.code.Bases.{GivesBase, borrowed}
use Rattle.lp_cuts.specs.Windows.{HasReadAt}
use Rattle.lp_split.specs.declared.stream.bounded.Skipped.TheVariants.{Nothing}
use Rattle.lp_split.specs.code.{HeldWithin, Holds, KeepsRules, GivesCut, GivesCutText, GivesLast}
use Rattle.lp_events.specs.code.Events.{AreEventsOfAll, TakesAll, AreEventsOf, AreEventsOfText, Event, WasTold, ended, named, valued}
use Rattle.lp_values.specs.declared.error.Error.TheVariants as error
use Rattle.lp_values.specs.code.Outcomes.{IsFault, IsNotOutOfMemory}
use Rattle.lp_written.specs.code.WrittenKeys.{IsAdmittedKey, LendsKey}
use Rattle.lp_cuts.specs.Cuts.{JoinsPieces}
use Rattle.lp_lines.specs.code.Keys.{series_key}
use Rattle.lp_worked.proofs.WorkedTexts.{on_texts, one_line, m_is_cut, part, tag_of}
use Rattle.lp_worked.proofs.WorkedPieces.{two_pieces, two_lines_are_not_last}
use Rattle.lp_worked.proofs.WorkedPoints.{a_line_is_as_written}
use Rattle.lp_worked.proofs.WorkedStreams.{holding, one_alone}
use Rattle.lp_worked.proofs.WorkedRelays.{parts_have_pieces}

-- a line is the last piece of a text
one_is_last : IsLastPiece Strict (codes "m f=1i")
unfolding on_texts
one_is_last = IsLastPiece-cut Strict (codes "m f=1i") (m_is_cut (integer (pos 1)) refl)

-- A call gives the first piece of `m f=1i⏎m f=2i`, and leaves the second.
pub a_piece_is_given : (piece : Bor (List ℕ)) → piece.now ≡ codes "m f=1i"
    → GivesPiece (record { dialect = Strict; text = Some (codes "m f=1i\nm f=2i") }) (Some piece) (record { dialect = Strict; text = Some (codes "m f=2i") })
unfolding on_texts
a_piece_is_given piece is = (
  refl,
  λ others left. subst (λ (p : List ℕ). Pieces Strict (codes "m f=1i\nm f=2i") (p ∷ others)) (sym is)
      (cut (codes "m f=1i") (codes "m f=2i") others (m_is_cut (integer (pos 1)) refl) left),
)

-- A call of `next` does not give `None` for `m f=1i`, because a piece is left.
pub no_end_is_given : ¬ GivesPiece (record { dialect = Strict; text = Some (codes "m f=1i") }) None (record { dialect = Strict; text = None })
no_end_is_given h = Pieces-nil Strict (codes "m f=1i") h.0

-- If each newline ends a line, the builder writes `m f=1i` as one line.
pub a_line_is_as_written_there : IsAsWrittenIn NewlineDelimited (codes "m f=1i")
a_line_is_as_written_there = (refl, a_line_is_as_written)

-- The line `m f="a⏎b"` is two lines there.
pub two_lines_are_not_as_written : ¬ IsAsWrittenIn NewlineDelimited (codes "m f=\"a\nb\"")
two_lines_are_not_as_written h = omega (arith, h.0)

-- the key at the start of `m,a=1 f=1i`
a_key : IsAdmittedKey (codes "m,a=1")
unfolding on_texts series_key
a_key = record { measurement = codes "m"; tags = tag_of "a" "1" ∷ []; named = refl; tagged = (refl, tt); is = refl }

-- A call lends the key at the start of `m,a=1 f=1i`.
pub a_key_is_lent : (key : Bor (List ℕ)) → key.now ≡ codes "m,a=1" → LendsKey (codes "m,a=1 f=1i") (Some key)
a_key_is_lent key is = (subst IsAdmittedKey (sym is) a_key, (codes " f=1i", ap (λ (k : List ℕ). k ++ codes " f=1i") is, refl))

-- A call of `key_of_text` does not give `None` for `m,a=1 f=1i`, which begins with a key.
pub a_key_is_not_passed_over : ¬ LendsKey (codes "m,a=1 f=1i") None
a_key_is_not_passed_over h = h (codes "m,a=1") (codes " f=1i") refl refl a_key

-- the events of `m f=1i`
abbrev three : List Event
three = named (part "m") ∷ valued (record { key = part "f"; value = integer (pos 1) }) ∷ ended (codes "m") None ∷ []

-- A line that is read has its measurement, its field and its end as events.
pub a_line_has_events : AreEventsOf (codes "m f=1i") three (Ok one_line)
a_line_has_events = refl

-- The end of the line alone is not the events of `m f=1i`.
pub no_event_is_missing : ¬ AreEventsOf (codes "m f=1i") (ended (codes "m") None ∷ []) (Ok one_line)
no_event_is_missing h = omega (arith, ap length h)

-- The text `m f=1i` has three events.
pub a_text_has_events : AreEventsOfText Strict (codes "m f=1i") three
unfolding on_texts
a_text_has_events = record { pieces = codes "m f=1i" ∷ []; has = one_alone; are = (three, [], refl, refl, refl) }

-- No text has fewer events than its line has.
pub no_text_lacks_events : ¬ AreEventsOfText Strict (codes "m f=1i") []
unfolding on_texts
no_text_lacks_events h =
    let all = subst (AreEventsOfAll Strict []) (same_pieces Strict refl h.has one_alone) h.are in
    omega (arith, ap length all.2, ap length all.3, length-append all.0 all.1)

-- how a sink takes events that keeps them all
abbrev keeps : List Event → Event → List Event → Type 0
keeps before event after = after ≡ before ++ event ∷ []

-- A sink that keeps events was told the end of a line.
pub an_event_was_told : WasTold keeps [] (ended (codes "m") None ∷ []) (λ (events : List Event). events ≡ ended (codes "m") None ∷ [])
an_event_was_told = record { events = ended (codes "m") None ∷ []; told = (ended (codes "m") None ∷ [], refl, refl); are = refl }

-- A sink that holds nothing was not.
pub no_event_was_told : ¬ WasTold keeps [] [] (λ (events : List Event). events ≡ ended (codes "m") None ∷ [])
no_event_was_told h =
    let told = subst (λ (events : List Event). TakesAll keeps [] events []) h.are h.told in
    omega (arith, ap length told.1, ap length told.2)

-- A stream that holds `m f=1i` gives no piece yet.
pub nothing_is_cut : GivesCut (holding (codes "m f=1i")) None (holding (codes "m f=1i"))
nothing_is_cut = (refl, one_is_last)

-- A stream that holds two lines gives one.
pub a_line_is_cut : ¬ GivesCut (holding (codes "m f=1i\nm f=2i")) None (holding (codes "m f=1i\nm f=2i"))
a_line_is_cut h = two_lines_are_not_last h.1

-- A stream that holds `m f=1i` gives no piece yet, even if the piece is asked for as text.
pub no_text_is_cut : GivesCutText {E = ℕ} (holding (codes "m f=1i")) None (holding (codes "m f=1i"))
no_text_is_cut = (refl, one_is_last)

-- A stream that holds two lines gives the text of one.
pub a_text_is_cut : ¬ GivesCutText {E = ℕ} (holding (codes "m f=1i\nm f=2i")) None (holding (codes "m f=1i\nm f=2i"))
a_text_is_cut h = two_lines_are_not_last h.1

-- At the end of the input, a stream that holds `m f=1i` gives this text.
pub the_last_is_given : GivesLast (holding (codes "m f=1i")) (codes "m f=1i") (holding [])
the_last_is_given = (refl, (refl, refl))

-- The last piece of a stream that holds `m f=1i` is not `m`: the stream keeps no byte back.
pub nothing_is_kept_back : ¬ GivesLast (holding (codes "m f=1i")) (codes "m") (holding [])
nothing_is_kept_back h = omega (arith, ap length h.0)

-- A light line is not `OutOfMemory`, but another fault can come.
pub another_fault : IsNotOutOfMemory {X = ℕ} (Err error.FieldSetMissing)
another_fault h = absurd (cc)

-- `OutOfMemory` is.
pub out_of_memory : ¬ IsNotOutOfMemory {X = ℕ} (Err error.OutOfMemory)
out_of_memory h = h refl

-- The error of a missing field is that fault.
pub a_fault_is_told : IsFault error.FieldSetMissing (λ fault. fault ≡ field_set_missing)
a_fault_is_told = refl

-- A repeated key is the fault of no line.
pub no_line_repeats_a_key : (key : _) → ¬ IsFault (error.DuplicateTag key) (λ fault. fault ≡ field_set_missing)
no_line_repeats_a_key key h = h

-- The parts `m f=1i⏎` and `m f=1i` join to a text of two lines.
pub parts_join : JoinsPieces Strict (codes "m f=1i\nm f=1i") (codes "m f=1i\n" ∷ codes "m f=1i" ∷ [])
unfolding on_texts
parts_join = (codes "m f=1i" ∷ codes "m f=1i" ∷ [], parts_have_pieces, cut (codes "m f=1i") (codes "m f=1i") _ (m_is_cut (integer (pos 1)) refl) one_alone)

-- The piece `m f=1i` alone does not join to the text `m f=1i⏎m f=2i`.
pub half_the_parts_do_not : ¬ JoinsPieces Strict (codes "m f=1i\nm f=2i") (codes "m f=1i" ∷ [])
half_the_parts_do_not h = omega (arith, ap length (same_pieces Strict refl h.1 one_alone), ap length (same_pieces Strict refl h.2 two_pieces))

-- A read at place 2 of `m f=1i` can give the three bytes `f=1`.
pub three_bytes_are_read : HasReadAt (codes "m f=1i") 2 3 (codes "f=1")
three_bytes_are_read = record { bytes = refl; within = λ some. omega arith; end = λ none. absurd (omega (arith, none)) }

-- A read at place 0 cannot give none.
pub some_byte_is_read : ¬ HasReadAt (codes "m f=1i") 0 0 (codes "f=1")
some_byte_is_read h = omega (arith, h.end refl (omega arith))

-- a stream whose pieces have at most so many bytes, which holds this text and has skipped nothing
abbrev within : ℕ → List ℕ → HeldWithin
within limit bytes = record { limit = limit; held = holding bytes; skipped = Nothing }

-- A stream that has skipped nothing holds the bytes that it keeps.
pub it_holds_its_bytes : Holds (within 64 (codes "m f")) (codes "m f")
it_holds_its_bytes = refl

-- A bounded stream that holds `m f` does not hold another text, such as `m`.
pub it_holds_no_other : ¬ Holds (within 64 (codes "m f")) (codes "m")
it_holds_no_other h = omega (arith, ap length h)

-- A part that is pushed keeps the limit of 64 bytes.
pub the_limit_stays : KeepsRules (within 64 []) (within 64 (codes "m"))
the_limit_stays = (refl, refl)

-- No call on a bounded stream raises its limit from 64 to 65 bytes.
pub no_limit_is_raised : ¬ KeepsRules (within 64 []) (within 65 (codes "m"))
no_limit_is_raised h = omega (arith, h.1)

-- `OutOfMemory` may be in the place of a base.
pub no_base_for_want_of_memory : GivesBase {A = ℕ} (Err error.OutOfMemory) (borrowed (codes "m"))
no_base_for_want_of_memory = tt

-- Another fault may not.
pub no_base_for_no_other_reason : ¬ GivesBase {A = ℕ} (Err error.FieldSetMissing) (borrowed (codes "m"))
no_base_for_no_other_reason h = h
