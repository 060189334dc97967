-- Lines that go out only if they are as they would be written.
use Rattle.std.proofs.Common.{◌≡◌, ℕ, false, true, List, [], ◌∷◌, ◌++◌, ◌-◌, length, take, drop, string_bytes, arith, length-append}
use Rattle.std.proofs.Common.{None, Option, Some, Result, Ok, append-nil, refl, sym, ap, subst, ◌∙◌, inl, inr}
use Rattle.std.proofs.Math.Seq.{drop-append_seam, take-append_seam}
use Rattle.std.proofs.lemmas.Bool.{cases_Bool}
use Rattle.std.proofs.lemmas.Slice.Eq.{bytes_eq-Decides}
use Rattle.std.specs.Str.{bytes_eq}
use Rattle.influxdb_line_protocol.specs.format.Bytes.{newline}
use Rattle.influxdb_line_protocol.specs.format.Dialects.{Dialect}
use Rattle.influxdb_line_protocol.specs.format.Readings.{Fault}
use Rattle.influxdb_line_protocol.specs.format.Points.{IsAsWritten, built, built_all, is_admitted_point, line_of}
use Rattle.influxdb_line_protocol.specs.format.Lines.{Line, answer, point_of}
use Rattle.influxdb_line_protocol.specs.format.Trimming.{trimmed}
use Rattle.influxdb_line_protocol.specs.laws.PointsOfLines.{LinesThatStayAreWritten, WrittenLinesStay}
use Rattle.lp_rebuild.specs.declared.refusals.LineRefusal.{LineRefusal}
use Rattle.lp_rebuild.specs.declared.refusals.LineRefusal.TheVariants as line
use Rattle.lp_rebuild.specs.RebuildSteps.{IsRefusedFor, TakesLine}
use Rattle.lp_rebuild.specs.Rebuilding.{carried_point}
use Rattle.lp_conditions.specs.declared.settings.LineForm.{LineForm}
use Rattle.lp_conditions.specs.declared.settings.LineForm.TheVariants.{Rebuilt, Verbatim, Canonical, Keyed, OfShard}
use Rattle.lp_relay.specs.declared.taking.Taken.TheVariants as took
use Rattle.lp_faults.specs.declared.refusals.Refusal.TheVariants as why
use Rattle.lp_conditions.specs.declared.differing.Part.{Part}
use Rattle.lp_conditions.specs.Differing.{differing_part, part_text}
use Rattle.lp_relay.specs.Taking.{TakesItem}
use Rattle.lp_faults.specs.Relaying.{Item, answered, put_out, not_as_written, canonical_item, copies, item_of}
use Rattle.lp_conditions.specs.LineTimes.{front_of}
use Rattle.lp_relay.proofs.RefusalLemmas.{a_line, refuses_answer, same_batch}

-- what the builder writes for a line that goes out as it came
as_it_is : (front text : List ℕ) (line : Line) → is_admitted_point (point_of line) ≡ true → built (point_of line) ≡ text ++ newline ∷ []
    → canonical_item front text line ≡ put_out (text ++ newline ∷ [])
as_it_is front text line admitted writes =
    rw (admitted, (bytes_eq-Decides (built (point_of line)) (text ++ newline ∷ [])).1 writes) refl

-- a line whose names are all admitted, and that the builder writes otherwise
otherwise : (front text : List ℕ) (line : Line) → is_admitted_point (point_of line) ≡ true
    → bytes_eq (built (point_of line)) (text ++ newline ∷ []) ≡ false
    → canonical_item front text line ≡ not_as_written front (part_text (differing_part text (built (point_of line))))
otherwise front text line admitted other = rw (admitted, other) refl

-- a text that is as written goes out as it came if lines are written again, or go out only if they are as written
pub takes_copied : (lines : LineForm) (dialect : Dialect) (piece text before after : List ℕ) → copies lines ≡ true → text ≡ trimmed piece
    → WrittenLinesStay → IsAsWritten text → after ≡ before ++ (text ++ newline ∷ [])
    → TakesItem took.Carried (item_of dialect lines piece (answer dialect text)) before after
takes_copied Rebuilt dialect piece text before after other is stay written copied =
    let stays = stay dialect text written in
    let point : carried_point (Ok stays.0) ≡ point_of stays.0 ∷ [] = rw stays.2.0 refl in
    let same : text ++ newline ∷ [] ≡ built_all (carried_point (Ok stays.0)) =
    sym stays.2.1 ∙ sym (append-nil (built (point_of stays.0))) ∙ ap built_all (sym point) in
    subst (λ (a : Result Line Fault). TakesItem took.Carried (item_of dialect Rebuilt piece a) before after) (sym stays.1)
    (stays.2.0, copied ∙ ap (λ (l : List ℕ). before ++ l) same)
takes_copied Verbatim dialect piece text before after other is stay written copied = absurd (cc)
takes_copied Canonical dialect piece text before after other is stay written copied =
    let stays = stay dialect text written in
    let item : item_of dialect Canonical piece (answer dialect text) ≡ put_out (text ++ newline ∷ []) =
    ap (item_of dialect Canonical piece) stays.1 ∙ ap (λ (l : List ℕ). canonical_item (front_of piece) l stays.0) (sym is)
    ∙ as_it_is (front_of piece) text stays.0 stays.2.0 stays.2.1 in
    subst (λ (i : Item). TakesItem took.Carried i before after) (sym item) (refl, copied)
takes_copied Keyed dialect piece text before after other is stay written copied = absurd (cc)
takes_copied (OfShard shard) dialect piece text before after other is stay written copied = absurd (cc)

-- what is refused as a rebuild does is that item
refused_item : (dialect : Dialect) (piece : List ℕ) (refusal : LineRefusal) (a : Result Line Fault) → IsRefusedFor (Some refusal) a
    → item_of dialect Canonical piece a ≡ answered (front_of piece) a
refused_item dialect piece (line.Fault fault) a is = rw is refl
refused_item dialect piece line.NotAdmitted a (l, same, not_admitted) = rw (same, not_admitted) refl

-- a line was refused as a rebuild does
pub takes_refused : (dialect : Dialect) (piece before after : List ℕ) (refusal : LineRefusal) (a : Result Line Fault) → TakesLine before (Some refusal) a after
    → TakesItem (took.Refused (why.Line refusal)) (item_of dialect Canonical piece a) before after
takes_refused dialect piece before after refusal a t =
    subst (λ (i : Item). TakesItem (took.Refused (why.Line refusal)) i before after) (sym (refused_item dialect piece refusal a t.refused))
    (refuses_answer (front_of piece) refusal a t.refused, same_batch before after refusal a t)

-- what is not refused is carried
pub no_refusal : (before after : List ℕ) (refusal : Option LineRefusal) (a : Result Line Fault) → ((r : LineRefusal) → refusal ≡ Some r → ⊥)
    → TakesLine before refusal a after → TakesLine before None a after
no_refusal before after None a none t = t
no_refusal before after (Some r) a none t = absurd (none r refl)

-- a line that is not as written was written again, to find the part in which it differs, and taken back
pub takes_differing : (dialect : Dialect) (piece text before mid after : List ℕ) (start : ℕ) (part : Part) (wrong : _)
    → text ≡ trimmed piece → LinesThatStayAreWritten → (¬ IsAsWritten text) → TakesLine before None (answer dialect text) mid
    → start ≡ length before → part ≡ differing_part text (drop start mid) → string_bytes wrong ≡ part_text part
    → after ≡ take start mid → TakesItem (took.Refused (why.NotAsWritten wrong)) (item_of dialect Canonical piece (answer dialect text)) before after
takes_differing dialect piece text before mid after start part wrong is stay not_written t starts part_is says back =
    let w = a_line before mid (answer dialect text) t in
    let p = point_of w.line in
    let written : drop start mid ≡ built p =
    ap (λ (n : ℕ). drop n mid) starts ∙ ap (drop (length before)) w.batch ∙ drop-append_seam before (built p) in
    let other : bytes_eq (built p) (text ++ newline ∷ []) ≡ false =
    elim (cases_Bool (bytes_eq (built p) (text ++ newline ∷ []))) [
      | inl good ↦
          absurd (not_written (stay dialect text w.line w.is (w.admitted, (bytes_eq-Decides (built p) (text ++ newline ∷ [])).0 good)))
      | inr bad ↦ bad
    ] in
    let item : item_of dialect Canonical piece (answer dialect text) ≡ not_as_written (front_of piece) (part_text part) =
    ap (item_of dialect Canonical piece) w.is ∙ ap (λ (l : List ℕ). canonical_item (front_of piece) l w.line) (sym is) ∙ otherwise (front_of piece) text w.line w.admitted other
    ∙ ap (λ (l : List ℕ). not_as_written (front_of piece) (part_text (differing_part text l))) (sym written)
    ∙ ap (λ (q : Part). not_as_written (front_of piece) (part_text q)) (sym part_is) in
    subst (λ (i : Item). TakesItem (took.Refused (why.NotAsWritten wrong)) i before after) (sym item) (
      record { refused = refl; wrong = sym says; kind = refl; fault = refl },
      back ∙ ap (λ (n : ℕ). take n mid) starts ∙ ap (take (length before)) w.batch ∙ take-append_seam before (built p),
    )
