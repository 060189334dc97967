-- What was put out is read back.
use Rattle.std.proofs.Common.{◌≡◌, ◌+◌, ◌<◌, ℕ, List, [], ◌∷◌, ◌++◌, append-nil, get_or, length, drop, map, take, take_at, sym, subst, arith, ap, ◌∙◌, refl, true}
use Rattle.std.specs.List.{AllByRecursion}
use Rattle.std.proofs.lemmas.{Grind.flat_map-append, List.map-append, List.take_more}
use Rattle.influxdb_line_protocol.specs.format.Points.{IsPoint, Point, built, built_all, is_admitted_in}
use Rattle.influxdb_line_protocol.specs.laws.AdmittedLines.{AddsPoints, AdmittedLinesAddPoints, AreClosedLines, EmptyTextIsClosed}
use Rattle.lp_offsets.specs.Numbers.{answer_number}
use Rattle.lp_c.specs.Writing.{PutsOut, ReadsAs}
use Rattle.lp_c.specs.WritingRows.{ReadsAsAll}
use Rattle.lp_offsets.specs.declared.enums.Answer.TheVariants.{Written}
use Rattle.lp_offsets.specs.declared.offsets.OffsetRow.{OffsetRow}
use Rattle.lp_c.proofs.SureRowLemmas.{all_snoc}

-- a text that was put out is at the start of the buffer
put_front : (text before after : List ℕ) (len answer : ℕ) → PutsOut Written text before after len answer
    → answer ≡ answer_number Written → take len after ≡ text
put_front text before after len answer puts written =
    let fits : length before < length text → ⊥ = λ short. let more = puts.short short in omega (arith, more, written) in
    ap (take len) (puts.bytes (omega (arith, fits))) ∙ take_at text (drop (length text) before) len (sym puts.told)

-- so it is read as the point that it added to an empty text
pub reads_as : (lines text before after : List ℕ) (len answer : ℕ) (p q : Point) → PutsOut Written text before after len answer
    → answer ≡ answer_number Written → EmptyTextIsClosed → AddsPoints lines (q ∷ []) text → lines ≡ [] → q ≡ p → ReadsAs p (take len after)
reads_as lines text before after len answer p q puts written empty adds none same dialect admitted =
    let closed = subst (λ lines. AreClosedLines dialect lines []) (sym none) (empty dialect) in
    let is_admitted : is_admitted_in dialect q ≡ true = ap (is_admitted_in dialect) same ∙ admitted in
    rw (put_front text before after len answer puts written, ← same) (adds dialect [] (rw is_admitted refl) closed)

-- the lines of points are read as these
pub reads_as_all : (points : List Point) (lines : List ℕ) → EmptyTextIsClosed → AdmittedLinesAddPoints → AllByRecursion IsPoint points
    → lines ≡ built_all points → ReadsAsAll points lines
reads_as_all points lines empty adds are same dialect admitted = rw same (adds [] points are dialect [] admitted (empty dialect))

-- the line of a row more is written after those of the rows before it
pub writes_more : (Is : OffsetRow → Type 0) (point : OffsetRow → Point) (rows : List OffsetRow) (i : ℕ) (d : OffsetRow) (old new : List ℕ)
    → i < length rows → Is (get_or rows i d) → IsPoint (point (get_or rows i d)) → new ≡ old ++ built (point (get_or rows i d))
    → AllByRecursion Is (take i rows) × (old ≡ built_all (map point (take i rows))) → AllByRecursion IsPoint (map point (take i rows))
    → (AllByRecursion Is (take (i + 1) rows) × (new ≡ built_all (map point (take (i + 1) rows))))
    × AllByRecursion IsPoint (map point (take (i + 1) rows))
writes_more Is point rows i d old new here is a_point put (all, same) points =
    let row = get_or rows i d in
    let so_far = map point (take i rows) in
    let more : take (i + 1) rows ≡ take i rows ++ row ∷ [] = take_more rows i d here in
    let mapped : map point (take (i + 1) rows) ≡ so_far ++ point row ∷ [] = ap (map point) more ∙ map-append point (take i rows) (row ∷ []) in
    let last : built_all (so_far ++ point row ∷ []) ≡ built_all so_far ++ built (point row) =
    flat_map-append built so_far (point row ∷ []) ∙ ap (λ (l : List ℕ). built_all so_far ++ l) (append-nil (built (point row))) in (
      (
        rw more (all_snoc Is (take i rows) row all is),
        put ∙ (ap (λ (l : List ℕ). l ++ built (point row)) same ∙ sym (ap built_all mapped ∙ last)),
      ),
      rw mapped (all_snoc IsPoint so_far (point row) points a_point),
    )
