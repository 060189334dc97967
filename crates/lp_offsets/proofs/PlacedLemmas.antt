-- The bytes of a line after which so many are left, by their place in the text.
use Rattle.std.proofs.Common.{◌≡◌, ◌∙◌, ◌+◌, ◌-◌, ◌≤◌, ◌<◌, ◌^◌, ℕ, List, ◌++◌, length, length-append, length-drop, take, drop, refl, sym, ap, arith, Bool, inl, inr}
use Rattle.std.proofs.lemmas.List.{drop-drop, drop-take, drop_at, length-take-le, take-take, take_at}
use Rattle.lp_format.specs.format.Trimming.{trimmed}
use Rattle.lp_format.proofs.lemmas.line.TrimLemmas.{trimmed_is_after}
use Rattle.lp_format.specs.format.Readings.{Text}
use Rattle.lp_events.specs.code.Places.{AreBefore, EndsBefore}
use Rattle.lp_format.specs.format.{Dialect}
use Rattle.lp_offsets.specs.OffsetBlocks.{IsPieceIn, piece_in}
use Rattle.lp_offsets.specs.Offsets.{IsLineIn}
use Rattle.lp_offsets.specs.declared.pieces.Piece.{Piece}

-- the bytes and those that are left are no more than the line has
pub before_fits : (line bytes : List ℕ) (left : ℕ) → AreBefore line bytes left → left + length bytes ≤ length line
before_fits line bytes left there =
    omega (arith, there.1, ap length there.2.1, length-append there.2.0 (bytes ++ there.0), length-append bytes there.0)

-- they are at this place of the text
pub bytes_there : (text line bytes : List ℕ) (end left : ℕ) → IsLineIn text line end → AreBefore line bytes left
    → take (length bytes) (drop (end - (left + length bytes)) text) ≡ bytes
bytes_there text line bytes end left lies there =
    let rest = there.0 in
    let front = there.2.0 in
    let n = length bytes in
    let k = length front in
    let from = end - length line in
    let sizes : length line ≡ k + (n + left) =
    omega (arith, there.1, ap length there.2.1, length-append front (bytes ++ rest), length-append bytes rest) in
    let at : end - (left + n) ≡ from + k = omega (arith, sizes, lies.begins) in
    let apart : drop (from + k) text ≡ drop k (drop from text) = sym (drop-drop k from text) in
    let whole : take (k + n) (drop from text) ≡ take (k + n) line =
    sym (take-take (k + n) (length line) (drop from text) (omega (arith, sizes))) ∙ ap (take (k + n)) lies.is in
    let own : take n (drop k line) ≡ bytes =
    ap (λ l. take n (drop k l)) there.2.1 ∙ (ap (take n) (drop_at front (bytes ++ rest) k refl) ∙ take_at bytes rest n refl) in
    ap (λ i. take n (drop i text)) at
    ∙ (ap (take n) apart ∙ (sym (drop-take k n (drop from text)) ∙ (ap (drop k) whole ∙ (drop-take k n line ∙ own))))

-- the same by a place and a length
pub shown_there : (text line bytes : List ℕ) (end left len at n : ℕ) → IsLineIn text line end → AreBefore line bytes left
    → len ≡ length bytes → at ≡ end - (left + len) → n ≡ len → take n (drop at text) ≡ bytes
shown_there text line bytes end left len at n lies there size is_at is_n =
    rw (is_n, is_at, size) (bytes_there text line bytes end left lies there)

-- bytes that are left in a line are few, so their number and one more is no greater than a word holds
pub one_more_left : (text line : List ℕ) (end : ℕ) (t : Text) (left more : ℕ) → IsLineIn text line end
    → (left + 1 < 2 ^ 64 → more ≡ left + 1) → EndsBefore line t (left + 1) → EndsBefore line t more
one_more_left text line end t left more lies sum ends = λ single.
    let there = ends single in
    let fits = before_fits line t.bytes (left + 1) there in
    (there.0, there.1 ∙ sym (sum (omega (arith, fits, lies.begins, lies.small))), there.2)

-- a line is where its piece ends in the text
pub line_in_text : (text line : List ℕ) (piece : Piece) → piece.at + piece.len ≤ length text → length text < 2 ^ 32
    → line ≡ trimmed (piece_in text piece) → IsLineIn text line (piece.at + piece.len)
line_in_text text line piece within small is =
    let whole = piece_in text piece in
    let after = trimmed_is_after whole in
    let k = length after.0 in
    let size : length whole ≡ piece.len =
    length-take-le piece.len (drop piece.at text) (omega (arith, within, length-drop piece.at text)) in
    let parts : whole ≡ after.0 ++ line = after.1 ∙ ap (λ l. after.0 ++ l) (sym is) in
    let sizes : piece.len ≡ k + length line = omega (arith, size, ap length parts, length-append after.0 line) in
    let at : piece.at + piece.len - length line ≡ piece.at + k = omega (arith, sizes) in
    record {
      small = omega (arith, within, small);
      within = within;
      begins = omega (arith, sizes);
      is = ap (λ i. take (length line) (drop i text)) at
          ∙ (ap (take (length line)) (sym (drop-drop k piece.at text))
          ∙ (sym (drop-take k (length line) (drop piece.at text))
          ∙ (ap (λ n. drop k (take n (drop piece.at text))) (sym sizes) ∙ (ap (drop k) parts ∙ drop_at after.0 line k refl))));
    }

-- a piece lies in its text
pub piece_fits : (dialect : Dialect) (last : Bool) (text : List ℕ) (piece : Piece) → IsPieceIn dialect last text piece
    → piece.at + piece.len ≤ length text
piece_fits dialect last text piece (inl (cut, next, fits)) = omega (arith, next, fits)
piece_fits dialect last text piece (inr (ends, is_last, fits, next, some)) = omega (arith, fits)
