use Rattle.std.proofs.Common.{rules, ◌≡◌, ◌∙◌, Some, sym}
use Rattle.lp_c.proofs.CursorLemmas.{gives_in_dialect, reads_end}
use Rattle.lp_c.specs.Crossing.{left_of}
use Rattle.lp_offsets.specs.Numbers.{dialect_of}
use Rattle.lp_c.proofs.reading.read_next.Goals as goal
use Rattle.lp_c.proofs.reading.read_next.Goals.{else-not-is_more, then-not-is_more}

-- the item that was read, and the cursor after it
pub returns-clause-reads : goal.returns-clause-reads
returns-clause-reads c =
    let item = c.put_item-answer in
    let begun : c.args.pieces.now ≡ left_of c.args.lines.now = c.requires.left c.if-lines.false in
    ∣ record {
      text = Some c.in-Some.text;
      answer = item.result;
      passed = record { dialect = dialect_of c.args.lines.now.dialect; text = c.next_line.new.lines.text };
      numbered = c.number-2.ensures;
      gives = gives_in_dialect (left_of c.args.lines.now) c.next_line.new.lines c.in-Some.text (rw begun at c.in-Some.ensures.gives);
      shown = rw c.dialect_of.ensures at item.ensures.answers;
      moves = λ passes. elim c.if-not-is_more.branch [
        | then-not-is_more w ↦ search (rules)
        | else-not-is_more w ↦ absurd (let more = sym c.is_more.ensures ∙ w.if-not-is_more.false in cc)
      ];
      stays = λ more. elim c.if-not-is_more.branch [
        | then-not-is_more w ↦ absurd (let passes = sym c.is_more.ensures ∙ w.if-not-is_more.true in cc)
        | else-not-is_more w ↦ w.lines-is
      ];
      taken = rw c.number-2.ensures item.ensures.taken;
    } ∣₁

-- the cursor had ended
pub returns-then-lines-clause-reads : goal.returns-then-lines-clause-reads
returns-then-lines-clause-reads c = ∣ reads_end _ _ _ _ _ _ c.number.ensures (search (rules)) ∣₁

-- only blank pieces were left
pub returns-in_default-clause-reads : goal.returns-in_default-clause-reads
returns-in_default-clause-reads c =
    let begun : c.args.pieces.now ≡ left_of c.args.lines.now = c.requires.left c.if-lines.false in
    let gives = rw begun at c.next_line.ensures.gives in
    ∣ reads_end _ _ _ _ _ _ c.number-in_default.ensures (search (rules)) ∣₁
