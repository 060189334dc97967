use Rattle.std.proofs.Common.{◌≡◌, ◌∙◌, ap, arith, length, refl, sym}
use Rattle.std.proofs.lemmas.Str.{IsUtf8-nil}
use Rattle.lp_format.specs.format.{trimmed}
use Rattle.lp_offsets.specs.Numbers.{dialect_of}
use Rattle.lp_offsets.specs.OffsetBlocks.{IsBlankIn, none}
use Rattle.lp_offsets.proofs.RowsLemmas.{blank_more}
use Rattle.lp_offsets.proofs.pieces.next_item.Goals as goal

pub loop-piece-init : goal.loop-piece-init
loop-piece-init c = record { within = c.requires.at; seen = c.requires.seen; passes = none }

pub loop-piece-preserved-then-piece-eq0 : goal.loop-piece-preserved-then-piece-eq0
unfolding trimmed
loop-piece-preserved-then-piece-eq0 c =
    let text = c.args.source.text.now in
    let piece = c.in-Some.piece in
    let is = c.in-Some.ensures.gives in
    let is_blank : IsBlankIn text piece = rw c.if-piece-eq0.true (IsUtf8-nil, refl) in
    record {
      within = rw c.pass.ensures (grind arith);
      seen = c.piece_at.ensures.seen;
      passes = blank_more (dialect_of c.args.source.dialect) c.args.source.last text c.args.spot.now c.loop-piece.spot c.pass.new.spot piece
          c.loop-piece.invariant.passes is is_blank c.pass.ensures;
    }

pub loop-piece-preserved : goal.loop-piece-preserved
loop-piece-preserved c =
    let text = c.args.source.text.now in
    let piece = c.in-Some.piece in
    let is = c.in-Some.ensures.gives in
    let said = rw c.piece_at.ensures.seen.0 at c.in-Some-next_text.ensures.text in
    let empty : length c.trimmed-line.result.now ≡ 0 = grind arith in
    let is_blank : IsBlankIn text piece =
    (said.0, ap (λ b. length (trimmed b)) (sym said.1) ∙ (ap length (sym c.trimmed-line.ensures) ∙ empty)) in
    record {
      within = rw c.pass-in-Some.ensures (grind arith);
      seen = (c.next_text.ensures.bytes ∙ c.piece_at.ensures.seen.0, c.piece_at.ensures.seen.1);
      passes = blank_more (dialect_of c.args.source.dialect) c.args.source.last text c.args.spot.now c.loop-piece.spot c.pass-in-Some.new.spot piece
          c.loop-piece.invariant.passes is is_blank c.pass-in-Some.ensures;
    }
