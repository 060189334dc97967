use Rattle.influxdb_line_protocol.specs.code.Rules.{rules_of}
use Rattle.std.proofs.Common.{◌∙◌, arith}
use Rattle.lp_cuts.proofs.WalkLemmas.{walk_ends, walk_longer, walk_on}
use Rattle.lp_cuts.proofs.WindowLemmas.{same_text}
use Rattle.lp_cuts.proofs.cuts.next_cut.Goals as goal

pub search-requires : goal.search-requires
search-requires g c = record {
  room = omega (arith, c.loop-walk.invariant.within.counted, c.rest-rest.ensures.within, c.fill.ensures.window.fits);
}

pub overflow_add-walk : goal.overflow_add-walk
overflow_add-walk g c = omega (arith, c.rest-rest.ensures.within, c.in-Ok.ensures.within, c.fill.ensures.window.fits)

pub overflow_add-walk-in-Ok : goal.overflow_add-walk-in-Ok
overflow_add-walk-in-Ok g c = omega (arith, c.rest-rest.ensures.within, c.in-Ok.ensures.within, c.fill.ensures.window.fits)

pub overflow_add-walk-in-Err : goal.overflow_add-walk-in-Err
overflow_add-walk-in-Err g c = omega (arith, c.rest-rest.ensures.within, c.fill.ensures.window.fits)

pub returns-in-Ok-clause-goes : goal.returns-in-Ok-clause-goes
returns-in-Ok-clause-goes g c = λ text has w.
    let inv = c.loop-walk.invariant in
    let here = same_text g.R.ReadAt.text c.args.window.now c.fill.new.self text has (c.fill.ensures.over.0 ∙ inv.over.0)
    (c.fill.ensures.over.1 ∙ inv.over.1) in
    walk_on c.pieces_join.ensures.some c.pieces_join.ensures.one (rules_of c.args.dialect) text c.rest-rest.result.now c.loop-walk.walk
    c.walk_at.result c.args.walk.now.at c.in-Ok.i (inv.walk text has w) (c.rest-rest.ensures.bytes text here)
    (omega (arith, c.rest-rest.ensures.within, here.len_is)) c.in-Ok.ensures.finds c.walk_at.ensures inv.at

pub loop-walk-preserved : goal.loop-walk-preserved
loop-walk-preserved g c =
    let inv = c.loop-walk.invariant in
    record {
      within = record {
        order = omega (arith, inv.within.order);
        counted = omega (arith, inv.within.counted, c.in-Err.ensures.few);
        given = omega (arith, c.rest-rest.ensures.within);
      };
      window = c.fill.ensures.window;
      over = (c.fill.ensures.over.0 ∙ inv.over.0, c.fill.ensures.over.1 ∙ inv.over.1);
      walk = λ text has w.
          let here = same_text g.R.ReadAt.text c.args.window.now c.fill.new.self text has (c.fill.ensures.over.0 ∙ inv.over.0)
          (c.fill.ensures.over.1 ∙ inv.over.1) in
          walk_longer (rules_of c.args.dialect) text c.rest-rest.result.now c.loop-walk.walk c.in-Err.track (inv.walk text has w)
          (c.rest-rest.ensures.bytes text here) (omega (arith, c.rest-rest.ensures.within, here.len_is)) c.in-Err.ensures.finds;
      at = inv.at;
    }

pub returns-clause-goes : goal.returns-clause-goes
returns-clause-goes g c = λ text has w.
    let inv = c.loop-walk.invariant in
    let here = inv.walk text has w in (
      here,
      (
        inv.at,
        λ other there. omega (
          arith,
          walk_ends c.pieces_join.ensures.some c.pieces_join.ensures.one (rules_of c.args.dialect) text c.loop-walk.walk here
              (omega (arith, c.loop-walk-test.false, inv.within.given, inv.over.1, has.len_is)) other there,
          inv.at,
        ),
      ),
    )
