use Rattle.influxdb_line_protocol.specs.code.Rules.{rules_of}
use Rattle.std.proofs.Common.{◌-◌, ◌∙◌, sym, subst, arith, rules}
use Rattle.lp_cuts.specs.declared.cuts.Walk.{Walk}
use Rattle.lp_cuts.specs.CutSteps.{IsWalkOf, PassesNone}
use Rattle.lp_cuts.proofs.JumpLemmas.{jump_found, none_on}
use Rattle.lp_cuts.proofs.WindowLemmas.{same_text}
use Rattle.lp_cuts.proofs.cuts.jump_to.Goals as goal

pub returns-in-Some-clause-goes : goal.returns-in-Some-clause-goes
returns-in-Some-clause-goes g c = λ text has w passes.
    let inv = c.loop-at.invariant in
    let here = same_text g.R.ReadAt.text c.args.window.now c.fill.new.self text has (c.fill.ensures.over.0 ∙ inv.over.0)
    (c.fill.ensures.over.1 ∙ inv.over.1) in
    jump_found c.pieces_join.ensures.some c.lines_are_read_alone.ensures.join (rules_of c.args.dialect) text c.rest-rest.result.now
    c.args.place c.loop-at.at c.in-Some.i c.walk_at.result (search rules) (search rules) (inv.none text has)
    (c.rest-rest.ensures.bytes text here) (omega (arith, c.rest-rest.ensures.within, here.len_is)) c.in-Some.ensures c.walk_at.ensures

pub loop-at-preserved : goal.loop-at-preserved
loop-at-preserved g c =
    let inv = c.loop-at.invariant in
    record {
      low = omega (arith, inv.low);
      walk = inv.walk;
      window = c.fill.ensures.window;
      over = (c.fill.ensures.over.0 ∙ inv.over.0, c.fill.ensures.over.1 ∙ inv.over.1);
      none = λ text has.
          let here = same_text g.R.ReadAt.text c.args.window.now c.fill.new.self text has (c.fill.ensures.over.0 ∙ inv.over.0)
          (c.fill.ensures.over.1 ∙ inv.over.1) in
          none_on text c.rest-rest.result.now (c.args.place - 1) c.loop-at.at (inv.none text has) (c.rest-rest.ensures.bytes text here)
          c.in-None.ensures;
    }

pub returns-clause-goes : goal.returns-clause-goes
returns-clause-goes g c = λ text has w passes.
    subst (λ (k : Walk). IsWalkOf (rules_of c.args.dialect) text k × PassesNone (rules_of c.args.dialect) text c.args.place k.at)
    (sym c.loop-at.invariant.walk) (w, passes)
