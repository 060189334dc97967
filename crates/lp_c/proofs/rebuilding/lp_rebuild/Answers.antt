use Rattle.std.proofs.Common.{rules, ◌≡◌, ℕ, List}
use Rattle.influxdb_line_protocol.specs.format.Dialects.{Dialect}
use Rattle.lp_rebuild.specs.declared.batch.Rebuilt.{Rebuilt}
use Rattle.lp_rebuild.specs.Rebuilding.{RebuildsIn}
use Rattle.lp_c.proofs.rebuilding.lp_rebuild.Goals as goal

-- what is rebuilt in a dialect from a text is rebuilt in an equal one from an equal text
rebuilds_same : (d e : Dialect) (s t : List ℕ) (r : Rebuilt) → d ≡ e → s ≡ t → RebuildsIn d s r → RebuildsIn e t r
rebuilds_same d e s t r p q h = rw (← p, ← q) h

pub returns-clause-rebuilds : goal.returns-clause-rebuilds
returns-clause-rebuilds c = λ _ _ _. record {
  rebuilt = c.in-Ok-rebuild_in.rebuilt;
  is = rebuilds_same _ _ _ _ _ (search (rules)) c.in-Ok.ensures.0 c.in-Ok-rebuild_in.ensures.rebuilds;
  counted = c.count.ensures;
  puts = c.put_both.ensures;
}
