use Rattle.std.proofs.Common.{◌%◌, ◌==◌, ℕ, List, ap, arith, max, sym}
use Rattle.std.proofs.Math.Nat.{mod-lt}
use Rattle.std.proofs.lemmas.Bool.{eq-eqb, eqb-true}
use Rattle.influxdb_line_protocol.specs.code.Keys.{hash_of}
use Rattle.lp_faults.specs.Relaying.{key_of, shard_of}
use Rattle.lp_relay.proofs.laws.shards_part_the_series.Goals as goal

pub returns-clause-one : goal.returns-clause-one
returns-clause-one c = λ count p. (
  shard_of count p,
  mod-lt (hash_of (key_of p)) (omega (arith)),
  λ other. (λ is. sym (eqb-true (shard_of count p) other is), λ is. eq-eqb (shard_of count p) other (sym is)),
)

pub returns-clause-same : goal.returns-clause-same
returns-clause-same c = λ shard p q same. ap (λ (key : List ℕ). hash_of key % max 1 shard.count == shard.number) same
