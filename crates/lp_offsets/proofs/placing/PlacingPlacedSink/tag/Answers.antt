use Rattle.std.proofs.Common.{arith, refl, rules, ap}
use Rattle.std.specs.Prelude.{slice_set}
use Rattle.lp_offsets.proofs.placing.PlacingPlacedSink.tag.Goals as goal

pub returns-then-place-self-clause-takes : goal.returns-then-place-self-clause-takes
returns-then-place-self-clause-takes c =
    let put = c.place_tag-used in
    record {
      parts = refl;
      room = refl;
      keeps = record { text = refl; size = search rules; grows = put.ensures.grows };
      bound = put.ensures.bound;
      fault = refl;
      does = record {
        counted = λ fits. grind arith;
        kept = refl;
        name = refl;
        puts = λ here. record {
          part = put.result.0;
          put = ap (λ n. slice_set c.args.self.now.parts.now n put.result.0) (grind arith);
          shows = put.ensures.shows;
          takes = put.ensures.takes;
        };
      };
    }
