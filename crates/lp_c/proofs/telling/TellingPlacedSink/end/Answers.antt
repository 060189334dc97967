use Rattle.std.proofs.Common.{arith, refl, rules}
use Rattle.lp_c.proofs.telling.TellingPlacedSink.end.Goals as goal

pub returns : goal.returns
returns c = record {
  line = refl;
  parts = refl;
  room = refl;
  keeps = record { text = refl; size = refl; grows = record { size = refl; more = omega arith; kept = refl } };
  counted = λ small. omega (arith, small);
  fault = refl;
  does = (
    record {
      series = c.as_bytes-self.ensures.value;
      has_tag_set = search rules;
      timestamp = search rules;
      no_timestamp = search rules;
      base = c.requires;
      fault = c.number-self.ensures;
      side = c.number-self-2.ensures;
    },
    record { tags = refl; fields = refl; name = refl; parts = refl; used = refl },
  );
}
