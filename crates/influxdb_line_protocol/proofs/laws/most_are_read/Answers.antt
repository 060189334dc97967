use Rattle.lp_format.specs.format.Lines.{field, tag}
use Rattle.lp_format.proofs.lemmas.meanings.JoinedMeaning.{the_most_is_read, the_next_has_the_fault, the_first_misses, count_is_of_the_most}
use Rattle.lp_format.proofs.lemmas.meanings.ShorterRests.{tag_no_longer, field_no_longer}
use Rattle.influxdb_line_protocol.proofs.laws.most_are_read.Goals as goal

pub returns : goal.returns
returns c = record {
  tags = the_most_is_read tag (λ text. (tag_no_longer text).holds);
  tag_fault = the_next_has_the_fault tag (λ text. (tag_no_longer text).holds);
  no_tag = the_first_misses tag (λ text. (tag_no_longer text).holds);
  fields = the_most_is_read field (λ text. (field_no_longer text).holds);
  field_fault = the_next_has_the_fault field (λ text. (field_no_longer text).holds);
  no_field = the_first_misses field (λ text. (field_no_longer text).holds);
  tag_count = count_is_of_the_most tag (λ text. (tag_no_longer text).holds);
  field_count = count_is_of_the_most field (λ text. (field_no_longer text).holds);
}
