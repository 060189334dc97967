use Rattle.influxdb_line_protocol.proofs.lemmas.laws.KeysApart.{keys_read_back, keys_stand_in_texts, keys_tell_series, lines_begin_with_keys}
use Rattle.influxdb_line_protocol.proofs.laws.keys_tell_series.Goals as goal

pub returns : goal.returns
returns c = record { tell = keys_tell_series; read = keys_read_back; begin = lines_begin_with_keys; stand = keys_stand_in_texts }
