use Rattle.std.proofs.Common.{◌≡◌}
use Rattle.lp_format.{specs.format.Lines.spaces, proofs.lemmas.meanings.ShorterRests.spaces_boundary}
use Rattle.lp_scan.proofs.trim.trim_start_spaces.Goals as goal

pub range_from-requires : goal.range_from-requires
range_from-requires c =
    λ some. let value : c.spaces_len.result ≡ spaces c.args.text.now = rw c.as_bytes.ensures.value at c.spaces_len.ensures in
    spaces_boundary c.args.text.now c.spaces_len.result c.utf8.text value
