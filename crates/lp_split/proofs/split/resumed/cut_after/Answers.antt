use Rattle.lp_format.specs.format.Dialects.{Crate}
use Rattle.lp_split.proofs.lemmas.split.TrackedPieces.{line_track}
use Rattle.lp_split.proofs.split.resumed.cut_after.Goals as goal

pub returns-in-Ok : goal.returns-in-Ok
returns-in-Ok c =
    (c.in-Ok.ensures Crate (rw c.bare.ensures (line_track c.args.region _ _ _ c.requires.is_bare c.requires.ends_in))).0

pub returns-in-Err : goal.returns-in-Err
returns-in-Err c =
    (c.in-Err.ensures Crate (rw c.bare.ensures (line_track c.args.region _ _ _ c.requires.is_bare c.requires.ends_in))).0
