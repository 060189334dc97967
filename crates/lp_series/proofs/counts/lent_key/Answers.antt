use Rattle.lp_series.proofs.TextLemmas.{lent_is}
use Rattle.lp_series.proofs.counts.lent_key.Goals as goal

-- all of the text is the key
pub returns : goal.returns
returns c =
    let lent = c.in-Some.ensures in
    lent_is c.keys_tell_series.ensures.stand c.bases_tell_series.ensures.read c.args.line.now c.requires c.in-Some.key.now lent.1.0 lent.1.1
    c.if-key-text.false lent.0
