use Rattle.std.proofs.Common.{ap, arith, ◌∙◌}
use Rattle.lp_format.specs.format.Bytes.{is_one_of}
use Rattle.lp_scan.{specs.code.first_set, proofs.lemmas.scan.MaskLemmas.run_is}
use Rattle.lp_scan.proofs.lemmas.lanes.LaneLemmas.{mask_of_four}
use Rattle.lp_scan.proofs.marks.run_of.Goals as goal

pub returns : goal.returns
returns g c =
    run_is (is_one_of c.args.marks) c.args.text.now c.args.at g.row.N c.requires.room c.requires.few c.first_set.result
    (c.first_set.ensures
    ∙ ap (λ m. first_set m g.row.N) (mask_of_four c.args.marks c.args.text.now c.args.at g.row.N (omega arith) c.requires.room c.requires.few))
