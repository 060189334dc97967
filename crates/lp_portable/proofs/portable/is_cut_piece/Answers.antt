use Rattle.std.proofs.lemmas.Bool.{false≢true}
use Rattle.lp_format.specs.format.{Strict}
use Rattle.memchr.specs.Find.{IsFirstByte, is_byte3}
use Rattle.std.proofs.Common.{◌≡◌, ℕ, Option, None, arith, subst, refl}
use Rattle.lp_format.specs.format.{backslash, newline, quote}
use Rattle.lp_portable.proofs.Lines.{cut_within, ends_by, no_mark_cut}
use Rattle.lp_portable.proofs.portable.is_cut_piece.Goals as goal

pub returns-in-Ok : goal.returns-in-Ok
returns-in-Ok c =
    let cut = c.in-Ok.ensures in
    (λ never. absurd (false≢true never), λ whole. absurd (cut_within Strict c.args.text.now c.in-Ok.field-0 cut.0 cut.1 cut.2 whole))

pub returns-in-Err : goal.returns-in-Err
returns-in-Err c =
    rw c.is_ok.ensures.value (ends_by Strict c.args.text.now c.in-Err.track c.track_on.result c.in-Err.ensures.0 c.track_on.ensures)

pub returns-then-is_none : goal.returns-then-is_none
returns-then-is_none c =
    let none : c.memchr3.result ≡ None = grind arith in
    (λ yes. no_mark_cut c.args.text.now (subst (λ (r : Option ℕ). IsFirstByte (is_byte3 backslash newline quote) c.args.text.now r) none c.memchr3.ensures), λ cut. refl)
