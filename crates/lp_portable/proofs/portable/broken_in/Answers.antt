use Rattle.std.proofs.Common.{ℕ, List, refl, ap, ◌∙◌, codes}
use Rattle.lp_format.specs.format.{is_one_of, newline}
use Rattle.lp_portable.specs.format.Portable.{holds_text}
use Rattle.lp_portable.specs.code.ByCode.{broken_by_code}
use Rattle.lp_portable.proofs.SameBroken.{same_broken}
use Rattle.lp_portable.proofs.portable.broken_in.Goals as goal

pub returns : goal.returns
returns c = same_broken _ (broken_by_code c.args.limits.now c.args.text.now c.args.parts c.args.repeats c.args.names)
    c.begins_with_blank.ensures
    c.ends_in_space.ensures
    (c.has_byte.ensures ∙ ap (λ (t : List ℕ). is_one_of t newline) c.as_bytes.ensures.value)
    refl
    refl
    refl
    refl
    refl
    refl
    refl
    refl
    c.has_quoted_key.ensures
    refl
    c.has_unsigned.ensures
    c.has_infinite.ensures
    c.has_rounded.ensures
    c.begins_with_nul.ensures
    c.is_outside.ensures
    c.is_hundreds.ensures
    c.has_time.ensures
    c.has_system_name.ensures
    refl
    (c.holds_text.ensures ∙ ap (holds_text (codes "#!~")) c.as_bytes-2.ensures.value)
    c.has_control.ensures
    c.has_tag_key.ensures
    c.has_long_key.ensures
    c.has_long_value.ensures
    c.has_long_name.ensures
    c.has_long_name-2.ensures
    refl
    refl
    c.is_not_kept.ensures
