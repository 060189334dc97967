use Rattle.std.proofs.Common.{[], refl, Some, None, rules}
use Rattle.lp_format.specs.format.{comma, escaped}
use Rattle.lp_written.proofs.lemmas.parts.WrittenKeys.{no_tag, tag_more, tags_left}
use Rattle.lp_written.proofs.lemmas.parts.WrittenNames.{byte_left}
use Rattle.lp_written.proofs.keys.after_tags.Goals as goal

pub loop-tag-init : goal.loop-tag-init
unfolding escaped
loop-tag-init c = record { utf8_left = c.utf8.text; same = ([], refl, λ told is. is) }

pub returns-in_default-next_tag : goal.returns-in_default-next_tag
returns-in_default-next_tag c =
    let (before, spelled, same) = c.loop-tag.invariant.same in
    let begins = byte_left comma c.loop-tag.left.now c.in-Some.tag.now c.in-Some.ensures.value in
    let none = c.in_default-next_tag.ensures.value before spelled in
    same None (no_tag before c.loop-tag.left.now c.in-Some.tag.now begins none)

pub loop-tag-preserved : goal.loop-tag-preserved
loop-tag-preserved c =
    let (before, spelled, same) = c.loop-tag.invariant.same in
    let begins = byte_left comma c.loop-tag.left.now c.in-Some.tag.now c.in-Some.ensures.value in
    let (t, is, whole, key, not_less, only) = c.in-Some-next_tag.ensures.value before spelled in
    record {
      utf8_left = search rules;
      same = (
        t.key,
        key,
        λ told is_told. same told (tag_more before c.loop-tag.left.now c.in-Some.tag.now c.in-Some-next_tag.rest.now t begins is whole
            not_less only told is_told),
      );
    }

pub returns : goal.returns
returns c =
    let (before, spelled, same) = c.loop-tag.invariant.same in
    same (Some c.loop-tag.left) (tags_left before c.loop-tag.left.now c.loop-tag.left c.in_default.ensures.value refl)
