use Rattle.std.proofs.Common.{ℕ, List, subst, arith}
use Rattle.lp_written.specs.code.WrittenKeys.{AreTagsFront, EndsSeries}
use Rattle.lp_written.proofs.lemmas.parts.WrittenKeys.{key_of_parts, lent_key, no_end, parts_of_key, space_ends, whole_key}
use Rattle.lp_written.proofs.keys.key_of_text.Goals as goal

pub returns-in_default : goal.returns-in_default
returns-in_default c key rest whole ends k =
    let (tags, named, ended, front) = parts_of_key c.args.text.now key rest whole ends k in c.in_default.ensures tags named ended

pub returns-in_default-after_tags : goal.returns-in_default-after_tags
returns-in_default-after_tags c key rest whole ends k =
    let (tags, named, ended, front) = parts_of_key c.args.text.now key rest whole ends k in
    let same = c.in-Some.ensures.1 tags named ended in
    c.in_default-after_tags.ensures rest (subst (λ (t : List ℕ). AreTagsFront t rest) same front) ends

pub returns-then-is_empty : goal.returns-then-is_empty
returns-then-is_empty c =
    let (key, whole, k) = key_of_parts c.args.text.now c.in-Some.tags.now c.in-Some-after_tags.rest.now c.in-Some.ensures.0 c.in-Some-after_tags.ensures.0 in
    whole_key c.args.text.now key c.in-Some-after_tags.rest.now whole k (grind arith)

pub returns-then-is_none : goal.returns-then-is_none
returns-then-is_none c key rest whole ends k =
    let (tags, named, ended, front) = parts_of_key c.args.text.now key rest whole ends k in
    let same = c.in-Some.ensures.1 tags named ended in
    let left = c.in-Some-after_tags.ensures.1 rest (subst (λ (t : List ℕ). AreTagsFront t rest) same front) ends in
    no_end c.in-Some-after_tags.rest.now (λ e. grind arith) (grind arith) (subst EndsSeries left ends)

pub returns : goal.returns
returns c =
    let (key, whole, k) = key_of_parts c.args.text.now c.in-Some.tags.now c.in-Some-after_tags.rest.now c.in-Some.ensures.0 c.in-Some-after_tags.ensures.0 in
    let ends : EndsSeries c.in-Some-after_tags.rest.now = grind (arith, space_ends) in
    lent_key c.args.text.now key c.in-Some-after_tags.rest.now _ whole k ends (grind arith)
