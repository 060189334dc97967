use Rattle.std.proofs.Common.{◌∷◌, [], take, map}
use Rattle.std.specs.{Fmt.HasWritten, Fmt.IsPlainFormatter, List.join_by}
use Rattle.lp_format.specs.{format.Bytes.comma, code.Shown.shown_tag}
use Rattle.lp_lines.specs.code.Parsed.{tag_of}
use Rattle.lp_lines.proofs.shown.show_tags.Given as goal

abbrev pub invariant-loop-place : goal.invariant-loop-place
invariant-loop-place g l = IsPlainFormatter l.initial.f
    → HasWritten g.W.Write.write_str_gives l.initial.f (join_by shown_tag (comma ∷ []) (map tag_of (take l.place l.tags))) l.f
