use Rattle.std.proofs.Common.{◌≡◌, ◌++◌, string_bytes}
use Rattle.std.specs.List.{flat_map}
use Rattle.lp_escapes.specs.JsonTexts.{json_character}
use Rattle.lp_escapes.proofs.json.put_json_text.Given as goal

-- the characters that came were added
abbrev pub invariant-loop-c : goal.invariant-loop-c
invariant-loop-c l = string_bytes l.json ≡ string_bytes l.initial.json ++ flat_map json_character l.yielded
