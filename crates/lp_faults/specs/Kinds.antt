-- How many items of a relay are refused for each kind of fault.
use Rattle.std.specs.Prelude.{◌+◌, Bool, false, List, Option, Some, None, option_map, if◌then◌else◌}
use Rattle.std.specs.{List.count_by, Option.option_map_or}
use denote.Enum.{Bare.sameb, Declared.tag_of}
use Rattle.lp_conditions.specs.declared.kinds.{Kind.Kind}
use Rattle.lp_conditions.specs.declared.settings.Settings.{Settings}
use Rattle.lp_faults.specs.Objects.{item_kind}
use Rattle.lp_faults.specs.Relaying.{Item}
use Rattle.lp_conditions.specs.KindCounts.{Counts, is_kind}

-- whether an item is refused for a fault of this kind
abbrev pub is_refused_for : Kind → Item → Bool
is_refused_for kind item = option_map_or (is_kind kind) (item_kind item) false

-- how many of these items are refused for each kind of fault, if the settings ask for that
abbrev pub refused_kinds : Settings → List Item → Option Counts
refused_kinds s items = if s.counts_kinds then Some (λ kind. count_by (is_refused_for kind) items) else None

-- counts, with these items counted too
abbrev pub counts_after : List Item → Counts → Counts
counts_after items counts kind = counts kind + count_by (is_refused_for kind) items

-- the counts, if kinds are counted, with these items counted too
abbrev pub kinds_after : List Item → Option Counts → Option Counts
kinds_after items counts = option_map (counts_after items) counts

-- before the first item
abbrev pub kinds_of_none : Settings → Option Counts
kinds_of_none s = if s.counts_kinds then Some (λ kind. 0) else None
