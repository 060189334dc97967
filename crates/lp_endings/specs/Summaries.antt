-- What a relay tells at its end, if its words ask for that.
use Rattle.std.specs.Prelude.{ℕ, ◌+◌, ◌==◌, List, [], ◌∷◌, ◌++◌, codes, decimal, Option, Some, None, if◌then◌else◌}
use Rattle.lp_conditions.specs.declared.kinds.Relayed.{Relayed}
use Rattle.lp_conditions.specs.declared.kinds.{Kind.Kind, KindCounts.KindCounts, TheConstants.KINDS}
use Rattle.lp_conditions.specs.KindCounts.{Counts, counts_of, kind_name}
use Rattle.lp_endings.specs.declared.summary.Totals.{Totals}

-- the kinds of these of which some are counted, each with its count, and before the first of them a mark
abbrev pub kinds_from : (mark : List ℕ) → (kinds : List Kind) → Counts → List ℕ
kinds_from mark [] counts = []
kinds_from mark (kind ∷ kinds) counts =
    if counts kind == 0 then kinds_from mark kinds counts
    else mark ++ decimal (counts kind) ++ codes " " ++ kind_name kind ++ kinds_from (codes ", ") kinds counts

-- how many items were refused for each kind of fault, if that was counted
abbrev pub kinds_text : Option KindCounts → List ℕ
kinds_text None = []
kinds_text (Some counts) = kinds_from (codes ": ") KINDS.now (counts_of counts)

-- how many items there were, of which so many were carried and so many refused
abbrev pub items_text : Relayed → List ℕ
items_text counts =
    decimal (counts.carried + counts.refused) ++ codes " items: " ++ decimal counts.carried ++ codes " carried, "
    ++ decimal counts.refused ++ codes " refused" ++ kinds_text counts.kinds

-- how many bytes and lines were read, and how many items there were
abbrev pub summary_text : Totals → List ℕ
summary_text totals =
    decimal totals.bytes ++ codes " bytes, " ++ decimal totals.lines ++ codes " lines, " ++ items_text totals.counts

-- the kinds of these of which some are counted as members, each with its count, and before the first of them a mark
abbrev pub kind_members : (mark : List ℕ) → (kinds : List Kind) → Counts → List ℕ
kind_members mark [] counts = []
kind_members mark (kind ∷ kinds) counts =
    if counts kind == 0 then kind_members mark kinds counts
    else mark ++ codes "\"" ++ kind_name kind ++ codes "\":" ++ decimal (counts kind) ++ kind_members (codes ",") kinds counts
