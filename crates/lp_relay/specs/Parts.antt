-- What the parts of a text give when each is relayed apart.
use Rattle.std.specs.Prelude.{◌≡◌, ℕ, List, [], ◌∷◌, Option, None, ⊤}
use Rattle.std.specs.Borrow.{Bor}
use Rattle.std.specs.List.{flat_map}
use Rattle.influxdb_line_protocol.specs.format.Dialects.{Dialect}
use Rattle.influxdb_line_protocol.specs.format.Pieces.{Pieces}
use Rattle.influxdb_line_protocol.specs.code.Rules.{rules_of}
use Rattle.lp_conditions.specs.declared.settings.Settings.{Settings}
use Rattle.lp_escapes.specs.declared.forms.Faults.{Faults}
use Rattle.lp_cuts.specs.Cuts.{HavePieces}
use Rattle.lp_conditions.specs.FieldTypes.{Types}
use Rattle.lp_faults.specs.Relaying.{items_batch, items_of, items_of_piece, refused_piece, refused_pieces}

-- each of these texts has these pieces
abbrev pub HaveEach : Dialect → List (List ℕ) → List (List (List ℕ)) → Type 0
HaveEach dialect [] [] = ⊤
HaveEach dialect [] (pieces ∷ others) = ⊥
HaveEach dialect (text ∷ texts) [] = ⊥
HaveEach dialect (text ∷ texts) (pieces ∷ others) = Pieces dialect text pieces × HaveEach dialect texts others

-- If the pieces of a text are those of its parts, and the types of fields need not stay, what goes out for its items is what goes out for
-- the items of the parts, one after another.
abbrev pub PartsGiveLines : Type 0
PartsGiveLines =
    (s : Settings) (types : Types) (parts pieces : List (List ℕ)) (each : List (List (List ℕ))) → s.types ≡ None
    → HavePieces (rules_of s.dialect) parts pieces → HaveEach (rules_of s.dialect) parts each
    → items_batch (items_of s types pieces) ≡ flat_map (λ part. items_batch (items_of s types part)) each

-- So it is of the pieces that go out as refused.
abbrev pub PartsGiveRefused : Type 0
PartsGiveRefused =
    (s : Settings) (types : Types) (parts pieces : List (List ℕ)) (each : List (List (List ℕ))) → s.types ≡ None
    → HavePieces (rules_of s.dialect) parts pieces → HaveEach (rules_of s.dialect) parts each
    → refused_pieces s types pieces ≡ flat_map (refused_pieces s types) each

-- The settings that say what faults name, and how they are told, change neither.
abbrev pub FaultsChangeNoLine : Type 0
FaultsChangeNoLine =
    (s : Settings) (types : Types) (first first_offset : ℕ) (faults : Faults) (max_faults : Option ℕ) (file : Option (Bor (List ℕ))) (piece : List ℕ)
    → (items_of_piece (record s { first = first; faults = faults; max_faults = max_faults; file = file; first_offset = first_offset }) types piece
    ≡ items_of_piece s types piece)
    × (refused_piece (record s { first = first; faults = faults; max_faults = max_faults; file = file; first_offset = first_offset }) types piece
    ≡ refused_piece s types piece)
