-- What a relay tells of the items that it refuses: of each a fault line, or an object, which names its place.
use Rattle.std.specs.Prelude.{ℕ, ◌+◌, nat_lt, Bool, true, if◌then◌else◌, List, [], ◌∷◌, ◌++◌, codes, decimal, length, Option, Some, None, option_map}
use Rattle.std.specs.Borrow.{Bor}
use Rattle.std.specs.List.{flat_map}
use Rattle.std.specs.Option.{option_map_or}
use Rattle.influxdb_line_protocol.specs.format.Bytes.{newline, newlines_in}
use Rattle.lp_conditions.specs.declared.settings.{Numbering.Numbering, Settings.Settings}
use Rattle.lp_conditions.specs.declared.settings.Numbering.TheVariants as named
use Rattle.lp_escapes.specs.declared.forms.{Faults.Faults}
use Rattle.lp_faults.specs.declared.telling.{Place.Place}
use Rattle.lp_escapes.specs.declared.forms.Faults.TheVariants.{Raw, OneLine, Json, Editor}
use Rattle.lp_faults.specs.Editors.{editor_line}
use Rattle.lp_faults.specs.Objects.{Reason, Seen, item_front, item_kind, item_text, object, seen_of_piece}
use Rattle.lp_conditions.specs.FieldTypes.{Types}
use Rattle.lp_faults.specs.Relaying.{Item, first_of, items_of_piece, refused_items, types_after}
use Rattle.lp_escapes.specs.Told.{on_one_line, told_byte}

-- what a fault line begins with: the line on which the piece of the item begins, if lines are named, or else the number of the item
abbrev pub named_first : (line : Option ℕ) → (number : ℕ) → List ℕ
named_first None number = codes "item " ++ decimal number
named_first (Some line) number = codes "line " ++ decimal line

-- a fault line, without its newline, of an item at a place with which this is wrong
abbrev pub fault_text : Place → (wrong : List ℕ) → List ℕ
fault_text place wrong = named_first place.line place.number ++ codes ": " ++ wrong

-- the name of a file before a fault line, as it is told on one line, and a colon: nothing if no file is named
abbrev pub file_before : Option (Bor (List ℕ)) → List ℕ
file_before None = []
file_before (Some name) = flat_map told_byte name.now ++ codes ": "

-- what is told of an item at a place that is refused for this. It is its fault line as it is; that on one line, after the name of the
-- file; its object, with its piece or without; or its line for editors
abbrev pub told_fault : Faults → Place → Reason → List ℕ
told_fault Raw place why = fault_text place why.wrong ++ newline ∷ []
told_fault OneLine place why = file_before place.file ++ on_one_line (fault_text place why.wrong) ++ newline ∷ []
told_fault (Json first_line has_piece) place why = object has_piece place why
told_fault (Editor first_line) place why = editor_line place why

-- whether a fault is told before which so many items were refused, if so many faults are told at most
abbrev pub is_told : (most : Option ℕ) → (refused : ℕ) → Bool
is_told None refused = true
is_told (Some most) refused = nat_lt refused most

-- what is told by the settings of an item at a place that is refused for this: nothing if as many faults were told as may be
abbrev pub told_at : Settings → Place → Reason → List ℕ
told_at s place why = if is_told s.max_faults place.refused then told_fault s.faults place why else []

-- what is told of an item at a place, of whose piece this is told: nothing if it is carried
abbrev pub told_item : Settings → Place → Seen → Item → List ℕ
told_item s place seen item =
    option_map_or (λ kind. told_at s place (record { kind = kind; wrong = item_text item; front = item_front item; seen = seen })) (item_kind item) []

-- what is told of the items of one piece, of which the first is at this place
abbrev pub told_items : Settings → Place → Seen → List Item → List ℕ
told_items s place seen [] = []
told_items s place seen (item ∷ items) =
    told_item s place seen item
    ++ told_items s (record place { number = place.number + 1; refused = place.refused + refused_items (item ∷ []) }) seen items

-- what is told of a piece at a place
abbrev pub told_piece : Settings → Types → Place → List ℕ → List ℕ
told_piece s types place piece = told_items s place (seen_of_piece s piece) (items_of_piece s types piece)

-- the line after a piece with so many newlines, if lines are named
abbrev pub line_after : Option ℕ → (newlines : ℕ) → Option ℕ
line_after line newlines = option_map (λ line. line + newlines + 1) line

-- the place after a piece with these items, and with so many newlines and bytes
abbrev pub place_after : Place → (items : List Item) → (newlines len : ℕ) → Place
place_after place items newlines len = record place {
  number = place.number + length items;
  refused = place.refused + refused_items items;
  line = line_after place.line newlines;
  offset = place.offset + len + 1;
}

-- the place after a piece
abbrev pub after_piece : Settings → Types → Place → List ℕ → Place
after_piece s types place piece = place_after place (items_of_piece s types piece) (newlines_in piece) (length piece)

-- what is told of pieces, of which the first is at this place, by the types that fields have before it
abbrev pub told_from : Settings → Types → Place → List (List ℕ) → List ℕ
told_from s types place [] = []
told_from s types place (piece ∷ pieces) =
    told_piece s types place piece ++ told_from s (types_after s types piece) (after_piece s types place piece) pieces

-- the number of the first item, if this is the number of what fault lines name first
abbrev pub first_item : Numbering → ℕ → ℕ
first_item named.Items first = first_of first
first_item named.Lines first = 1

-- the line on which the first piece begins, if fault lines name lines
abbrev pub first_named : Numbering → ℕ → Option ℕ
first_named named.Items first = None
first_named named.Lines first = Some (first_of first)

-- the same, by how faults are told: an object and a line for editors always name their line
abbrev pub first_line : Faults → Numbering → ℕ → Option ℕ
first_line Raw numbering first = first_named numbering first
first_line OneLine numbering first = first_named numbering first
first_line (Json line has_piece) numbering first = Some (first_of line)
first_line (Editor line) numbering first = Some (first_of line)

-- the place of the first item
abbrev pub first_place : Settings → Place
first_place s = record {
  file = s.file;
  number = first_item s.numbering s.first;
  refused = 0;
  line = first_line s.faults s.numbering s.first;
  offset = s.first_offset;
}

-- what is told of pieces by the settings, from the first place on
abbrev pub told_faults : Settings → Types → List (List ℕ) → List ℕ
told_faults s types pieces = told_from s types (first_place s) pieces
