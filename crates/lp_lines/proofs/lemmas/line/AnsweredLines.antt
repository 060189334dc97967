-- Lines that are answered: a tag set with at least one tag, no more columns than bytes, no need of memory if the line is light; and the item
-- of a line that was given.
use Rattle.std.proofs.Common.{◌≡◌, ℕ, ◌<◌, List, [], ◌∷◌, length, ap, arith, Option, Ok, Err, Result, ◌+◌, ◌≤◌, ◌^◌, drop}
use Rattle.std.proofs.Common.{length-append, length-drop, true, IfSome, le-leb, leb-true}
use Rattle.std.proofs.lemmas.{Bool.and_parts, List.length-map}
use Rattle.lp_format.specs.format.{Dialect, Fault, Text, Reading, reads, Pair, Line, tag, separated_list, tag_set, answer, field}
use Rattle.lp_format.specs.format.{some_tags, spaces, byte, comma, a_measurement, Left}
use Rattle.lp_format.specs.laws.Meanings.{SeparatedBy, SeparatedAfterComma}
use Rattle.lp_format.specs.code.Light.{carries_no_text, count_after, fields_in, is_light_in, is_single_line, read_count, tags_in}
use Rattle.lp_format.specs.code.Light.{is_light}
use Rattle.lp_format.proofs.lemmas.names.Inversions.{prepend_parts, count_is_of_the_most}
use Rattle.lp_format.proofs.lemmas.meanings.{JoinedMeaning.the_most_is_read, ShorterRests.tag_no_longer}
use Rattle.lp_format.proofs.lemmas.meanings.{ShorterRests.field_no_longer}
use Rattle.lp_values.specs.{declared.error.Error.Error, code.Outcomes.IsNotOutOfMemory}
use Rattle.lp_values.proofs.lemmas.fields.ReadingLemmas.{bind_reads, name_ends}
use Rattle.lp_events.specs.code.LineSteps.{GaveLine}
use Rattle.lp_events.proofs.lemmas.fields.ManyLemmas.{fields_joined, set_separated, tag_set_read}
use Rattle.lp_lines.{specs.declared.parsed.ParsedLine.ParsedLine, specs.code.Parsed.Answers, specs.code.Parsed.FillsLine}
use Rattle.lp_lines.{specs.code.Parsed.line_read, specs.code.ParseSteps.HasNoEmptyTagSet, specs.code.ParseSteps.CanCountColumns}
use Rattle.lp_lines.{specs.code.ParseSteps.GaveItem, specs.code.ReadInto.item_in, proofs.lemmas.names.ParsedNames.answer_parts}

-- a list of elements that are joined by commas has at least one element
pub joined_some : {A : Type 0} (one : List ℕ → Reading A) (line rest : List ℕ) (xs : List A)
    → separated_list one line ≡ reads xs rest → 0 < length xs
joined_some one line rest xs h = grind (arith, bind_reads, prepend_parts)

-- a set, if there is one, has at least one element
abbrev pub HasSome : {T : Type 0} → Option (List T) → Type 0
HasSome o = IfSome o (λ ts. 0 < length ts)

-- the tag set of each line that is answered has at least one tag
pub line_some_tags : (dialect : Dialect) (text : List ℕ) (l : Line) → answer dialect text ≡ Ok l → HasSome l.tags
line_some_tags dialect text l h = let parts = answer_parts dialect text l h in grind (arith, tag_set_read, joined_some)

-- the tag set of an item is not empty
pub item_has_tags : (dialect : Dialect) (line : List ℕ) (item : Result ParsedLine Error) → Answers item (answer dialect line)
    → HasNoEmptyTagSet item
item_has_tags dialect line (Ok parsed) h = grind (arith, length-map, line_some_tags dialect line (line_read parsed))
item_has_tags dialect line (Err e) h = tt

module _ {A : Type 0} (one : List ℕ → Reading A)
    (no_longer : (text : List ℕ) (x : A) (rest : List ℕ) → one text ≡ reads x rest → length rest ≤ length text) where
  -- elements after commas are no more than the bytes before the rest
  room_after : (xs : List A) (text rest : List ℕ) → SeparatedAfterComma one xs text rest → length xs + length rest ≤ length text
  room_after [] text rest h = omega (arith, ap length h)
  room_after (x ∷ xs) text rest h = let more = room_after xs h.1 rest h.4 in omega (arith, ap length h.2, no_longer h.0 x h.1 h.3)

  -- elements that are joined by commas are at most one more than the bytes of their text
  room_of : (xs : List A) (text rest : List ℕ) → SeparatedBy one xs text rest → length xs ≤ length text + 1
  room_of xs text rest h = grind (arith, room_after)

-- the tags and the fields of a line are at most one more than its bytes
pub line_room : (dialect : Dialect) (text : List ℕ) (l : Line) → answer dialect text ≡ Ok l
    → length (some_tags l.tags) + length l.fields ≤ length text + 1
line_room dialect text l h =
    let parts = answer_parts dialect text l h in
    let front = name_ends a_measurement text l.measurement parts.measurement_rest parts.measurement in
    let separated = set_separated parts.measurement_rest parts.tags_rest l.tags parts.tags in
    let tags = room_after tag (λ t. (tag_no_longer t).holds) (some_tags l.tags) parts.measurement_rest parts.tags_rest separated in
    let suffix = drop (spaces parts.tags_rest) parts.tags_rest in
    let joined = fields_joined dialect suffix parts.fields_rest l.fields parts.fields in
    let full = (the_most_is_read field (λ t. (field_no_longer t).holds) suffix l.fields joined.0).0 joined.1 in
    let fields = room_of field (λ t. (field_no_longer t).holds) l.fields suffix joined.0 full.longest.separated in
    grind (arith, length-append, length-drop)

-- the columns of an item can be counted
pub item_columns_fit : (dialect : Dialect) (line : List ℕ) (item : Result ParsedLine Error) → length line < 2 ^ 63
    → Answers item (answer dialect line) → CanCountColumns item
item_columns_fit dialect line (Ok parsed) short h =
    let room = line_room dialect line (line_read parsed) h in grind (arith, length-map)
item_columns_fit dialect line (Err e) short h = tt

-- `read_count` is the number of elements that are joined by commas
joined_counted : {A : Type 0} (one : List ℕ → Reading A)
    (no_longer : (text : List ℕ) (x : A) (rest : List ℕ) → one text ≡ reads x rest → length rest ≤ length text)
    (text : List ℕ) (xs : List A) (rest : List ℕ) → separated_list one text ≡ reads xs rest → read_count one text ≡ length xs
joined_counted one no_longer text xs rest h =
    let read = ((the_most_is_read one no_longer text xs rest).0 h).longest in
    let counted = count_is_of_the_most one no_longer text in
    omega (arith, counted.3, read.most counted.0 counted.1 counted.2.separated, counted.2.most xs rest read.separated)

-- the count of tags is the number of tags in the tag set
tags_counted : (text : List ℕ) (tags : Option (List (Pair Text Text))) (rest : List ℕ)
    → tag_set text ≡ Ok (record { value = tags; rest = rest })
    → count_after (byte comma text) (λ after. read_count tag after) ≡ length (some_tags tags)
tags_counted text tags rest e = grind (arith, tag_set_read, joined_counted tag (λ t. (tag_no_longer t).holds))

module _ (dialect : Dialect) (line : List ℕ) where
  -- a line that is light in some room is light in more room
  pub more_room : (p q more_tags more_fields : ℕ) → is_light_in p q dialect line ≡ true → p ≤ more_tags → q ≤ more_fields
      → is_light_in more_tags more_fields dialect line ≡ true
  unfolding is_light_in
  more_room p q more_tags more_fields light h k = grind (arith, and_parts, leb-true, le-leb)

  -- `tags_in` is the number of tags of the line
  tags_are : (l : Line) → answer dialect line ≡ Ok l → tags_in line ≡ length (some_tags l.tags)
  unfolding tags_in
  tags_are l h =
      let parts = answer_parts dialect line l h in
      rw parts.measurement (tags_counted parts.measurement_rest l.tags parts.tags_rest parts.tags)

  -- `fields_in` is the number of fields of the line
  fields_are : (l : Line) → answer dialect line ≡ Ok l → fields_in line ≡ length l.fields
  unfolding answer fields_in
  fields_are l h =
      let parts = answer_parts dialect line l h in
      grind (arith, fields_joined, joined_counted field (λ t. (field_no_longer t).holds))

  -- a light line that is read has no copy, and its tags and fields fit the room
  pub light_line : (p q : ℕ) (l : Line) → answer dialect line ≡ Ok l → is_light_in p q dialect line ≡ true
      → (length (some_tags l.tags) ≤ p) × (length l.fields ≤ q) × (is_single_line l ≡ true)
  unfolding is_light_in
  light_line p q l h light = grind (arith, and_parts, leb-true, tags_are, fields_are)

  -- the fault of a light line carries no text
  pub light_fault : (p q : ℕ) (fault : Fault) → answer dialect line ≡ Err fault → is_light_in p q dialect line ≡ true
      → carries_no_text fault ≡ true
  unfolding is_light_in
  light_fault p q fault h light = grind (arith, and_parts)

-- the item of the line that was given is the item of its piece
pub gave_item : (before : Left) (line : List ℕ) (item : Result ParsedLine Error) (others : List (List ℕ)) → GaveLine before line others
    → length line < 2 ^ 63 → Answers item (answer before.dialect line) → (is_light before.dialect line ≡ true → IsNotOutOfMemory item)
    → GaveItem before item others
gave_item before line item others g short answers light = grind (arith, item_has_tags, item_columns_fit)

-- a line that was filled is the item of the answer
pub filled_answers : {X : Type 0} (line : ParsedLine) (read : Result X Error) (answer : Result Line Fault)
    → FillsLine line read answer → Answers (item_in line read) answer
filled_answers line e answer filled = grind (arith)

-- the item is not `OutOfMemory` if the answer is not
pub item_is_no_refusal : {X : Type 0} (line : ParsedLine) (read : Result X Error) → IsNotOutOfMemory read
    → IsNotOutOfMemory (item_in line read)
item_is_no_refusal line e h = grind (arith)
