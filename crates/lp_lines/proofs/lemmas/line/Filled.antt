-- Lines that the events of their text fill, and the answers after filling them.
use Rattle.std.proofs.Common.{◌≡◌, ℕ, ◌+◌, ◌<◌, ◌≤◌, List, [], ◌∷◌, ◌++◌, length, length-append, map, take, Bool, true, false, refl, sym}
use Rattle.std.proofs.Common.{ap, ◌∙◌, arith, append_assoc, ◌⊎◌, Result, Ok, Err, ◌≢◌, Option, Some, None, IfSome, append-nil, option_map}
use Rattle.std.specs.List.{list_all}
use Rattle.std.proofs.lemmas.{Bool.cases_Bool, Bool.and_parts, List.length-map}
use Rattle.smallvec.specs.SmallVec.{SmallVec}
use Rattle.lp_format.specs.code.Light.{is_single_field, is_single_line, is_single_tag, carries_no_text, is_light_in}
use Rattle.lp_format.specs.format.{Line, some_tags, answer, Pair, Fault, Text, Dialect}
use Rattle.lp_values.specs.declared.{error.Error.Error, error.Error.TheVariants.OutOfMemory, escaped.EscapedStr.EscapedStr}
use Rattle.lp_values.specs.declared.{spelled.SpelledFault.SpelledFault, values.FieldValue.FieldValue}
use Rattle.lp_values.specs.code.SpelledParts.{spelled_fault}
use Rattle.lp_events.specs.code.Events.{AreEventsOf, Event, TakesAll, end_of_line, events_of_line, named, tagged, valued}
use Rattle.lp_lines.specs.declared.{filling.Filling.Filling, parsed.ParsedLine.ParsedLine}
use Rattle.lp_lines.specs.code.Filling.{FilledLine, FillsAnswer, FillsBy, HasRead, KeepsRooms, beside_fields, beside_tags, fields_so_far}
use Rattle.lp_lines.specs.code.Filling.{tags_so_far}
use Rattle.lp_lines.specs.code.{Lookups.tag_room, Lookups.some_items, Parsed.line_read, Parsed.tag_of, Parsed.tags_of}
use Rattle.lp_lines.proofs.lemmas.line.AnsweredLines.{light_fault, light_line, HasSome, line_some_tags}

-- a sink that takes some events and others takes the first events and then the others
pub takes_parted : {S : Type 0} (takes : S → Event → S → Type 0) (before after : S) (events others : List Event)
    → TakesAll takes before (events ++ others) after
    → (mid : S) × TakesAll takes before events mid × TakesAll takes mid others after
takes_parted takes before after [] others told = (before, refl, told)
takes_parted takes before after (event ∷ events) others (next, first, more) =
    let parted = takes_parted takes next after events others more in (parted.0, (next, first, parted.1), parted.2)

-- the rooms of a line do not shrink by any events
pub rooms_kept : (old new : Filling) (events : List Event) → TakesAll FillsBy old events new → KeepsRooms old.line.now new.line.now
rooms_kept old new [] same = rw same (record { set = omega arith; tags = omega arith; fields = omega arith })
rooms_kept old new (event ∷ events) (mid, first, more) = grind (arith, rooms_kept mid new events more)

-- the line stays the same line by any events
pub same_line : (old new : Filling) (events : List Event) → TakesAll FillsBy old events new → new.line.ghost_name ≡ old.line.ghost_name
same_line old new [] same = rw same refl
same_line old new (event ∷ events) (mid, first, more) = same_line mid new events more ∙ first.same

-- parts of one kind were put into a line; memory is refused only if a part is a copy or there is no room for it
record FilledBy {A X : Type 0} (set : Filling → List A) (room : ParsedLine → ℕ) (is_single : A → Bool) (others : Filling → X)
    (old : Filling) (xs : List A) (new : Filling) : Type 0 where
  pub fault : new.fault ≡ old.fault
  pub puts : new.refused ≡ false → (old.refused ≡ false) × (set new ≡ set old ++ xs) × (others new ≡ others old)
  pub fits : old.refused ≡ false → list_all is_single xs ≡ true → length (set old) + length xs ≤ room old.line.now → new.refused ≡ false

module _ {A X : Type 0} (event : A → Event) (set : Filling → List A) (room : ParsedLine → ℕ) (is_single : A → Bool) (others : Filling → X)
    (grows : (old new : Filling) (x : A) → FillsBy old (event x) new → room old.line.now ≤ room new.line.now)
    (keeps : (old new : Filling) (x : A) → FillsBy old (event x) new → new.fault ≡ old.fault)
    (puts : (old new : Filling) (x : A) → FillsBy old (event x) new → new.refused ≡ false
    → (old.refused ≡ false) × (set new ≡ set old ++ x ∷ []) × (others new ≡ others old))
    (needs : (old new : Filling) (x : A) → FillsBy old (event x) new → new.refused ≡ true
    → (old.refused ≡ true) ⊎ ((is_single x ≡ false) ⊎ (room old.line.now ≤ length (set old)))) where
  -- memory is not refused for a part that is no copy, if there is room
  one_fits : (old new : Filling) (x : A) → FillsBy old (event x) new → old.refused ≡ false → is_single x ≡ true
      → length (set old) < room old.line.now → new.refused ≡ false
  one_fits old new x by taken single less = grind (arith, cases_Bool)

  -- parts of one kind that were told were put into the line
  filled_by : (old new : Filling) (xs : List A) → TakesAll FillsBy old (map event xs) new → FilledBy set room is_single others old xs new
  filled_by old new [] same = grind (arith, append-nil)
  filled_by old new (x ∷ xs) (mid, first, more) = grind (arith, filled_by mid new xs more, keeps, puts, grows, one_fits, append_assoc, length-append, and_parts)

module _ (old : Filling) (l : Line) (begun told_tags told_fields new : Filling) (first : FillsBy old (named l.measurement) begun)
    (tags_told : TakesAll FillsBy begun (map tagged (some_tags l.tags)) told_tags)
    (fields_told : TakesAll FillsBy told_tags (map valued l.fields) told_fields)
    (last : FillsBy told_fields (end_of_line l) new) (not_refused : old.refused ≡ false)
    (no_tags : tags_so_far old ≡ []) (no_fields : fields_so_far old ≡ []) where
  -- the tags that were told were put into the line
  tags : FilledBy tags_so_far (λ line. tag_room line.series.tag_set) is_single_tag beside_tags begun (some_tags l.tags) told_tags
  tags = filled_by tagged tags_so_far (λ line. tag_room line.series.tag_set) is_single_tag beside_tags
      (λ old new x by. by.rooms.tags) (λ old new x by. by.fault) (λ old new x by taken. let put = by.puts taken in (put.0, put.1.0, put.1.1)) (λ old new x by refused. by.needs refused)
      begun told_tags (some_tags l.tags) tags_told

  -- the fields that were told were put into the line
  fields : FilledBy fields_so_far (λ line. line.field_set.capacity) is_single_field beside_fields told_tags l.fields told_fields
  fields = filled_by valued fields_so_far (λ line. line.field_set.capacity) is_single_field beside_fields
      (λ old new x by. by.rooms.fields) (λ old new x by. by.fault) (λ old new x by taken. let put = by.puts taken in (put.0, put.1.0, put.1.1)) (λ old new x by refused. by.needs refused)
      told_tags told_fields l.fields fields_told

  -- memory is not refused for the end of a line
  end_fits : told_fields.refused ≡ false → new.refused ≡ false
  end_fits taken = grind (arith, cases_Bool)

  -- memory is not refused for a line without a copy, if there is room for its tags and fields
  line_fits : is_single_line l ≡ true → length (some_tags l.tags) ≤ tag_room old.line.now.series.tag_set → length l.fields ≤ old.line.now.field_set.capacity
      → new.refused ≡ false
  line_fits single few_tags few_fields = grind (arith, and_parts, tags, fields, rooms_kept, end_fits, cases_Bool)

  -- the line that was filled has the parts of the line that was read
  filled_read : new.refused ≡ false → HasRead new l
  filled_read taken = grind (arith, fields, tags)

  -- the parts and the end of a line fill it
  filled_parts : FilledLine old l new
  filled_parts = grind (arith, fields, tags, filled_read, line_fits)

-- the events of a line fill it
pub filled_line : (old new : Filling) (l : Line) → TakesAll FillsBy old (events_of_line l) new → old.refused ≡ false
    → tags_so_far old ≡ [] → fields_so_far old ≡ [] → FilledLine old l new
filled_line old new l (begun, first, told) not_refused no_tags no_fields =
    let parted = takes_parted FillsBy begun new (map tagged (some_tags l.tags) ++ map valued l.fields) (end_of_line l ∷ []) told in
    let front = takes_parted FillsBy begun parted.0 (map tagged (some_tags l.tags)) (map valued l.fields) parted.1 in
    filled_parts old l begun front.0 parted.0 new first front.1 front.2 (rw parted.2.2 at parted.2.1) not_refused no_tags no_fields

-- the events of an answer fill the line, or give its fault
pub filled_answer : (old new : Filling) (line : List ℕ) (events : List Event) (answer : Result Line Fault) → AreEventsOf line events answer
    → TakesAll FillsBy old events new → old.refused ≡ false → tags_so_far old ≡ [] → fields_so_far old ≡ []
    → FillsAnswer old answer new
filled_answer old new line events fault is told not_refused no_tags no_fields = grind (arith, filled_line, takes_parted)

-- the tag set of the code is the tag set of the line, if neither is an empty set
same_tags : (tags : Option (List (Pair Text Text))) (set : Option (SmallVec (EscapedStr × EscapedStr))) → HasSome tags
    → IfSome set (λ s. 0 < length s.items) → map tag_of (some_items set) ≡ some_tags tags → option_map tags_of set ≡ tags
same_tags tags set some kept same = grind (arith, length-map)

-- the line that is filled, with these sets in place of its own
abbrev pub filled_line_of : Filling → Option (SmallVec (EscapedStr × EscapedStr)) → SmallVec (EscapedStr × FieldValue) → ParsedLine
filled_line_of filling set fields =
    record {
      series = record { raw_input = filling.line.now.series.raw_input; measurement = filling.line.now.series.measurement; tag_set = set };
      field_set = fields;
      timestamp = filling.line.now.timestamp;
    }

-- a line with the parts that were read, with the tags and fields that were told, and with a tag set if it has tags, is the line that was read
pub is_line : (dialect : Dialect) (text : List ℕ) (l : Line) (filling : Filling) (set : Option (SmallVec (EscapedStr × EscapedStr)))
    (fields : SmallVec (EscapedStr × FieldValue)) → answer dialect text ≡ Ok l → HasRead filling l
    → some_items set ≡ take filling.tag_count (some_items filling.line.now.series.tag_set)
    → fields.items ≡ take filling.field_count filling.line.now.field_set.items → IfSome set (λ s. 0 < length s.items)
    → line_read (filled_line_of filling set fields) ≡ l
is_line dialect text l filling set fields answered read kept kept_fields some =
    let tags = same_tags l.tags set (line_some_tags dialect text l answered) some (ap (map tag_of) kept ∙ read.tags) in
    grind (arith, read)

module _ (old new : Filling) (none : old.fault ≡ None) where
  -- a fault that was kept is the fault of the answer
  fault_is : (answer : Result Line Fault) (fault : SpelledFault) → FillsAnswer old answer new → new.fault ≡ Some fault
      → answer ≡ Err (spelled_fault fault)
  fault_is f fault filled some = grind (arith)

  -- the answer is a line if no fault was kept
  line_is : (answer : Result Line Fault) → FillsAnswer old answer new → ((fault : SpelledFault) → new.fault ≡ Some fault → ⊥)
      → (l : Line) × (answer ≡ Ok l) × FilledLine old l new
  line_is f filled without = grind (arith)

  module _ (dialect : Dialect) (text : List ℕ) (filled : FillsAnswer old (answer dialect text) new) where
    -- the error that is made of the fault of a light line is not `OutOfMemory`
    pub fault_is_light : (p q : ℕ) (fault : SpelledFault) (e : Error) → new.fault ≡ Some fault
        → (carries_no_text (spelled_fault fault) ≡ true → e ≢ OutOfMemory) → is_light_in p q dialect text ≡ true → e ≢ OutOfMemory
    fault_is_light p q fault e some made light = grind (arith, light_fault, fault_is)

    -- memory is not refused for a light line
    pub light_is_not_refused : ((fault : SpelledFault) → new.fault ≡ Some fault → ⊥) → new.refused ≡ true
        → is_light_in (tag_room old.line.now.series.tag_set) old.line.now.field_set.capacity dialect text ≡ true → ⊥
    light_is_not_refused without refused light = grind (arith, line_is, light_line)

    -- the line that is filled is the line of the answer
    pub line_answers : (set : Option (SmallVec (EscapedStr × EscapedStr))) (fields : SmallVec (EscapedStr × FieldValue))
        → ((fault : SpelledFault) → new.fault ≡ Some fault → ⊥) → new.refused ≡ false
        → some_items set ≡ take new.tag_count (some_items new.line.now.series.tag_set)
        → fields.items ≡ take new.field_count new.line.now.field_set.items → IfSome set (λ s. 0 < length s.items)
        → answer dialect text ≡ Ok (line_read (filled_line_of new set fields))
    line_answers set fields without taken kept kept_fields some =
        let read = line_is (answer dialect text) filled without in
        read.1 ∙ ap Ok (sym (is_line dialect text read.0 new set fields read.1 (read.2.read taken) kept kept_fields some))

-- rules for a line after its events were told
pub ruleset filled_steps = (same_line, rooms_kept, filled_answer)

-- rules that no memory is refused for a light line
pub ruleset fill_steps = (fault_is_light, light_is_not_refused)
