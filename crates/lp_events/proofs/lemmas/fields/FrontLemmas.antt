-- The longest front of the parts of a line, from the parts that were read.
use Rattle.std.proofs.Common.{◌≡◌, ℕ, ◌≤◌, ◌<◌, List, [], ◌∷◌, length, length-append, drop, refl, sym, ◌∙◌}
use Rattle.std.proofs.Common.{arith, ◌==◌, true, inl, inr, Option, Some, None, Ok, Err, Result, Bor}
use Rattle.std.proofs.lemmas.List.{length-map}
use Rattle.lp_format.specs.format.{comma, some_tags, space, Dialect, Fault, Text, Reading, miss, fatal, reads, name, a_measurement, Pair, Value, after_comma}
use Rattle.lp_format.specs.format.{byte, field, separated_list, spaces, tag, tag_set, tag_set_malformed}
use Rattle.lp_format.proofs.lemmas.meanings.{JoinedMeaning.the_most_is_read, ShorterRests.tag_no_longer}
use Rattle.lp_values.proofs.lemmas.fields.ReadingLemmas.{bind_reads, byte_parts, reads_parts}
use Rattle.lp_values.specs.declared.spelled.SpelledFault.{SpelledFault}
use Rattle.lp_events.specs.code.Events.{AreAtStart, AreBeforeFault, AreFields, AreTags, AreFrontEvents, AreLongestFront, AreMost, AreRead}
use Rattle.lp_events.specs.code.Events.{Event, after_spaces, front_events}
use Rattle.lp_events.specs.code.Stops.{DoesNotRead}
use Rattle.lp_events.proofs.lemmas.fields.ManyLemmas.{comma_cases, none_most, read_all, read_fault}

-- a text that begins with a comma does not begin with a space
pub comma_no_space : (text place : List ℕ) → byte comma text ≡ reads comma place → byte space text ≡ miss
comma_no_space text place mark = rw (byte_parts comma text comma place mark).1 refl

-- no tag comes after a comma in a text that begins with a space
space_no_tag : (text gap : List ℕ) → byte space text ≡ reads space gap → after_comma tag text ≡ miss
space_no_tag text gap s = rw (byte_parts space text space gap s).1 refl

-- a text begins with a comma if the tag after a comma is fatal
pub fatal_comma : (rest : List ℕ) (fault : Fault) → after_comma tag rest ≡ fatal fault → (place : List ℕ) × (byte comma rest ≡ reads comma place)
fatal_comma rest fault is = grind (arith, comma_cases)

module _ {A : Type 0} (first one next : List ℕ → Reading A) (text place : List ℕ) (same : first text ≡ one place) where
  -- no more parts are at the start of a text than at the place where its first part is
  no_more : (xs : List A) (rest : List ℕ) → AreMost one next place xs rest → (others : List A) (after : List ℕ)
      → AreRead first next others text after → length others ≤ length xs
  no_more xs rest h [] after k = omega arith
  no_more xs rest h (y ∷ ys) after k = h.most (y ∷ ys) after (k.0, rw same at k.1, k.2)

  -- the most parts at the place of the first part are, if there are some, the most at the start of the text, with the same rest
  most_from : (xs : List A) (rest : List ℕ) → 0 < length xs → AreMost one next place xs rest → AreMost first next text xs rest
  most_from [] rest some h = absurd (omega arith)
  most_from (x ∷ xs) rest some h = record { are = (h.are.0, rw same h.are.1, h.are.2); most = no_more (x ∷ xs) rest h }

  -- the most parts at the place of the first part are the most at the start of the text, also if there are none
  most_at : (xs : List A) (rest : List ℕ) → AreMost one next place xs rest → (end : List ℕ) × AreMost first next text xs end
  most_at [] rest h = (text, record { are = refl; most = no_more [] rest h })
  most_at (x ∷ xs) rest h = (rest, most_from (x ∷ xs) rest (omega arith) h)

-- the most tags that are joined by commas, after a comma, are the most tags after commas
pub tags_after : (text place : List ℕ) (tags : List (Pair Text Text)) (rest : List ℕ) → byte comma text ≡ reads comma place
    → 0 < length tags → AreMost tag (after_comma tag) place tags rest → AreMost (after_comma tag) (after_comma tag) text tags rest
tags_after text place tags rest mark some h = most_from (after_comma tag) tag (after_comma tag) text place (rw mark refl) tags rest some h

-- the rest after no tags is the whole text
pub none_read : (tags : List (Pair Text Text)) (text rest : List ℕ) → (length tags == 0) ≡ true → AreRead (after_comma tag) (after_comma tag) tags text rest
    → text ≡ rest
none_read [] text rest none h = h
none_read (t ∷ tags) text rest none h = absurd (grind arith)

-- one or more tags after commas are, after the first comma, tags that are joined by commas
after_first : (t : Pair Text Text) (tags : List (Pair Text Text)) (text rest : List ℕ) → AreRead (after_comma tag) (after_comma tag) (t ∷ tags) text rest
    → (place : List ℕ) × (byte comma text ≡ reads comma place) × AreRead tag (after_comma tag) (t ∷ tags) place rest
after_first t tags text rest h =
    let p = bind_reads (byte comma text) (λ after. tag after.rest) t h.0 h.1 in
    (p.mid, grind (arith, byte_parts), (h.0, p.next, h.2))

-- a tag that is fatal after other tags is the fault of their tag set
pub set_fatal : (tags : List (Pair Text Text)) (text rest : List ℕ) (e : Fault) → AreRead (after_comma tag) (after_comma tag) tags text rest
    → after_comma tag rest ≡ fatal e → tag_set text ≡ Err e
set_fatal [] text rest e h is = grind (arith, comma_cases)
set_fatal (t ∷ tags) text rest e h is =
    let first = after_first t tags text rest h in
    rw (first.1, (read_fault tag tag_no_longer (t ∷ tags) first.0 rest e first.2 is).given) refl

-- tags after which no tag follows are all tags of the set, if no comma follows where there are no tags
pub set_all : (tags : List (Pair Text Text)) (text rest : List ℕ) → AreRead (after_comma tag) (after_comma tag) tags text rest
    → after_comma tag rest ≡ miss → ((length tags == 0) ≡ true → byte comma rest ≡ miss)
    → (set : Option (List (Pair Text Text))) × (tag_set text ≡ Ok (record { value = set; rest = rest })) × (some_tags set ≡ tags)
set_all [] text rest h is bare = (None, rw (h, bare refl) refl, refl)
set_all (t ∷ tags) text rest h is bare =
    let first = after_first t tags text rest h in
    (Some (t ∷ tags), rw (first.1, (read_all tag tag_no_longer (t ∷ tags) first.0 rest (omega arith) first.2 is).0) refl, refl)

-- the tags that the code told after a comma are the tags of the tag set
pub set_told : (text place : List ℕ) (tags : List (Pair Text Text)) (rest : Bor (List ℕ)) → byte comma text ≡ reads comma place
    → separated_list tag place ≡ reads tags rest.now → AreMost tag (after_comma tag) place tags rest.now → AreTags (Ok rest) text tags
set_told text place tags rest mark read most =
    let some = ((the_most_is_read tag (λ t. (tag_no_longer t).holds) place tags rest.now).0 read).some in
    (Some tags, rw (mark, read) refl, refl, tags_after text place tags rest.now mark some most)

-- the fields that the code told are the most
pub fields_told : (result : Result (Option (Bor (List ℕ))) SpelledFault) (dialect : Dialect) (text : List ℕ)
    (fields : List (Pair Text (Value Text))) → AreFields result dialect text fields
    → (end : List ℕ) × AreMost field (after_comma field) text fields end
fields_told (Ok None) dialect text fields h = rw h.1 (text, none_most field (after_comma field) text (rw h.0 (tt {0})))
fields_told (Ok (Some rest)) dialect text fields h = (h.1, h.2)
fields_told (Err fault) dialect text fields h = (h.rest, h.most)

-- the fault of a tag is the fault of the tag set: the most tags were read before it, and no space comes after them
pub set_fault : (text place : List ℕ) (tags : List (Pair Text Text)) (e : Fault) → byte comma text ≡ reads comma place
    → AreBeforeFault tag place tags e
    → (tag_set text ≡ Err e) × (rest : List ℕ) × AreMost (after_comma tag) (after_comma tag) text tags rest × (byte space rest ≡ miss)
set_fault text place [] e mark h = (
  rw (mark, h.given) refl,
  text,
  none_most (after_comma tag) (after_comma tag) text (rw (mark, h.most.are, h.next) (tt {0})),
  comma_no_space text place mark,
)
set_fault text place (x ∷ xs) e mark h =
    let next = fatal_comma h.rest e h.next in
    (rw (mark, h.given) refl, h.rest, tags_after text place (x ∷ xs) h.rest mark (omega arith) h.most, comma_no_space h.rest next.0 next.1)

-- a comma without a tag after it is malformed: no tags are read, and no space comes after them
pub set_malformed : (text place : List ℕ) → byte comma text ≡ reads comma place → tag place ≡ miss
    → (tag_set text ≡ Err tag_set_malformed) × (rest : List ℕ) × AreMost (after_comma tag) (after_comma tag) text [] rest
    × (byte space rest ≡ miss)
set_malformed text place mark none =
    (rw (mark, none) refl, text, none_most (after_comma tag) (after_comma tag) text (rw (mark, none) (tt {0})), comma_no_space text place mark)

-- of two fronts of tags, a space comes only after the longer one
after_longer : (xs ys : List (Pair Text Text)) (text a b gap : List ℕ) → AreRead (after_comma tag) (after_comma tag) xs text a
    → AreRead (after_comma tag) (after_comma tag) ys text b → length ys ≤ length xs → byte space b ≡ reads space gap → b ≡ a
after_longer [] [] text a b gap h k fewer s = sym k ∙ h
after_longer [] (y ∷ ys) text a b gap h k fewer s = absurd (omega arith)
after_longer (x ∷ xs) [] text a b gap h k fewer s = let none = space_no_tag b gap s in absurd (cc)
after_longer (x ∷ xs) (y ∷ ys) text a b gap h k fewer s = grind (arith, after_longer xs ys h.0 a b gap h.2)

-- the longest front of a line is empty if its measurement does not read
pub front_none : (line : List ℕ) → DoesNotRead (name a_measurement line) → AreLongestFront line []
front_none line none = record { front = inl refl; longest = λ others are. grind (arith) }

-- a field after spaces comes after a space
space_there : (text : List ℕ) (x : Pair Text (Value Text)) (rest : List ℕ) → after_spaces field text ≡ reads x rest
    → (gap : List ℕ) × (byte space text ≡ reads space gap)
space_there text x rest e = grind (arith, bind_reads, byte_parts)

-- a front with fewer tags has no more fields
few_fields : (tags others : List (Pair Text Text)) (fields these : List (Pair Text (Value Text))) (start rest end after last : List ℕ)
    → AreRead (after_comma tag) (after_comma tag) tags start rest → AreRead (after_comma tag) (after_comma tag) others start after
    → length others ≤ length tags → AreMost (after_spaces field) (after_comma field) rest fields end
    → AreRead (after_spaces field) (after_comma field) these after last → length these ≤ length fields
few_fields tags others fields [] start rest end after last h k fewer most are = omega arith
few_fields tags others fields (f ∷ these) start rest end after last h k fewer most are =
    let there = space_there after f are.0 are.1 in
    most.most (f ∷ these) last (rw (after_longer tags others start rest after there.0 h k fewer there.1) at are)

module _ {line : List ℕ} {m : Text} {start : List ℕ} (read : name a_measurement line ≡ reads m start) {tags : List (Pair Text Text)}
    {rest : List ℕ} (most : AreMost (after_comma tag) (after_comma tag) start tags rest) where
  -- the most tags, and after them the most fields, are the longest front
  front_longest : (fields : List (Pair Text (Value Text))) (end : List ℕ) → AreMost (after_spaces field) (after_comma field) rest fields end
      → AreLongestFront line (front_events m tags fields)
  front_longest fields end last = record { front = inr (m, tags, fields, at_start, refl); longest = longest }
    where
      -- the measurement, the tags and the fields are at the start of the line
      at_start : AreAtStart line m tags fields
      at_start = record { after_name = start; after_tags = rest; rest = end; named = read; tags_are = most.are; fields_are = last.are }

      -- no front of the events has more events
      longest : (others : List Event) → AreFrontEvents line others → length others ≤ length (front_events m tags fields)
      longest others (inl is) = rw is (omega arith)
      longest others (inr (n, ts, fs, at, is)) =
          let same : at.after_name ≡ start = (reads_parts n m at.after_name start (sym at.named ∙ read)).1 in
          let ts_are : AreRead (after_comma tag) (after_comma tag) ts start at.after_tags = rw same at at.tags_are in
          let fewer = most.most ts at.after_tags ts_are in
          let few = few_fields tags ts fields fs start rest end at.after_tags at.rest most.are ts_are fewer last at.fields_are in
          rw is (grind (arith, length-append, length-map, fewer, few))

  -- the tags are the last parts of the longest front if no space comes after them
  pub front_names : byte space rest ≡ miss → AreLongestFront line (front_events m tags [])
  front_names none = front_longest [] rest (none_most (after_spaces field) (after_comma field) rest (rw none (tt {0})))

  -- the most fields after the spaces are the last parts of the longest front
  pub front_fields : (gap end : List ℕ) (fields : List (Pair Text (Value Text))) → byte space rest ≡ reads space gap
      → AreMost field (after_comma field) (drop (spaces rest) rest) fields end → AreLongestFront line (front_events m tags fields)
  front_fields gap end fields s h =
      let there = most_at (after_spaces field) field (after_comma field) rest (drop (spaces rest) rest) (rw s refl) fields end h in
      front_longest fields there.0 there.1

  -- the tags are the last parts of the longest front if no field reads after the spaces
  pub front_gap : (gap : List ℕ) → byte space rest ≡ reads space gap → DoesNotRead (field (drop (spaces rest) rest))
      → AreLongestFront line (front_events m tags [])
  front_gap gap s none = front_fields gap _ [] s (none_most field (after_comma field) (drop (spaces rest) rest) none)
