-- The place where reading a line stops, from the parts of the line that were read.
use Rattle.std.proofs.Common.{◌≡◌, ℕ, zero, suc, ◌+◌, ◌≤◌, ◌<◌, ℤ, List, [], ◌∷◌, ◌++◌, length, length-append, drop, refl, sym, arith, ◌==◌, ◌∙◌, ap, inl, inr}
use Rattle.std.proofs.Common.{◌⊎◌, false, Bor, Option, Ok, Some}
use Rattle.lp_format.specs.format.{comma, space, Dialect, Text, Reading, Value, miss, fatal, reads, name, a_measurement, Pair, after_comma, byte}
use Rattle.lp_format.specs.format.{field, separated_list, spaces, tag, tag_set, timestamp, without_comma}
use Rattle.lp_format.proofs.lemmas.meanings.{JoinedMeaning.the_most_is_read, ShorterRests.IsNoLonger, ShorterRests.field_no_longer, ShorterRests.tag_no_longer}
use Rattle.lp_values.proofs.lemmas.fields.ReadingLemmas.{bind_reads, byte_parts, reads_parts}
use Rattle.lp_events.specs.code.Events.{AreFields, AreMost, AreRead, reader_after}
use Rattle.lp_events.specs.code.Stops.{DoesNotRead, fields_stop, last_stop, late_tag_stop, most, reading_stop, series_stop}
use Rattle.lp_events.proofs.lemmas.fields.FrontLemmas.{set_fatal, set_malformed}
use Rattle.lp_events.proofs.lemmas.fields.ManyLemmas.{after_some, comma_cases, joined, read_fault, read_more}

module _ {A : Type 0} (one : List ℕ → Reading A) where
  -- no parts are the most where no part reads
  most_none : (n : ℕ) (rest : List ℕ) → DoesNotRead (one rest) → most one n rest ≡ record { value = []; rest = rest }
  most_none zero rest none = refl
  most_none (suc n) rest none = grind arith

  -- the parts before a part that does not read are the most
  pub most_is : (n : ℕ) (xs : List A) (text rest : List ℕ) → AreRead one one xs text rest → DoesNotRead (one rest) → length xs ≤ n
      → most one n text ≡ record { value = xs; rest = rest }
  most_is n [] text rest h none room = rw h (most_none n rest none)
  most_is zero (x ∷ xs) text rest h none room = absurd (omega arith)
  most_is (suc n) (x ∷ xs) text rest h none room = rw (h.1, most_is n xs h.0 rest h.2 none (omega arith)) refl

-- no part reads after the most parts
none_after : {A : Type 0} (first next : List ℕ → Reading A) (xs : List A) (text rest : List ℕ) → AreMost first next text xs rest
    → DoesNotRead (reader_after first next xs rest)
none_after {A} first next xs text rest h = by_reading (reader_after first next xs rest) refl
  where
    -- one more part would be there if it did read
    by_reading : (r : Reading A) → reader_after first next xs rest ≡ r → DoesNotRead r
    by_reading miss e = tt
    by_reading (fatal f) e = tt
    by_reading (reads x after) e =
        let more = h.most (xs ++ x ∷ []) after (read_more first next xs text rest after x h.are e) in
        absurd (omega (arith, more, length-append xs (x ∷ [])))

-- each part after a comma has at least one byte
parts_fit : {A : Type 0} (one : List ℕ → Reading A) → ((text : List ℕ) → IsNoLonger text (one text)) → (xs : List A) (text rest : List ℕ)
    → AreRead (after_comma one) (after_comma one) xs text rest → length xs + length rest ≤ length text
parts_fit one no_longer [] text rest h = omega (arith, ap length h)
parts_fit one no_longer (x ∷ xs) text rest h =
    let p = bind_reads (byte comma text) (λ after. one after.rest) x h.0 h.1 in
    let less = (no_longer p.mid).holds x h.0 p.next in
    omega (arith, ap length (byte_parts comma text p.first p.mid p.was).1, less, parts_fit one no_longer xs h.0 rest h.2)

-- the most parts after commas are found within the length of the text
all_most : {A : Type 0} (one : List ℕ → Reading A) → ((text : List ℕ) → IsNoLonger text (one text)) → (xs : List A) (text rest : List ℕ)
    → AreRead (after_comma one) (after_comma one) xs text rest → DoesNotRead (after_comma one rest)
    → most (after_comma one) (length text) text ≡ record { value = xs; rest = rest }
all_most one no_longer xs text rest h none =
    most_is (after_comma one) (length text) xs text rest h none (omega (arith, parts_fit one no_longer xs text rest h))

-- parts that are read leave one rest
one_rest : {A : Type 0} (first next : List ℕ → Reading A) (xs : List A) (text a b : List ℕ) → AreRead first next xs text a
    → AreRead first next xs text b → a ≡ b
one_rest first next [] text a b h k = sym h ∙ k
one_rest first next (x ∷ xs) text a b h k =
    let same : k.0 ≡ h.0 = (reads_parts x x k.0 h.0 (sym k.1 ∙ h.1)).1 in
    one_rest next next xs h.0 a b h.2 (rw same at k.2)

-- no tag reads after the most tags of a tag set
no_tag_after : (tags : List (Pair Text Text)) (start rest : List ℕ) → AreMost (after_comma tag) (after_comma tag) start tags rest
    → DoesNotRead (after_comma tag rest)
no_tag_after [] start rest h = none_after (after_comma tag) (after_comma tag) [] start rest h
no_tag_after (t ∷ tags) start rest h = none_after (after_comma tag) (after_comma tag) (t ∷ tags) start rest h

-- reading stops at a comma after the tags of a tag set if no tag reads after it
late_stop : (tags : List (Pair Text Text)) (set : Option (List (Pair Text Text))) (text rest place : List ℕ)
    → AreRead (after_comma tag) (after_comma tag) tags text rest → DoesNotRead (after_comma tag rest)
    → tag_set text ≡ Ok (record { value = set; rest = rest }) → byte comma rest ≡ reads comma place
    → (late_tag_stop (length tags) rest place).1 ≡ rest
late_stop tags set text rest place are none ok mark = by_tag (tag place) refl tags are
  where
    -- a tag that misses after a comma comes after other tags, and none is fatal
    by_tag : (r : Reading (Pair Text Text)) → tag place ≡ r → (tags : List (Pair Text Text))
        → AreRead (after_comma tag) (after_comma tag) tags text rest → (late_tag_stop (length tags) rest place).1 ≡ rest
    by_tag miss e [] are = let bad = (set_malformed text place (rw are mark) e).0 in absurd (cc)
    by_tag miss e (t ∷ tags) are = let some : (length (t ∷ tags) == 0) ≡ false = grind arith in rw (e, some) refl
    by_tag (fatal f) e tags are = let bad = set_fatal tags text rest f are (rw mark e) in absurd (cc)
    by_tag (reads x after) e tags are = absurd (rw (mark, e) at none)

-- the measurement of a line was read, and then the most tags
module _ (dialect : Dialect) (line : List ℕ) {start rest : List ℕ} {m : Text} {tags : List (Pair Text Text)}
    (read : name a_measurement line ≡ reads m start) (tags_are : AreMost (after_comma tag) (after_comma tag) start tags rest) where
  -- the place where reading stops depends on the rest after the tags
  series_is : reading_stop dialect line ≡ series_stop dialect (record { value = tags; rest = rest })
  series_is = rw (read, all_most tag tag_no_longer tags start rest tags_are.are (no_tag_after tags start rest tags_are)) refl

  -- reading stops after the tags if no space comes there
  pub names_stop : {set : Option (List (Pair Text Text))} → tag_set start ≡ Ok (record { value = set; rest = rest }) → byte space rest ≡ miss
      → rest ≡ (reading_stop dialect line).1
  names_stop {set} ok bare = rw series_is (by_comma (comma_cases rest))
    where
      -- reading stops after the tags whether a comma comes there or not
      by_comma : (byte comma rest ≡ miss) ⊎ ((place : List ℕ) × (byte comma rest ≡ reads comma place))
          → rest ≡ (series_stop dialect (record { value = tags; rest = rest })).1
      by_comma (inl no_comma) = rw (no_comma, bare) refl
      by_comma (inr (place, mark)) =
          rw mark (sym (late_stop tags set start rest place tags_are.are (no_tag_after tags start rest tags_are) ok mark))

  -- the place where reading stops depends on the fields if a space comes after the tags
  fields_next : (gap : List ℕ) → byte space rest ≡ reads space gap → reading_stop dialect line ≡ fields_stop dialect (drop (spaces rest) rest)
  fields_next gap is_gap =
      let none : byte comma rest ≡ miss = rw (byte_parts space rest space gap is_gap).1 refl in
      series_is ∙ rw (none, is_gap) refl

-- the most fields were read, and then a timestamp: reading stops after the timestamp
module _ (dialect : Dialect) (text left end : List ℕ) (time : Option ℤ) (after : List ℕ)
    (is_time : timestamp left ≡ Ok (record { value = time; rest = after })) where
  -- reading stops after the timestamp, by the last field
  last_is : (fields : List (Pair Text (Value Text))) → separated_list field text ≡ reads fields end → AreRead field (after_comma field) fields text end
      → 0 < length fields → left ≡ without_comma dialect fields end → after ≡ (last_stop dialect fields end).1
  last_is fields list are some is_left = by_comma (comma_cases end)
    where
      -- reading stops after the timestamp whether a comma comes after the fields or not
      by_comma : (byte comma end ≡ miss) ⊎ ((place : List ℕ) × (byte comma end ≡ reads comma place)) → after ≡ (last_stop dialect fields end).1
      by_comma (inl none) = rw (none, ← is_left, is_time) refl
      by_comma (inr (place, mark)) = by_field (field place) refl
        where
          -- reading stops after the timestamp, because no field after the comma is fatal
          by_field : (r : Reading (Pair Text (Value Text))) → field place ≡ r → after ≡ (last_stop dialect fields end).1
          by_field miss e = rw (mark, e, ← is_left, is_time) refl
          by_field (reads x more) e = rw (mark, e, ← is_left, is_time) refl
          by_field (fatal f) e =
              let next : reader_after field (after_comma field) fields end ≡ fatal f = rw (after_some field (after_comma field) fields some, mark) e in
              let bad = (read_fault field field_no_longer fields text end f are next).given in
              absurd (cc)

  -- reading stops after the timestamp, from the fields on
  fields_end : (fields : List (Pair Text (Value Text))) → separated_list field text ≡ reads fields end
      → AreMost field (after_comma field) text fields end → left ≡ without_comma dialect fields end → after ≡ (fields_stop dialect text).1
  fields_end [] list h is_left =
      let some = ((the_most_is_read field (λ t. (field_no_longer t).holds) text [] end).0 list).some in absurd (omega (arith, some))
  fields_end (f ∷ fields) list h is_left =
      let others = all_most field field_no_longer fields h.are.0 end h.are.2 (none_after field (after_comma field) (f ∷ fields) text end h) in
      rw (h.are.1, others) (last_is (f ∷ fields) list h.are (omega arith) is_left)

-- reading a line stops after the timestamp if the most fields were read after the tags
pub trailing_stop : (dialect : Dialect) (line : List ℕ) {start rest gap text : List ℕ} {m : Text} {tags : List (Pair Text Text)}
    → name a_measurement line ≡ reads m start → AreMost (after_comma tag) (after_comma tag) start tags rest
    → byte space rest ≡ reads space gap → text ≡ drop (spaces rest) rest → (left : Bor (List ℕ)) (fields : List (Pair Text (Value Text)))
    → AreFields (Ok (Some left)) dialect text fields → (time : Option ℤ) (after : List ℕ)
    → timestamp left.now ≡ Ok (record { value = time; rest = after }) → after ≡ (reading_stop dialect line).1
trailing_stop dialect line {start} {rest} {gap} {text} read tags_are is_gap text_is left fields told time after is_time =
    let p = bind_reads (separated_list field text) (λ fs. reads fs.value (without_comma dialect fs.value fs.rest)) fields left.now told.0 in
    let parts = reads_parts p.first fields (without_comma dialect p.first p.mid) left.now p.next in
    let list : separated_list field text ≡ reads fields p.mid = rw parts.0 at p.was in
    let all = (the_most_is_read field (λ t. (field_no_longer t).holds) text fields p.mid).0 list in
    let are = (joined field field_no_longer fields text p.mid).1 all.longest.separated in
    let same : p.mid ≡ told.1 = one_rest field (after_comma field) fields text p.mid told.1 are told.2.are in
    let is_left : left.now ≡ without_comma dialect fields p.mid = rw parts.0 at (sym parts.1) in
    rw (fields_next dialect line read tags_are gap is_gap, ← text_is)
    (fields_end dialect text left.now told.1 time after is_time fields (rw same at list) told.2 (rw same at is_left))
