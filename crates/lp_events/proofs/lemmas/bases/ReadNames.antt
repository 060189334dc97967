-- The names of a line that was read.
use Rattle.std.proofs.Common.{◌≡◌, ◌∙◌, List, [], ◌∷◌, ℕ, Bool, Option, Result, Ok, Err, drop, ap, ap₂, sym}
use Rattle.lp_format.specs.format.{Dialect, Fault, Line, Pair, Read, Text, a_measurement, answer, byte, complete, field_set, field_set_missing}
use Rattle.lp_format.specs.format.{name, or_fault, reads, some_tags, space, spaces, tag_set, take_while1, timestamp}
use Rattle.lp_format.specs.format.Lines.{◌then◌}
use Rattle.lp_events.specs.code.OwnBases.{TellsBase, is_own_base}

-- a property that the next step gives is given by both steps
then_keeps : {A B : Type 0} (Are : B → Type 0) (r : Result (Read A) Fault) (next : Read A → Result B Fault)
    → ((x : Read A) (y : B) → next x ≡ Ok y → Are y) → (y : B) → (r then next) ≡ Ok y → Are y
then_keeps Are (Ok x) next keeps y is = keeps x y is
then_keeps Are (Err e) next keeps y is = absurd (cc)

-- a line that is complete is the line that was read
complete_is : (l : Line) (rest : List ℕ) (read : Line) → complete l rest ≡ Ok read → read ≡ l
complete_is l [] read is = cc
complete_is l (b ∷ rest) read is = absurd (cc)

module _ (line : List ℕ) {start rest : List ℕ} {m : Text} {set : Option (List (Pair Text Text))} (name_is : name a_measurement line ≡ reads m start)
    (set_is : tag_set start ≡ Ok (record { value = set; rest = rest })) where
  -- a line has these names
  abbrev HasNames : Line → Type 0
  HasNames read = (read.measurement ≡ m) × (read.tags ≡ set)

  -- a line that begins with these names has them, if it is read
  names_are : (dialect : Dialect) (read : Line) → answer dialect line ≡ Ok read → HasNames read
  unfolding answer
  names_are dialect read is =
      then_keeps HasNames (or_fault take_while1 (byte space rest)) _
      (λ gap. then_keeps HasNames (or_fault field_set_missing (field_set dialect (drop (spaces rest) rest))) _
      (λ fields. then_keeps HasNames (timestamp fields.rest) _ (λ time l end.
      let same = complete_is _ time.rest l end in
      (ap (λ l. l.measurement) same, ap (λ l. l.tags) same)))) read (rw (name_is, set_is) at is)

  -- the names of a line tell whether the text of its series is its base
  pub names_tell_base : (is_base : Bool) → is_base ≡ is_own_base m (some_tags set) → TellsBase line is_base
  names_tell_base is_base is = λ dialect read answered.
      let are = names_are dialect read answered in
      is ∙ sym (ap₂ (λ (m : Text) (set : Option (List (Pair Text Text))). is_own_base m (some_tags set)) are.0 are.1)
