-- What a sink of the parts of a line does, whatever a part is: it counts each, puts it at the next place, and its copies into a room.
use Rattle.std.specs.Prelude.{◌≡◌, ◌<◌, ◌+◌, ◌^◌, ℕ, List, [], ◌∷◌, Option, Some, None, Result, Ok, Err, drop, length, slice_set, take}
use Rattle.std.specs.List.{sum_by}
use Rattle.influxdb_line_protocol.specs.code.SpelledParts.{spelled_fault}
use Rattle.influxdb_line_protocol.specs.format.Lines as format
use Rattle.influxdb_line_protocol.specs.format.Readings.{Fault}
use Rattle.influxdb_line_protocol.specs.types.SpelledFault.{SpelledFault}
use Rattle.lp_offsets.specs.Rooms.{Grows, Shows, TakesRoom}

-- what is lent for a line, and what was counted of it: its text, what is kept of the measurement, the places of its parts, and the room, of
-- which so many bytes are in use
pub record Lent (N P : Type 0) : Type 0 where
  pub text : List ℕ
  pub name : N
  pub parts : List P
  pub room : List ℕ
  pub used : ℕ
  pub tags : ℕ
  pub fields : ℕ

-- the place of the next part
abbrev pub next_place : {N P : Type 0} → Lent N P → ℕ
next_place s = s.tags + s.fields

-- the text and the number of places stay, and the room grows
pub record Keeps {N P : Type 0} (old new : Lent N P) : Type 0 where
  pub text : new.text ≡ old.text
  pub size : length new.parts ≡ length old.parts
  pub grows : Grows old.room old.used new.room new.used

-- the measurement begins a line. It is shown by the text, the room, and the place in this from which its copy comes
pub record TellsName {N P B : Type 0} (shown : List ℕ → List ℕ → ℕ → N → B) (size : N → ℕ) (x : B) (old new : Lent N P) : Type 0 where
  pub tags : new.tags ≡ 0
  pub fields : new.fields ≡ 0
  pub shows : Shows (λ r. shown new.text r old.used new.name) new.room new.used x
  pub takes : TakesRoom new.room old.used new.used (size new.name)

-- a part that shows this is at the next place
pub record PutsPart {N P B : Type 0} (shown : List ℕ → List ℕ → ℕ → P → B) (size : P → ℕ) (x : B) (old new : Lent N P) : Type 0 where
  pub part : P
  pub put : new.parts ≡ slice_set old.parts (next_place old) part
  pub shows : Shows (λ r. shown new.text r old.used part) new.room new.used x
  pub takes : TakesRoom new.room old.used new.used (size part)

-- a part more is counted; it is put, if there is a place for it
pub record TellsPart {N P B : Type 0} (shown : List ℕ → List ℕ → ℕ → P → B) (size : P → ℕ) (count others : Lent N P → ℕ) (x : B)
    (old new : Lent N P) : Type 0 where
  pub counted : count old + 1 < 2 ^ 64 → count new ≡ count old + 1
  pub kept : others new ≡ others old
  pub name : new.name ≡ old.name
  pub puts : next_place old < length old.parts → PutsPart shown size x old new

-- the line ends: its parts and its measurement stay
pub record TellsEnd {N P : Type 0} (old new : Lent N P) : Type 0 where
  pub tags : new.tags ≡ old.tags
  pub fields : new.fields ≡ old.fields
  pub name : new.name ≡ old.name
  pub parts : new.parts ≡ old.parts
  pub used : new.used ≡ old.used

-- what parts show, the copies of each after those of the parts before it
abbrev pub all_shown : {P B : Type 0} → (ℕ → P → B) → (P → ℕ) → ℕ → List P → List B
all_shown shown size at [] = []
all_shown shown size at (part ∷ parts) = shown at part ∷ all_shown shown size (at + size part) parts

-- so much of a line is shown by each room that has the bytes in use, if all its texts had a place
pub record ShowsAll {N P B C D : Type 0} (name_shown : List ℕ → List ℕ → ℕ → N → B) (tag_shown : List ℕ → List ℕ → ℕ → P → C)
    (field_shown : List ℕ → List ℕ → ℕ → P → D) (name_size : N → ℕ) (size : P → ℕ) (measurement : B) (some_tags : List C)
    (some_fields : List D) (from : ℕ) (s : Lent N P) : Type 0 where
  pub name : Shows (λ r. name_shown s.text r from s.name) s.room s.used measurement
  pub tags : Shows (λ r. all_shown (tag_shown s.text r) size (from + name_size s.name) (take s.tags s.parts)) s.room s.used some_tags
  pub fields : Shows (λ r. all_shown (field_shown s.text r) size (from + name_size s.name + sum_by size (take s.tags s.parts))
      (take s.fields (drop s.tags s.parts))) s.room s.used some_fields
  pub takes : TakesRoom s.room from s.used (name_size s.name + sum_by size (take (s.tags + s.fields) s.parts))

-- what the format answers for a line was told: the line, of which this holds, or the fault that is kept
abbrev pub TellsAnswer : Result format.Line Fault → Option SpelledFault → (format.Line → Type 0) → Type 0
TellsAnswer (Ok read) None Told = Told read
TellsAnswer (Err fault) (Some kept) Told = spelled_fault kept ≡ fault
TellsAnswer answer kept Told = ⊥
