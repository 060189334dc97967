-- A line that is told is counted, and shown if parts and room suffice: of each sink that does with events what `Sinks` says.
use Rattle.std.proofs.Common.{◌≡◌, ◌∙◌, ℕ, ◌+◌, ◌^◌, ◌<◌, ◌≤◌, List, [], ◌∷◌, ◌++◌, length, map, take, drop}
use Rattle.std.proofs.Common.{Option, Some, None, Result, Ok, Err, refl, sym, ap, ap₂, arith, append_assoc, append-nil, option_map}
use Rattle.std.specs.Prelude.{slice_set}
use Rattle.std.specs.List.{sum_by}
use Rattle.std.proofs.lemmas.List.{drop-take, drop_at, length-take-le, take-take, take_at, take_more_set}
use Rattle.std.proofs.lemmas.List.Sums.{sum_by-append, sum_by-cons}
use Rattle.influxdb_line_protocol.specs.code.Events.{AreEventsOf, Event, TakesAll, end_of_line, events_of_line, failed, named, tagged, valued}
use Rattle.influxdb_line_protocol.specs.code.SpelledParts.{spelled_fault}
use Rattle.influxdb_line_protocol.specs.format.Dialects.{Dialect}
use Rattle.influxdb_line_protocol.specs.format.Lines as format
use Rattle.influxdb_line_protocol.specs.format.Lines.{answer, some_tags}
use Rattle.influxdb_line_protocol.specs.format.Points.{Pair}
use Rattle.influxdb_line_protocol.specs.format.Readings.{Fault, Text}
use Rattle.influxdb_line_protocol.specs.format.Values.{Value}
use Rattle.influxdb_line_protocol.specs.types.SpelledFault.{SpelledFault}
use Rattle.lp_lines.proofs.lemmas.line.AnsweredLines.{line_room}
use Rattle.lp_lines.proofs.lemmas.line.Filled.{takes_parted}
use Rattle.lp_lines.specs.code.Filling.{KeepsFault}
use Rattle.lp_offsets.specs.Rooms.{Shows, TakesRoom}
use Rattle.lp_offsets.specs.Sinks.{Keeps, Lent, ShowsAll, TellsAnswer, TellsEnd, TellsName, TellsPart, all_shown, next_place}
use Rattle.lp_offsets.proofs.RoomLemmas.{grows_on, shows_on}

-- what each event keeps, all events keep
pub all_keep : {S K : Type 0} (takes : S → Event → S → Type 0) (part : S → K)
    → ((old new : S) (event : Event) → takes old event new → part new ≡ part old)
    → (old new : S) (events : List Event) → TakesAll takes old events new → part new ≡ part old
all_keep takes part one old new [] same = ap part (sym same)
all_keep takes part one old new (event ∷ events) (mid, first, more) =
    all_keep takes part one mid new events more ∙ one old mid event first

-- two stretches that are all of the first parts
parted : {P : Type 0} (t f : ℕ) (ps a b : List P) → take (t + f) ps ≡ a ++ b → length a ≡ t
    → (take t ps ≡ a) × (take f (drop t ps) ≡ b)
parted t f ps a b are len = (
  sym (take-take t (t + f) ps (omega arith)) ∙ (ap (take t) are ∙ take_at a b t len),
  sym (drop-take t f ps) ∙ (ap (drop t) are ∙ drop_at a b t len),
)

-- the first part is put before the others
first_put : {P : Type 0} (old mid new : List P) (here there n len : ℕ) (parts : List P) (part : P)
    → here < length old → there ≡ here + 1 → n ≡ there + len → mid ≡ slice_set old here part
    → take (there + len) new ≡ take there mid ++ parts → take n new ≡ take here old ++ part ∷ parts
first_put old mid new here there n len parts part within moved to put later =
    let one : take there mid ≡ take here old ++ part ∷ [] = rw (moved, put) (take_more_set old here part within) in
    ap (λ k. take k new) to ∙ (later ∙ (ap (λ l. l ++ parts) one ∙ append_assoc (take here old) (part ∷ []) parts))

-- parts of one kind were told
record ToldParts {N P A B : Type 0} (shown : List ℕ → List ℕ → ℕ → P → B) (size : P → ℕ) (wanted : A → B) (count others : Lent N P → ℕ)
    (xs : List A) (old new : Lent N P) : Type 0 where
  pub counted : count new ≡ count old + length xs
  pub kept : others new ≡ others old
  pub name : new.name ≡ old.name
  pub puts : next_place old + length xs ≤ length old.parts
      → (parts : List P) × (take (next_place old + length xs) new.parts ≡ take (next_place old) old.parts ++ parts)
      × Shows (λ r. all_shown (shown new.text r) size old.used parts) new.room new.used (map wanted xs)
      × TakesRoom new.room old.used new.used (sum_by size parts)

module _ {N P A B : Type 0} (shown : List ℕ → List ℕ → ℕ → P → B) (size : P → ℕ) (wanted : A → B) (count others : Lent N P → ℕ)
    (placed : (s : Lent N P) → next_place s ≡ count s + others s) where
  -- a part and then others were told
  told_first : (old mid new : Lent N P) (x : A) (xs : List A) → count old + length (x ∷ xs) < 2 ^ 64
      → TellsPart shown size count others (wanted x) old mid → Keeps old mid → Keeps mid new
      → ToldParts shown size wanted count others xs mid new → ToldParts shown size wanted count others (x ∷ xs) old new
  told_first old mid new x xs fits one first memory next =
      let once = one.counted (omega (arith, fits)) in
      let moved : next_place mid ≡ next_place old + 1 = omega (arith, placed old, placed mid, once, one.kept) in
      record {
        counted = omega (arith, once, next.counted);
        kept = next.kept ∙ one.kept;
        name = next.name ∙ one.name;
        puts = λ room.
            let here : next_place old < length old.parts = omega (arith, room) in
            let put = one.puts here in
            let later = next.puts (omega (arith, room, moved, first.size)) in
            let enough_then : new.used ≤ length new.room → mid.used ≤ length mid.room =
            λ enough. omega (arith, enough, memory.grows.more, memory.grows.size) in (
              put.part ∷ later.0,
              first_put old.parts mid.parts new.parts (next_place old) (next_place mid) (next_place old + length (x ∷ xs))
                  (length xs) later.0 put.part here moved (omega (arith, moved)) put.put later.1,
              λ enough r same.
                  ap₂ (λ (y : B) (ys : List B). y ∷ ys)
                  (ap (λ t. shown t r old.used put.part) memory.text
                  ∙ shows_on (λ r. shown mid.text r old.used put.part) _ _ _ _ _ memory.grows put.shows enough r same)
                  (ap (λ n. all_shown (shown new.text r) size n later.0) (sym (put.takes (enough_then enough))) ∙ later.2 enough r same),
              λ enough. omega (arith, put.takes (enough_then enough), later.3 enough, sum_by-cons size put.part later.0),
            );
      }

  -- no part was told
  told_none : (s : Lent N P) → ToldParts shown size wanted count others [] s s
  told_none s = record {
    counted = omega arith;
    kept = refl;
    name = refl;
    puts = λ room. (
      [],
      ap (λ k. take k s.parts) (omega arith) ∙ sym (append-nil (take (next_place s) s.parts)),
      λ enough r same. refl,
      λ enough. omega arith,
    );
  }

-- what a sink does with each event: it is lent this, and keeps this fault
pub record Sink {S N P B C D : Type 0} (takes : S → Event → S → Type 0) (lent : S → Lent N P) (fault : S → Option SpelledFault)
    (name_shown : List ℕ → List ℕ → ℕ → N → B) (tag_shown : List ℕ → List ℕ → ℕ → P → C) (field_shown : List ℕ → List ℕ → ℕ → P → D)
    (name_size : N → ℕ) (size : P → ℕ) (name_of : Text → B) (tag_of : Pair Text Text → C) (field_of : Pair Text (Value Text) → D) : Type 0 where
  pub keeps : (old new : S) (event : Event) → takes old event new → Keeps (lent old) (lent new)
  pub faults : (old new : S) (event : Event) → takes old event new → KeepsFault (fault old) event (fault new)
  pub names : (old new : S) (name : Text) → takes old (named name) new → TellsName name_shown name_size (name_of name) (lent old) (lent new)
  pub tags : (old new : S) (tag : Pair Text Text) → takes old (tagged tag) new
      → TellsPart tag_shown size (λ s. s.tags) (λ s. s.fields) (tag_of tag) (lent old) (lent new)
  pub fields : (old new : S) (field : Pair Text (Value Text)) → takes old (valued field) new
      → TellsPart field_shown size (λ s. s.fields) (λ s. s.tags) (field_of field) (lent old) (lent new)
  pub ends : (old new : S) (l : format.Line) → takes old (end_of_line l) new → TellsEnd (lent old) (lent new)

module _ {S N P B C D : Type 0} (takes : S → Event → S → Type 0) (lent : S → Lent N P) (fault : S → Option SpelledFault)
    (name_shown : List ℕ → List ℕ → ℕ → N → B) (tag_shown : List ℕ → List ℕ → ℕ → P → C) (field_shown : List ℕ → List ℕ → ℕ → P → D)
    (name_size : N → ℕ) (size : P → ℕ) (name_of : Text → B) (tag_of : Pair Text Text → C) (field_of : Pair Text (Value Text) → D)
    (sink : Sink takes lent fault name_shown tag_shown field_shown name_size size name_of tag_of field_of) where
  -- all events keep what one keeps
  pub keep_all : (old new : S) (events : List Event) → TakesAll takes old events new → Keeps (lent old) (lent new)
  keep_all old new [] same =
      rw same (record { text = refl; size = refl; grows = record { size = refl; more = omega arith; kept = refl } })
  keep_all old new (event ∷ events) (mid, first, more) =
      let one = sink.keeps old mid event first in
      let later = keep_all mid new events more in
      record {
        text = later.text ∙ one.text;
        size = later.size ∙ one.size;
        grows = grows_on _ _ _ _ _ _ one.grows later.grows;
      }

  -- parts that are told one after another are counted, and put if there are places for all
  told_parts : {A E : Type 0} (event : A → Event) (shown : List ℕ → List ℕ → ℕ → P → E) (wanted : A → E) (count others : Lent N P → ℕ)
      → ((s : Lent N P) → next_place s ≡ count s + others s)
      → ((old new : S) (x : A) → takes old (event x) new → TellsPart shown size count others (wanted x) (lent old) (lent new))
      → ((old new : S) (x : A) → takes old (event x) new → fault new ≡ fault old)
      → (old new : S) (xs : List A) → count (lent old) + length xs < 2 ^ 64 → TakesAll takes old (map event xs) new
      → (fault new ≡ fault old) × ToldParts shown size wanted count others xs (lent old) (lent new)
  told_parts event shown wanted count others placed does kept old new [] fits same =
      rw (← same) (refl, told_none shown size wanted count others placed (lent old))
  told_parts event shown wanted count others placed does kept old new (x ∷ xs) fits (mid, first, more) =
      let one = does old mid x first in
      let next = told_parts event shown wanted count others placed does kept mid new xs
      (omega (arith, one.counted (omega (arith, fits)), fits)) more in (
        next.0 ∙ kept old mid x first,
        told_first shown size wanted count others placed (lent old) (lent mid) (lent new) x xs fits one (sink.keeps old mid (event x) first)
            (keep_all mid new (map event xs) more) next.1,
      )

  module _ (l : format.Line) (from : ℕ) (begun told_tags told_fields new : Lent N P) (first_tags : begun.tags ≡ 0) (first_fields : begun.fields ≡ 0)
      (name_shows : Shows (λ r. name_shown begun.text r from begun.name) begun.room begun.used (name_of l.measurement))
      (name_takes : TakesRoom begun.room from begun.used (name_size begun.name))
      (tags_keep : Keeps begun told_tags) (fields_keep : Keeps told_tags told_fields) (end_keeps : Keeps told_fields new)
      (tags : ToldParts tag_shown size tag_of (λ s. s.tags) (λ s. s.fields) (some_tags l.tags) begun told_tags)
      (fields : ToldParts field_shown size field_of (λ s. s.fields) (λ s. s.tags) l.fields told_tags told_fields)
      (last : TellsEnd told_fields new) where
    -- how many tags are counted
    tags_are : new.tags ≡ length (some_tags l.tags)
    tags_are = last.tags ∙ (fields.kept ∙ omega (arith, tags.counted, first_tags))

    -- how many fields are counted
    fields_are : new.fields ≡ length l.fields
    fields_are = last.fields ∙ omega (arith, fields.counted, tags.kept, first_fields)

    -- the line is shown, if there are places for its parts
    shows_all : new.tags + new.fields ≤ length new.parts → ShowsAll name_shown tag_shown field_shown name_size size (name_of l.measurement)
        (map tag_of (some_tags l.tags)) (map field_of l.fields) from new
    shows_all room =
        let t_len = length (some_tags l.tags) in
        let begins : next_place begun ≡ 0 = omega (arith, first_tags, first_fields) in
        let goes_on : next_place told_tags ≡ t_len = omega (arith, tags.counted, tags.kept, first_tags, first_fields) in
        let t = tags.puts (omega (arith, room, begins, tags_are, tags_keep.size, fields_keep.size, end_keeps.size)) in
        let f = fields.puts (omega (arith, room, goes_on, tags_are, fields_are, fields_keep.size, end_keeps.size)) in
        let t_is : take t_len told_tags.parts ≡ t.0 =
        ap (λ n. take n told_tags.parts) (omega (arith, begins)) ∙ (t.1 ∙ ap (λ n. take n begun.parts ++ t.0) begins) in
        let t_size : length t.0 ≡ t_len =
        sym (ap length t_is) ∙ length-take-le t_len told_tags.parts (omega (arith, room, tags_are, fields_keep.size, end_keeps.size)) in
        let own : take (new.tags + new.fields) new.parts ≡ t.0 ++ f.0 =
        ap (λ n. take n new.parts) (omega (arith, tags_are, fields_are, goes_on))
        ∙ (ap (take (next_place told_tags + length l.fields)) last.parts
        ∙ (f.1 ∙ ap (λ ps. ps ++ f.0) (ap (λ n. take n told_tags.parts) goes_on ∙ t_is))) in
        let both = parted new.tags new.fields new.parts t.0 f.0 own (t_size ∙ sym tags_are) in
        let later = grows_on _ _ _ _ _ _ fields_keep.grows end_keeps.grows in
        let texts : new.text ≡ told_tags.text = end_keeps.text ∙ fields_keep.text in
        let names : new.name ≡ begun.name = last.name ∙ (fields.name ∙ tags.name) in
        let fields_fit : new.used ≤ length new.room → told_fields.used ≤ length told_fields.room =
        λ enough. omega (arith, enough, end_keeps.grows.more, end_keeps.grows.size) in
        let tags_fit : new.used ≤ length new.room → told_tags.used ≤ length told_tags.room =
        λ enough. omega (arith, fields_fit enough, fields_keep.grows.more, fields_keep.grows.size) in
        let name_end : new.used ≤ length new.room → begun.used ≡ from + name_size new.name =
        λ enough.
        name_takes (omega (arith, tags_fit enough, tags_keep.grows.more, tags_keep.grows.size))
        ∙ ap (λ name. from + name_size name) (sym names) in
        let tags_end : new.used ≤ length new.room → told_tags.used ≡ from + name_size new.name + sum_by size (take new.tags new.parts) =
        λ enough. omega (arith, t.3 (tags_fit enough), name_end enough, ap (sum_by size) both.0) in
        record {
          name = λ enough r same.
              ap₂ (λ t name. name_shown t r from name) (texts ∙ tags_keep.text) names
              ∙ shows_on (λ r. name_shown begun.text r from begun.name) _ _ _ _ _ (grows_on _ _ _ _ _ _ tags_keep.grows later) name_shows enough r same;
          tags = λ enough r same.
              ap₂ (λ n ps. all_shown (tag_shown new.text r) size n ps) (sym (name_end enough)) both.0
              ∙ (ap (λ text. all_shown (tag_shown text r) size begun.used t.0) texts
              ∙ shows_on (λ r. all_shown (tag_shown told_tags.text r) size begun.used t.0) _ _ _ _ _ later t.2 enough r same);
          fields = λ enough r same.
              ap₂ (λ n ps. all_shown (field_shown new.text r) size n ps) (sym (tags_end enough)) both.1
              ∙ (ap (λ text. all_shown (field_shown text r) size told_tags.used f.0) end_keeps.text
              ∙ shows_on (λ r. all_shown (field_shown told_fields.text r) size told_tags.used f.0) _ _ _ _ _ end_keeps.grows f.2 enough r same);
          takes = λ enough.
              let of_parts : sum_by size (take (new.tags + new.fields) new.parts) ≡ sum_by size t.0 + sum_by size f.0 =
              ap (sum_by size) own ∙ sum_by-append size t.0 f.0 in
              omega (arith, last.used, f.3 (fields_fit enough), t.3 (tags_fit enough), name_end enough, of_parts);
        }

  -- what the events of a line told, from so many bytes in use on, and the sink before the last one
  pub record ToldEvents (l : format.Line) (old new : S) : Type 0 where
    pub same_fault : fault new ≡ fault old
    pub tags : (lent new).tags ≡ length (some_tags l.tags)
    pub fields : (lent new).fields ≡ length l.fields
    pub shows : (lent new).tags + (lent new).fields ≤ length (lent new).parts
        → ShowsAll name_shown tag_shown field_shown name_size size (name_of l.measurement) (map tag_of (some_tags l.tags)) (map field_of l.fields)
        (lent old).used (lent new)
    pub before : S
    pub text : (lent before).text ≡ (lent old).text
    pub last : takes before (end_of_line l) new

  -- the events of a line tell it
  events_told : (dialect : Dialect) (text : List ℕ) (l : format.Line) (old new : S) → length text < 2 ^ 63 → answer dialect text ≡ Ok l
      → TakesAll takes old (events_of_line l) new → ToldEvents l old new
  events_told dialect text l old new short is (begun, first, told) =
      let few = line_room dialect text l is in
      let name = sink.names old begun l.measurement first in
      let apart = takes_parted takes begun new (map tagged (some_tags l.tags) ++ map valued l.fields) (end_of_line l ∷ []) told in
      let front = takes_parted takes begun apart.0 (map tagged (some_tags l.tags)) (map valued l.fields) apart.1 in
      let last : takes apart.0 (end_of_line l) new = rw apart.2.2 at apart.2.1 in
      let tags = told_parts tagged tag_shown tag_of (λ s. s.tags) (λ s. s.fields) (λ s. refl) sink.tags
      (λ old new x one. sink.faults old new (tagged x) one) begun front.0 (some_tags l.tags) (omega (arith, few, short, name.tags)) front.1 in
      let fields = told_parts valued field_shown field_of (λ s. s.fields) (λ s. s.tags) (λ s. omega arith) sink.fields
      (λ old new x one. sink.faults old new (valued x) one) front.0 apart.0 l.fields
      (omega (arith, few, short, tags.1.kept, name.fields)) front.2 in
      let tags_keep = keep_all begun front.0 (map tagged (some_tags l.tags)) front.1 in
      let fields_keep = keep_all front.0 apart.0 (map valued l.fields) front.2 in
      let end_keeps = sink.keeps apart.0 new (end_of_line l) last in
      let ends = sink.ends apart.0 new l last in
      record {
        same_fault = sink.faults apart.0 new (end_of_line l) last
            ∙ (fields.0 ∙ (tags.0 ∙ sink.faults old begun (named l.measurement) first));
        tags = tags_are l (lent old).used (lent begun) (lent front.0) (lent apart.0) (lent new) name.tags name.fields name.shows name.takes
            tags_keep fields_keep end_keeps tags.1 fields.1 ends;
        fields = fields_are l (lent old).used (lent begun) (lent front.0) (lent apart.0) (lent new) name.tags name.fields name.shows name.takes
            tags_keep fields_keep end_keeps tags.1 fields.1 ends;
        shows = shows_all l (lent old).used (lent begun) (lent front.0) (lent apart.0) (lent new) name.tags name.fields name.shows name.takes
            tags_keep fields_keep end_keeps tags.1 fields.1 ends;
        before = apart.0;
        text = fields_keep.text ∙ (tags_keep.text ∙ (sink.keeps old begun (named l.measurement) first).text);
        last = last;
      }

  -- what the format answers for a line was told: of a line this holds, if its events told it
  pub answer_told : (dialect : Dialect) (text : List ℕ) (old new : S) (events : List Event) (Told : format.Line → Type 0) → length text < 2 ^ 63
      → fault old ≡ None → AreEventsOf text events (answer dialect text) → TakesAll takes old events new
      → ((l : format.Line) → answer dialect text ≡ Ok l → TakesAll takes old (events_of_line l) new → ToldEvents l old new → Told l)
      → TellsAnswer (answer dialect text) (fault new) Told
  answer_told dialect text old new events Told short none are told tells = go (answer dialect text) refl are
    where
      -- of a fault the last event is kept
      kept_fault : (kept : Option SpelledFault) (fault : Fault) → option_map spelled_fault kept ≡ Some fault
          → TellsAnswer (Err fault) kept Told
      kept_fault None fault is = absurd (cc)
      kept_fault (Some kept) fault is = cc

      -- by what is answered
      go : (read : Result format.Line Fault) → answer dialect text ≡ read → AreEventsOf text events read → TellsAnswer read (fault new) Told
      go (Ok l) is are =
          let all : TakesAll takes old (events_of_line l) new = rw are at told in
          let line = events_told dialect text l old new short is all in
          let no_fault : fault new ≡ None = line.same_fault ∙ none in
          rw no_fault (tells l is all line)
      go (Err found) is (front, parts, are) =
          let apart = takes_parted takes old new front (failed found ∷ []) (rw are at told) in
          let last : takes apart.0 (failed found) new = rw apart.2.2 at apart.2.1 in
          kept_fault (fault new) found (sink.faults apart.0 new (failed found) last)

-- the events of parts of one kind have the bytes of these parts
parts_len : {A : Type 0} (event_len : Event → ℕ) (event : A → Event) (len : A → ℕ) → ((x : A) → event_len (event x) ≡ len x) → (xs : List A)
    → sum_by event_len (map event xs) ≡ sum_by len xs
parts_len event_len event len same [] = refl
parts_len event_len event len same (x ∷ xs) = omega (
  arith,
  sum_by-cons event_len (event x) (map event xs),
  sum_by-cons len x xs,
  same x,
  parts_len event_len event len same xs,
)

-- the events of a line have the bytes of its texts
pub line_len : (event_len : Event → ℕ) (tag_len : Pair Text Text → ℕ) (field_len : Pair Text (Value Text) → ℕ)
    → ((tag : Pair Text Text) → event_len (tagged tag) ≡ tag_len tag)
    → ((field : Pair Text (Value Text)) → event_len (valued field) ≡ field_len field) → (l : format.Line)
    → sum_by event_len (events_of_line l)
    ≡ event_len (named l.measurement) + (sum_by tag_len (some_tags l.tags) + sum_by field_len l.fields) + event_len (end_of_line l)
line_len event_len tag_len field_len of_tag of_field l =
    let tags = map tagged (some_tags l.tags) in
    let fields = map valued l.fields in
    let last = end_of_line l ∷ [] in
    omega (
      arith,
      sum_by-cons event_len (named l.measurement) ((tags ++ fields) ++ last),
      sum_by-append event_len (tags ++ fields) last,
      sum_by-append event_len tags fields,
      parts_len event_len tagged tag_len of_tag (some_tags l.tags),
      parts_len event_len valued field_len of_field l.fields,
    )
