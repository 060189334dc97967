-- Copies that are at the front of the room go to the views that wait for them.
use Rattle.std.proofs.Common.{◌≡◌, ◌∙◌, ℕ, ◌+◌, ◌-◌, ◌^◌, ◌<◌, ◌≤◌, List, [], ◌∷◌, length, map, take, drop, refl, sym, ap, ap₂}
use Rattle.std.proofs.Common.{arith, false, true, inl, inr, length-drop}
use Rattle.std.specs.Prelude.{if◌then◌else◌, None, Some, Result, Ok, Err, min}
use Rattle.std.specs.List.{sum_by}
use Rattle.std.proofs.lemmas.Bool.{cases_Bool}
use Rattle.std.proofs.lemmas.List.{drop-drop, drop-map, drop-take, length-map, length-take, take-map, take-take, take_all}
use Rattle.std.proofs.lemmas.List.Sums.{sum_by-cons}
use Rattle.influxdb_line_protocol.specs.format.Lines as format
use Rattle.influxdb_line_protocol.specs.format.Readings.{Fault, Text}
use Rattle.lp_c.specs.Crossing.{AnswersItem, ShowsLine, copied_text, field_shown, tag_shown, text_shown}
use Rattle.lp_c.specs.Telling.{PutsCopy, Told, filled_line, filled_own, filled_parts, filled_view, own_parts, part_len, view_filled, view_len, waits_for}
use Rattle.lp_offsets.proofs.RoomLemmas.{grows_on, shows_on}
use Rattle.lp_offsets.specs.Rooms.{Grows, Shows, TakesRoom}
use Rattle.lp_offsets.specs.declared.enums.Answer.{Answer}
use Rattle.lp_c.specs.declared.views.Line.{Line}
use Rattle.lp_c.specs.declared.views.Part.{Part}
use Rattle.lp_c.specs.declared.views.View.{View}

-- nothing is put into an empty text
none_put : (text room : List ℕ) → length text ≡ 0 → take (length text) room ≡ text
none_put [] room none = refl
none_put (b ∷ text) room none = absurd (omega (arith, none))

-- a view that waits for nothing is as it was
empty_view : (room : List ℕ) (view : View) → view_len view ≡ 0 → filled_view room view ≡ view
empty_view room view none =
    let same : (if view.copied then take (length view.text.now) room else view.text.now) ≡ view.text.now =
    elim (cases_Bool view.copied) [
      | inl is ↦ rw is (none_put view.text.now room (rw is at none))
      | inr other ↦ rw other refl
    ] in
    ap (λ (b : List ℕ). record view { text = record view.text { now = b } }) same

-- so are parts
filled_none : (room : List ℕ) (parts : List Part) → sum_by part_len parts ≡ 0 → filled_parts room parts ≡ parts
filled_none room [] none = refl
filled_none room (p ∷ parts) none =
    let all = sum_by-cons part_len p parts in
    let make : View → View → Part = λ key text. record p { key = key; text = text } in
    ap₂ (λ (q : Part) (qs : List Part). q ∷ qs)
    (ap₂ make (empty_view room p.key (omega (arith, all, none))) (empty_view (drop (view_len p.key) room) p.text (omega (arith, all, none))))
    (filled_none (drop (part_len p) room) parts (omega (arith, all, none)))

module _ {A : Type 0} (f : Part → A) (t n : ℕ) (parts full : List Part) (same : map f (take (t + n) parts) ≡ map f full) where
  -- the first parts show the same
  front_same : map f (take t parts) ≡ map f (take t full)
  front_same =
      ap (map f) (sym (take-take t (t + n) parts (omega arith)))
      ∙ (sym (take-map f t (take (t + n) parts)) ∙ (ap (take t) same ∙ take-map f t full))

  -- so do those after them
  back_same : map f (take n (drop t parts)) ≡ map f (take n (drop t full))
  back_same =
      let few : length (drop t full) ≤ n =
      omega (arith, ap length same, length-map (take (t + n) parts) f, length-map full f, length-take (t + n) parts, length-drop t full) in
      ap (map f) (sym (drop-take t n parts))
      ∙ (sym (drop-map f t (take (t + n) parts))
      ∙ (ap (drop t) same ∙ (drop-map f t full ∙ ap (map f) (sym (take_all n (drop t full) few)))))

-- a line and parts that show what they were to show with their copies show the line
pub shows_filled : (read : format.Line) (old new : Line) (room : List ℕ) (full parts : List Part)
    → new ≡ record old { measurement = new.measurement }
    → text_shown new.measurement ≡ text_shown (filled_view room old.measurement)
    → map tag_shown (own_parts old parts) ≡ map tag_shown full → map field_shown (own_parts old parts) ≡ map field_shown full
    → ShowsLine read (filled_line room old) full → ShowsLine read new parts
shows_filled read old new room full parts is measurement tags fields shows = record {
  series = ap (λ line. line.series.now) is ∙ shows.series;
  measurement = measurement ∙ shows.measurement;
  has_tag_set = ap (λ line. line.has_tag_set) is ∙ shows.has_tag_set;
  tags = ap (λ line. map tag_shown (take line.tags parts)) is
      ∙ (front_same tag_shown old.tags old.fields parts full tags ∙ shows.tags);
  fields = ap (λ line. map field_shown (take line.fields (drop line.tags parts))) is
      ∙ (back_same field_shown old.tags old.fields parts full fields ∙ shows.fields);
  timestamp = ap (λ line. if line.has_timestamp then Some line.timestamp else None) is ∙ shows.timestamp;
  no_timestamp = λ none. ap (λ line. line.timestamp) is ∙ shows.no_timestamp (sym (ap (λ line. line.has_timestamp) is) ∙ none);
  series_is_base = ap (λ line. line.series_is_base) is ∙ shows.series_is_base;
  fault = ap (λ line. line.fault) is ∙ shows.fault;
  side = ap (λ line. line.side) is ∙ shows.side;
}

-- a line that waits for nothing shows the line
pub shows_plain : (read : format.Line) (line : Line) (room : List ℕ) (parts : List Part) → waits_for line parts ≡ 0
    → ShowsLine read (filled_line room line) (filled_own room line parts) → ShowsLine read line parts
shows_plain read line room parts none shows =
    let same : filled_own room line parts ≡ own_parts line parts =
    filled_none (drop (view_len line.measurement) room) (own_parts line parts) (omega (arith, none)) in
    shows_filled read line line room (filled_own room line parts) parts refl
    (ap text_shown (sym (empty_view room line.measurement (omega (arith, none))))) (ap (map tag_shown) (sym same)) (ap (map field_shown) (sym same)) shows

-- a line that was told without a copy is answered
pub plain_answers : (read : Result format.Line Fault) (line : Line) (parts : List Part) (room : List ℕ) (lent : ℕ)
    → Told read None line parts room → line.tags + line.fields ≤ length parts → line.copied_len ≡ 0
    → AnswersItem (Some read) lent Answer.Line line parts
plain_answers (Ok read) line parts room lent told fits none =
    let waits = told.waits fits (omega (arith, none)) in
    (told.counts, shows_plain read line room parts (waits.takes ∙ none) waits.shows)
plain_answers (Err fault) line parts room lent told fits none = absurd told

-- a view that is no copy waits for nothing
pub puts_none : (view : View) (room : List ℕ) (len : ℕ) → view.copied ≡ false → len < 2 ^ 64
    → PutsCopy view_filled view_len 0 (text_shown view) room len view room len
puts_none view room len plain small =
    let nothing : view_len view ≡ 0 = rw plain refl in
    record {
      grows = record { size = refl; more = omega arith; kept = refl };
      counted = omega (arith, small);
      shows = λ enough r same. ap text_shown (empty_view (drop len r) view nothing);
      takes = λ enough. omega (arith, nothing);
    }

-- a view with the length of a copy waits for it
pub puts_view : (text : Text) (view : View) (old new : List ℕ) (len all : ℕ) → text.is_single ≡ false → view.copied ≡ true
    → length view.text.now ≡ length text.bytes → Grows old len new all → all ≡ min (len + length text.bytes) (2 ^ 64 - 1)
    → Shows (λ r. take (length text.bytes) (drop len r)) new all text.bytes → TakesRoom new len all (length text.bytes)
    → PutsCopy view_filled view_len (copied_text text) text old len view new all
puts_view text view old new len all copy marked size grows counted shows takes =
    let copy_of : List ℕ → Text = λ bytes. record { bytes = bytes; is_single = false } in
    record {
      grows = grows;
      counted = rw copy counted;
      shows = λ enough r same. rw (copy, marked) (ap copy_of (ap (λ n. take n (drop len r)) size ∙ shows enough r same));
      takes = λ enough. rw marked (omega (arith, takes enough, size));
    }

-- the copies of a part are those of its key and then of its text
pub puts_part : {B : Type 0} (filled : List ℕ → ℕ → Part → B) (make : Text → Text → B) (part : Part) (old mid new : List ℕ)
    (len m all a b : ℕ) (key text : Text)
    → ((r : List ℕ) → filled r len part ≡ make (text_shown (filled_view (drop len r) part.key))
    (text_shown (filled_view (drop (view_len part.key) (drop len r)) part.text)))
    → PutsCopy view_filled view_len a key old len part.key mid m → PutsCopy view_filled view_len b text mid m part.text new all
    → PutsCopy filled part_len (a + b) (make key text) old len part new all
puts_part filled make part old mid new len m all a b key text is first next =
    let then_fits : all ≤ length new → m ≤ length mid = λ enough. omega (arith, enough, next.grows.more, next.grows.size) in
    record {
      grows = grows_on _ _ _ _ _ _ first.grows next.grows;
      counted = omega (arith, first.counted, next.counted);
      shows = λ enough r same.
          let after : drop (view_len part.key) (drop len r) ≡ drop m r =
          drop-drop (view_len part.key) len r ∙ ap (λ n. drop n r) (sym (first.takes (then_fits enough))) in
          is r ∙ ap₂ make (shows_on (λ r. view_filled r len part.key) _ _ _ _ _ next.grows first.shows enough r same)
          (ap (λ r. text_shown (filled_view r part.text)) after ∙ next.shows enough r same);
      takes = λ enough. omega (arith, first.takes (then_fits enough), next.takes enough);
    }
