-- Lines whose rows surely break no clause but those about their time, their tags and their length.
use Rattle.std.proofs.Common.{zero, suc, ◌≡◌, ◌∙◌, ℕ, ◌+◌, ◌-◌, ◌<◌, ◌≤◌, ◌==◌, List, [], ◌∷◌, ◌++◌, length, map, take, drop, Option, Some, None}
use Rattle.std.proofs.Common.{Bor, IfSome, Bool, true, false, codes, refl, sym, ap, subst, arith, append_assoc, inl, inr, get_or, IsUtf8}
use Rattle.std.specs.Prelude.{if◌then◌else◌}
use Rattle.std.specs.List.{AllByRecursion, list_any}
use Rattle.std.proofs.lemmas.Bool.{and_parts, cases_Bool, eqb-true, le-ltb}
use Rattle.std.proofs.lemmas.List.{drop_at, drop-take, drop_more, length-drop, length-map, length-take-le, take_at, take-take}
use Rattle.lp_format.specs.format.{IsValue, Pair, Strict, Text, Value, answer, boolean, float, integer, is_one_of, logical_field, logical_tag, logical_value, some_tags, string, trimmed, unsigned}
use Rattle.lp_written.proofs.lemmas.points.LinesArePoints.{lines_are_points}
use Rattle.lp_portable.specs.declared.limits.Limits as portable
use Rattle.lp_portable.specs.code.Sure.{IsLineNoted, SureField, SureTag, begins_own, counted, is_sure_key, is_sure_value}
use Rattle.lp_portable.specs.format.Portable.{has_repeats}
use Rattle.lp_events.specs.code.OwnBases.{is_strictly_sorted}
use Rattle.lp_portable.proofs.{Repeats.risen_once, ShortFloats.short_is_sure}
use Rattle.lp_offsets.specs.Numbers.{kind_number}
use Rattle.lp_offsets.proofs.PlacedLemmas.{piece_fits}
use Rattle.lp_offsets.specs.OffsetBlocks.{IsPieceIn, IsPlaced, OffsetRows, ShowsItem, ShowsRow, piece_in, timestamp_in}
use Rattle.lp_offsets.specs.OffsetBlocks.{blank, fault, line, more, no_text, none}
use Rattle.lp_offsets.specs.Offsets.{bytes_at, field_at, is_stray, key_at, tag_at, text_at, value_at, with_key}
use Rattle.lp_c.specs.SureRows.{AreSureParts, IsShownRow, IsSureRow, ShowsStrictly, SurePart, SureValue, key_in, lies_in}
use Rattle.lp_c.specs.Verdicts.{IsVerdictBy, piece_there}
use Rattle.lp_offsets.specs.declared.offsets.OffsetRow.{OffsetRow}
use Rattle.lp_offsets.specs.declared.pieces.Piece.{Piece}
use Rattle.lp_offsets.specs.declared.pieces.Spot.{Spot}
use Rattle.lp_offsets.specs.declared.placed.OffsetPart.{OffsetPart}
use Rattle.lp_offsets.specs.declared.placed.Span.{Span}
use Rattle.lp_offsets.specs.declared.enums.Kind.{Kind}

-- what lies in the text is no copy
bytes_lie : (text room : List ℕ) (copied : ℕ) (span : Span) → copied ≡ 0 → bytes_at text room copied span ≡ lies_in text span
bytes_lie text room copied span there = rw there refl

-- what both of two options are
some_same : {A : Type 0} (x y : A) → Some x ≡ Some y → x ≡ y
some_same x y same = cc

-- the tag that a part shows
record ShownTag (text room : List ℕ) (part : OffsetPart) (t : Pair Text Text) : Type 0 where
  kind : part.kind ≡ kind_number Kind.Tag
  key : key_at text room part ≡ t.key.bytes

-- so it is, if it shows it
tag_shown : (text room : List ℕ) (part : OffsetPart) (t : Pair Text Text) → tag_at text room part ≡ Some (logical_tag t) → ShownTag text room part t
tag_shown text room part t is = elim (cases_Bool (is_stray part)) [
  | inl stray ↦
      let nothing : None ≡ Some (logical_tag t) = rw stray at is in
      absurd (cc)
  | inr clear ↦ go (rw clear at is)
]
  where
    -- by its kind
    go : (if part.kind == kind_number Kind.Tag
        then Some (record { key = key_at text room part; value = text_at text room part }) else None) ≡ Some (logical_tag t)
        → ShownTag text room part t
    go is = elim (cases_Bool (part.kind == kind_number Kind.Tag)) [
      | inl here ↦
          let same : Some (record { key = key_at text room part; value = text_at text room part }) ≡ Some (logical_tag t) = rw here at is in
          record { kind = eqb-true part.kind (kind_number Kind.Tag) here; key = ap (λ (p : Pair (List ℕ) (List ℕ)). p.key) (some_same _ _ same) }
      | inr other ↦
          let nothing : None ≡ Some (logical_tag t) = rw other at is in
          absurd (cc)
    ]

-- the field that a part shows
record ShownField (text room : List ℕ) (part : OffsetPart) (f : Pair Text (Value Text)) : Type 0 where
  val : value_at text room part ≡ Some (logical_value f.value)
  key : key_at text room part ≡ f.key.bytes

-- so it is, if it shows it
field_shown : (text room : List ℕ) (part : OffsetPart) (f : Pair Text (Value Text)) → field_at text room part ≡ Some (logical_field f)
    → ShownField text room part f
field_shown text room part f is = elim (cases_Bool (is_stray part)) [
  | inl stray ↦
      let nothing : None ≡ Some (logical_field f) = rw stray at is in
      absurd (cc)
  | inr clear ↦ go (value_at text room part) refl (rw clear at is)
]
  where
    -- by its value
    go : (v : Option (Value (List ℕ))) → value_at text room part ≡ v → with_key (key_at text room part) v ≡ Some (logical_field f)
        → ShownField text room part f
    go None at is = absurd (cc)
    go (Some v) at is =
        let same = some_same _ _ is in
        record {
          val = at ∙ ap (λ (p : Pair (List ℕ) (Value (List ℕ))). Some p.value) same;
          key = ap (λ (p : Pair (List ℕ) (Value (List ℕ))). p.key) same;
        }

-- the kind of a part that shows an unsigned integer
unsigned_kind : (text room : List ℕ) (part : OffsetPart) (n : ℕ) → value_at text room part ≡ Some (unsigned n)
    → part.kind ≡ kind_number Kind.Unsigned
unsigned_kind text room part n is = grind arith

-- the kind of a part that shows a float, and its literal
float_kind : (text room : List ℕ) (part : OffsetPart) (t : List ℕ) → value_at text room part ≡ Some (float t)
    → (part.kind ≡ kind_number Kind.Float) × (text_at text room part ≡ t)
float_kind text room part t is = grind arith

-- a value surely breaks no clause, if its part does not
value_sure : (text room : List ℕ) (part : OffsetPart) (v : Value Text) → value_at text room part ≡ Some (logical_value v)
    → SureValue text part → IsValue (logical_value v) → is_sure_value v ≡ true
value_sure text room part (integer z) is sure fits = refl
value_sure text room part (unsigned n) is sure fits = absurd (sure.no_unsigned (unsigned_kind text room part n is))
value_sure text room part (float t) is sure fits =
    let shown = float_kind text room part t is in
    let short = sure.literal shown.0 in
    let same : t ≡ lies_in text part.text = sym shown.1 ∙ bytes_lie text room part.text_copied part.text short.there in
    short_is_sure t fits (ap (list_any (is_one_of (codes "eE"))) same ∙ short.bare) (omega (arith, ap length same, short.short))
value_sure text room part (string s) is sure fits = refl
value_sure text room part (boolean b) is sure fits = refl

-- tags that parts show, which surely break no clause
tags_sure : (text room : List ℕ) (parts : List OffsetPart) (tags : List (Pair Text Text))
    → map (tag_at text room) parts ≡ map (λ t. Some (logical_tag t)) tags → AllByRecursion (SurePart text) parts
    → AllByRecursion SureTag tags × (map (key_in text) parts ≡ map (λ t. t.key.bytes) tags)
tags_sure text room [] [] is sure = (tt, refl)
tags_sure text room [] (t ∷ tags) is sure = absurd (cc)
tags_sure text room (p ∷ parts) [] is sure = absurd (cc)
tags_sure text room (p ∷ parts) (t ∷ tags) is sure =
    let first : tag_at text room p ≡ Some (logical_tag t) = cc in
    let others : map (tag_at text room) parts ≡ map (λ (u : Pair Text Text). Some (logical_tag u)) tags = cc in
    let shown = tag_shown text room p t first in
    let more = tags_sure text room parts tags others sure.1 in
    let key : key_in text p ≡ t.key.bytes = sym (bytes_lie text room p.key_copied p.key sure.0.there) ∙ shown.key in
    let short : length t.key.bytes ≤ 256 = omega (arith, ap length key, sure.0.tag shown.kind) in
    let name : is_sure_key t.key.bytes ≡ true = ap is_sure_key (sym key) ∙ sure.0.key in
    ((record { tag = rw (le-ltb 256 (length t.key.bytes) short) name }, more.0), rw (key, more.1) refl)

-- fields that parts show, which surely break no clause
fields_sure : (text room : List ℕ) (parts : List OffsetPart) (fields : List (Pair Text (Value Text)))
    → map (field_at text room) parts ≡ map (λ f. Some (logical_field f)) fields → AllByRecursion (SurePart text) parts
    → AllByRecursion (λ f. IsValue f.value) (map logical_field fields)
    → AllByRecursion SureField fields × (map (key_in text) parts ≡ map (λ f. f.key.bytes) fields)
fields_sure text room [] [] is sure fit = (tt, refl)
fields_sure text room [] (f ∷ fields) is sure fit = absurd (cc)
fields_sure text room (p ∷ parts) [] is sure fit = absurd (cc)
fields_sure text room (p ∷ parts) (f ∷ fields) is sure fit =
    let first : field_at text room p ≡ Some (logical_field f) = cc in
    let others : map (field_at text room) parts ≡ map (λ (g : Pair Text (Value Text)). Some (logical_field g)) fields = cc in
    let shown = field_shown text room p f first in
    let more = fields_sure text room parts fields others sure.1 fit.1 in
    let key : key_in text p ≡ f.key.bytes = sym (bytes_lie text room p.key_copied p.key sure.0.there) ∙ shown.key in
    let name : is_sure_key f.key.bytes ≡ true = ap is_sure_key (sym key) ∙ sure.0.key in
    ((record { key = name; value = value_sure text room p f.value shown.val sure.0.value fit.0 }, more.0), rw (key, more.1) refl)

-- the line of a row is noted, if its name and its parts surely break no clause
pub line_noted : (text : List ℕ) (parts tags fields : List OffsetPart) (row : OffsetRow) → ShowsStrictly text parts row
    → tags ≡ take row.tags (drop row.parts_at parts) → fields ≡ take row.fields (drop row.tags (drop row.parts_at parts))
    → row.parts_at + row.tags + row.fields ≤ length parts → AreSureParts text tags → AreSureParts text fields
    → row.measurement_copied ≡ 0 → begins_own (lies_in text row.measurement) ≡ false → row.tags ≤ 29 → row.fields ≤ 4000
    → IsLineNoted (trimmed (piece_there text row)) (counted row.tags row.fields (timestamp_in row))
line_noted text parts tags fields row s tags_are fields_are all sure_tags sure_fields there own few few_fields =
    let from = drop row.parts_at parts in
    let shown_tags = s.shows.tags s.within s.room refl in
    let shown_fields = s.shows.fields s.within s.room refl in
    let front : tags ≡ take row.tags (take (row.tags + row.fields) from) =
    tags_are ∙ sym (take-take row.tags (row.tags + row.fields) from (omega arith)) in
    let back : fields ≡ take row.fields (drop row.tags (take (row.tags + row.fields) from)) =
    fields_are ∙ sym (ap (take row.fields) (drop-take row.tags row.fields from)
    ∙ take-take row.fields row.fields (drop row.tags from) (omega arith)) in
    let as_tags = tags_sure text s.room tags (some_tags s.read.tags) (ap (map (tag_at text s.room)) front ∙ shown_tags) sure_tags.sure in
    let values = (lines_are_points Strict (trimmed (piece_there text row)) s.read s.answered).values in
    let as_fields = fields_sure text s.room fields s.read.fields (ap (map (field_at text s.room)) back ∙ shown_fields) sure_fields.sure values in
    let name : lies_in text row.measurement ≡ s.read.measurement.bytes =
    sym (bytes_lie text s.room row.measurement_copied row.measurement there) ∙ s.shows.measurement s.within s.room refl in
    let left : length from ≡ length parts - row.parts_at = length-drop row.parts_at parts in
    let many : length tags ≡ row.tags = ap length tags_are ∙ length-take-le row.tags from (omega (arith, left, all)) in
    let after : length (drop row.tags from) ≡ length from - row.tags = length-drop row.tags from in
    let many_fields : length fields ≡ row.fields =
    ap length fields_are ∙ length-take-le row.fields (drop row.tags from) (omega (arith, left, after, all)) in (
      s.read,
      s.answered,
      record {
        measurement = ap begins_own (sym name) ∙ own;
        tags = as_tags.0;
        tags_once = ap has_repeats (sym as_tags.1) ∙ sure_tags.once;
        fields = as_fields.0;
        fields_once = ap has_repeats (sym as_fields.1) ∙ sure_fields.once;
        count = omega (
          arith,
          many,
          ap length as_tags.1,
          length-map tags (key_in text),
          length-map (some_tags s.read.tags) (λ (t : Pair Text Text). t.key.bytes),
        );
        few = few;
        count_fields = omega (
          arith,
          many_fields,
          ap length as_fields.1,
          length-map fields (key_in text),
          length-map s.read.fields (λ (f : Pair Text (Value Text)). f.key.bytes),
        );
        few_fields = few_fields;
        timestamp = s.shows.timestamp;
      },
    )

-- what is so of all is so of one more
pub all_snoc : {X : Type 0} (P : X → Type 0) (xs : List X) (x : X) → AllByRecursion P xs → P x → AllByRecursion P (xs ++ x ∷ [])
all_snoc P [] x all is = (is, tt)
all_snoc P (y ∷ xs) x all is = (all.0, all_snoc P xs x all.1 is)

-- what is so of all is so of those from a place on
all_drop : {X : Type 0} (P : X → Type 0) (i : ℕ) (xs : List X) → AllByRecursion P xs → AllByRecursion P (drop i xs)
all_drop P zero xs all = all
all_drop P (suc i) [] all = tt
all_drop P (suc i) (x ∷ xs) all = all_drop P i xs all.1

-- and of the next of rows that are as they were from there on
pub next_shown : (P : OffsetRow → Type 0) (old rows : List OffsetRow) (i : ℕ) (d : OffsetRow) → i < length rows → drop i rows ≡ drop i old
    → AllByRecursion P old → P (get_or rows i d)
next_shown P old rows i d here same all =
    (subst (AllByRecursion P) (sym same ∙ drop_more rows i d here) (all_drop P i old all)).0

module _ (last : Bool) (text : List ℕ) (from : Spot) (room : List ℕ) (used : ℕ) (within : used ≤ length room) where
  -- a row that shows the item of a piece shows its line, if it has one
  item_shown : (piece : Piece) (number : ℕ) (parts own rest : List OffsetPart) (row : OffsetRow) → IsPieceIn Strict last text piece
      → IsPlaced piece number (length parts) row → ShowsItem Strict text piece own room used row
      → IsShownRow text (parts ++ (own ++ rest)) row
  item_shown piece number parts own rest row is placed (line read answered clear utf8 begins end answer_is shows) = λ has.
      let bytes : piece_in text piece ≡ piece_there text row = rw (placed.at, placed.len) refl in
      let mine : take (row.tags + row.fields) (drop row.parts_at (parts ++ (own ++ rest))) ≡ own =
      ap (take (row.tags + row.fields)) (drop_at parts (own ++ rest) row.parts_at (sym placed.parts_at))
      ∙ take_at own rest (row.tags + row.fields) shows.all in
      record {
        read = read;
        room = room;
        used = used;
        within = within;
        piece = record {
          answered = answered;
          fits = omega (arith, placed.at, placed.len, piece_fits Strict last text piece is);
          utf8 = subst IsUtf8 bytes utf8;
        };
        answered = ap (λ (t : List ℕ). answer Strict (trimmed t)) (sym bytes) ∙ answer_is;
        shows = subst (λ (ps : List OffsetPart). ShowsRow read text ps room used row) (sym mine) shows;
      }
  item_shown piece number parts own rest row is placed (fault f answered clear utf8 begins faulty kind side stop none_own) = λ has.
      absurd (omega (arith, answered, has))
  item_shown piece number parts own rest row is placed (no_text answered clear bare not there none_own) = λ has.
      absurd (omega (arith, answered, has))

  -- each row that was filled by the strict rules shows its line, if it has one
  pub rows_shown : (rows : List OffsetRow) (parts rest : List OffsetPart) (spot : Spot)
      → OffsetRows Strict last text from room used rows parts spot → AllByRecursion (IsShownRow text (parts ++ rest)) rows
  rows_shown rows parts rest spot none = tt
  rows_shown rows parts rest spot (blank rows₁ parts₁ at piece before is_at is is_blank) = rows_shown rows₁ parts₁ rest at before
  rows_shown rows parts rest spot (more rows₁ parts₁ at piece row own before is_at is placed shows) =
      rw (append_assoc parts₁ own rest)
      (all_snoc (IsShownRow text (parts₁ ++ (own ++ rest))) rows₁ row (rows_shown rows₁ parts₁ (own ++ rest) at before)
      (item_shown piece at.line parts₁ own rest row is placed shows))

-- so it is with the next of them, if there are parts
pub next_if_shown : (text : List ℕ) (parts : Option (Bor (List OffsetPart))) (old rows : List OffsetRow) (i : ℕ) (d : OffsetRow)
    → i < length rows → drop i rows ≡ drop i old → IfSome parts (λ own. AllByRecursion (IsShownRow text own.now) old)
    → IfSome parts (λ own. IsShownRow text own.now (get_or rows i d))
next_if_shown text None old rows i d here same shown = tt
next_if_shown text (Some own) old rows i d here same shown = next_shown (IsShownRow text own.now) old rows i d here same shown

-- the bits that are sure are those of the piece of a row
pub sure_is_verdict : (limits : portable.Limits) (text : List ℕ) (row : OffsetRow) (n : ℕ) → IsSureRow limits text row n
    → IsVerdictBy limits text row n
sure_is_verdict limits text row n (piece, (broken, breaks, bits)) = inl (broken, record { piece = piece; breaks = breaks }, bits)

-- keys that rise after nothing rise
rise_alone : (keys : List (List ℕ)) → is_strictly_sorted ([] ∷ keys) ≡ true → is_strictly_sorted keys ≡ true
rise_alone [] h = refl
rise_alone (k ∷ keys) h = (and_parts _ (is_strictly_sorted (k ∷ keys)) h).1

-- parts are sure whose keys rise, of which none is left
pub risen_are_sure : (text : List ℕ) (parts left : List OffsetPart) (last : List ℕ) → length left < 1
    → (AllByRecursion (SurePart text) left → AllByRecursion (SurePart text) parts)
    → is_strictly_sorted (last ∷ map (key_in text) left) ≡ is_strictly_sorted ([] ∷ map (key_in text) parts) → AreSureParts text parts
risen_are_sure text parts [] last few all rise =
    record { sure = all tt; once = risen_once (map (key_in text) parts) (rise_alone (map (key_in text) parts) (sym rise)) }
risen_are_sure text parts (p ∷ left) last few all rise = absurd (omega (arith, few))
