-- A line is read too if what follows its fields is another text that begins with a space.
use Rattle.std.proofs.Common.{◌≡◌, ℕ, ℤ, ◌<◌, List, [], ◌∷◌, ◌++◌, length, take, drop, ◌==◌, refl, sym, ap, ◌∙◌, arith, inl, inr, subst}
use Rattle.std.proofs.Common.{Option, Some, append_assoc, take-append-drop, eqb-true, one-add}
use Rattle.std.proofs.Math.Seq.{drop-append_seam}
use Rattle.std.proofs.lemmas.{Bool.cases_Bool, List.append_cancel_right}
use Rattle.lp_format.specs.format.{Dialect, Crate, Strict, NewlineDelimited, Line, Text, Pair, Value, reads, miss, comma, space, spaces, is_stop, spelled, a_measurement, a_field_key, tag, field, after_comma, without_comma}
use Rattle.lp_format.specs.laws.Meanings.{WholeList}
use Rattle.lp_format.specs.laws.MeaningsOfAnswers.{BeginsWith, after_spaces, ReadsSeries, ReadsSeries.alone, ReadsSeries.tagged, ReadsFields}
use Rattle.lp_format.proofs.lemmas.literals.FloatLemmas.{Ends}
use Rattle.lp_format.proofs.lemmas.meanings.ShorterRests.{tag_no_longer, field_no_longer}
use Rattle.lp_format.proofs.lemmas.names.NameLemmas.{name_misses}
use Rattle.lp_split.proofs.lemmas.split.ScanLemmas.{first_bare_len}
use Rattle.lp_relay.proofs.ReadFronts.{BeginsAlike, BeginsAlike.same_byte, BeginsAlike.a_space, alike_after, field_front, name_front, tag_front}
use Rattle.lp_relay.proofs.ListFronts.{list_front}
use Rattle.lp_relay.proofs.NewStamps.{front_spaces, spaces_before}
use Rattle.lp_conditions.specs.LineTimes.{line_at}

-- A measurement and its tags are a front of the text, and they are read too before each other rest that begins with a space.
record SeriesFront (text : List ℕ) (measurement : Text) (tags : Option (List (Pair Text Text))) (rest : List ℕ) : Type 0 where
  front : List ℕ
  is : text ≡ front ++ rest
  again : (more : List ℕ) → ReadsSeries (front ++ space ∷ more) measurement tags (space ∷ more)

-- A series before a space is read too before each other rest that begins with a space.
series_front : (text : List ℕ) (measurement : Text) (tags : Option (List (Pair Text Text))) (rest gap : List ℕ) → rest ≡ space ∷ gap
    → ReadsSeries text measurement tags rest → SeriesFront text measurement tags rest
series_front text _ _ _ gap begins (alone m rest named none) =
    let first = name_front a_measurement text m rest named (omega (arith, ap length begins)) in
    record {
      front = first.front;
      is = first.is;
      again = λ more. alone m (space ∷ more) (first.again (space ∷ more) (subst (λ (l : List ℕ). BeginsAlike l (space ∷ more)) (sym begins) (same_byte space gap more))) (λ is. omega (arith, is));
    }
series_front text _ _ _ gap begins (tagged m tags after rest named whole) =
    let first = name_front a_measurement text m (comma ∷ after) named (omega arith) in
    let list = list_front tag tag_no_longer (λ (l : List ℕ). 0 < length l) (λ l. omega arith) tag_front tags after rest (omega (arith, ap length begins)) whole in
    record {
      front = first.front ++ comma ∷ list.front;
      is = first.is ∙ ap (λ (l : List ℕ). first.front ++ comma ∷ l) list.is ∙ sym (append_assoc first.front (comma ∷ list.front) rest);
      again = λ more.
          let left = list.front ++ space ∷ more in
          let alike = subst (λ (l : List ℕ). BeginsAlike l (space ∷ more)) (sym begins) (same_byte space gap more) in
          subst (λ (l : List ℕ). ReadsSeries l m (Some tags) (space ∷ more)) (sym (append_assoc first.front (comma ∷ list.front) (space ∷ more)))
          (tagged m tags left (space ∷ more) (first.again (comma ∷ left) (same_byte comma after left)) (list.again (space ∷ more) alike refl));
    }

-- No field begins with a space.
field_misses : (rest : List ℕ) → field (space ∷ rest) ≡ miss
unfolding field
field_misses rest =
    let none : length (spelled a_field_key (space ∷ rest)) ≡ 0 = rw (first_bare_len (is_stop a_field_key) (space ∷ rest)) refl in
    rw (name_misses a_field_key (space ∷ rest) none) refl

-- A text that begins with a field begins with no space.
field_no_space : (text : List ℕ) (x : Pair Text (Value Text)) (rest : List ℕ) → field text ≡ reads x rest → spaces text ≡ 0
field_no_space [] x rest e = refl
field_no_space (b ∷ text) x rest e = elim (cases_Bool (b == space)) [
  | inl here ↦
      let never : field (space ∷ text) ≡ reads x rest = ap (λ (c : ℕ). field (c ∷ text)) (sym (eqb-true b space here)) ∙ e in
      let missed = field_misses text in
      absurd (cc (never, missed))
  | inr other ↦ rw other refl
]

-- A text that begins with fields begins with no space.
fields_no_space : (text : List ℕ) (xs : List (Pair Text (Value Text))) (rest : List ℕ) → WholeList field text xs rest → spaces text ≡ 0
fields_no_space text [] rest whole = absurd (omega (arith, whole.some))
fields_no_space text (x ∷ xs) rest whole = let are = whole.longest.separated in field_no_space text x are.0 are.1

-- What follows the fields is the rest of the line, or a comma and then the rest: in the dialect of the crate a comma after the only field is taken.
record CommaFront (dialect : Dialect) (fields : List (Pair Text (Value Text))) (after rest : List ℕ) : Type 0 where
  front : List ℕ
  is : after ≡ front ++ rest
  ends : Ends rest → Ends after
  taken : (more : List ℕ) → space ∷ more ≡ without_comma dialect fields (front ++ space ∷ more)
  no_more : (more : List ℕ) → after_comma field (front ++ space ∷ more) ≡ miss

-- Without a comma that is taken, the fields end before the rest.
no_comma : (dialect : Dialect) (fields : List (Pair Text (Value Text))) (after rest : List ℕ) → after ≡ rest
    → ((more : List ℕ) → space ∷ more ≡ without_comma dialect fields (space ∷ more)) → CommaFront dialect fields after rest
no_comma dialect fields after rest is taken = record { front = []; is = is; ends = λ e. subst Ends (sym is) e; taken = taken; no_more = λ more. refl }

-- Each text after the fields is the rest of the line, or a comma that is taken and then the rest.
comma_front : (dialect : Dialect) (fields : List (Pair Text (Value Text))) (after rest : List ℕ) → rest ≡ without_comma dialect fields after
    → CommaFront dialect fields after rest
comma_front Crate (f ∷ []) (b ∷ after) rest is = elim (cases_Bool (b == comma)) [
  | inl here ↦ record {
    front = comma ∷ [];
    is = rw (eqb-true b comma here) (ap (λ (l : List ℕ). comma ∷ l) (sym (rw here at is)));
    ends = λ e. rw (eqb-true b comma here) refl;
    taken = λ more. refl;
    no_more = λ more. field_misses more;
  }
  | inr other ↦ no_comma Crate (f ∷ []) (b ∷ after) rest (sym (rw other at is)) (λ more. refl)
]
comma_front Crate (f ∷ []) [] rest is = no_comma Crate (f ∷ []) [] rest (sym is) (λ more. refl)
comma_front Crate [] after rest is = no_comma Crate [] after rest (sym is) (λ more. refl)
comma_front Crate (f ∷ g ∷ fields) after rest is = no_comma Crate (f ∷ g ∷ fields) after rest (sym is) (λ more. refl)
comma_front Strict fields after rest is = no_comma Strict fields after rest (sym is) (λ more. refl)
comma_front NewlineDelimited fields after rest is = no_comma NewlineDelimited fields after rest (sym is) (λ more. refl)

-- A text that can follow the fields of a line: each text that begins with a space begins as it does.
abbrev pub EndsFields : List ℕ → Type 0
EndsFields rest = (more : List ℕ) → BeginsAlike rest (space ∷ more)

-- A value ends before each text that can follow the fields of a line.
fields_end : (rest : List ℕ) → EndsFields rest → Ends rest
fields_end rest ends = go rest [] (ends [])
  where
    -- a text that begins as one with a space at its start ends a value
    go : (rest more : List ℕ) → BeginsAlike rest (space ∷ more) → Ends rest
    go _ _ (same_byte b rest more) = refl
    go _ _ (a_space more) = refl

-- The measurement, the tags and the fields of a line are a front of its text, and they are read too before each rest that begins with a space.
pub record LineFront (dialect : Dialect) (text : List ℕ) (line : Line) (rest : List ℕ) : Type 0 where
  pub front : List ℕ
  pub is : text ≡ front ++ rest
  pub again : (time : ℤ) (more : List ℕ) → ReadsFields dialect (front ++ space ∷ more) (line_at time line) (space ∷ more)

-- A text that begins with a space is a space and the rest.
begins_with : (text : List ℕ) → BeginsWith space text → (more : List ℕ) × (text ≡ space ∷ more)
begins_with [] is = absurd is
begins_with (b ∷ more) is = (more, ap (λ (c : ℕ). c ∷ more) is)

-- The spaces after a series end where the fields begin.
after_gap : (text gap : List ℕ) → text ≡ space ∷ gap → after_spaces text ≡ drop (spaces gap) gap
after_gap text gap is = ap after_spaces is ∙ rw one-add refl

-- The measurement, the tags and the fields of each line are read too before each other text that begins with a space.
pub line_front : (dialect : Dialect) (text : List ℕ) (line : Line) (rest : List ℕ) → EndsFields rest → ReadsFields dialect text line rest
    → LineFront dialect text line rest
line_front dialect text line rest ends r =
    let start = begins_with r.after_series r.gap in
    let gap = start.0 in
    let series = series_front text line.measurement line.tags r.after_series gap start.1 r.series_reads in
    let same : series.front ≡ line.series = append_cancel_right series.front line.series r.after_series (sym series.is ∙ r.series_is) in
    let wide = take (spaces gap) gap in
    let from = drop (spaces gap) gap in
    let fields_from : after_spaces r.after_series ≡ from = after_gap r.after_series gap start.1 in
    let last = comma_front dialect line.fields r.after_fields rest r.rest_is in
    let whole : WholeList field from line.fields r.after_fields = subst (λ (l : List ℕ). WholeList field l line.fields r.after_fields) fields_from r.fields_read in
    let list = list_front field field_no_longer Ends (λ l. refl) field_front line.fields from r.after_fields (last.ends (fields_end rest ends)) whole in
    let head = line.series ++ space ∷ (wide ++ (list.front ++ last.front)) in
    let fields_is : from ≡ list.front ++ (last.front ++ rest) = list.is ∙ ap (λ (l : List ℕ). list.front ++ l) last.is in
    let series_left : r.after_series ≡ space ∷ (wide ++ (list.front ++ (last.front ++ rest))) =
    start.1 ∙ ap (λ (l : List ℕ). space ∷ l) (sym (take-append-drop (spaces gap) gap) ∙ ap (λ (l : List ℕ). wide ++ l) fields_is) in
    record {
      front = head;
      is = r.series_is ∙ ap (λ (l : List ℕ). line.series ++ l) series_left ∙ simp append_assoc;
      again = λ time more.
          let after = last.front ++ space ∷ more in
          let alike : BeginsAlike r.after_fields after = subst (λ (l : List ℕ). BeginsAlike l after) (sym last.is) (alike_after last.front rest (space ∷ more) (ends more)) in
          let fields = list.again after alike (last.no_more more) in
          let left = list.front ++ after in
          let none = fields_no_space left line.fields after fields in
          let after_series = space ∷ (wide ++ left) in
          let regrouped : line.series ++ after_series ≡ head ++ space ∷ more = simp append_assoc in
          let skipped : after_spaces after_series ≡ left = rw (spaces_before wide left (front_spaces gap) none, one-add) (drop-append_seam wide left) in
          record {
            after_series = after_series;
            series_is = sym regrouped;
            series_reads = subst (λ (l : List ℕ). ReadsSeries l line.measurement line.tags after_series) (ap (λ (l : List ℕ). l ++ after_series) same ∙ regrouped) (series.again (wide ++ left));
            gap = refl;
            after_fields = after;
            fields_read = subst (λ (l : List ℕ). WholeList field l line.fields after) (sym skipped) fields;
            rest_is = last.taken more;
          };
    }
