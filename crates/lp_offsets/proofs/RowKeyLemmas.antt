-- The keys that rows tell are those of the series of their lines.
use Rattle.std.proofs.Common.{◌≡◌, ◌∙◌, ℕ, List, [], ◌∷◌, ◌++◌, length, take, refl, sym, ap, subst, arith, append_assoc, append-nil}
use Rattle.std.proofs.Common.{Option, Ok, flat_map, true, inl, inr}
use Rattle.std.specs.List.{AllByRecursion, AllZip, list_all}
use Rattle.std.proofs.Math.Seq.{take-append_seam}
use Rattle.lp_format.specs.format.{Dialect, Line, Pair, Read, Tag, Text, a_measurement, answer, built_tag, front_before, is_admitted_tag}
use Rattle.lp_format.specs.format.{name, reads, some_tags, space, spelling, tag_set}
use Rattle.lp_format.proofs.lemmas.read_back.NameReadsBack.{read_name, read_tags}
use Rattle.lp_lines.proofs.lemmas.names.ParsedNames.{answer_parts}
use Rattle.lp_lines.proofs.lemmas.read_back.LinePieces.{AdmittedTag, admitted_tags}
use Rattle.lp_lines.proofs.lemmas.read_back.LineReadsBack.{front_is, measurement_reads_back, tag_set_reads_back}
use Rattle.lp_lines.proofs.lemmas.series.SortedByKey.{all_sorted}
use Rattle.lp_lines.specs.code.Keys.{series_key, sorted_by}
use Rattle.lp_lines.specs.laws.{BaseLaws.IsParsedSeries, BaseLaws.ReadSeriesAreParsed, KeyLaws.KeysReadBack}
use Rattle.lp_written.specs.code.WrittenKeys.{EndsSeries, IsAdmittedKey, IsTag}
use Rattle.lp_written.specs.laws.WrittenKeyLaws.{KeysStandInTexts}
use Rattle.lp_offsets.specs.RowKeys.{IsKeyLen, TellsKey, TellsSeries, line_there}
use Rattle.lp_offsets.specs.declared.offsets.OffsetRow.{OffsetRow}

-- what each tag passes, all pass
all_admitted : (ts : List Tag) → AllByRecursion IsTag ts → list_all is_admitted_tag ts ≡ true
all_admitted [] all = refl
all_admitted (t ∷ ts) all = rw (all.0, all_admitted ts all.1) refl

-- tags that are read of one text leave one rest
one_rest : (text : List ℕ) (ts us : Option (List (Pair Text Text))) (rest other : List ℕ)
    → tag_set text ≡ Ok (record { value = ts; rest = rest }) → tag_set text ≡ Ok (record { value = us; rest = other }) → rest ≡ other
one_rest text ts us rest other h k =
    let same = sym h ∙ k in
    let read : (let r : Read (Option (List (Pair Text Text))) = record { value = ts; rest = rest } in r) ≡ record { value = us; rest = other } = cc in
    ap (λ r. r.rest) read

-- so do a measurement and tags
one_end : (text : List ℕ) (m n : Text) (ts us : Option (List (Pair Text Text))) (after tagged rest other : List ℕ)
    → name a_measurement text ≡ reads m after → tag_set after ≡ Ok (record { value = ts; rest = rest })
    → name a_measurement text ≡ reads n tagged → tag_set tagged ≡ Ok (record { value = us; rest = other }) → rest ≡ other
one_end text m n ts us after tagged rest other named tags named_too tags_too =
    let names : reads m after ≡ reads n tagged = sym named ∙ named_too in
    let same : after ≡ tagged = cc in
    one_rest after ts us rest other tags (ap tag_set same ∙ tags_too)

-- a row with this key is the other one in all but that
same_line : (text : List ℕ) (before after : OffsetRow) → after ≡ record before { key = after.key } → line_there text after ≡ line_there text before
same_line text before after same =
    let at : after.line_at ≡ before.line_at = ap (λ (r : OffsetRow). r.line_at) same in
    let stop : after.stop_at ≡ before.stop_at = ap (λ (r : OffsetRow). r.stop_at) same in
    rw (at, stop) refl

module _ (read_back : KeysReadBack) (stand : KeysStandInTexts) (are_parsed : ReadSeriesAreParsed) where
  -- the series of a line that begins with a key is that key
  series_is : (dialect : Dialect) (line key rest : List ℕ) (l : Line) → IsAdmittedKey key → key ++ rest ≡ line → EndsSeries rest
      → answer dialect line ≡ Ok l → l.series ≡ key
  unfolding series_key
  series_is dialect line key [] l k is ends e =
      let whole : key ≡ line = sym (append-nil key) ∙ is in
      let parts = answer_parts dialect line l e in
      let back = read_back k.measurement k.tags k.named (all_admitted k.tags k.tagged) in
      let parsed = subst (λ (x : List ℕ). IsParsedSeries x back.measurement_read back.tags_read) (k.is ∙ whole) back.parsed in
      let left : parts.tags_rest ≡ [] = one_end line l.measurement back.measurement_read l.tags parsed.set parts.measurement_rest parsed.after
      parts.tags_rest [] parts.measurement parts.tags parsed.measurement_is parsed.set_is in
      parts.series ∙ ap (front_before line) left ∙ front_is line key [] (sym is)
  series_is dialect line key (b ∷ rest) l k is ends e =
      let tags = sorted_by (λ (t : Tag). t.key) k.tags in
      let admitted = all_sorted (λ (t : Tag). t.key) AdmittedTag k.tags (admitted_tags k.tags (all_admitted k.tags k.tagged)) in
      let begins : line ≡ key ++ space ∷ rest = sym is ∙ ap (λ (c : ℕ). key ++ c ∷ rest) ends in
      let tagged = flat_map built_tag tags ++ space ∷ rest in
      let spelled : line ≡ spelling a_measurement k.measurement ++ tagged =
      begins ∙ ap (λ (x : List ℕ). x ++ space ∷ rest) (sym k.is) ∙ append_assoc (spelling a_measurement k.measurement) (flat_map built_tag tags) (space ∷ rest) in
      let parts = answer_parts dialect line l e in
      let left : parts.tags_rest ≡ space ∷ rest = one_end line l.measurement (read_name a_measurement k.measurement) l.tags (read_tags tags)
      parts.measurement_rest tagged parts.tags_rest (space ∷ rest) parts.measurement parts.tags
      (ap (name a_measurement) spelled ∙ measurement_reads_back k.measurement tags rest k.named) (tag_set_reads_back tags rest admitted) in
      parts.series ∙ ap (front_before line) left ∙ front_is line key (space ∷ rest) begins

  -- a row that tells a key tells that of its line
  tells_key : (text : List ℕ) (before after : OffsetRow) → IsKeyLen text before after.key → line_there text after ≡ line_there text before
      → TellsSeries text after
  tells_key text before after (inl (key, begins, size)) same dialect l read some =
      let line : line_there text after ≡ key ++ begins.rest = same ∙ sym begins.is in
      let series = series_is dialect (line_there text after) key begins.rest l begins.admitted (sym line) begins.ends read in
      let parsed = are_parsed dialect (line_there text after) l read in
      let known = subst IsAdmittedKey (sym series) begins.admitted in
      ap (λ (n : ℕ). take n (line_there text after)) size ∙ ap (take (length key)) line ∙ take-append_seam key begins.rest
      ∙ sym series ∙ sym (stand l.series l.measurement (some_tags l.tags) known parsed.0)
  tells_key text before after (inr (none, zero)) same dialect l read some = absurd (omega (arith, zero, some))

  -- so do all rows
  pub all_tell : (text : List ℕ) (rows told : List OffsetRow) → AllZip (TellsKey text) rows told → AllByRecursion (TellsSeries text) told
  all_tell text [] [] tell = tt
  all_tell text [] (row ∷ told) tell = absurd tell
  all_tell text (row ∷ rows) [] tell = absurd tell
  all_tell text (row ∷ rows) (one ∷ told) tell = (tells_key text row one tell.0.len (same_line text row one tell.0.others), all_tell text rows told tell.1)

-- a row that tells so many bytes of its line
pub tells_len : (text : List ℕ) (row : OffsetRow) (n : ℕ) → IsKeyLen text row n → TellsKey text row (record row { key = n })
tells_len text row n is = record { len = is; others = refl }
