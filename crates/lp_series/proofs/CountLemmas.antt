-- What is counted, with one line more.
use Rattle.std.proofs.Common.{◌≡◌, ℕ, ◌+◌, ◌<◌, List, [], ◌∷◌, ◌++◌, true, false, Option, Some, None, String, BTreeMap, HashMap, Global, ℤ}
use Rattle.std.proofs.Common.{refl, sym, ap, subst, ◌∙◌, arith, append-nil, IfSome}
use Rattle.std.specs.{BTreeMap.get_by_text, HashSet.HashSet}
use Rattle.std.specs.declared.random_state.RandomState.{RandomState}
use Rattle.std.specs.List.{count_by, filter, filter_map, flat_map}
use Rattle.std.proofs.lemmas.{Grind.flat_map-append, List.Elements.filter_map-append}
use Rattle.influxdb_line_protocol.specs.format.Points.{Point, Tag}
use Rattle.lp_lines.specs.laws.KeyLaws.{KeysTellSeries}
use Rattle.lp_series.specs.declared.{counts.SeriesCounts.SeriesCounts, measurements.MeasurementCounts.MeasurementCounts}
use Rattle.lp_series.specs.declared.tables.Found.TheVariants.{Known, New, Beyond}
use Rattle.lp_series.specs.Counting.{CountsIfAny, CountsKept, HasTags, has_key, is_kept, is_of, kept_by, key_of, times_of}
use Rattle.lp_series.specs.CountSteps.{CountsIn, CountsKey, with_time}
use Rattle.lp_series.proofs.KeptLemmas.{agree_all, all_pass, none_count}
use Rattle.lp_series.proofs.SeriesLemmas.{kept_more, kept_without, known_agree, known_before, known_key, known_tags, measurements_more, new_agree, new_before, new_key}
use Rattle.lp_series.proofs.SeriesLemmas.{other_keys, series_beyond, series_more}

-- the times of points with one more
pub times_push : (ps : List Point) (p : Point) → times_of (ps ++ p ∷ []) ≡ with_time (times_of ps) p.timestamp
times_push ps p = filter_map-append (λ (q : Point). q.timestamp) ps (p ∷ []) ∙ by_time p.timestamp
  where
    -- with a time, and without one
    by_time : (t : Option ℤ) → times_of ps ++ filter_map (λ (u : Option ℤ). u) (t ∷ []) ≡ with_time (times_of ps) t
    by_time None = append-nil (times_of ps)
    by_time (Some t) = refl

module _ (tell : KeysTellSeries) (old : SeriesCounts) (p : Point) (ps : List Point) (before : CountsKept old ps) where
  -- a point more of a known series
  pub known_kept : (series : HashMap (String Global) ℕ RandomState) (measurements : BTreeMap (String Global) MeasurementCounts)
      → CountsKey old.max_series Known (key_of p) old.series series → CountsIn false p old.measurements measurements
      → CountsKept (record old { series = series; measurements = measurements }) (ps ++ p ∷ [])
  known_kept series measurements step counts =
      let n = step.0 in
      let found = step.1 in
      let sets = step.2 in
      let counted : (0 < n) × (n ≡ count_by (has_key (key_of p)) ps)
      = subst (λ (o : Option ℕ). IfSome o (λ m. (0 < m) × (m ≡ count_by (has_key (key_of p)) ps))) found (before.series.counted (key_of p)) in
      let some : 0 < count_by (has_key (key_of p)) ps = omega (arith, counted.0, counted.1) in
      let agree = agree_all (is_kept series) (is_kept old.series) (known_agree old.series series (key_of p) (n + 1) sets n found) ps in
      let kept = kept_more old.series series (key_of p) (n + 1) sets ps p refl agree in
      record {
        series = series_more old.series series (key_of p) (n + 1) sets old.max_series old.beyond ps p refl (omega arith)
            (ap (λ m. m + 1) counted.1) agree true (known_key tell old.series ps p n found some)
            (omega (arith, step.3)) (omega (arith, step.3, before.series.few)) before.series;
        measurements = λ m. subst (λ (ks : List Point). CountsIfAny (get_by_text measurements m) (filter (is_of m) ks)) (sym kept)
            (measurements_more old.measurements measurements false p (kept_by old.series ps) before.measurements counts
            (known_before tell old.series ps p n found some) m);
        tags = subst (λ (ks : List Point). HasTags old.tags (flat_map (λ q. q.tags) ks)) (sym kept)
            (known_tags tell old.series ps p n found some old.tags before.tags);
      }

  -- a point more of a new series
  pub new_kept : (series : HashMap (String Global) ℕ RandomState) (measurements : BTreeMap (String Global) MeasurementCounts)
      (tags : BTreeMap (String Global) (HashSet (String Global) RandomState))
      → CountsKey old.max_series New (key_of p) old.series series → CountsIn true p old.measurements measurements
      → ((earlier : List Tag) → HasTags old.tags earlier → HasTags tags (earlier ++ p.tags))
      → CountsKept (record old { series = series; measurements = measurements; tags = tags }) (ps ++ p ∷ [])
  new_kept series measurements tags step counts puts =
      let none = step.0 in
      let sets = step.1 in
      let no_others : old.beyond ≡ 0 = grind (arith, before.series.full, step.2) in
      let all = all_pass (is_kept old.series) ps (sym before.series.beyond ∙ no_others) in
      let others = other_keys old.series (key_of p) none ps all in
      let agree = new_agree old.series series (key_of p) 1 sets ps all in
      let kept = kept_more old.series series (key_of p) 1 sets ps p refl agree in
      record {
        series = series_more old.series series (key_of p) 1 sets old.max_series old.beyond ps p refl (omega arith)
            (ap (λ m. m + 1) (sym (none_count (has_key (key_of p)) ps others))) agree false (new_key ps (is_kept old.series) (key_of p) others)
            (omega (arith, step.3)) (omega (arith, step.2, step.3)) before.series;
        measurements = λ m. subst (λ (ks : List Point). CountsIfAny (get_by_text measurements m) (filter (is_of m) ks)) (sym kept)
            (measurements_more old.measurements measurements true p (kept_by old.series ps) before.measurements counts
            (new_before ps (is_kept old.series) (is_of p.measurement) (key_of p) others) m);
        tags = subst (λ (ks : List Point). HasTags tags (flat_map (λ q. q.tags) ks)) (sym kept)
            (subst (HasTags tags) (sym (flat_map-append (λ (q : Point). q.tags) (kept_by old.series ps) (p ∷ [])
            ∙ ap (λ (ts : List Tag). flat_map (λ q. q.tags) (kept_by old.series ps) ++ ts) (append-nil p.tags)))
            (puts (flat_map (λ q. q.tags) (kept_by old.series ps)) before.tags));
      }

  -- a point more of a series that is not kept
  pub beyond_kept : (series : HashMap (String Global) ℕ RandomState) → CountsKey old.max_series Beyond (key_of p) old.series series
      → CountsKept (record old { series = series; beyond = old.beyond + 1 }) (ps ++ p ∷ [])
  beyond_kept series step =
      let none = step.0 in
      let kept = kept_without old.series (key_of p) none ps p refl in
      let same : CountsKept (record old { beyond = old.beyond + 1 }) (ps ++ p ∷ []) = record {
        series = series_beyond old.series (key_of p) none old.max_series old.beyond ps p refl step.1 before.series;
        measurements = λ m. subst (λ (ks : List Point). CountsIfAny (get_by_text old.measurements m) (filter (is_of m) ks)) (sym kept)
            (before.measurements m);
        tags = subst (λ (ks : List Point). HasTags old.tags (flat_map (λ q. q.tags) ks)) (sym kept) before.tags;
      } in
      subst (λ (table : HashMap (String Global) ℕ RandomState). CountsKept (record old { series = table; beyond = old.beyond + 1 }) (ps ++ p ∷ []))
      (sym step.2) same
