-- What is counted by series, with one point more.
use Rattle.std.proofs.Common.{cond, ◌≡◌, ℕ, ◌+◌, ◌<◌, ◌≤◌, List, [], ◌∷◌, ◌++◌, Bool, true, false, not, ◌||◌, ◌&&◌, Option, Some, None, String, BTreeMap, HashMap}
use Rattle.std.proofs.Common.{refl, sym, ap, subst, ◌∙◌, arith, bytes_eq, append-nil, map, is_some, IfSome, true≢false}
use Rattle.std.specs.HashMap as hash
use Rattle.std.specs.{BTreeMap.get_by_text, HashMap.hash_map_len, HashSet.HashSet, Cmp.Lexicographic.same_text}
use Rattle.std.specs.List.{AllByRecursion, count_by, filter, flat_map, list_any}
use Rattle.std.proofs.lemmas.{Cmp.nat_list_eq_equiv, Grind.flat_map-append, List.length_push, List.map-append, List.Folds.list_any-append}
use Rattle.influxdb_line_protocol.specs.format.Points.{Field, Point, Tag}
use Rattle.lp_lines.specs.laws.KeyLaws.{KeysTellSeries}
use Rattle.lp_series.specs.declared.measurements.MeasurementCounts.{MeasurementCounts}
use Rattle.lp_series.specs.Counting.{different, CountsIfAny, CountsMeasurement, CountsSeries, HasKinds, HasTags, has_key, is_kept, is_of, is_tag, kept_by, key_of}
use Rattle.lp_series.specs.CountSteps.{CountsAfter, CountsIn, CountsPoint, SetsSeries}
use Rattle.lp_series.proofs.KeptLemmas.{Agree, any_counted, any_filter, any_flat, any_map, count_agree, count_push, different_push}
use Rattle.lp_series.proofs.KeptLemmas.{filter_agree, filter_no, filter_yes, none_counted, none_kept, tags_alike, keys_alike}

module _ {Y S : Type 0} (old new : HashMap (String Y) ℕ S) (key : List ℕ) (value : ℕ) (sets : SetsSeries old new key value) where
  -- a table has the key that was set
  set_here : hash.get_by_text new key ≡ Some value
  set_here = grind (arith, sets key, nat_list_eq_equiv.refl key)

  -- if a table had the key that was set, it keeps the same points
  pub known_agree : (n : ℕ) → hash.get_by_text old key ≡ Some n → (p : Point) → is_kept new p ≡ is_kept old p
  known_agree n was p = by_test (bytes_eq key (key_of p)) refl
    where
      -- in both cases of the test
      by_test : (same : Bool) → bytes_eq key (key_of p) ≡ same → is_kept new p ≡ is_kept old p
      by_test true same =
          let is = same_text key (key_of p) (sym same) in
          subst (λ (k : List ℕ). is_some (hash.get_by_text new k) ≡ is_some (hash.get_by_text old k)) is (grind (arith, set_here, was))
      by_test false other = grind (arith, sets (key_of p), other)

  -- if a table keeps all of these points without the key that was set, it does then
  pub new_agree : (ps : List Point) → AllByRecursion (λ p. is_kept old p ≡ true) ps → Agree (is_kept new) (is_kept old) ps
  new_agree [] all = tt
  new_agree (p ∷ ps) all = (grind (arith, sets (key_of p), all.0), new_agree ps all.1)

  -- the points that are kept have one more
  pub kept_more : (ps : List Point) (p : Point) → key_of p ≡ key → Agree (is_kept new) (is_kept old) ps
      → kept_by new (ps ++ p ∷ []) ≡ kept_by old ps ++ p ∷ []
  kept_more ps p is agree =
      let here : is_kept new p ≡ true = grind (arith, set_here, is) in
      filter_yes (is_kept new) ps p here ∙ ap (λ (ks : List Point). ks ++ p ∷ []) (filter_agree (is_kept new) (is_kept old) ps agree)

  -- the counts of series have one point more
  counted_more : (ps : List Point) (p : Point) → key_of p ≡ key → 0 < value → value ≡ count_by (has_key key) ps + 1
      → ((q : List ℕ) → IfSome (hash.get_by_text old q) (λ n. (0 < n) × (n ≡ count_by (has_key q) ps)))
      → (q : List ℕ) → IfSome (hash.get_by_text new q) (λ n. (0 < n) × (n ≡ count_by (has_key q) (ps ++ p ∷ [])))
  counted_more ps p is some counts before q = by_test (bytes_eq key q) refl
    where
      -- in both cases of the test
      by_test : (same : Bool) → bytes_eq key q ≡ same
          → IfSome (hash.get_by_text new q) (λ n. (0 < n) × (n ≡ count_by (has_key q) (ps ++ p ∷ [])))
      by_test true same =
          let q_is = same_text key q (sym same) in
          let here : value ≡ count_by (has_key key) (ps ++ p ∷ [])
          = grind (arith, counts, count_push (has_key key) ps p, is, nat_list_eq_equiv.refl key) in
          subst (λ (k : List ℕ). IfSome (hash.get_by_text new k) (λ n. (0 < n) × (n ≡ count_by (has_key k) (ps ++ p ∷ [])))) q_is
          (subst (λ (o : Option ℕ). IfSome o (λ n. (0 < n) × (n ≡ count_by (has_key key) (ps ++ p ∷ [])))) (sym set_here) (some, here))
      by_test false other =
          let as_before : hash.get_by_text new q ≡ hash.get_by_text old q = grind (arith, sets q, other) in
          let counted : count_by (has_key q) (ps ++ p ∷ []) ≡ count_by (has_key q) ps
          = grind (arith, count_push (has_key q) ps p, is, other) in
          subst (λ (o : Option ℕ). IfSome o (λ n. (0 < n) × (n ≡ count_by (has_key q) (ps ++ p ∷ [])))) (sym as_before)
          (subst (λ (count : ℕ). IfSome (hash.get_by_text old q) (λ n. (0 < n) × (n ≡ count))) (sym counted) (before q))

  -- the table has as many keys as there are different ones of the points that are kept
  len_more : (ps : List Point) (p : Point) (known : Bool) → key_of p ≡ key → Agree (is_kept new) (is_kept old) ps
      → list_any (has_key key) (kept_by old ps) ≡ known → hash_map_len new ≡ hash_map_len old + cond known 0 1
      → hash_map_len old ≡ different (map key_of (kept_by old ps))
      → hash_map_len new ≡ different (map key_of (kept_by new (ps ++ p ∷ [])))
  len_more ps p known is agree before_is longer before =
      let ks = kept_by old ps in
      let kept = kept_more ps p is agree in
      let more = different_push (map key_of ks) (key_of p) in
      let tested : list_any (λ t. bytes_eq t (key_of p)) (map key_of ks) ≡ known
      = any_map key_of (λ (t : List ℕ). bytes_eq t (key_of p)) ks
      ∙ ap (λ (k : List ℕ). list_any (has_key k) ks) is ∙ before_is in
      longer ∙ ap (λ (n : ℕ). n + cond known 0 1) before
      ∙ ap (λ (b : Bool). different (map key_of ks) + cond b 0 1) (sym tested) ∙ sym more
      ∙ ap different (sym (map-append key_of ks (p ∷ []))) ∙ ap (λ (qs : List Point). different (map key_of qs)) (sym kept)

  -- the table has one point more of a series that is kept
  pub series_more : (most others : ℕ) (ps : List Point) (p : Point) → key_of p ≡ key → 0 < value → value ≡ count_by (has_key key) ps + 1
      → Agree (is_kept new) (is_kept old) ps → (known : Bool) → list_any (has_key key) (kept_by old ps) ≡ known
      → hash_map_len new ≡ hash_map_len old + cond known 0 1 → hash_map_len new ≤ most
      → CountsSeries most old others ps → CountsSeries most new others (ps ++ p ∷ [])
  series_more most others ps p is some counts agree known before_is longer few before =
      let here : is_kept new p ≡ true = grind (arith, set_here, is) in
      record {
        counted = counted_more ps p is some counts before.counted;
        few = few;
        distinct = len_more ps p known is agree before_is longer before.distinct;
        beyond = grind (arith, before.beyond, count_push (λ (q : Point). not (is_kept new q)) ps p, here, count_agree (is_kept new) (is_kept old) ps agree);
        full = λ some_beyond. let full = before.full some_beyond in omega (arith, longer, full);
      }

module _ {Y S : Type 0} (table : HashMap (String Y) ℕ S) (key : List ℕ) (none : hash.get_by_text table key ≡ None) where
  -- points that are kept are of other series than one that is not
  pub other_keys : (ps : List Point) → AllByRecursion (λ p. is_kept table p ≡ true) ps → AllByRecursion (λ p. has_key key p ≡ false) ps
  other_keys [] all = tt
  other_keys (p ∷ ps) all = (by_test (bytes_eq (key_of p) key) refl, other_keys ps all.1)
    where
      -- in both cases of the test
      by_test : (same : Bool) → bytes_eq (key_of p) key ≡ same → has_key key p ≡ false
      by_test false other = other
      by_test true same =
          let is = same_text (key_of p) key (sym same) in
          absurd (true≢false (sym all.0 ∙ ap (λ (k : List ℕ). is_some (hash.get_by_text table k)) is ∙ ap is_some none))

  -- a point of a series that is not kept is not kept
  not_kept : (p : Point) → key_of p ≡ key → is_kept table p ≡ false
  not_kept p is = grind (arith, none, is)

  -- it adds nothing to the points that are kept
  pub kept_without : (ps : List Point) (p : Point) → key_of p ≡ key → kept_by table (ps ++ p ∷ []) ≡ kept_by table ps
  kept_without ps p is = filter_no (is_kept table) ps p (not_kept p is)

  -- it is one more of those that are not
  pub series_beyond : (most others : ℕ) (ps : List Point) (p : Point) → key_of p ≡ key → most ≤ hash_map_len table
      → CountsSeries most table others ps → CountsSeries most table (others + 1) (ps ++ p ∷ [])
  series_beyond most others ps p is full before = record {
    counted = λ q. by_test q (bytes_eq key q) refl;
    few = before.few;
    distinct = before.distinct ∙ ap (λ (qs : List Point). different (map key_of qs)) (sym (kept_without ps p is));
    beyond = grind (arith, before.beyond, count_push (λ (q : Point). not (is_kept table q)) ps p, not_kept p is);
    full = λ some. full;
  }
    where
      -- in both cases of the test
      by_test : (q : List ℕ) (same : Bool) → bytes_eq key q ≡ same
          → IfSome (hash.get_by_text table q) (λ n. (0 < n) × (n ≡ count_by (has_key q) (ps ++ p ∷ [])))
      by_test q true same = subst (λ (k : List ℕ). IfSome (hash.get_by_text table k) (λ n. (0 < n) × (n ≡ count_by (has_key k) (ps ++ p ∷ []))))
          (same_text key q (sym same))
          (subst (λ (o : Option ℕ). IfSome o (λ n. (0 < n) × (n ≡ count_by (has_key key) (ps ++ p ∷ [])))) (sym none) tt)
      by_test q false other =
          let counted : count_by (has_key q) (ps ++ p ∷ []) ≡ count_by (has_key q) ps
          = grind (arith, count_push (has_key q) ps p, is, other) in
          subst (λ (count : ℕ). IfSome (hash.get_by_text table q) (λ n. (0 < n) × (n ≡ count))) (sym counted) (before.counted q)

-- a measurement has one point more
point_more : (is_new : Bool) (p : Point) (old new : MeasurementCounts) (qs : List Point) → CountsMeasurement old qs
    → CountsPoint is_new p old new → list_any (has_key (key_of p)) qs ≡ not is_new → CountsMeasurement new (qs ++ p ∷ [])
point_more is_new p old new qs before more known = record {
  points = more.points ∙ ap (λ n. n + 1) before.points ∙ sym (length_push qs p);
  series = grind (
    arith,
    more.series,
    before.series,
    map-append key_of qs (p ∷ []),
    different_push (map key_of qs) (key_of p),
    known,
    any_map key_of (λ (t : List ℕ). bytes_eq t (key_of p)) qs,
  );
  fields = subst (HasKinds new.fields) (sym all) (more.fields (flat_map (λ q. q.fields) qs) before.fields);
}
  where
    -- the fields with those of one point more
    all : flat_map (λ q. q.fields) (qs ++ p ∷ []) ≡ flat_map (λ q. q.fields) qs ++ p.fields
    all = flat_map-append (λ (q : Point). q.fields) qs (p ∷ []) ∙ ap (λ (fs : List Field). flat_map (λ q. q.fields) qs ++ fs) (append-nil p.fields)

-- a measurement has one point more, or its first
measured : (is_new : Bool) (p : Point) (before : Option MeasurementCounts) (after : MeasurementCounts) (qs : List Point)
    → CountsIfAny before qs → CountsAfter is_new p before after → list_any (has_key (key_of p)) qs ≡ not is_new
    → CountsIfAny (Some after) (qs ++ p ∷ [])
measured is_new p None after qs none more known =
    let nothing : CountsMeasurement more.0 [] = record { points = more.1.points; series = more.1.series; fields = more.1.fields } in (
      omega (arith, length_push qs p),
      point_more is_new p more.0 after qs (subst (CountsMeasurement more.0) (sym none) nothing) more.2 known,
    )
measured is_new p (Some old) after qs before more known =
    (omega (arith, length_push qs p), point_more is_new p old after qs before.1 more known)

-- each measurement has what it had, and that of a point one point more
pub measurements_more : {Y : Type 0} (old new : BTreeMap (String Y) MeasurementCounts) (is_new : Bool) (p : Point) (ks : List Point)
    → ((m : List ℕ) → CountsIfAny (get_by_text old m) (filter (is_of m) ks)) → CountsIn is_new p old new
    → list_any (has_key (key_of p)) (filter (is_of p.measurement) ks) ≡ not is_new
    → (m : List ℕ) → CountsIfAny (get_by_text new m) (filter (is_of m) (ks ++ p ∷ []))
measurements_more old new is_new p ks before more known m = by_test (bytes_eq p.measurement m) refl
  where
    -- in both cases of the test
    by_test : (same : Bool) → bytes_eq p.measurement m ≡ same → CountsIfAny (get_by_text new m) (filter (is_of m) (ks ++ p ∷ []))
    by_test true same =
        let found : get_by_text new p.measurement ≡ Some more.0
        = grind (arith, more.2 p.measurement, nat_list_eq_equiv.refl p.measurement) in
        let there = measured is_new p (get_by_text old p.measurement) more.0 (filter (is_of p.measurement) ks) (before p.measurement) more.1 known in
        let kept = filter_yes (is_of p.measurement) ks p (nat_list_eq_equiv.refl p.measurement) in
        subst (λ (k : List ℕ). CountsIfAny (get_by_text new k) (filter (is_of k) (ks ++ p ∷ []))) (same_text p.measurement m (sym same))
        (subst (λ (o : Option MeasurementCounts). CountsIfAny o (filter (is_of p.measurement) (ks ++ p ∷ []))) (sym found)
        (subst (CountsIfAny (Some more.0)) (sym kept) there))
    by_test false other =
        let as_before : get_by_text new m ≡ get_by_text old m = grind (arith, more.2 m, other) in
        subst (λ (o : Option MeasurementCounts). CountsIfAny o (filter (is_of m) (ks ++ p ∷ []))) (sym as_before)
        (subst (CountsIfAny (get_by_text old m)) (sym (filter_no (is_of m) ks p other)) (before m))

module _ {Y S : Type 0} (tell : KeysTellSeries) (table : HashMap (String Y) ℕ S) (ps : List Point) (p : Point) (n : ℕ)
    (found : hash.get_by_text table (key_of p) ≡ Some n) (some : 0 < count_by (has_key (key_of p)) ps) where
  -- a test that each point of a known series passes is passed by some point that is kept
  some_kept : (test : Point → Bool) → ((q : Point) → key_of q ≡ key_of p → test q ≡ true) → list_any test (kept_by table ps) ≡ true
  some_kept test passes =
      any_filter (is_kept table) test ps ∙ any_counted (has_key (key_of p)) (λ (q : Point). is_kept table q && test q) ps some
      (λ q same. let is = same_text (key_of q) (key_of p) (sym same) in
      let kept : is_kept table q ≡ true = ap (λ (k : List ℕ). is_some (hash.get_by_text table k)) is ∙ ap is_some found in
      grind (arith, kept, passes q is))

  -- a point of a known series is kept
  pub known_key : list_any (has_key (key_of p)) (kept_by table ps) ≡ true
  known_key = some_kept (has_key (key_of p)) (λ q is. ap (λ (k : List ℕ). bytes_eq k (key_of p)) is ∙ nat_list_eq_equiv.refl (key_of p))

  -- a point of a known series that is kept has its measurement
  pub known_before : list_any (has_key (key_of p)) (filter (is_of p.measurement) (kept_by table ps)) ≡ true
  known_before =
      any_filter (is_of p.measurement) (has_key (key_of p)) (kept_by table ps)
      ∙ some_kept (λ (q : Point). is_of p.measurement q && has_key (key_of p) q)
      (λ q same. let alike = (tell q.measurement p.measurement q.tags p.tags).0 same in
      grind (arith, alike.measurement_is, same, nat_list_eq_equiv.refl p.measurement, nat_list_eq_equiv.refl (key_of p)))

  -- a test of tags that says the same of all points of a known series says the same with one of them more
  known_test : (test : Tag → Bool) → ((q : Point) → key_of q ≡ key_of p → list_any test q.tags ≡ list_any test p.tags)
      → list_any test (flat_map (λ q. q.tags) (kept_by table ps)) ≡ list_any test (flat_map (λ q. q.tags) (kept_by table ps ++ p ∷ []))
  known_test test alike = by_test (list_any test p.tags) refl
    where
      -- the tags that are there
      there : List Tag
      there = flat_map (λ q. q.tags) (kept_by table ps)

      -- what is tested is tested of both parts
      split : list_any test (flat_map (λ q. q.tags) (kept_by table ps ++ p ∷ [])) ≡ (list_any test there || list_any test p.tags)
      split = ap (list_any test) (flat_map-append (λ (q : Point). q.tags) (kept_by table ps) (p ∷ [])
          ∙ ap (λ (ts : List Tag). there ++ ts) (append-nil p.tags)) ∙ list_any-append test there p.tags

      -- in both cases of the test
      by_test : (has : Bool) → list_any test p.tags ≡ has
          → list_any test there ≡ list_any test (flat_map (λ q. q.tags) (kept_by table ps ++ p ∷ []))
      by_test false none = grind (arith, split, none)
      by_test true has =
          let earlier : list_any test there ≡ true
          = any_flat (λ (q : Point). q.tags) test (kept_by table ps)
          ∙ some_kept (λ (q : Point). list_any test q.tags) (λ q same. alike q same ∙ has) in
          grind (arith, split, earlier)

  -- a point of a known series that is kept has its tags, so they are there
  pub known_tags : (tags : BTreeMap (String Y) (HashSet (String Y) S)) → HasTags tags (flat_map (λ q. q.tags) (kept_by table ps))
      → HasTags tags (flat_map (λ q. q.tags) (kept_by table ps ++ p ∷ []))
  known_tags tags before = record {
    keys = λ key. before.keys key ∙ known_test (λ (t : Tag). bytes_eq t.key key) (λ q same. keys_alike tell p q same key);
    values = λ key value. before.values key value ∙ known_test (is_tag key value) (λ q same. tags_alike tell p q same key value);
  }

-- no point of a new series is kept
pub new_key : (ps : List Point) (keep : Point → Bool) (key : List ℕ) → AllByRecursion (λ p. has_key key p ≡ false) ps
    → list_any (has_key key) (filter keep ps) ≡ false
new_key ps keep key none = none_counted (has_key key) (filter keep ps) (none_kept keep (has_key key) ps none)

-- nor any of one measurement
pub new_before : (ps : List Point) (keep of : Point → Bool) (key : List ℕ) → AllByRecursion (λ p. has_key key p ≡ false) ps
    → list_any (has_key key) (filter of (filter keep ps)) ≡ false
new_before ps keep of key none =
    none_counted (has_key key) (filter of (filter keep ps)) (none_kept of (has_key key) (filter keep ps) (none_kept keep (has_key key) ps none))
