-- What an error leaves as it was.
use Rattle.std.proofs.Common.{◌≡◌, ℕ, ◌<◌, List, Bool, true, false, Option, Some, None, Result, Ok, Err, String, BTreeMap, HashMap, ℤ, refl, sym, ap, subst, ◌∙◌, arith, bytes_eq, cond, is_some, map}
use Rattle.std.specs.HashMap as hash
use Rattle.std.specs.{BTreeMap.get_by_text, Cmp.Lexicographic.same_text, Map.update}
use Rattle.std.specs.List.{count_by, filter}
use Rattle.std.specs.Prelude.{IfSome, OnErr}
use Rattle.std.proofs.lemmas.Cmp.{nat_list_eq_equiv}
use Rattle.influxdb_line_protocol.specs.format.Points.{Point}
use Rattle.lp_series.specs.declared.{counts.SeriesCounts.SeriesCounts, measurements.MeasurementCounts.MeasurementCounts}
use Rattle.lp_series.specs.Counting.{Counts, CountsAll, CountsIfAny, CountsNumbers, CountsSeries, HasNumbers, IsGreatest, IsLeast, different, has_key, is_kept, is_of, kept_by, key_of, times_of}
use Rattle.lp_series.specs.CountSteps.{KeepsCounts, KeepsMeasurements, KeepsNumbers, SetsSeries, SetsText}
use Rattle.lp_series.proofs.KeptLemmas.{Agree, agree_all, count_agree, filter_agree}

-- what holds at an error
pub at_err : {T E Q : Type 0} (r : Result T E) → Q → OnErr r Q
at_err (Ok x) q = tt
at_err (Err e) q = q

-- if a map had at a key what was set there, it has what it had
pub set_same : {X Y S : Type 0} (old new : HashMap (String Y) X S) (key : List ℕ) (here : Option X) → hash.get_by_text old key ≡ here
    → ((q : List ℕ) → hash.get_by_text new q ≡ update bytes_eq (hash.get_by_text old) key here q) → (q : List ℕ)
    → hash.get_by_text new q ≡ hash.get_by_text old q
set_same old new key here had sets q = by_test (bytes_eq key q) refl
  where
    -- in both cases of the test
    by_test : (same : Bool) → bytes_eq key q ≡ same → hash.get_by_text new q ≡ hash.get_by_text old q
    by_test true same =
        sets q ∙ ap (λ (b : Bool). cond b here (hash.get_by_text old q)) same ∙ sym had ∙ ap (hash.get_by_text old) (same_text key q (sym same))
    by_test false other = sets q ∙ ap (λ (b : Bool). cond b here (hash.get_by_text old q)) other

-- if a map was set at a key, and then to what it had there before, it has what it had before
pub set_back : {Y S : Type 0} (before counted new : HashMap (String Y) ℕ S) (key : List ℕ) (here : Option ℕ) (value : ℕ)
    → hash.get_by_text before key ≡ here → SetsSeries before counted key value
    → ((q : List ℕ) → hash.get_by_text new q ≡ update bytes_eq (hash.get_by_text counted) key here q) → (q : List ℕ)
    → hash.get_by_text new q ≡ hash.get_by_text before q
set_back before counted new key here value had sets back =
    set_same before new key here had (λ q. back q ∙ by_test q (bytes_eq key q) refl)
  where
    -- in both cases of the test
    by_test : (q : List ℕ) (same : Bool) → bytes_eq key q ≡ same
        → update bytes_eq (hash.get_by_text counted) key here q ≡ update bytes_eq (hash.get_by_text before) key here q
    by_test q true same =
        ap (λ (b : Bool). cond b here (hash.get_by_text counted q)) same ∙ sym (ap (λ (b : Bool). cond b here (hash.get_by_text before q)) same)
    by_test q false other =
        ap (λ (b : Bool). cond b here (hash.get_by_text counted q)) other ∙ sets q
        ∙ ap (λ (b : Bool). cond b (Some value) (hash.get_by_text before q)) other
        ∙ sym (ap (λ (b : Bool). cond b here (hash.get_by_text before q)) other)

-- a measurement has the numbers that it has
pub same_numbers : (o : Option MeasurementCounts) → KeepsNumbers o o
same_numbers None = refl
same_numbers (Some counts) = (counts, refl, refl, refl)

module _ {Y : Type 0} (old new : BTreeMap (String Y) MeasurementCounts) (key : List ℕ) (was now : MeasurementCounts) where
  -- if one measurement was set, and has the numbers that it had, each has
  pub one_set : get_by_text old key ≡ Some was → SetsText old new key now → now.points ≡ was.points → now.series ≡ was.series
      → KeepsMeasurements old new
  one_set had sets points series m = by_test (bytes_eq key m) refl
    where
      -- what is there now
      here : get_by_text new key ≡ Some now
      here = grind (arith, sets key, nat_list_eq_equiv.refl key)

      -- in both cases of the test
      by_test : (same : Bool) → bytes_eq key m ≡ same → KeepsNumbers (get_by_text old m) (get_by_text new m)
      by_test true same =
          subst (λ (k : List ℕ). KeepsNumbers (get_by_text old k) (get_by_text new k)) (same_text key m (sym same))
          (subst (λ (o : Option MeasurementCounts). KeepsNumbers o (get_by_text new key)) (sym had) (now, here, points, series))
      by_test false other =
          let as_before : get_by_text new m ≡ get_by_text old m = grind (arith, sets m, other) in
          subst (λ (o : Option MeasurementCounts). KeepsNumbers (get_by_text old m) o) (sym as_before) (same_numbers (get_by_text old m))

-- no count changes if nothing does
pub same_counts : (counts : SeriesCounts) → KeepsCounts counts counts
same_counts counts = record {
  totals = record { most = refl; points = refl; without_time = refl; least_time = refl; greatest_time = refl };
  beyond = refl;
  series = (λ key. refl, refl);
  measurements = λ m. same_numbers (get_by_text counts.measurements m);
}

-- the numbers of a measurement that has as many points and series as before
numbers_kept : (old new : Option MeasurementCounts) (points : List Point) → KeepsNumbers old new → CountsIfAny old points → HasNumbers new points
numbers_kept None new points same counts = subst (λ (o : Option MeasurementCounts). HasNumbers o points) (sym same) counts
numbers_kept (Some was) new points same counts =
    subst (λ (o : Option MeasurementCounts). HasNumbers o points) (sym same.1)
    (counts.0, same.2 ∙ counts.1.points, same.3 ∙ counts.1.series)

module _ (old new : SeriesCounts) (ps : List Point) (same : KeepsCounts old new) where
  -- the totals are as before
  all_kept : CountsAll old ps → CountsAll new ps
  all_kept counts = record {
    points = same.totals.points ∙ counts.points;
    without_time = same.totals.without_time ∙ counts.without_time;
    least = subst (λ (t : Option ℤ). IsLeast t (times_of ps)) (sym same.totals.least_time) counts.least;
    greatest = subst (λ (t : Option ℤ). IsGreatest t (times_of ps)) (sym same.totals.greatest_time) counts.greatest;
  }

  -- the points of the same series are kept
  same_kept : Agree (is_kept new.series) (is_kept old.series) ps
  same_kept = agree_all (is_kept new.series) (is_kept old.series) (λ p. ap is_some (same.series.0 (key_of p))) ps

  -- the series are counted as before
  series_kept : CountsSeries old.max_series old.series old.beyond ps → CountsSeries new.max_series new.series new.beyond ps
  series_kept counts = record {
    counted = λ key. subst (λ (o : Option ℕ). IfSome o (λ n. (0 < n) × (n ≡ count_by (has_key key) ps))) (sym (same.series.0 key)) (counts.counted key);
    few = omega (arith, counts.few, same.series.1, same.totals.most);
    distinct = same.series.1 ∙ counts.distinct
        ∙ ap (λ (ks : List Point). different (map key_of ks)) (sym (filter_agree (is_kept new.series) (is_kept old.series) ps same_kept));
    beyond = same.beyond ∙ counts.beyond ∙ sym (count_agree (is_kept new.series) (is_kept old.series) ps same_kept);
    full = λ some. omega (arith, counts.full (omega (arith, some, same.beyond)), same.series.1, same.totals.most);
  }

  -- after an error each count is that of the points before it
  pub numbers_counted : Counts old ps → CountsNumbers new ps
  numbers_counted counts = record {
    all = all_kept counts.all;
    series = series_kept counts.kept.series;
    measurements = λ m. subst (λ (ks : List Point). HasNumbers (get_by_text new.measurements m) (filter (is_of m) ks))
        (sym (filter_agree (is_kept new.series) (is_kept old.series) ps same_kept))
        (numbers_kept (get_by_text old.measurements m) (get_by_text new.measurements m) (filter (is_of m) (kept_by old.series ps))
        (same.measurements m) (counts.kept.measurements m));
  }
