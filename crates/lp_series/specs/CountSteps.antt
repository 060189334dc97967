-- What one line more changes of what is counted.
use Rattle.std.specs.Prelude.{◌≡◌, ℕ, ◌+◌, ◌<◌, ◌≤◌, ◌||◌, Bool, false, List, [], ◌++◌, if◌then◌else◌}
use Rattle.std.specs.Prelude.{ℤ, ◌∷◌, Option, Some, None, String, is_some}
use Rattle.std.specs.{BTreeMap.BTreeMap, BTreeMap.get_by_text, HashMap.HashMap, HashMap.hash_map_len, HashSet.HashSet, HashSet.contains_text, Map.update, Str.bytes_eq}
use Rattle.std.specs.HashMap as hash
use Rattle.influxdb_line_protocol.specs.format.Points.{Field, Point, Tag}
use Rattle.influxdb_line_protocol.specs.format.Values.{Value}
use Rattle.lp_series.specs.declared.{kinds.FieldKinds.FieldKinds, measurements.MeasurementCounts.MeasurementCounts, tables.Found.Found, counts.SeriesCounts.SeriesCounts}
use Rattle.lp_series.specs.declared.tables.Found.TheVariants.{Known, New, Beyond}
use Rattle.lp_series.specs.Counting.{CountsKept, HasKinds, has_tag, is_tag, key_of, is_boolean, is_float, is_integer, is_string, is_unsigned}

-- the kinds with that of a value more
abbrev pub with_value : FieldKinds → Value (List ℕ) → FieldKinds
with_value kinds v = record {
  float = kinds.float || is_float v;
  integer = kinds.integer || is_integer v;
  unsigned = kinds.unsigned || is_unsigned v;
  string = kinds.string || is_string v;
  boolean = kinds.boolean || is_boolean v;
}

-- no kinds
abbrev pub no_kinds : FieldKinds
no_kinds = record { float = false; integer = false; unsigned = false; string = false; boolean = false }

-- these kinds, or none
abbrev pub kinds_or_none : Option FieldKinds → FieldKinds
kinds_or_none None = no_kinds
kinds_or_none (Some kinds) = kinds

module _ {Y X : Type 0} where
  -- a map has this value at a key now, and at each other what it had
  abbrev pub SetsText : BTreeMap (String Y) X → BTreeMap (String Y) X → List ℕ → X → Type 0
  SetsText old new key value = (q : List ℕ) → get_by_text new q ≡ update bytes_eq (get_by_text old) key (Some value) q

module _ {Y S : Type 0} where
  -- a series with this key has so many points now, and each other as many as before
  abbrev pub SetsSeries : HashMap (String Y) ℕ S → HashMap (String Y) ℕ S → List ℕ → ℕ → Type 0
  SetsSeries old new key n = (q : List ℕ) → hash.get_by_text new q ≡ update bytes_eq (hash.get_by_text old) key (Some n) q

module _ {Y S : Type 0} where
  -- a line more of the series with this key was counted, if that is kept
  abbrev pub CountsKey : ℕ → Found → List ℕ → HashMap (String Y) ℕ S → HashMap (String Y) ℕ S → Type 0
  CountsKey most Known key old new = (n : ℕ) × (hash.get_by_text old key ≡ Some n) × SetsSeries old new key (n + 1)
      × (hash_map_len new ≡ hash_map_len old)
  CountsKey most New key old new = (hash.get_by_text old key ≡ None) × SetsSeries old new key 1
      × (hash_map_len old < most) × (hash_map_len new ≡ hash_map_len old + 1)
  CountsKey most Beyond key old new = (hash.get_by_text old key ≡ None) × (most ≤ hash_map_len old) × (new ≡ old)

module _ {Y S : Type 0} where
  -- a value more is in a set of texts
  abbrev pub PutsText : HashSet (String Y) S → HashSet (String Y) S → List ℕ → Type 0
  PutsText old new value = (q : List ℕ) → contains_text new q ≡ (bytes_eq value q || contains_text old q)

  -- a tag more is among these
  pub record PutsTag (old new : BTreeMap (String Y) (HashSet (String Y) S)) (t : Tag) : Type 0 where
    pub keys : (key : List ℕ) → is_some (get_by_text new key) ≡ (bytes_eq t.key key || is_some (get_by_text old key))
    pub values : (key value : List ℕ) → has_tag new key value ≡ (is_tag key value t || has_tag old key value)

-- 1 if this is so
abbrev pub one_if : Bool → ℕ
one_if is_so = if is_so then 1 else 0

-- a point more of a measurement was counted, of a new series or of a known one
pub record CountsPoint (is_new : Bool) (p : Point) (old new : MeasurementCounts) : Type 0 where
  pub points : new.points ≡ old.points + 1
  pub series : new.series ≡ old.series + one_if is_new
  pub fields : (fields : List Field) → HasKinds old.fields fields → HasKinds new.fields (fields ++ p.fields)

-- nothing was counted of a measurement yet
pub record CountsNothing (counts : MeasurementCounts) : Type 0 where
  pub points : counts.points ≡ 0
  pub series : counts.series ≡ 0
  pub fields : HasKinds counts.fields []

-- a point more was counted, after what there was, or after nothing
abbrev pub CountsAfter : Bool → Point → Option MeasurementCounts → MeasurementCounts → Type 0
CountsAfter is_new p None new = (none : MeasurementCounts) × CountsNothing none × CountsPoint is_new p none new
CountsAfter is_new p (Some old) new = CountsPoint is_new p old new

module _ {Y : Type 0} where
  -- a point more of its measurement was counted
  abbrev pub CountsIn : Bool → Point → BTreeMap (String Y) MeasurementCounts → BTreeMap (String Y) MeasurementCounts → Type 0
  CountsIn is_new p old new = (counts : MeasurementCounts)
      × CountsAfter is_new p (get_by_text old p.measurement) counts × SetsText old new p.measurement counts

-- times with one more, if there is one
abbrev pub with_time : List ℤ → Option ℤ → List ℤ
with_time times None = times
with_time times (Some t) = times ++ t ∷ []

-- a measurement has as many points and series as before, or is as unknown
abbrev pub KeepsNumbers : (old new : Option MeasurementCounts) → Type 0
KeepsNumbers None new = new ≡ None
KeepsNumbers (Some old) new =
    (counts : MeasurementCounts) × (new ≡ Some counts) × (counts.points ≡ old.points) × (counts.series ≡ old.series)

module _ {Y S : Type 0} where
  -- each series has as many points as before, and none is new
  abbrev pub KeepsSeries : (old new : HashMap (String Y) ℕ S) → Type 0
  KeepsSeries old new = ((key : List ℕ) → hash.get_by_text new key ≡ hash.get_by_text old key) × (hash_map_len new ≡ hash_map_len old)

module _ {Y : Type 0} where
  -- each measurement has as many points and series as before, and none is new
  abbrev pub KeepsMeasurements : (old new : BTreeMap (String Y) MeasurementCounts) → Type 0
  KeepsMeasurements old new = (m : List ℕ) → KeepsNumbers (get_by_text old m) (get_by_text new m)

module _ {Y S : Type 0} where
  -- each series has as many points as it had before one was counted of the series with this key, which was found so
  abbrev pub TakesBack : Found → List ℕ → (counted new : HashMap (String Y) ℕ S) → Type 0
  TakesBack found key counted new =
      (most : ℕ) (before : HashMap (String Y) ℕ S) → CountsKey most found key before counted → KeepsSeries before new

-- a point more was counted beside its series, which was found so, and counted before
abbrev pub CountsFound : Found → Point → (old new : SeriesCounts) → Type 0
CountsFound found p old new =
    (before : SeriesCounts) (ps : List Point) → CountsKey old.max_series found (key_of p) before.series old.series
    → CountsKept (record old { series = before.series }) ps → CountsKept new (ps ++ p ∷ [])

-- what was counted of all points is as before
pub record KeepsTotals (old new : SeriesCounts) : Type 0 where
  pub most : new.max_series ≡ old.max_series
  pub points : new.points ≡ old.points
  pub without_time : new.without_time ≡ old.without_time
  pub least_time : new.least_time ≡ old.least_time
  pub greatest_time : new.greatest_time ≡ old.greatest_time

-- no count has changed; fields of measurements and tags may have come
pub record KeepsCounts (old new : SeriesCounts) : Type 0 where
  pub totals : KeepsTotals old new
  pub beyond : new.beyond ≡ old.beyond
  pub series : KeepsSeries old.series new.series
  pub measurements : KeepsMeasurements old.measurements new.measurements
