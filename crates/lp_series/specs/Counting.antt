-- What is counted of points by their series.
use Rattle.std.specs.Prelude.{◌≡◌, ℕ, ◌<◌, ◌≤◌, ◌+◌, ◌&&◌, Bool, true, false, not, List, [], ◌∷◌, length, map, flat_map, if◌then◌else◌}
use Rattle.std.specs.Prelude.{ℤ, ◌≤ℤ◌, Option, Some, None, IfSome, is_some, is_none, String}
use Rattle.std.specs.{BTreeMap.BTreeMap, BTreeMap.get_by_text, HashMap.HashMap, HashMap.hash_map_len, HashSet.HashSet, HashSet.contains_text}
use Rattle.std.specs.HashMap as hash
use Rattle.std.specs.{Option.option_map_or, List.All, List.Contains, List.count_by, List.filter, List.filter_map, List.list_any, Str.bytes_eq}
use Rattle.influxdb_line_protocol.specs.code.Keys.{series_key}
use Rattle.influxdb_line_protocol.specs.format.Points.{Field, Point, Tag}
use Rattle.influxdb_line_protocol.specs.format.Values.{Value, integer, unsigned, float, string, boolean}
use Rattle.lp_series.specs.declared.{kinds.FieldKinds.FieldKinds, measurements.MeasurementCounts.MeasurementCounts, counts.SeriesCounts.SeriesCounts}

-- the key of the series of a point
abbrev pub key_of : Point → List ℕ
key_of p = series_key p.measurement p.tags

-- whether a point is of the series with this key
abbrev pub has_key : List ℕ → Point → Bool
has_key key p = bytes_eq (key_of p) key

-- whether a point is of this measurement
abbrev pub is_of : List ℕ → Point → Bool
is_of measurement p = bytes_eq p.measurement measurement

-- the times of those points that have one
abbrev pub times_of : List Point → List ℤ
times_of points = filter_map (λ p. p.timestamp) points

-- the least of these times, or none if there are none
abbrev pub IsLeast : Option ℤ → List ℤ → Type 0
IsLeast None times = times ≡ []
IsLeast (Some t) times = Contains times t × All (λ u. t ≤ℤ u) times

-- the greatest of these times, or none if there are none
abbrev pub IsGreatest : Option ℤ → List ℤ → Type 0
IsGreatest None times = times ≡ []
IsGreatest (Some t) times = Contains times t × All (λ u. u ≤ℤ t) times

-- how many of these texts differ from one another
abbrev pub different : List (List ℕ) → ℕ
different [] = 0
different (text ∷ texts) = if list_any (bytes_eq text) texts then different texts else different texts + 1

-- whether a value is a float
abbrev pub is_float : Value (List ℕ) → Bool
is_float (float t) = true
is_float other = false

-- whether a value is an integer
abbrev pub is_integer : Value (List ℕ) → Bool
is_integer (integer z) = true
is_integer other = false

-- whether a value is an unsigned integer
abbrev pub is_unsigned : Value (List ℕ) → Bool
is_unsigned (unsigned n) = true
is_unsigned other = false

-- whether a value is a string
abbrev pub is_string : Value (List ℕ) → Bool
is_string (string t) = true
is_string other = false

-- whether a value is a Boolean
abbrev pub is_boolean : Value (List ℕ) → Bool
is_boolean (boolean b) = true
is_boolean other = false

-- whether some field with this key has a value that passes
abbrev pub has_value : List ℕ → (Value (List ℕ) → Bool) → List Field → Bool
has_value key passes fields = list_any (λ f. bytes_eq f.key key && passes f.value) fields

-- whether a tag has this key and this value
abbrev pub is_tag : List ℕ → List ℕ → Tag → Bool
is_tag key value t = bytes_eq t.key key && bytes_eq t.value value

-- the kinds of values that the fields with this key have, or none if no field has it
abbrev pub kinds_at : List ℕ → List Field → Option FieldKinds
kinds_at key fields =
    if list_any (λ f. bytes_eq f.key key) fields
    then Some (record {
      float = has_value key is_float fields;
      integer = has_value key is_integer fields;
      unsigned = has_value key is_unsigned fields;
      string = has_value key is_string fields;
      boolean = has_value key is_boolean fields;
    })
    else None

module _ {Y S : Type 0} where
  -- whether the series of a point is in a table
  abbrev pub is_kept : HashMap (String Y) ℕ S → Point → Bool
  is_kept table p = is_some (hash.get_by_text table (key_of p))

  -- the points whose series are in a table
  abbrev pub kept_by : HashMap (String Y) ℕ S → List Point → List Point
  kept_by table points = filter (is_kept table) points

  -- a table of at most this many series has for each how many points are of it, at least one, and as many keys as these have series.
  -- So many points are of series that are not there, which is none as long as the table is not full
  pub record CountsSeries (most : ℕ) (table : HashMap (String Y) ℕ S) (others : ℕ) (ps : List Point) : Type 0 where
    pub counted : (key : List ℕ) → IfSome (hash.get_by_text table key) (λ n. (0 < n) × (n ≡ count_by (has_key key) ps))
    pub few : hash_map_len table ≤ most
    pub distinct : hash_map_len table ≡ different (map key_of (kept_by table ps))
    pub beyond : others ≡ count_by (λ p. not (is_kept table p)) ps
    pub full : 0 < others → most ≤ hash_map_len table

module _ {Y : Type 0} where
  -- the kinds of the values of these fields, by their keys
  abbrev pub HasKinds : BTreeMap (String Y) FieldKinds → List Field → Type 0
  HasKinds kinds fields = (key : List ℕ) → get_by_text kinds key ≡ kinds_at key fields

module _ {Y S : Type 0} where
  -- whether a tag value is among those of a tag key
  abbrev pub has_tag : BTreeMap (String Y) (HashSet (String Y) S) → List ℕ → List ℕ → Bool
  has_tag tags key value = option_map_or (λ values. contains_text values value) (get_by_text tags key) false

  -- the keys of these tags, and the values of each
  pub record HasTags (tags : BTreeMap (String Y) (HashSet (String Y) S)) (of : List Tag) : Type 0 where
    pub keys : (key : List ℕ) → is_some (get_by_text tags key) ≡ list_any (λ t. bytes_eq t.key key) of
    pub values : (key value : List ℕ) → has_tag tags key value ≡ list_any (is_tag key value) of

-- what was counted of the points of one measurement: how many there are, of how many series, and the kinds of their fields' values
pub record CountsMeasurement (counts : MeasurementCounts) (ps : List Point) : Type 0 where
  pub points : counts.points ≡ length ps
  pub series : counts.series ≡ different (map key_of ps)
  pub fields : HasKinds counts.fields (flat_map (λ p. p.fields) ps)

-- what was counted of these points, if there are any
abbrev pub CountsIfAny : Option MeasurementCounts → List Point → Type 0
CountsIfAny None points = points ≡ []
CountsIfAny (Some counts) points = (0 < length points) × CountsMeasurement counts points

-- what was counted by series, of which at most this many are kept, and of the points of those series
pub record CountsKept (counts : SeriesCounts) (ps : List Point) : Type 0 where
  pub series : CountsSeries counts.max_series counts.series counts.beyond ps
  pub measurements : (m : List ℕ) → CountsIfAny (get_by_text counts.measurements m) (filter (is_of m) (kept_by counts.series ps))
  pub tags : HasTags counts.tags (flat_map (λ p. p.tags) (kept_by counts.series ps))

-- what was counted of all points: how many there are, how many have no time, and the least and the greatest time
pub record CountsAll (counts : SeriesCounts) (ps : List Point) : Type 0 where
  pub points : counts.points ≡ length ps
  pub without_time : counts.without_time ≡ count_by (λ p. is_none p.timestamp) ps
  pub least : IsLeast counts.least_time (times_of ps)
  pub greatest : IsGreatest counts.greatest_time (times_of ps)

-- what was counted of points: of all, and by series
pub record Counts (counts : SeriesCounts) (ps : List Point) : Type 0 where
  pub all : CountsAll counts ps
  pub kept : CountsKept counts ps

-- the points and the series of a measurement, if there are any points
abbrev pub HasNumbers : Option MeasurementCounts → List Point → Type 0
HasNumbers None points = points ≡ []
HasNumbers (Some counts) points =
    (0 < length points) × (counts.points ≡ length points) × (counts.series ≡ different (map key_of points))

-- each count is that of these points; fields of measurements and tags may be of other points too
pub record CountsNumbers (counts : SeriesCounts) (ps : List Point) : Type 0 where
  pub all : CountsAll counts ps
  pub series : CountsSeries counts.max_series counts.series counts.beyond ps
  pub measurements : (m : List ℕ) → HasNumbers (get_by_text counts.measurements m) (filter (is_of m) (kept_by counts.series ps))
