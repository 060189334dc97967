-- Lines that break no clause of newlines and escapes are read alike, and their names mean the same.
use Rattle.std.proofs.Common.{◌≡◌, ℕ, List, [], ◌∷◌, false, refl, arith}
use Rattle.std.specs.List.{AllByRecursion, list_any}
use Rattle.lp_format.specs.format.{Pair, a_field_key, a_measurement, a_tag_key, a_tag_value, backslash, equals, is_one_of, quote}
use Rattle.lp_portable.specs.format.{Portable.has_escape, Portable.has_marked_escape, Spellings.holds}
use Rattle.lp_portable.specs.laws.PortableLaws.{InfluxNamesMeanTheSame, IsReadAlike, MeansTheSame, NamesMeanTheSame, PortableLinesAreReadAlike, TagMeansTheSame, VictoriaLinesAreReadAlike}
use Rattle.lp_portable.specs.format.{Portable.IsOneLine, Spellings.Spelling}
use Rattle.lp_portable.specs.format.Portable as portable
use Rattle.lp_format.specs.format.{Line, newline}
use Rattle.lp_portable.proofs.{AnsweredAlike.lines_are_answered_alike, AnsweredAlike.no_newline, HeldBytes.neither, HeldBytes.without_both, HeldBytes.without_marks}

-- A measurement without escaped equals signs, backslashes and quotes means the same to readers with other escapes.
measurement_alike : (name : List ℕ) → holds (equals ∷ []) [] name ≡ false → has_marked_escape name ≡ false
    → MeansTheSame (backslash ∷ quote ∷ equals ∷ []) a_measurement name
measurement_alike name signs marked known agree =
    without_both (equals ∷ []) (backslash ∷ quote ∷ []) a_measurement name known refl (λ b no none. agree b (grind arith)) signs marked

-- tags do
tags_alike : (tags : List (Pair (List ℕ) (List ℕ))) → list_any has_escape tags ≡ false → AllByRecursion TagMeansTheSame tags
tags_alike [] h = tt
tags_alike (t ∷ tags) h =
    let both = neither _ _ h in
    let names = neither _ _ both.0 in
    ((without_marks _ a_tag_key t.key refl names.0, without_marks _ a_tag_value t.value refl names.1), tags_alike tags both.1)

-- Field keys without escaped backslashes and quotes mean the same to readers with other escapes.
keys_alike : (keys : List (List ℕ)) → list_any has_marked_escape keys ≡ false
    → AllByRecursion (MeansTheSame (backslash ∷ quote ∷ []) a_field_key) keys
keys_alike [] h = tt
keys_alike (key ∷ keys) h = let both = neither _ _ h in (without_marks _ a_field_key key refl both.0, keys_alike keys both.1)

-- All names mean the same to readers with other escapes, if no name holds one of these escapes.
names_alike : (names : Spelling) → holds (equals ∷ []) [] names.measurement ≡ false → has_marked_escape names.measurement ≡ false
    → list_any has_escape names.tags ≡ false → list_any has_marked_escape names.keys ≡ false → NamesMeanTheSame names
names_alike names signs marked tags keys = record {
  measurement = measurement_alike names.measurement signs marked;
  tags = tags_alike names.tags tags;
  keys = keys_alike names.keys keys;
}

-- a line without a newline is read alike
alike : (text : List ℕ) (line : Line) → IsOneLine text line → is_one_of text newline ≡ false → IsReadAlike text line
alike text line is none = record {
  one_line = no_newline text none;
  answered = λ dialect. lines_are_answered_alike dialect text line is (λ own. no_newline text none);
}

-- a line that is portable to VictoriaMetrics is read alike
pub victoria_lines_are_read_alike : VictoriaLinesAreReadAlike
victoria_lines_are_read_alike limits text p = alike text p.line p.is_line (p.keeps portable.newline refl)

-- the names of one that is portable to InfluxDB mean the same
pub influx_names_mean_the_same : InfluxNamesMeanTheSame
influx_names_mean_the_same limits text p =
    let keeps = p.keeps in
    names_alike p.names (keeps portable.measurement_equals refl) (keeps portable.measurement_escape refl) (keeps portable.tag_escape refl) (keeps portable.field_key_escape refl)

-- A line that is portable to all servers is portable to each of them.
pub portable_lines_are_read_alike : PortableLinesAreReadAlike
portable_lines_are_read_alike limits text p =
    let keeps = p.keeps in (
      alike text p.line p.is_line (keeps portable.newline refl),
      names_alike p.names (keeps portable.measurement_equals refl) (keeps portable.measurement_escape refl) (keeps portable.tag_escape refl) (keeps portable.field_key_escape refl),
    )
