-- Two sets of broken clauses are the same if they agree on each clause.
use Rattle.std.proofs.Common.{◌≡◌, refl}
use Rattle.lp_portable.specs.declared.broken.Broken.{Broken}

-- two tellings are the same if each clause is told alike
pub same_broken : (x y : Broken)
    → x.leading_blank ≡ y.leading_blank
    → x.trailing_space ≡ y.trailing_space
    → x.newline ≡ y.newline
    → x.measurement_equals ≡ y.measurement_equals
    → x.measurement_escape ≡ y.measurement_escape
    → x.tag_escape ≡ y.tag_escape
    → x.tag_key_comma ≡ y.tag_key_comma
    → x.tag_value_equals ≡ y.tag_value_equals
    → x.repeated_tag ≡ y.repeated_tag
    → x.field_key_escape ≡ y.field_key_escape
    → x.field_key_comma ≡ y.field_key_comma
    → x.field_key_quote ≡ y.field_key_quote
    → x.long_series ≡ y.long_series
    → x.unsigned ≡ y.unsigned
    → x.infinite_float ≡ y.infinite_float
    → x.rounded_float ≡ y.rounded_float
    → x.leading_nul ≡ y.leading_nul
    → x.time_out_of_range ≡ y.time_out_of_range
    → x.tag_count ≡ y.tag_count
    → x.time_name ≡ y.time_name
    → x.system_name ≡ y.system_name
    → x.repeated_field ≡ y.repeated_field
    → x.key_separator ≡ y.key_separator
    → x.control_byte ≡ y.control_byte
    → x.name_label ≡ y.name_label
    → x.long_tag_key ≡ y.long_tag_key
    → x.long_tag_value ≡ y.long_tag_value
    → x.long_metric_name ≡ y.long_metric_name
    → x.long_labels ≡ y.long_labels
    → x.too_many_tags ≡ y.too_many_tags
    → x.long_line ≡ y.long_line
    → x.time_not_kept ≡ y.time_not_kept
    → x ≡ y
same_broken x y h0 h1 h2 h3 h4 h5 h6 h7 h8 h9 h10 h11 h12 h13 h14 h15 h16 h17 h18 h19 h20 h21 h22 h23 h24 h25 h26 h27 h28 h29 h30 h31 =
    rw (h0, h1, h2, h3, h4, h5, h6, h7, h8, h9, h10, h11, h12, h13, h14, h15, h16, h17, h18, h19, h20, h21, h22, h23, h24, h25, h26, h27, h28, h29, h30, h31) refl
