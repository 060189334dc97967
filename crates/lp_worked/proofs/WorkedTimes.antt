-- Lines with another time: examples that the law covers, and one just outside.
use Rattle.std.proofs.Common.{◌≡◌, Some, None, Ok, Err, codes, pos, refl}
use Rattle.lp_format.specs.format.{Strict, above, answer, timestamp_value_invalid}
use Rattle.lp_conditions.specs.LineTimes.{line_at, text_at}
use Rattle.lp_worked.proofs.WorkedTexts.{on_texts, one_line}

-- The time 7 comes after `m f=1i`, which has no timestamp.
pub a_time_comes_at_the_end : text_at None (pos 7) (codes "m f=1i") ≡ codes "m f=1i 7"
unfolding on_texts
a_time_comes_at_the_end = refl

-- The time 7 takes the place of the timestamp of `m f=1i 50 `, and the space after it stays.
pub a_time_takes_a_place : text_at (Some (pos 50)) (pos 7) (codes "m f=1i 50 ") ≡ codes "m f=1i 7 "
unfolding on_texts
a_time_takes_a_place = refl

-- With the time 7 `m f=1i` is read as this line with the time 7.
pub a_time_is_read : answer Strict (text_at None (pos 7) (codes "m f=1i")) ≡ Ok (line_at (pos 7) one_line)
unfolding on_texts
a_time_is_read = refl

-- With the time 9223372036854775808, which no `i64` holds, it is not read.
pub a_time_out_of_range_is_not_read : answer Strict (text_at None (pos 9223372036854775808) (codes "m f=1i"))
    ≡ Err (timestamp_value_invalid above (codes "9223372036854775808"))
unfolding on_texts
a_time_out_of_range_is_not_read = refl
