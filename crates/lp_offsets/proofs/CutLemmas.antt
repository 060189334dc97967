-- What a search for cuts finds.
use Rattle.std.proofs.Common.{◌≡◌, ◌+◌, ℕ, List, ◌++◌, length, sym, subst, arith, length-append, Result, Ok, Err}
use Rattle.std.proofs.Math.Seq.{take-append_seam, drop-append_seam}
use Rattle.lp_format.specs.format.{Dialect}
use Rattle.lp_split.specs.code.{IsTrackOf, Track, TracksOn}
use Rattle.lp_split.proofs.lemmas.split.TrackedPieces.{tracked_is_last, tracks_cut}
use Rattle.lp_offsets.specs.Numbers.{dialect_of}
use Rattle.lp_offsets.specs.Cutting.{CutsOn, FindsOn, HasCome, KeepsRules, track_in}
use Rattle.lp_offsets.specs.declared.cuts.Cuts.{Cuts}

-- a search that goes on from the track of the bytes before a text
pub finds_on : (dialect : Dialect) (before text : List ℕ) (track : Track) (result : Result ℕ Track) → IsTrackOf dialect before track
    → TracksOn text track result → FindsOn dialect before text result
finds_on dialect before text track (Ok at) is h =
    tracks_cut dialect (before ++ text) text (length before) at track (sym (drop-append_seam before text))
    (omega (arith, length-append before text))
    (subst (λ (t : List ℕ). IsTrackOf dialect t track) (sym (take-append_seam before text)) is) h
finds_on dialect before text track (Err on) is h = h.1 dialect before is

-- a search that found no cut, and names the track of all bytes
pub goes_on : (cuts after : Cuts) (before text : List ℕ) (track : Track) (end : ℕ) → end ≡ cuts.len + length text
    → KeepsRules cuts after → track_in after ≡ track → after.len ≡ end → HasCome cuts before
    → IsTrackOf (dialect_of cuts.dialect) (before ++ text) track → CutsOn (dialect_of cuts.dialect) before text (length text) after
goes_on cuts after before text track end sum keeps names len come is = record {
  ends = λ less. absurd (omega (arith, less));
  goes_on = λ _. (
    tracked_is_last (dialect_of cuts.dialect) (before ++ text) track is,
    (omega (arith, length-append before text, come.0, sum, len), λ _. rw (keeps.1, names) is),
  );
}
