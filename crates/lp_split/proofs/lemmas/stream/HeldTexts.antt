-- The text that a stream holds, with more bytes after it, and with a greatest length of its pieces.
use Rattle.std.proofs.Common.{◌≡◌, ℕ, Bool, cond, List, ◌++◌, drop, sym, ap, ◌∙◌, subst, arith, length-append, ◌+◌, [], ◌∷◌}
use Rattle.std.proofs.Common.{take, length, append_assoc, Ok, Err, ◌≤◌}
use Rattle.std.proofs.lemmas.List.{take-append-le, drop-append-le, drop-take, length-take}
use Rattle.lp_format.specs.format.{Dialect, IsLastPiece, IsCutPiece, newline, newlines_in}
use Rattle.lp_split.specs.declared.split.resumed.Search.{Search}
use Rattle.lp_split.specs.declared.split.resumed.Search.TheVariants.{Within}
use Rattle.lp_split.specs.code.{IsKnown, IsHeldAt, AreSeen, Held, HeldWithin, HoldsThen, IsTrackOf, TracksOn, Track, HoldsBy, Holds, IsTooLong, Counts}
pub use Rattle.lp_split.proofs.lemmas.split.TrackedPieces.{tracked_is_last}
use Rattle.lp_split.specs.declared.stream.bounded.Counted.{Counted}
use Rattle.lp_split.specs.declared.stream.bounded.Skipped.{Skipped, TheVariants.Within, TheVariants.Ended}
use Rattle.std.proofs.lemmas.List.Sums.{sum_by-append}
use Rattle.lp_format.proofs.lemmas.split.SplitPieces.{no_cut_within, split_at}

-- the marks that were seen of a text are the marks that were seen of a longer text
seen_longer : (dialect : Dialect) (text more : List ℕ) (marks : ℕ) → AreSeen dialect text marks → AreSeen dialect (text ++ more) marks
seen_longer dialect text more marks h = grind (arith, length-append, take-append-le)

-- the knowledge of a search about a text is true of a longer text
pub known_longer : (dialect : Dialect) (text more : List ℕ) (known : Search) → IsKnown dialect text known
    → IsKnown dialect (text ++ more) known
known_longer dialect text more known h = grind (arith, seen_longer, length-append, take-append-le)

-- the knowledge about the bytes that a stream holds stays true, whether a part is appended or memory is refused
pub held_longer : (dialect : Dialect) (items part new : List ℕ) (start : ℕ) (known : Search) (ok : Bool)
    → IsHeldAt dialect items start known → new ≡ cond ok (items ++ part) items → IsHeldAt dialect new start known
held_longer dialect items part new start known ok h e = grind (arith, length-append, drop-append-le, known_longer)

-- a piece that is too long is too long with more bytes
longer_is_too_long : (limit : ℕ) (text part : List ℕ) → IsTooLong limit text → IsTooLong limit (text ++ part)
longer_is_too_long limit text part h = (omega (arith, length-append text part, h.0), h.1)

-- the first `n` bytes that are held are the bytes of the buffer up to a place
pub front_of_rest : (items : List ℕ) (start n : ℕ) → drop start (take (start + n) items) ≡ take n (drop start items)
front_of_rest items start n = drop-take start n items

-- the first `limit` bytes of a text that is too long stay the first bytes with more after them
front_stays : (limit : ℕ) (text part : List ℕ) → IsTooLong limit text → take limit (text ++ part) ≡ take limit text
front_stays limit text part h = take-append-le limit text part (omega (arith, h.0))

-- the counts of a text and of a part after it add up
counts_more : (counted more : Counted) (text part : List ℕ) → more.len ≡ counted.len + length part
    → more.newlines ≡ counted.newlines + newlines_in part → Counts counted text → Counts more (text ++ part)
counts_more counted more text part len newlines h = grind (arith, length-append, sum_by-append)

-- the stream holds the longer text after a part that goes on in a piece that is too long
pub skips_more : (limit : ℕ) (held : Held) (skipped : Skipped) (from to : Track) (counted more : Counted) (part : List ℕ)
    → skipped ≡ Within from counted → TracksOn part from (Err to) → more.len ≡ counted.len + length part
    → more.newlines ≡ counted.newlines + newlines_in part → (text : List ℕ) → HoldsBy limit held skipped text
    → HoldsBy limit held (Within to more) (text ++ part)
skips_more limit held skipped from to counted more part is tracks len newlines text h =
    let k = subst (λ (s : Skipped). HoldsBy limit held s text) is h in (
      longer_is_too_long limit text part k.0,
      k.1 ∙ sym (front_stays limit text part k.0),
      tracks.1 held.dialect text k.2,
      counts_more counted more text part len newlines k.3,
    )

-- the stream holds the longer text after a part that ends a piece that is too long
pub skips_to_end : (limit : ℕ) (old new : Held) (skipped : Skipped) (from : Track) (counted more : Counted) (part : List ℕ) (i : ℕ)
    → skipped ≡ Within from counted → TracksOn part from (Ok i) → new.dialect ≡ old.dialect
    → new.bytes ≡ old.bytes ++ drop (i + 1) part → more.len ≡ counted.len + length (take i part)
    → more.newlines ≡ counted.newlines + newlines_in (take i part) → (text : List ℕ) → HoldsBy limit old skipped text
    → HoldsBy limit new (Ended more) (text ++ part)
skips_to_end limit old new skipped from counted more part i is tracks dialect bytes len newlines text h =
    let k = subst (λ (s : Skipped). HoldsBy limit old s text) is h in
    let rest = drop (i + 1) part in
    let split = split_at part i tracks.0 tracks.1 in (
      text ++ take i part,
      rest,
      longer_is_too_long limit text (take i part) k.0,
      bytes ∙ ap (λ (t : List ℕ). t ++ rest) (k.1 ∙ sym (front_stays limit text (take i part) k.0)),
      (
        ap (λ (t : List ℕ). text ++ t) split ∙ sym (append_assoc text (take i part) (newline ∷ rest)),
        subst (λ (d : Dialect). IsCutPiece d (text ++ take i part)) (sym dialect) (tracks.2 old.dialect text k.2),
      ),
      counts_more counted more text (take i part) len newlines k.3,
    )

-- the stream keeps the first `limit` bytes and the track of a text that is too long
pub goes_within : (limit : ℕ) (held after : Held) (d : Dialect) (track : Track) (counted : Counted)
    → d ≡ held.dialect → IsTooLong limit held.bytes → IsTrackOf d held.bytes track → Counts counted held.bytes
    → HoldsThen held (take limit held.bytes) after → HoldsBy limit after (Within track counted) held.bytes
goes_within limit held after d track counted dialect long tracked counts front = grind arith

-- a text that is one piece has no newline that ends its piece
pub no_end_within : (dialect : Dialect) (bytes : List ℕ) (track : Track) (i : ℕ) → IsTrackOf dialect [] track
    → TracksOn bytes track (Ok i) → IsLastPiece dialect bytes → ⊥
no_end_within dialect bytes track i begins tracks is_last =
    no_cut_within dialect (take i bytes) (drop (i + 1) bytes) (tracks.2 dialect [] begins)
    (subst (λ (t : List ℕ). IsLastPiece dialect t) (split_at bytes i tracks.0 tracks.1) is_last)

-- a stream keeps no more bytes of a piece that it skips than a piece can have
pub few_kept : (stream : HeldWithin) (track : Track) (counted : Counted) (text : List ℕ)
    → stream.skipped ≡ Within track counted → Holds stream text → length stream.held.bytes ≤ stream.limit
few_kept stream track counted text is h = grind (arith, length-take)

-- rules for a first piece that does not end yet
pub ruleset first_pieces = (tracked_is_last, few_kept)
