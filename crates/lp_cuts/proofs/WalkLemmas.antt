-- A walk from cut to cut.
use Rattle.std.proofs.Common.{◌≡◌, ℕ, zero, suc, ◌+◌, ◌<◌, ◌≤◌, List, [], ◌∷◌, ◌++◌, length, take, drop, slice_range, slice_index}
use Rattle.std.proofs.Common.{Option, Some, None, Bool, false, Result, Ok, Err, true, refl, sym, ap, subst, ◌∙◌, append_assoc, append-nil, length-append, arith}
use Rattle.std.proofs.lemmas.List.{length-take-le, take-take, take_at}
use Rattle.std.proofs.Math.Seq.{take-append_seam, drop-append_seam}
use Rattle.influxdb_line_protocol.specs.format.Dialects.{Dialect}
use Rattle.influxdb_line_protocol.specs.format.Pieces.{IsFirstCut, IsLastPiece, Pieces, Pieces.cut, Pieces.last}
use Rattle.influxdb_line_protocol.specs.format.Bytes.{newline}
use Rattle.lp_split.specs.code.{IsTrackOf, Track, TracksOn}
use Rattle.lp_split.proofs.lemmas.split.TrackedPieces.{tracked_is_last, tracks_cut}
use Rattle.influxdb_line_protocol.specs.laws.Laws.{PiecesExist, PiecesAreUnique}
use Rattle.lp_cuts.specs.declared.cuts.Walk.{Walk}
use Rattle.lp_cuts.specs.Cuts.{IsCutAt, IsCutFor}
use Rattle.lp_cuts.specs.CutSteps.{FindsOn, GoesOn, IsTracked, IsWalkOf, PassesNone}
use Rattle.lp_cuts.proofs.CutLemmas.{none_inside, none_is_last, nothing_is_piece, pieces_joined, take_between}

-- a search that goes on from the track of the bytes before a text
pub finds_on : (dialect : Dialect) (before text : List ℕ) (track : Track) (result : Result ℕ Track) → IsTrackOf dialect before track
    → TracksOn text track result → FindsOn dialect before text result
finds_on dialect before text track (Ok at) is h =
    tracks_cut dialect (before ++ text) text (length before) at track (sym (drop-append_seam before text))
    (omega (arith, length-append before text))
    (subst (λ (t : List ℕ). IsTrackOf dialect t track) (sym (take-append_seam before text)) is) h
finds_on dialect before text track (Err on) is h = h.1 dialect before is

-- what is not below is above, or the same
not_below : (a b : ℕ) → (a < b → ⊥) → b ≤ a
not_below a b h = omega arith

-- a list at a place of it
split_at : (xs : List ℕ) (k b : ℕ) → k < length xs → slice_index xs k ≡ b → take k xs ++ b ∷ drop (k + 1) xs ≡ xs
split_at [] k b h e = absurd (omega (arith, h))
split_at (x ∷ xs) zero b h e = grind arith
split_at (x ∷ xs) (suc k) b h e = grind (arith, split_at xs k b)

-- the cut after the first one of the bytes that come after a cut
pub cut_after : PiecesExist → PiecesAreUnique → (dialect : Dialect) (text bytes : List ℕ) (at n k new : ℕ) → IsCutAt dialect text at
    → take at text ++ bytes ≡ take n text → n ≤ length text → IsFirstCut dialect bytes (Some k) → new ≡ at + (k + 1)
    → IsCutAt dialect text new × GoesOn dialect text at true new
cut_after exist unique dialect text bytes at n k new here holds within found is =
    let piece = take k bytes in
    let after = drop (k + 1) bytes in
    let u = take at text in
    let piece_len : length piece ≡ k = length-take-le k bytes (omega (arith, found.0)) in
    let bytes_are : piece ++ newline ∷ after ≡ bytes = split_at bytes k newline found.0 found.1 in
    let long : length u ≡ at = length-take-le at text here.within in
    let given : length (take n text) ≡ n = length-take-le n text within in
    let held : u ++ (piece ++ newline ∷ after) ≡ take n text = ap (λ (l : List ℕ). u ++ l) bytes_are ∙ holds in
    let front = u ++ (piece ++ newline ∷ []) in
    let front_len : length front ≡ new =
    omega (arith, length-append u (piece ++ newline ∷ []), length-append piece (newline ∷ []), long, piece_len, is) in
    let split : front ++ after ≡ take n text =
    append_assoc u (piece ++ newline ∷ []) after
    ∙ ap (λ (l : List ℕ). u ++ l) (append_assoc piece (newline ∷ []) after) ∙ held in
    let below : new ≤ n =
    omega (arith, ap (λ (l : List ℕ). length l) split, length-append front after, front_len, given) in
    let there : take new text ≡ front =
    sym (take-take new n text below) ∙ ap (take new) (sym split) ∙ take_at front after new front_len in
    let others = exist dialect after in (
      record {
        within = omega (arith, below, within);
        pieces = here.pieces ++ piece ∷ [];
        are = subst (λ (l : List ℕ). Pieces dialect l ((here.pieces ++ piece ∷ []) ++ [] ∷ [])) (sym there)
            (subst (λ (l : List (List ℕ)). Pieces dialect front l) (sym (append_assoc here.pieces (piece ∷ []) ([] ∷ [])))
            (pieces_joined dialect u (piece ++ newline ∷ []) (here.pieces ++ [] ∷ []) here.pieces (piece ∷ ([] ∷ [])) refl here.are
            (cut piece [] ([] ∷ []) found.2 (nothing_is_piece exist dialect))));
      },
      (
        omega (arith, is),
        λ other cut_there further.
            not_below other new
            (λ before.
            none_inside exist unique dialect text at piece (newline ∷ after) others.0 n here held within
            (cut piece after others.0 found.2 others.1) other cut_there further (omega (arith, before, piece_len, is))),
      ),
    )

-- the bytes that a walk was given, with those that come next
walk_more : (text before rest : List ℕ) (at given : ℕ) → take at text ++ before ≡ take given text
    → rest ≡ slice_range text given (given + length rest) → take at text ++ (before ++ rest) ≡ take (given + length rest) text
walk_more text before rest at given holds are =
    sym (append_assoc (take at text) before rest)
    ∙ ap (λ (l : List ℕ). l ++ rest) holds
    ∙ ap (λ (l : List ℕ). take given text ++ l) are
    ∙ sym (take_between text given (given + length rest) (omega arith))

-- how many bytes of a piece came
walk_len : (text before : List ℕ) (at given : ℕ) → take at text ++ before ≡ take given text → at ≤ length text → given ≤ length text
    → at + length before ≡ given
walk_len text before at given holds within end = omega (
  arith,
  ap (λ (l : List ℕ). length l) holds,
  length-append (take at text) before,
  length-take-le at text within,
  length-take-le given text end,
)

-- a walk is at a cut, and was given nothing after it
pub walk_begins : (dialect : Dialect) (text : List ℕ) (at : ℕ) → IsCutAt dialect text at
    → IsWalkOf dialect text (record { at = at; given = at; track = None })
walk_begins dialect text at here =
    record { is_cut = here; within = here.within; before = []; holds = append-nil (take at text); tracked = refl }

-- a walk was given bytes that end no piece
pub walk_longer : (dialect : Dialect) (text rest : List ℕ) (walk : Walk) (track : Track) → IsWalkOf dialect text walk
    → rest ≡ slice_range text walk.given (walk.given + length rest) → walk.given + length rest ≤ length text
    → ((before : List ℕ) → IsTracked dialect before walk.track → FindsOn dialect before rest (Err track))
    → IsWalkOf dialect text (record { at = walk.at; given = walk.given + length rest; track = Some track })
walk_longer dialect text rest walk track w are within finds = record {
  is_cut = w.is_cut;
  within = within;
  before = w.before ++ rest;
  holds = walk_more text w.before rest walk.at walk.given w.holds are;
  tracked = finds w.before w.tracked;
}

-- a walk was given bytes of which a newline ends the piece
pub walk_on : PiecesExist → PiecesAreUnique → (dialect : Dialect) (text rest : List ℕ) (walk new : Walk) (before i : ℕ)
    → IsWalkOf dialect text walk → rest ≡ slice_range text walk.given (walk.given + length rest) → walk.given + length rest ≤ length text
    → ((before : List ℕ) → IsTracked dialect before walk.track → FindsOn dialect before rest (Ok i))
    → new ≡ record { at = walk.given + i + 1; given = walk.given + i + 1; track = None } → walk.at ≡ before
    → IsWalkOf dialect text new × GoesOn dialect text before true new.at
walk_on exist unique dialect text rest walk new before i w are within finds there stays =
    let len = walk_len text w.before walk.at walk.given w.holds w.is_cut.within w.within in
    let next = cut_after exist unique dialect text (w.before ++ rest) walk.at (walk.given + length rest) (length w.before + i)
    (walk.given + i + 1) w.is_cut (walk_more text w.before rest walk.at walk.given w.holds are) within (finds w.before w.tracked)
    (omega (arith, len)) in
    rw there (
      walk_begins dialect text (walk.given + i + 1) next.0,
      subst (λ (n : ℕ). GoesOn dialect text n true (walk.given + i + 1)) stays next.1,
    )

-- what came of a piece is a last piece
tracked_last : PiecesExist → (dialect : Dialect) (bytes : List ℕ) (track : Option Track) → IsTracked dialect bytes track
    → IsLastPiece dialect bytes
tracked_last exist dialect bytes None is = subst (IsLastPiece dialect) (sym is) (none_is_last exist dialect)
tracked_last exist dialect bytes (Some track) is = tracked_is_last dialect bytes track is

-- no cut comes after a walk that was given all
pub walk_ends : PiecesExist → PiecesAreUnique → (dialect : Dialect) (text : List ℕ) (walk : Walk) → IsWalkOf dialect text walk
    → walk.given ≡ length text → (other : ℕ) → IsCutAt dialect text other → other ≤ walk.at
walk_ends exist unique dialect text walk w all other there =
    let bytes = w.before in
    let len = walk_len text bytes walk.at walk.given w.holds w.is_cut.within w.within in
    not_below walk.at other
    (λ after_it.
    none_inside exist unique dialect text walk.at bytes [] [] walk.given w.is_cut
    (ap (λ (l : List ℕ). take walk.at text ++ l) (append-nil bytes) ∙ w.holds) w.within
    (subst (λ (l : List ℕ). Pieces dialect l (bytes ∷ [])) (sym (append-nil bytes))
    (last bytes (tracked_last exist dialect bytes walk.track w.tracked)))
    other there after_it (omega (arith, len, all, there.within)))

-- a walk that found no cut after the one it is at
pub walk_last : (dialect : Dialect) (text : List ℕ) (place before : ℕ) (walk : Walk) (found : Bool) → found ≡ false
    → IsWalkOf dialect text walk × GoesOn dialect text before found walk.at → PassesNone dialect text place before
    → IsWalkOf dialect text walk × IsCutFor dialect text place walk.at
walk_last dialect text place before walk true is h passes = absurd (cc)
walk_last dialect text place before walk false is h passes = (
  h.0,
  record {
    is_cut = h.0.is_cut;
    first = λ other there low. omega (arith, passes other there low, h.1.0);
    last = λ less other there. omega (arith, h.1.1 other there, h.1.0);
  },
)

-- a walk that came to the cut for a place
pub walk_there : (dialect : Dialect) (text : List ℕ) (place : ℕ) (walk : Walk) → IsWalkOf dialect text walk
    → PassesNone dialect text place walk.at → place ≤ walk.at → IsWalkOf dialect text walk × IsCutFor dialect text place walk.at
walk_there dialect text place walk w passes there =
    (w, record { is_cut = w.is_cut; first = passes; last = λ less. absurd (omega (arith, there, less)) })
