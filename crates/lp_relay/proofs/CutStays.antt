-- A newline still ends a piece if another timestamp takes the place of the one at its end, in each dialect.
use Rattle.std.proofs.Common.{◌≡◌, ◌≢◌, ℕ, List, [], ◌∷◌, ◌++◌, length, true, false, refl, sym, ap, ◌∙◌, arith, inl, inr, subst}
use Rattle.std.proofs.Common.{append_assoc, append-nil, ne_eqb, take_at}
use Rattle.std.proofs.lemmas.{Bool.cases_Bool, Bool.cases_eq, Bool.and_parts, Bool.both_ways, Grind.common_steps}
use Rattle.std.proofs.lemmas.List.Elements.{All-append, All-cons, All-nil, All-take}
use Rattle.std.specs.List.{list_all}
use Rattle.lp_format.specs.format.{Dialect, Crate, Strict, NewlineDelimited, IsCutPiece, IsLastPiece, IsClosed, IsOpen, IsBareAfter, HasNoNewline, begins_comment, is_escaped_after}
use Rattle.lp_format.specs.format.{newline, space, quote, hash, backslash, tab, Pieces.Pieces, Pieces.Pieces.last, Pieces.Pieces.cut}
use Rattle.lp_format.proofs.lemmas.split.SplitBare.{IsHead-escaped, IsHead-bare, EndsPlain-escaped, EndsPlain-bare, EndsPlain-start, EndsQuoted-escaped, EndsQuoted-bare, cut_not_within, is_escaped-after_other, is_escaped-nil}
use Rattle.lp_format.proofs.lemmas.split.SplitPieces.{IsLastPiece-cut, no_cut_within, pieces_exist}
use Rattle.lp_relay.proofs.NewStamps.{IsStamp, in_stamp}

-- A byte that ends no piece, opens and closes no string, escapes nothing, and neither begins a comment nor comes before one.
record MeansNothing (b : ℕ) : Type 0 where
  no_newline : b ≢ newline
  no_quote : b ≢ quote
  no_backslash : b ≢ backslash
  no_hash : b ≢ hash
  no_tab : b ≢ tab

-- Each byte of a timestamp, and a space, is a byte that means nothing to pieces, strings, escapes and comments.
means_nothing : (b : ℕ) → in_stamp b ≡ true → MeansNothing b
means_nothing b held = record {
  no_newline = differs newline refl;
  no_quote = differs quote refl;
  no_backslash = differs backslash refl;
  no_hash = differs hash refl;
  no_tab = differs tab refl;
}
  where
    -- a byte of a timestamp is no byte that a timestamp cannot hold
    differs : (c : ℕ) → in_stamp c ≡ false → b ≢ c
    differs c other same = both_ways (in_stamp b) (ap in_stamp same ∙ other) held

-- The first byte of a text of a timestamp and spaces means nothing, and the rest of the text is such a text.
stamp_parts : (b : ℕ) (text : List ℕ) → IsStamp (b ∷ text) → MeansNothing b × IsStamp text
stamp_parts b text are = let both = and_parts (in_stamp b) (list_all in_stamp text) are in (means_nothing b both.0, both.1)

-- A timestamp and spaces hold no newline.
no_newline : (text : List ℕ) → IsStamp text → HasNoNewline text
no_newline [] are = All-nil (λ b. b ≢ newline)
no_newline (b ∷ text) are =
    let parts = stamp_parts b text are in All-cons (λ c. c ≢ newline) b text parts.0.no_newline (no_newline text parts.1)

-- A timestamp and spaces escape nothing that follows them.
bare_stamp : (text : List ℕ) → IsStamp text → IsBareAfter text
bare_stamp [] are = is_escaped-nil
bare_stamp (b ∷ text) are =
    let parts = stamp_parts b text are in is_escaped-after_other [] text b (ne_eqb b backslash parts.0.no_backslash) ∙ bare_stamp text parts.1

-- A timestamp and spaces begin no comment.
no_comment : (text : List ℕ) → IsStamp text → begins_comment text ≡ false
no_comment [] are = refl
no_comment (b ∷ text) are =
    let parts = stamp_parts b text are in grind (arith, common_steps, ne_eqb, parts.0.no_hash, parts.0.no_tab, no_comment text parts.1, cases_Bool)

-- A timestamp and spaces at the end of a text do not change whether it begins a comment.
same_comment : (front text : List ℕ) → IsStamp text → begins_comment (front ++ text) ≡ begins_comment front
same_comment [] text are = no_comment text are
same_comment (b ∷ front) text are = rw (same_comment front text are) refl

-- A closed text stays closed if a byte that means nothing is appended.
closed_push : (front : List ℕ) (b : ℕ) → MeansNothing b → IsClosed front → IsClosed (front ++ b ∷ [])
closed_push front b none (inl head) = elim (cases_Bool (is_escaped_after front)) [
  | inl escaped ↦ inl (IsHead-escaped front b head escaped)
  | inr bare ↦ elim (cases_eq b space) [
    | inl is ↦ inr (space ∷ [], rw is (EndsPlain-start front head bare))
    | inr other ↦ inl (IsHead-bare front b head bare other none.no_newline)
  ]
]
closed_push front b none (inr (counted, ends)) = elim (cases_Bool (is_escaped_after front)) [
  | inl escaped ↦ inr (counted, EndsPlain-escaped b ends escaped)
  | inr bare ↦ inr (counted ++ b ∷ [], EndsPlain-bare b ends bare none.no_newline (λ is. absurd (none.no_quote is)))
]

-- An open text stays open if a byte other than a quote is appended.
open_push : (front : List ℕ) (b : ℕ) → b ≢ quote → IsOpen front → IsOpen (front ++ b ∷ [])
open_push front b other (counted, ends) = elim (cases_Bool (is_escaped_after front)) [
  | inl escaped ↦ (counted, EndsQuoted-escaped b ends escaped)
  | inr bare ↦ (counted, EndsQuoted-bare b ends bare other)
]

-- A closed text stays closed if a timestamp and spaces are appended.
closed_stays : (front text : List ℕ) → IsStamp text → IsClosed front → IsClosed (front ++ text)
closed_stays front [] are closed = rw append-nil closed
closed_stays front (b ∷ text) are closed =
    let parts = stamp_parts b text are in
    subst IsClosed (append_assoc front (b ∷ []) text) (closed_stays (front ++ b ∷ []) text parts.1 (closed_push front b parts.0 closed))

-- An open text stays open if a timestamp and spaces are appended.
open_stays : (front text : List ℕ) → IsStamp text → IsOpen front → IsOpen (front ++ text)
open_stays front [] are is = rw append-nil is
open_stays front (b ∷ text) are is =
    let parts = stamp_parts b text are in
    subst IsOpen (append_assoc front (b ∷ []) text) (open_stays (front ++ b ∷ []) text parts.1 (open_push front b parts.0.no_quote is))

-- Each front of a text that is one piece is one piece.
front_is_last : (dialect : Dialect) (front text : List ℕ) → IsLastPiece dialect (front ++ text) → IsLastPiece dialect front
front_is_last dialect front text is = whole (pieces_exist dialect front).1 refl
  where
    -- a front of one piece has no newline that ends a piece
    whole : {part : List ℕ} {pieces : List (List ℕ)} → Pieces dialect part pieces → part ≡ front → IsLastPiece dialect front
    whole (last _ h) same = subst (IsLastPiece dialect) same h
    whole (cut piece rest pieces c h) same =
        let longer = ap (λ (l : List ℕ). l ++ text) (sym same) ∙ append_assoc piece (newline ∷ rest) text in
        absurd (no_cut_within dialect piece (rest ++ text) c (subst (IsLastPiece dialect) longer is))

-- If a text is closed and nothing is escaped after it, it is closed without the timestamp and the spaces at its end too.
front_is_closed : (front text : List ℕ) → IsStamp text → IsLastPiece Crate front → IsClosed (front ++ text) → IsBareAfter (front ++ text) → IsClosed front
front_is_closed front text are (inl closed) whole bare = closed
front_is_closed front text are (inr is) whole bare =
    absurd (cut_not_within (front ++ text) [] whole bare (inr (open_push (front ++ text) newline (omega arith) (open_stays front text are is))))

-- In the dialect of the crate, a newline still ends a piece if another timestamp takes the place of the one at its end.
crate_cut_stays : (front old more : List ℕ) → IsStamp old → IsStamp more → IsCutPiece Crate (front ++ old) → IsCutPiece Crate (front ++ space ∷ more)
crate_cut_stays front old more are new h =
    let first = front_is_last Crate front old (IsLastPiece-cut Crate (front ++ old) h) in
    let closed = front_is_closed front old are first h.0 h.1 in
    (closed_stays front (space ∷ more) new closed, is_escaped-after_other front more space refl ∙ bare_stamp more new)

-- A text without a newline has none if another timestamp takes the place of the one at its end.
line_stays : (front old new : List ℕ) → IsStamp new → HasNoNewline (front ++ old) → HasNoNewline (front ++ new)
line_stays front old new are none =
    let first : HasNoNewline front = rw take_at at (All-take (λ b. b ≢ newline) (length front) (front ++ old) none) in
    All-append (λ b. b ≢ newline) front new first (no_newline new are)

-- A newline still ends a piece if another timestamp takes the place of the one at its end.
pub cut_stays : (dialect : Dialect) (front old more : List ℕ) → IsStamp old → IsStamp more → IsCutPiece dialect (front ++ old)
    → IsCutPiece dialect (front ++ space ∷ more)
cut_stays Crate front old more are new h = crate_cut_stays front old more are new h
cut_stays Strict front old more are new (inl h) =
    let begins : begins_comment (front ++ space ∷ more) ≡ true = same_comment front (space ∷ more) new ∙ sym (same_comment front old are) ∙ h.0 in
    inl (begins, line_stays front old (space ∷ more) new h.1)
cut_stays Strict front old more are new (inr h) =
    let begins : begins_comment (front ++ space ∷ more) ≡ false = same_comment front (space ∷ more) new ∙ sym (same_comment front old are) ∙ h.0 in
    let stays = crate_cut_stays front old more are new (h.1, h.2) in
    inr (begins, stays.0, stays.1)
cut_stays NewlineDelimited front old more are new h = line_stays front old (space ∷ more) new h
