-- What a relay has taken and written so far of what it was given, and what that is at the end.
use Rattle.std.proofs.Common.{◌≡◌, ℕ, ◌+◌, ◌-◌, ◌≤◌, List, [], ◌∷◌, ◌++◌, length, Option, Some, None, IfSome, refl, sym, ap, subst, ◌∙◌}
use Rattle.std.proofs.Common.{append-nil, append_assoc, arith, drop, false, take, take-append-drop, Result, Ok, Err, MatchResult}
use Rattle.std.specs.Borrow.{Bor}
use Rattle.std.specs.Io.KnownBytes.{Consumes, IsAtEnd}
use Rattle.std.proofs.KnownBytes.{Consumes-trans}
use Rattle.std.proofs.Math.Seq.{take-add}
use Rattle.std.proofs.lemmas.List.{take_rest}
use Rattle.std.proofs.lemmas.Option.{IfSome_then}
use Rattle.std.proofs.lemmas.Result.{MatchResult-weaker}
use Rattle.lp_rebuild.specs.Running.{AppendsFront}
use Rattle.lp_rebuild.specs.declared.program.RunFault.{RunFault}
use Rattle.influxdb_line_protocol.specs.format.Pieces.{IsLastPiece, Pieces}
use Rattle.influxdb_line_protocol.specs.code.Bounded.{CutsTo, GivesOf, HeldWithin, Holds, IsLastOf, TellsOf}
use Rattle.influxdb_line_protocol.specs.code.Rules.{rules_of}
use Rattle.influxdb_line_protocol.specs.laws.Laws.{PiecesAreUnique, PiecesExist}
use Rattle.influxdb_line_protocol.specs.laws.StreamLaws.{Run, Run.begun, Run.pushed, Run.taken, RunsGivePieces}
use Rattle.influxdb_line_protocol.specs.types.PieceTooLong.{PieceTooLong}
use Rattle.lp_conditions.specs.declared.settings.Settings.{Settings}
use Rattle.lp_conditions.specs.declared.kinds.Relayed.{Relayed}
use Rattle.lp_conditions.specs.KindCounts.{counts_if}
use Rattle.lp_relay.specs.Relays.{RelaysAll, RelaysFronts, RelaysPieces, TypesAfter}
use Rattle.lp_faults.specs.Relaying.{items_of, items_batch, refused_pieces, types_past}
use Rattle.lp_relay.specs.RelaySteps.{HasRules, HasTaken, HasWritten, SoFar, SoFarBy, SomeSoFar, Stage, Start, TakesAhead, TakesBy, Unwritten}
use Rattle.lp_relay.specs.RelaySteps.{Writes, items_before, made_of, place_past, unwritten_of_none}
use Rattle.lp_faults.specs.FaultsTold.{first_place, told_from}
use Rattle.lp_relay.specs.Writers.{Told, bytes_of}
use Rattle.lp_cuts.proofs.CutLemmas.{none_is_last}
use Rattle.lp_faults.proofs.KindLemmas.{counts_add_up, kinds_of_all}
use Rattle.lp_relay.proofs.PassLemmas.{but_none, front_more}
use Rattle.lp_faults.proofs.ItemLemmas.{batch_append, items_append, put_append}
use Rattle.lp_relay.proofs.FaultLines.{told_append}
use Rattle.lp_relay.proofs.AheadLemmas.{BeginsAhead, ahead_of_first, ahead_of_more, front_makes, none_ahead, pieces_ahead}
use Rattle.lp_relay.proofs.RelayLemmas.{taken_ahead, taken_next, taken_none, taken_so_far}

-- before the first read
pub so_far_none : PiecesExist → (s : Settings) (a : Start) (stream : HeldWithin) (now : Unwritten) → Holds stream []
    → now ≡ unwritten_of_none s a.types → SoFarBy s [] stream a (record { unwritten = now; told = a.told })
so_far_none exist s a stream now none is = (
  [],
  none,
  subst (λ u. SoFar s [] [] a (record { unwritten = u; told = a.told })) (sym is) (record { pieces = []; ahead = None; run = begun; is_ahead = tt; taken = taken_none s a }),
  none_is_last exist (rules_of s.dialect),
)

-- more was given
pub so_far_given : (s : Settings) (given left part : List ℕ) (a : Start) (now : Stage) → SoFar s given left a now
    → SoFar s (given ++ part) (left ++ part) a now
so_far_given s given left part a now h =
    record {
      pieces = h.pieces;
      ahead = h.ahead;
      run = pushed given h.pieces left part h.run;
      is_ahead = ahead_of_more s h.ahead left part h.is_ahead;
      taken = h.taken;
    }

-- so it is if nothing was
pub nothing_given : (s : Settings) (given : List ℕ) (stream : HeldWithin) (a : Start) (now : Stage) → SoFarBy s given stream a now
    → SoFarBy s (given ++ []) stream a now
nothing_given s given stream a now h = subst (λ l. SoFarBy s l stream a now) (sym (append-nil given)) h

-- one piece more was taken
pub so_far_more : PiecesExist → PiecesAreUnique → (s : Settings) (given text piece left : List ℕ)
    (result : Result (Bor (List ℕ)) PieceTooLong) (a : Start) (now : Stage) (next : Unwritten) → SoFar s given text a now
    → IsLastOf s.limit piece result → CutsTo (rules_of s.dialect) text piece left
    → TakesBy now.unwritten.ahead s now.unwritten result next
    → SoFar s given left a (record { unwritten = next; told = now.told })
so_far_more exist unique s given text piece left result a now next h is cuts takes =
    record {
      pieces = h.pieces ++ piece ∷ [];
      ahead = None;
      run = taken given h.pieces piece left (subst (Run (rules_of s.dialect) given h.pieces) cuts.0 h.run) cuts.1;
      is_ahead = tt;
      taken = taken_next s h.pieces h.ahead piece result a now next h.taken
          (ahead_of_first exist unique s h.ahead text piece left h.is_ahead cuts) is takes;
    }

-- if nothing is left, nothing was taken ahead
pub so_far_ended : (s : Settings) (given : List ℕ) (a : Start) (now : Stage) → SoFar s given [] a now → now.unwritten.ahead ≡ false
so_far_ended s given a now h = h.taken.is_ahead ∙ none_ahead s h.ahead h.is_ahead

-- nothing was taken ahead
pub unahead : (s : Settings) (pieces : List (List ℕ)) (ahead : Option (List ℕ)) (a : Start) (now : Stage) → HasTaken s pieces ahead a now
    → now.unwritten.ahead ≡ false → HasTaken s pieces None a now
unahead s pieces None a now h is = h
unahead s pieces (Some front) a now h is = absurd (cc (h.is_ahead, is))

-- what is left was taken ahead
pub so_far_ahead : (s : Settings) (given left : List ℕ) (fault : PieceTooLong) (a : Start) (now : Stage) (next : Unwritten)
    → SoFar s given left a now → now.unwritten.ahead ≡ false → IsLastPiece (rules_of s.dialect) left → TellsOf s.limit left fault
    → TakesAhead s now.unwritten (Err fault) next → SoFar s given left a (record { unwritten = next; told = now.told })
so_far_ahead s given left fault a now next h untold is_last tells takes =
    record {
      pieces = h.pieces;
      ahead = Some left;
      run = h.run;
      is_ahead = (tells.0, is_last, ([], sym (append-nil left)));
      taken = taken_ahead s h.pieces left (Err fault) a now next (unahead s h.pieces h.ahead a now h.taken untold) tells takes;
    }

-- what was held was written, or after a fault a front of it
pub so_far_written : (s : Settings) (given left : List ℕ) (a : Start) (result : Result (Unit {0}) RunFault) (old new : Stage)
    → Writes result old new → SoFar s given left a old
    → MatchResult result (λ _. SoFar s given left a new) (λ _. SomeSoFar s given a new.told)
so_far_written s given left a result old new writes h =
    MatchResult-weaker result (writes s h.pieces h.ahead a h.taken)
    (λ _ t. record { pieces = h.pieces; ahead = h.ahead; run = h.run; is_ahead = h.is_ahead; taken = t })
    (λ _ t. record { pieces = h.pieces; ahead = h.ahead; left = left; run = h.run; is_ahead = h.is_ahead; written = t })

-- what was written so far
pub some_so_far : (s : Settings) (given left : List ℕ) (a : Start) (now : Stage) → SoFar s given left a now → SomeSoFar s given a now.told
some_so_far s given left a now h =
    record {
      pieces = h.pieces;
      ahead = h.ahead;
      left = left;
      run = h.run;
      is_ahead = h.is_ahead;
      written = taken_so_far s h.pieces h.ahead a now h.taken;
    }

-- so it is if more was given
pub some_given : (s : Settings) (given part : List ℕ) (a : Start) (c : Told) → SomeSoFar s given a c → SomeSoFar s (given ++ part) a c
some_given s given part a c h =
    record {
      pieces = h.pieces;
      ahead = h.ahead;
      left = h.left ++ part;
      run = pushed given h.pieces h.left part h.run;
      is_ahead = ahead_of_more s h.ahead h.left part h.is_ahead;
      written = h.written;
    }

-- a part is its front and its rest
part_is : (given part : List ℕ) (n : ℕ) → (given ++ take n part) ++ drop n part ≡ given ++ part
part_is given part n = append_assoc given (take n part) (drop n part) ∙ ap (λ l. given ++ l) (take-append-drop n part)

-- the same, if the rest is told by its length
pub rest_is : (given part : List ℕ) (n : ℕ) → (given ++ take n part) ++ take (length part - n) (drop n part) ≡ given ++ part
rest_is given part n = ap (λ l. (given ++ take n part) ++ l) (take_rest part n) ∙ part_is given part n

-- a front of a part, and a front of the rest
pub front_is : (given part : List ℕ) (n more : ℕ)
    → (given ++ take n part) ++ take more (take (length part - n) (drop n part)) ≡ given ++ take (n + more) part
front_is given part n more =
    append_assoc given (take n part) _ ∙ ap (λ l. given ++ (take n part ++ take more l)) (take_rest part n)
    ∙ ap (λ l. given ++ l) (sym (take-add n more part))

-- so it is if a part was given of which this is a front
pub some_of_front : (s : Settings) (given part : List ℕ) (n : ℕ) (a : Start) (c : Told) → SomeSoFar s (given ++ take n part) a c
    → SomeSoFar s (given ++ part) a c
some_of_front s given part n a c h =
    subst (λ l. SomeSoFar s l a c) (part_is given part n) (some_given s (given ++ take n part) (drop n part) a c h)

-- a piece or a fault that the stream gave is the first piece of what it held
pub first_of_held : (s : Settings) (before after : HeldWithin) (text : List ℕ) (result : Result (Bor (List ℕ)) PieceTooLong)
    → HasRules s before → GivesOf before text (Some result) after
    → (piece left : List ℕ) × IsLastOf s.limit piece result × CutsTo (rules_of s.dialect) text piece left × Holds after left
first_of_held s before after text (Ok piece) rules h =
    (piece.now, h.0, (refl, subst (λ l. length piece.now ≤ l) rules.1 h.1), subst (λ d. CutsTo d text piece.now h.0) rules.0 h.2, h.3)
first_of_held s before after text (Err fault) rules h =
    (h.0, h.1, subst (λ l. IsLastOf l h.0 (Err fault)) rules.1 h.2, subst (λ d. CutsTo d text h.0 h.1) rules.0 h.3, h.4)

-- a front of what pieces make is one of what they and others make
pub fronts_of : (s : Settings) (given : List ℕ) (pieces others all : List (List ℕ)) (a : Start) (c : Told) → HasWritten s pieces a c
    → all ≡ pieces ++ others → Pieces (rules_of s.dialect) given all → RelaysFronts s a.types given (bytes_of a.told) (bytes_of c)
fronts_of s given pieces others all a c h is are =
    let past = types_past s a.types pieces in
    let xs = items_of s a.types pieces in
    record {
      pieces = all;
      are = are;
      relays = record {
        batch = front_more _ _ _ (items_batch (items_of s past others)) _ h.0
            (ap (λ l. items_batch (items_of s a.types l)) is ∙ ap items_batch (items_append s a.types pieces others)
            ∙ batch_append xs (items_of s past others));
        faults = front_more _ _ _ (told_from s past (place_past s a.types (first_place s) pieces) others) _ h.1
            (ap (told_from s a.types (first_place s)) is ∙ told_append s a.types (first_place s) pieces others);
        put = front_more _ _ _ _ _ h.2 (ap (λ l. refused_pieces s a.types l) is ∙ put_append s a.types pieces others);
      };
    }

-- so it is if a front of the next piece was taken ahead
pub fronts_ahead : (s : Settings) (given : List ℕ) (pieces others all : List (List ℕ)) (ahead : Option (List ℕ)) (a : Start) (c : Told)
    → HasWritten s (made_of pieces ahead) a c → BeginsAhead s ahead others → all ≡ pieces ++ others
    → Pieces (rules_of s.dialect) given all → RelaysFronts s a.types given (bytes_of a.told) (bytes_of c)
fronts_ahead s given pieces others all None a c h begins is are = fronts_of s given pieces others all a c h is are
fronts_ahead s given pieces others all (Some front) a c h (piece, next, first, starts) is are =
    let same = front_makes s a.types pieces front starts.2.0 piece starts.0 starts.2.1 in
    fronts_of s given (pieces ++ piece ∷ []) next all a c (
      subst (λ l. AppendsFront a.told.lines.bytes c.lines.bytes (items_batch l)) same.0 h.0,
      subst (AppendsFront a.told.faults.bytes c.faults.bytes) same.1 h.1,
      subst (AppendsFront a.told.refused.bytes c.refused.bytes) same.2 h.2,
    )
    (is ∙ ap (λ l. pieces ++ l) first ∙ sym (append_assoc pieces (piece ∷ []) next)) are

-- so it is of all bytes of a reader that gave these and may give more
pub fronts_so_far : PiecesExist → PiecesAreUnique → RunsGivePieces → (s : Settings) (r m : Option (List ℕ)) (given : List ℕ) (a : Start) (c : Told)
    → Consumes r m given → SomeSoFar s given a c → IfSome r (λ bs. RelaysFronts s a.types bs (bytes_of a.told) (bytes_of c))
fronts_so_far exist unique give s None m given a c read h = tt
fronts_so_far exist unique give s (Some x) None given a c read h = absurd read
fronts_so_far exist unique give s (Some x) (Some y) given a c read h =
    let others = exist (rules_of s.dialect) (h.left ++ y) in
    fronts_ahead s x h.pieces others.0 (h.pieces ++ others.0) h.ahead a c h.written
    (pieces_ahead exist unique s h.ahead (h.left ++ y) others.0 (ahead_of_more s h.ahead h.left y h.is_ahead) others.1) refl
    (subst (λ (l : List ℕ). Pieces (rules_of s.dialect) l (h.pieces ++ others.0)) (sym read)
    (give (rules_of s.dialect) given h.pieces h.left y others.0 h.run others.1))

-- a read of no bytes
pub read_none : (r m t : Option (List ℕ)) (given bytes : List ℕ) (n : ℕ) → n ≡ 0 → Consumes r m given → Consumes m t (take n bytes)
    → Consumes r t given
read_none r m t given bytes n none h k =
    subst (Consumes r t) (append-nil given) (Consumes-trans r m t given [] h (subst (λ i. Consumes m t (take i bytes)) none k))

-- all was read
pub all_read : (a b : Option (List ℕ)) (bs : List ℕ) (P : List ℕ → Type 0) → Consumes a b bs → IsAtEnd b → P bs
    → IfSome a (λ xs. (b ≡ Some []) × P xs)
all_read x b bs x3 p q h = grind (arith, append-nil)

-- if these pieces were taken and nothing is held, they were relayed
pub pieces_relayed : (s : Settings) (pieces : List (List ℕ)) (counts : Relayed) (a : Start) (end : Stage) → HasTaken s pieces None a end
    → end.unwritten.made.batch ≡ [] → end.unwritten.made.faults ≡ [] → end.unwritten.pieces ≡ []
    → counts.carried + items_before s.numbering s.first ≡ end.unwritten.made.carried → counts.refused ≡ end.unwritten.made.refused
    → counts_if counts.kinds ≡ end.unwritten.kinds → RelaysPieces s a.types pieces counts (bytes_of a.told) (bytes_of end.told)
pieces_relayed s pieces counts a end h no_batch no_faults no_pieces carried refused kinds =
    let items = items_of s a.types pieces in
    let kinds_are = kinds ∙ h.made.kinds ∙ kinds_of_all s items in
    let refusals = refused ∙ h.made.refusals in
    record {
      batch = but_none _ _ _ _ h.made.lines no_batch;
      faults = but_none _ _ _ _ h.made.faults no_faults;
      put = but_none _ _ _ _ h.made.refused no_pieces;
      carried = omega (arith, carried, h.made.carried);
      refused = refusals;
      kinds = kinds_are;
      kinds_add_up = counts_add_up s items counts.kinds counts.refused kinds_are refusals;
    }

-- at the end, if all pieces were taken and nothing is held, all was written
pub so_far_all : (s : Settings) (r t : Option (List ℕ)) (given : List ℕ) (pieces : List (List ℕ)) (counts : Relayed) (a : Start)
    (end : Stage) → Consumes r t given → IsAtEnd t → Pieces (rules_of s.dialect) given pieces
    → RelaysPieces s a.types pieces counts (bytes_of a.told) (bytes_of end.told)
    → IfSome r (λ bs. (t ≡ Some []) × RelaysAll s a.types bs counts (bytes_of a.told) (bytes_of end.told))
so_far_all s r t given pieces counts a end read at_end are relays =
    all_read r t given (λ bs. RelaysAll s a.types bs counts (bytes_of a.told) (bytes_of end.told)) read at_end
    (record { pieces = pieces; are = are; relays = relays })

-- so it is of the types that fields have then
pub types_all : (s : Settings) (r t : Option (List ℕ)) (given : List ℕ) (pieces : List (List ℕ)) (a : Start) (end : Stage)
    → Consumes r t given → IsAtEnd t → Pieces (rules_of s.dialect) given pieces → HasTaken s pieces None a end
    → IfSome r (λ bs. TypesAfter s a.types bs end.unwritten.types)
types_all s r t given pieces a end read at_end are h =
    IfSome_then r (all_read r t given (λ bs. TypesAfter s a.types bs end.unwritten.types) read at_end
    (record { pieces = pieces; are = are; types_are = h.made.types })) (λ bs all. all.1)
