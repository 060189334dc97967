-- The pieces that a stream gives, and their answers, are the pieces and the answers of all bytes that were pushed.
use Rattle.std.proofs.Common.{◌≡◌, ℕ, List, [], ◌∷◌, ◌++◌, subst, sym, ◌∙◌, arith, append_assoc, append-nil, refl, ap, Result}
use Rattle.std.proofs.Common.{All}
use Rattle.std.proofs.lemmas.Grind.{flat_map-append}
use Rattle.std.proofs.lemmas.List.Elements.{All-head, All-nil, All-push, All-tail}
use Rattle.lp_format.specs.format.{IsLastPiece, newline, Dialect, Fault, Line, HasAnswers, answers_of, Pieces.Pieces}
use Rattle.lp_format.specs.format.{Pieces.Pieces.cut, Pieces.Pieces.last}
use Rattle.lp_format.proofs.lemmas.split.SplitPieces.{IsLastPiece-cut, same_pieces}
use Rattle.influxdb_line_protocol.specs.laws.StreamLaws.{TakenIsFirst, RunsGivePieces, RunsEnd, HaveAnswers, StreamsGiveAnswers}
use Rattle.influxdb_line_protocol.specs.laws.StreamLaws.{StreamsAnswerAll, Run, Run.begun, Run.pushed, Run.taken}

-- The piece that is taken from a stream is the first piece, whatever comes after the held bytes.
pub taken_is_first : TakenIsFirst
taken_is_first before after piece t others k h = rw (k.bytes, append_assoc) (cut piece (after.bytes ++ t) others k.is_cut h)

-- The pieces of the whole are the pieces that a stream gave, and then the pieces of the held bytes and of the text that comes.
pub runs_give_pieces : RunsGivePieces
runs_give_pieces dialect given pieces held t others begun h = h
runs_give_pieces dialect given pieces held t others (pushed g ps l part r) h =
    rw append_assoc (runs_give_pieces dialect g ps l (part ++ t) others r (rw append_assoc at h))
runs_give_pieces dialect given pieces held t others (taken g ps piece l r c) h = rw append_assoc
    (runs_give_pieces dialect g ps (piece ++ newline ∷ l) t (piece ∷ others) r (rw append_assoc (cut piece (l ++ t) others c h)))

-- At the end of the input, the held bytes are the last piece.
pub runs_end : RunsEnd
runs_end dialect given pieces held r h = subst (λ text. Pieces dialect text (pieces ++ held ∷ [])) (append-nil given)
    (runs_give_pieces dialect given pieces held [] (held ∷ []) r
    (subst (λ text. Pieces dialect text (held ∷ [])) (sym (append-nil held)) (last held h)))

-- Each piece that a stream gave is one piece.
given_are_single : (dialect : Dialect) (given : List ℕ) (pieces : List (List ℕ)) (held : List ℕ) → Run dialect given pieces held
    → All (IsLastPiece dialect) pieces
given_are_single dialect given pieces held begun = All-nil (IsLastPiece dialect)
given_are_single dialect given pieces held (pushed g ps l part r) = given_are_single dialect g ps l r
given_are_single dialect given pieces held (taken g ps piece l r c) =
    All-push (IsLastPiece dialect) ps piece (given_are_single dialect g ps (piece ++ newline ∷ l) r) (IsLastPiece-cut dialect piece c)

-- The answers of texts that are each one piece are the answers of the list of these texts.
answers_alone : (dialect : Dialect) (texts : List (List ℕ)) (answers : List (Result Line Fault)) → All (IsLastPiece dialect) texts
    → HaveAnswers dialect texts answers → answers ≡ answers_of dialect texts
answers_alone dialect [] answers h k = k
answers_alone dialect (text ∷ texts) answers h k =
    let alone = same_pieces dialect refl k.2.are (last text (All-head (IsLastPiece dialect) text texts h)) in
    let others = answers_alone dialect texts k.1 (All-tail (IsLastPiece dialect) text texts h) k.3 in
    grind (arith, append-nil)

-- The answers of the whole are the answers of the pieces, and then the answers of the held bytes and of the text that comes.
pub streams_give_answers : StreamsGiveAnswers
streams_give_answers dialect given pieces held t first others r h k = grind (arith, runs_give_pieces, answers_alone, given_are_single, flat_map-append)

-- The answers of a list of texts are the answers of all texts but the last, and then the answers of the last.
last_answers : (dialect : Dialect) (texts : List (List ℕ)) (text : List ℕ) (answers : List (Result Line Fault))
    → HaveAnswers dialect (texts ++ text ∷ []) answers
    → (first others : List (Result Line Fault)) × HaveAnswers dialect texts first × HasAnswers dialect text others
    × (answers ≡ first ++ others)
last_answers dialect [] text answers h = ([], h.0, refl, h.2, h.4 ∙ ap (λ xs. h.0 ++ xs) h.3 ∙ append-nil h.0)
last_answers dialect (piece ∷ texts) text answers h =
    let w = last_answers dialect texts text h.1 h.3 in
    (h.0 ++ w.0, w.1, (h.0, w.0, h.2, w.2, refl), w.3, h.4 ∙ ap (λ xs. h.0 ++ xs) w.4 ∙ sym (append_assoc h.0 w.0 w.1))

-- At the end of the input, the answers of the pieces are the answers of the whole.
pub streams_answer_all : StreamsAnswerAll
streams_answer_all dialect given pieces held answers r h =
    let w = last_answers dialect pieces held answers h in
    let all = streams_give_answers dialect given pieces held [] w.0 w.1 r w.2
    (subst (λ text. HasAnswers dialect text w.1) (sym (append-nil held)) w.3) in
    subst (λ text. HasAnswers dialect text answers) (append-nil given)
    (subst (λ xs. HasAnswers dialect (given ++ []) xs) (sym w.4) all)

-- the laws of streams
pub ruleset stream_laws = (taken_is_first, runs_give_pieces, runs_end, streams_give_answers, streams_answer_all)
