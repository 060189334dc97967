-- What a relay with the time of each read has relayed so far.
use Rattle.std.proofs.Common.{◌≡◌, inl, inr, ℕ, ℤ, pos, List, [], ◌∷◌, ◌++◌, Option, Some, None, IfSome, Result, Ok, Err, IsErr}
use Rattle.std.proofs.Common.{refl, sym, ap, subst, ◌∙◌, append-nil, append_assoc}
use Rattle.std.specs.Io.KnownBytes.{Consumes, IsAtEnd}
use Rattle.std.proofs.lemmas.Grind.{flat_map-append}
use Rattle.std.proofs.lemmas.List.{map-append}
use Rattle.std.proofs.lemmas.Option.{IfSome_then}
use Rattle.influxdb_line_protocol.specs.format.Dialects.{Dialect}
use Rattle.influxdb_line_protocol.specs.format.Pieces.{IsLastPiece, Pieces}
use Rattle.influxdb_line_protocol.specs.code.Bounded.{HeldWithin, Holds}
use Rattle.influxdb_line_protocol.specs.code.Rules.{rules_of}
use Rattle.influxdb_line_protocol.specs.laws.Laws.{PiecesAreUnique, PiecesExist}
use Rattle.influxdb_line_protocol.specs.laws.StreamLaws.{Run.begun, RunsGivePieces}
use Rattle.lp_rebuild.specs.declared.program.RunFault.{RunFault}
use Rattle.lp_rebuild.specs.Running.{ReaderTold}
use Rattle.lp_relay.specs.declared.reads.ReadEnd.{ReadEnd}
use Rattle.lp_conditions.specs.declared.kinds.Relayed.{Relayed}
use Rattle.lp_conditions.specs.declared.settings.Settings.{Settings}
use Rattle.lp_conditions.specs.FieldTypes.{Types, no_types}
use Rattle.lp_relay.specs.Inputs.{AddsUp, TellsFaults, nothing_relayed}
use Rattle.lp_relay.specs.Reads.{EndsRead, GivesPieces, Read, RelaysByReads, RelaysNow, RelaysReads, RelaysReads.none, RelaysReads.more, RelaysReadsFront}
use Rattle.lp_relay.specs.Reads.{TellsTimes, pieces_of, settings_at, settings_then, times_of}
use Rattle.lp_faults.specs.Relaying.{types_past}
use Rattle.lp_relay.specs.Relays.{RelaysFronts, RelaysPieces, RelaysPiecesFronts}
use Rattle.lp_relay.specs.RelaySteps.{SoFar, SoFarBy, SomeSoFar, Start, Unwritten, unwritten_of_none}
use Rattle.lp_relay.specs.Writers.{AreFlushed, Known, Told, bytes_of}
use Rattle.lp_relay.proofs.PassLemmas.{front_none}
use Rattle.lp_relay.proofs.RelayLemmas.{taken_none}
use Rattle.lp_relay.proofs.RelaysSoFar.{all_read, fronts_so_far, so_far_given}

-- before a part: what the stream holds was given
pub so_far_held : (s : Settings) (a : Start) (stream : HeldWithin) (now : Unwritten) (text : List ℕ) → Holds stream text
    → IsLastPiece (rules_of s.dialect) text → now ≡ unwritten_of_none s a.types
    → SoFarBy s text stream a (record { unwritten = now; told = a.told })
so_far_held s a stream now text holds is_last is = (
  text,
  holds,
  so_far_given s [] [] text a _
      (subst (λ u. SoFar s [] [] a (record { unwritten = u; told = a.told })) (sym is)
      (record { pieces = []; ahead = None; run = begun; is_ahead = tt; taken = taken_none s a })),
  is_last,
)

-- whatever comes after, each writer has a front of what was meant for it
pub fronts_and_more : PiecesExist → PiecesAreUnique → RunsGivePieces → (s : Settings) (given : List ℕ) (a : Start) (c : Told)
    → SomeSoFar s given a c → (t : List ℕ) → RelaysFronts s a.types (given ++ t) (bytes_of a.told) (bytes_of c)
fronts_and_more exist unique give s given a c h t =
    fronts_so_far exist unique give s (Some (given ++ t)) (Some t) given a c refl h

-- a clock that told no time more
times_none : (told : Option (List ℤ)) → TellsTimes told told []
times_none None = tt
times_none (Some times) = ap Some (sym (append-nil times))

-- a clock that told a time more
pub times_more : (a b c : Option (List ℤ)) (times : List ℤ) (time : ℤ) → TellsTimes a b times
    → IfSome b (λ ts. c ≡ Some (ts ++ time ∷ [])) → TellsTimes a c (times ++ time ∷ [])
times_more None b c times time h k = tt
times_more (Some ts) b c times time h k =
    subst (λ l. IfSome l (λ xs. c ≡ Some (xs ++ time ∷ []))) h k ∙ ap Some (append_assoc ts times (time ∷ []))

-- the pieces of these and of others
pub gives_more : (d : Dialect) (given left part after : List ℕ) (pieces others : List (List ℕ)) → GivesPieces d given pieces left
    → GivesPieces d (left ++ part) others after → GivesPieces d (given ++ part) (pieces ++ others) after
gives_more d given left part after pieces others h k t rest are =
    subst (Pieces d ((given ++ part) ++ t)) (sym (append_assoc pieces others rest))
    (subst (λ l. Pieces d l (pieces ++ (others ++ rest))) (sym (append_assoc given part t))
    (h (part ++ t) (others ++ rest)
    (subst (λ l. Pieces d l (others ++ rest)) (append_assoc left part t) (k t rest are))))

-- the pieces of reads, and of one more
pieces_more : (reads : List Read) (read : Read) → pieces_of (reads ++ read ∷ []) ≡ pieces_of reads ++ read.pieces
pieces_more reads read =
    flat_map-append (λ (r : Read). r.pieces) reads (read ∷ []) ∙ ap (λ l. pieces_of reads ++ l) (append-nil read.pieces)

-- the times of reads, and of one more
times_then : (reads : List Read) (read : Read) → times_of (reads ++ read ∷ []) ≡ times_of reads ++ read.time ∷ []
times_then reads read = map-append (λ (r : Read). r.time) reads (read ∷ [])

-- these reads were relayed whole, and this is left of what they gave
pub record ReadSoFar (s : Settings) (reader reader_now : Option (List ℕ)) (stream : HeldWithin) (told told_now : Option (List ℤ))
    (before now : Known) (total : Relayed) (own : Settings) (types : Types) : Type 0 where
  pub given : List ℕ
  pub left : List ℕ
  pub reads : List Read
  pub read : Consumes reader reader_now given
  pub holds : Holds stream left
  pub is_last : IsLastPiece (rules_of s.dialect) left
  pub gives : GivesPieces (rules_of s.dialect) given (pieces_of reads) left
  pub relays : RelaysReads s before reads total own types now
  pub times : TellsTimes told told_now (times_of reads)
  pub dialect : own.dialect ≡ s.dialect

-- before the first read
pub reads_none : (s : Settings) (reader : Option (List ℕ)) (stream : HeldWithin) (told : Option (List ℤ)) (a : Known) (types : Types)
    → Consumes reader reader [] → Holds stream [] → IsLastPiece (rules_of s.dialect) [] → types ≡ no_types
    → ReadSoFar s reader reader stream told told a a nothing_relayed s types
reads_none s reader stream told a types read holds is_last empty =
    record {
      given = [];
      left = [];
      reads = [];
      read = read;
      holds = holds;
      is_last = is_last;
      gives = λ t others are. are;
      relays = subst (λ t. RelaysReads s a [] nothing_relayed s t a) (sym empty) none;
      times = times_none told;
      dialect = refl;
    }

-- one read more was relayed
pub reads_more : (s : Settings) (r0 r1 r2 : Option (List ℕ)) (stream stream_after : HeldWithin) (c0 c1 c2 : Option (List ℤ)) (a b c : Known)
    (so_far total : Relayed) (own own_after timed : Settings) (types types_after : Types) (part given left : List ℕ) (time : ℤ) (end : ReadEnd)
    → (h : ReadSoFar s r0 r1 stream c0 c1 a b so_far own types) → Consumes r0 r2 given → given ≡ h.given ++ part
    → IfSome c1 (λ ts. c2 ≡ Some (ts ++ time ∷ [])) → timed ≡ settings_at time own → Holds stream_after left
    → EndsRead timed types types_after (h.left ++ part) left end b c → AddsUp so_far end.counts total → own_after ≡ end.settings
    → ReadSoFar s r0 r2 stream_after c0 c2 a c total own_after types_after
reads_more s r0 r1 r2 stream stream_after c0 c1 c2 a b c so_far total own own_after timed types types_after part given left time end
    h read is_given tick timed_is holds ends sum own_is =
    let done : Read = record { time = time; pieces = ends.pieces } in
    let dialect : timed.dialect ≡ s.dialect = ap (λ (k : Settings). k.dialect) timed_is ∙ h.dialect in
    record {
      given = given;
      left = left;
      reads = h.reads ++ done ∷ [];
      read = read;
      holds = holds;
      is_last = subst (λ d. IsLastPiece (rules_of d) left) dialect ends.is_last;
      gives = subst (λ l. GivesPieces (rules_of s.dialect) l (pieces_of (h.reads ++ done ∷ [])) left) (sym is_given)
          (subst (λ l. GivesPieces (rules_of s.dialect) (h.given ++ part) l left) (sym (pieces_more h.reads done))
          (gives_more (rules_of s.dialect) h.given h.left part left (pieces_of h.reads) ends.pieces h.gives
          (subst (λ d. GivesPieces (rules_of d) (h.left ++ part) ends.pieces left) dialect ends.gives)));
      relays = subst (λ k. RelaysReads s a (h.reads ++ done ∷ []) total k types_after c)
          (sym (own_is ∙ ends.settings ∙ ap (λ k. settings_then k types ends.pieces end.counts) timed_is))
          (subst (λ t. RelaysReads s a (h.reads ++ done ∷ []) total (settings_then (settings_at time own) types ends.pieces end.counts) t c)
          (sym (ends.types_are ∙ ap (λ k. types_past k types ends.pieces) timed_is))
          (more h.reads so_far end.counts total own types done b c h.relays
          (subst (λ k. RelaysPieces k types ends.pieces end.counts b c) timed_is ends.relays) sum));
      times = subst (TellsTimes c0 c2) (sym (times_then h.reads done)) (times_more c0 c1 c2 (times_of h.reads) time h.times tick);
      dialect = ap (λ (k : Settings). k.dialect) (own_is ∙ ends.settings) ∙ dialect;
    }

-- at the end, what was left was relayed too
pub reads_all : (s : Settings) (r0 r1 r2 : Option (List ℕ)) (stream : HeldWithin) (c0 c1 c2 : Option (List ℤ)) (a b c : Known)
    (so_far counts total : Relayed) (own timed : Settings) (types : Types) (pieces : List (List ℕ)) (time : ℤ)
    → (h : ReadSoFar s r0 r1 stream c0 c1 a b so_far own types) → Consumes r0 r2 h.given → IsAtEnd r2
    → IfSome c1 (λ ts. c2 ≡ Some (ts ++ time ∷ [])) → timed ≡ settings_at time own
    → Pieces (rules_of timed.dialect) h.left pieces → RelaysPieces timed types pieces counts b c → AddsUp so_far counts total
    → IfSome r0 (λ bs. (r2 ≡ Some []) × RelaysByReads s bs total c0 c2 a c)
reads_all s r0 r1 r2 stream c0 c1 c2 a b c so_far counts total own timed types pieces time h read at_end tick timed_is are relays sum =
    let done : Read = record { time = time; pieces = pieces } in
    let d = rules_of s.dialect in
    let dialect : timed.dialect ≡ s.dialect = ap (λ (k : Settings). k.dialect) timed_is ∙ h.dialect in
    all_read r0 r2 h.given (λ bs. RelaysByReads s bs total c0 c2 a c) read at_end
    (record {
      reads = h.reads ++ done ∷ [];
      now = settings_then (settings_at time own) types pieces counts;
      types = types_past (settings_at time own) types pieces;
      are = subst (Pieces d h.given) (sym (pieces_more h.reads done))
          (subst (λ l. Pieces d l (pieces_of h.reads ++ pieces)) (append-nil h.given)
          (h.gives [] pieces
          (subst (λ l. Pieces d l pieces) (sym (append-nil h.left)) (subst (λ k. Pieces (rules_of k) h.left pieces) dialect are))));
      relays = more h.reads so_far counts total own types done b c h.relays
          (subst (λ k. RelaysPieces k types pieces counts b c) timed_is relays) sum;
      times = subst (TellsTimes c0 c2) (sym (times_then h.reads done)) (times_more c0 c1 c2 (times_of h.reads) time h.times tick);
    })

-- nothing was relayed after these reads
pub front_of_reads : PiecesExist → (s : Settings) (r0 r1 : Option (List ℕ)) (stream : HeldWithin) (c0 c1 : Option (List ℤ)) (a b : Known)
    (so_far : Relayed) (own : Settings) (types : Types) → ReadSoFar s r0 r1 stream c0 c1 a b so_far own types
    → IfSome r0 (λ bs. RelaysReadsFront s bs c0 c1 a b)
front_of_reads exist s None r1 stream c0 c1 a b so_far own types h = tt
front_of_reads exist s (Some x) None stream c0 c1 a b so_far own types h = absurd h.read
front_of_reads exist s (Some x) (Some y) stream c0 c1 a b so_far own types h =
    let d = rules_of s.dialect in
    let rest = exist d (h.left ++ y) in
    record {
      reads = h.reads;
      time = pos 0;
      rest = rest.0;
      so_far = so_far;
      now = own;
      types = types;
      mid = b;
      are = subst (λ l. Pieces d l (pieces_of h.reads ++ rest.0)) (sym h.read) (h.gives y rest.0 rest.1);
      relays = h.relays;
      fronts = record { batch = front_none _ _; faults = front_none _ _; put = front_none _ _ };
      times = inl (h.times, refl);
    }

-- of what came with one read more, and after it, each writer has a front
pub front_after_read : (s : Settings) (r0 r1 r2 : Option (List ℕ)) (stream : HeldWithin) (c0 c1 c2 : Option (List ℤ)) (a b c : Known)
    (so_far : Relayed) (own timed : Settings) (types : Types) (part : List ℕ) (time : ℤ)
    → (h : ReadSoFar s r0 r1 stream c0 c1 a b so_far own types) → Consumes r1 r2 part
    → IfSome c1 (λ ts. c2 ≡ Some (ts ++ time ∷ [])) → timed ≡ settings_at time own
    → ((t : List ℕ) → RelaysFronts timed types ((h.left ++ part) ++ t) b c)
    → IfSome r0 (λ bs. RelaysReadsFront s bs c0 c2 a c)
front_after_read s None r1 r2 stream c0 c1 c2 a b c so_far own timed types part time h read tick timed_is fronts = tt
front_after_read s (Some x) None r2 stream c0 c1 c2 a b c so_far own timed types part time h read tick timed_is fronts = absurd h.read
front_after_read s (Some x) (Some y) None stream c0 c1 c2 a b c so_far own timed types part time h read tick timed_is fronts = absurd read
front_after_read s (Some x) (Some y) (Some z) stream c0 c1 c2 a b c so_far own timed types part time h read tick timed_is fronts =
    let d = rules_of s.dialect in
    let f = fronts z in
    let dialect : timed.dialect ≡ s.dialect = ap (λ (k : Settings). k.dialect) timed_is ∙ h.dialect in
    record {
      reads = h.reads;
      time = time;
      rest = f.pieces;
      so_far = so_far;
      now = own;
      types = types;
      mid = b;
      are = subst (λ l. Pieces d l (pieces_of h.reads ++ f.pieces)) (sym (h.read ∙ ap (λ l. h.given ++ l) read))
          (h.gives (part ++ z) f.pieces
          (subst (λ l. Pieces d l f.pieces) (append_assoc h.left part z) (subst (λ k. Pieces (rules_of k) ((h.left ++ part) ++ z) f.pieces) dialect f.are)));
      relays = h.relays;
      fronts = subst (λ k. RelaysPiecesFronts k types f.pieces b c) timed_is f.relays;
      times = inr (times_more c0 c1 c2 (times_of h.reads) time h.times tick);
    }

-- so it is if nothing came with it, since all was read
pub front_at_end : (s : Settings) (r0 r1 r2 : Option (List ℕ)) (stream : HeldWithin) (c0 c1 c2 : Option (List ℤ)) (a b c : Known)
    (so_far : Relayed) (own timed : Settings) (types : Types) (time : ℤ)
    → (h : ReadSoFar s r0 r1 stream c0 c1 a b so_far own types) → Consumes r0 r2 h.given → IsAtEnd r2
    → IfSome c1 (λ ts. c2 ≡ Some (ts ++ time ∷ [])) → timed ≡ settings_at time own
    → RelaysFronts timed types h.left b c
    → IfSome r0 (λ bs. RelaysReadsFront s bs c0 c2 a c)
front_at_end s r0 r1 r2 stream c0 c1 c2 a b c so_far own timed types time h read at_end tick timed_is f =
    let d = rules_of s.dialect in
    let dialect : timed.dialect ≡ s.dialect = ap (λ (k : Settings). k.dialect) timed_is ∙ h.dialect in
    IfSome_then r0
    (all_read r0 r2 h.given (λ bs. RelaysReadsFront s bs c0 c2 a c) read at_end
    (record {
      reads = h.reads;
      time = time;
      rest = f.pieces;
      so_far = so_far;
      now = own;
      types = types;
      mid = b;
      are = subst (λ l. Pieces d l (pieces_of h.reads ++ f.pieces)) (append-nil h.given)
          (h.gives [] f.pieces
          (subst (λ l. Pieces d l f.pieces) (sym (append-nil h.left)) (subst (λ k. Pieces (rules_of k) h.left f.pieces) dialect f.are)));
      relays = h.relays;
      fronts = subst (λ k. RelaysPiecesFronts k types f.pieces b c) timed_is f.relays;
      times = inr (times_more c0 c1 c2 (times_of h.reads) time h.times tick);
    }))
    (λ bs all. all.1)

-- after a fault each writer has a front
pub now_failed : (s : Settings) (result : Result Relayed RunFault) (reader reader_after : ReaderTold) (told told_after : Option (List ℤ))
    (before after : Told) → IsErr result
    → IfSome reader.bytes (λ bs. RelaysReadsFront s bs told told_after (bytes_of before) (bytes_of after))
    → TellsFaults result reader.failures reader_after.failures before after
    → RelaysNow s result reader reader_after told told_after before after
now_failed s (Ok counts) reader reader_after told told_after before after is fronts faults = absurd (cc)
now_failed s (Err fault) reader reader_after told told_after before after is fronts faults =
    record { all = tt; flushed = tt; part = fronts; faults = faults }

-- all was relayed
pub now_ended : (s : Settings) (counts : Relayed) (reader reader_after : ReaderTold) (told told_after : Option (List ℤ)) (before after : Told)
    → IfSome reader.bytes (λ bs. (reader_after.bytes ≡ Some []) × RelaysByReads s bs counts told told_after (bytes_of before) (bytes_of after))
    → AreFlushed after → TellsFaults (Ok counts) reader.failures reader_after.failures before after
    → RelaysNow s (Ok counts) reader reader_after told told_after before after
now_ended s counts reader reader_after told told_after before after all flushed faults =
    record { all = all; flushed = flushed; part = tt; faults = faults }

-- what the stream holds is a last piece by the settings of a read too
pub held_last : (s own timed : Settings) (time : ℤ) (left : List ℕ) → own.dialect ≡ s.dialect → timed ≡ settings_at time own
    → IsLastPiece (rules_of s.dialect) left → IsLastPiece (rules_of timed.dialect) left
held_last s own timed time left same timed_is is_last =
    subst (λ d. IsLastPiece (rules_of d) left) (sym (ap (λ (k : Settings). k.dialect) timed_is ∙ same)) is_last
