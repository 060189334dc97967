-- What a relay of several inputs has relayed so far.
use Rattle.std.proofs.Common.{◌≡◌, ℕ, ◌+◌, ◌<◌, List, [], ◌∷◌, ◌++◌, length, drop, Option, Some, None, IfSome, Result, Ok, Err}
use Rattle.std.proofs.Common.{IsErrAnd, ◌∙◌, ap, subst, sym, refl, append_assoc, append-nil, arith}
use Rattle.std.specs.Borrow.{Bor}
use Rattle.std.proofs.lemmas.List.{drop-drop, drop_all}
use Rattle.std.proofs.lemmas.Option.{IfSome_then}
use Rattle.influxdb_line_protocol.specs.laws.Laws.{PiecesExist}
use Rattle.influxdb_line_protocol.specs.code.Rules.{rules_of}
use Rattle.lp_rebuild.specs.declared.program.RunFault.{RunFault}
use Rattle.lp_rebuild.specs.declared.program.RunFault.TheVariants.{Read}
use Rattle.lp_conditions.specs.declared.kinds.Relayed.{Relayed}
use Rattle.lp_conditions.specs.declared.settings.Settings.{Settings}
use Rattle.lp_relay.specs.Inputs.{AddsUp, Input, InputsTold, RelaysEach, RelaysEach.none, RelaysEach.more, RelaysInputs, RelaysNext, TellsFaults}
use Rattle.lp_relay.specs.Inputs.{are_several, inputs_of, next_text, nothing_relayed, settings_after, settings_for, settings_past}
use Rattle.lp_conditions.specs.FieldTypes.{Types, no_types}
use Rattle.lp_relay.specs.Relays.{RelaysAll, RelaysFronts, TypesAfter}
use Rattle.lp_relay.specs.Writers.{AreFlushed, CountsNone, Known, Told, bytes_of, failures_of}
use Rattle.lp_relay.proofs.PassLemmas.{front_none}
use Rattle.lp_relay.proofs.RelayEnds.{none_twice}

-- nothing is a front of what is relayed of a text
pub nothing_put : PiecesExist → (s : Settings) (types : Types) (text : List ℕ) (a : Known) → RelaysFronts s types text a a
nothing_put exist s types text a =
    let p = exist (rules_of s.dialect) text in
    record {
      pieces = p.0;
      are = p.1;
      relays = record { batch = front_none _ _; faults = front_none _ _; put = front_none _ _ };
    }

-- so it is of the next text, if that is known
nothing_of_next : PiecesExist → (s : Settings) (types : Types) (left : Option (List (List ℕ))) (a : Known)
    → IfSome left (λ texts. RelaysFronts s types (next_text texts) a a)
nothing_of_next exist s types None a = tt
nothing_of_next exist s types (Some texts) a = nothing_put exist s types (next_text texts) a

-- an input could not be opened
pub not_opened : PiecesExist → (s : Settings) (types types_after : Types) (inputs inputs_after : InputsTold) (a : Told)
    → inputs_after.failures ≡ inputs.failures + 1 → RelaysNext s types types_after (Err Read) inputs inputs_after a a
not_opened exist s types types_after inputs inputs_after a counts =
    record {
      all = tt;
      types_are = tt;
      flushed = tt;
      part = nothing_of_next exist s types inputs.left (bytes_of a);
      faults = record { read = grind (arith); write = grind (arith); utf8 = grind (arith); counts = grind (arith) };
    }

-- these inputs were relayed whole, and these texts are left
pub record RelayedTexts (s : Settings) (names : List (Bor (List ℕ))) (texts : List (List ℕ)) (taken : ℕ) (before after : Known)
    (total : Relayed) (types : Types) (now : Settings) (left : Option (List (List ℕ))) : Type 0 where
  pub done : List Input
  pub left_is : left ≡ Some (drop taken texts)
  pub are : inputs_of names texts ≡ done ++ inputs_of (drop taken names) (drop taken texts)
  pub each : RelaysEach s (are_several names) before done total types after
  pub now_is : now ≡ settings_past s done total

-- so many of the inputs of these names were relayed whole, and no device failed
pub record RelayedSoFar (s : Settings) (names : List (Bor (List ℕ))) (taken : ℕ) (inputs inputs_after : InputsTold)
    (before after : Told) (total : Relayed) (types : Types) (now : Settings) : Type 0 where
  pub texts : IfSome inputs.left (λ texts.
      RelayedTexts s names texts taken (bytes_of before) (bytes_of after) total types now inputs_after.left)
  pub flushed : 0 < taken → AreFlushed after
  pub unread : inputs_after.failures ≡ inputs.failures
  pub unfailed : CountsNone (failures_of before) (failures_of after)

-- the same of texts that may be known
texts_none : (s : Settings) (names : List (Bor (List ℕ))) (left : Option (List (List ℕ))) (a : Known)
    → IfSome left (λ texts. RelayedTexts s names texts 0 a a nothing_relayed no_types s left)
texts_none s names None a = tt
texts_none s names (Some texts) a = record { done = []; left_is = refl; are = refl; each = none; now_is = refl }

-- before the first input
pub inputs_none : (s : Settings) (names : List (Bor (List ℕ))) (inputs : InputsTold) (a : Told) (types : Types) → types ≡ no_types
    → RelayedSoFar s names 0 inputs inputs a a nothing_relayed types s
inputs_none s names inputs a types empty =
    record {
      texts = subst (λ (t : Types). IfSome inputs.left (λ texts. RelayedTexts s names texts 0 (bytes_of a) (bytes_of a) nothing_relayed t s inputs.left))
          (sym empty) (texts_none s names inputs.left (bytes_of a));
      flushed = λ some. absurd (omega (arith, some));
      unread = refl;
      unfailed = record { lines = refl; faults = refl; refused = refl };
    }

-- the settings for an input that comes after some
settings_then : (s : Settings) (done : List Input) (input : Input) (total : Relayed)
    → settings_after s total ≡ settings_past s (done ++ input ∷ []) total
settings_then s [] input total = refl
settings_then s (first ∷ done) input total = refl

-- no count of failures has changed
none_failed : (counts : Relayed) (f f1 : ℕ) (a b : Told) → TellsFaults (Ok counts) f f1 a b
    → (f1 ≡ f) × CountsNone (failures_of a) (failures_of b)
none_failed counts f f1 a b h = (
  grind (arith, h.read, h.counts),
  record { lines = grind (arith, h.write, h.counts); faults = grind (arith, h.write, h.counts); refused = grind (arith, h.write, h.counts) },
)

-- so which fault is answered is told by the counts from the start on
faults_on : (result : Result Relayed RunFault) (f f1 f2 : ℕ) (a b c : Told) → f1 ≡ f → CountsNone (failures_of a) (failures_of b)
    → TellsFaults result f1 f2 b c → TellsFaults result f f2 a c
faults_on result f f1 f2 a b c e n h = record { read = grind (arith); write = grind (arith); utf8 = h.utf8; counts = grind (arith) }

-- one input more was relayed
pub inputs_more : (s : Settings) (names : List (Bor (List ℕ))) (name : Bor (List ℕ)) (taken : ℕ) (inputs mid after : InputsTold)
    (a b c : Told) (so_far counts total : Relayed) (types types_after : Types) (own now now_after : Settings) → drop taken names ≡ name ∷ drop (taken + 1) names
    → own ≡ settings_for (are_several names) name now
    → RelayedSoFar s names taken inputs mid a b so_far types now → RelaysNext own types types_after (Ok counts) mid after b c
    → AddsUp so_far counts total → now_after ≡ settings_after s total
    → RelayedSoFar s names (taken + 1) inputs after a c total types_after now_after
inputs_more s names name taken inputs mid after a b c so_far counts total types types_after own now now_after first own_is h next sum is =
    let none = none_failed counts mid.failures after.failures b c next.faults in
    record {
      texts = IfSome_then inputs.left h.texts
          (λ texts t.
          let input : Input = record { name = name; text = next_text (drop taken texts) } in
          let read = subst
          (λ l. IfSome l (λ xs. (after.left ≡ Some (drop 1 xs)) × RelaysAll own types (next_text xs) counts (bytes_of b) (bytes_of c)))
          t.left_is next.all in
          let known = subst (λ l. IfSome l (λ xs. TypesAfter own types (next_text xs) types_after)) t.left_is next.types_are in
          let same = own_is ∙ ap (settings_for (are_several names) name) t.now_is in
          record {
            done = t.done ++ input ∷ [];
            left_is = read.0 ∙ ap Some (drop-drop 1 taken texts);
            are = t.are ∙ ap (λ l. t.done ++ inputs_of l (drop taken texts)) first
                ∙ ap (λ l. t.done ++ input ∷ inputs_of (drop (taken + 1) names) l) (drop-drop 1 taken texts)
                ∙ sym (append_assoc t.done (input ∷ []) (inputs_of (drop (taken + 1) names) (drop (taken + 1) texts)));
            each = more t.done so_far counts total types types_after input (bytes_of b) (bytes_of c) t.each
                (subst (λ k. RelaysAll k types (next_text (drop taken texts)) counts (bytes_of b) (bytes_of c)) same read.1)
                (subst (λ k. TypesAfter k types (next_text (drop taken texts)) types_after) same known) sum;
            now_is = is ∙ settings_then s t.done input total;
          });
      flushed = λ some. next.flushed;
      unread = none.0 ∙ h.unread;
      unfailed = none_twice _ _ _ h.unfailed none.1;
    }

-- the next input was relayed with a fault, which was handed on
pub inputs_failed : (s : Settings) (names : List (Bor (List ℕ))) (name : Bor (List ℕ)) (taken : ℕ) (result : Result Relayed RunFault)
    (fault : RunFault) (inputs mid after : InputsTold) (a b c : Told) (so_far : Relayed) (types types_after : Types) (own now : Settings)
    → IsErrAnd result (λ e. e ≡ fault) → drop taken names ≡ name ∷ drop (taken + 1) names
    → own ≡ settings_for (are_several names) name now
    → RelayedSoFar s names taken inputs mid a b so_far types now → RelaysNext own types types_after (Err fault) mid after b c
    → RelaysInputs s names result inputs after a c
inputs_failed s names name taken (Ok counts) fault inputs mid after a b c so_far types types_after own now failed first own_is h next = absurd failed
inputs_failed s names name taken (Err e) fault inputs mid after a b c so_far types types_after own now failed first own_is h next =
    record {
      all = tt;
      flushed = tt;
      part = IfSome_then inputs.left h.texts
          (λ texts t.
          record {
            done = t.done;
            input = record { name = name; text = next_text (drop taken texts) };
            others = inputs_of (drop (taken + 1) names) (drop 1 (drop taken texts));
            are = t.are ∙ ap (λ l. t.done ++ inputs_of l (drop taken texts)) first;
            so_far = so_far;
            types = types;
            mid = bytes_of b;
            each = t.each;
            fronts = subst (λ k. RelaysFronts k types (next_text (drop taken texts)) (bytes_of b) (bytes_of c))
                (own_is ∙ ap (settings_for (are_several names) name) t.now_is)
                (subst (λ l. IfSome l (λ xs. RelaysFronts own types (next_text xs) (bytes_of b) (bytes_of c))) t.left_is next.part);
          });
      faults = subst (λ (f : RunFault). TellsFaults (Err f) inputs.failures after.failures a c) (sym failed)
          (faults_on (Err fault) _ _ _ a b c h.unread h.unfailed next.faults);
    }

-- no device failed
pub none_fail : (total : Relayed) (f f1 : ℕ) (a b : Told) → f1 ≡ f → CountsNone (failures_of a) (failures_of b) → TellsFaults (Ok total) f f1 a b
none_fail total f f1 a b e n = record { read = grind (arith); write = grind (arith); utf8 = grind (arith); counts = grind (arith) }

-- after the last input
pub inputs_all : (s : Settings) (names : List (Bor (List ℕ))) (taken : ℕ) (inputs after : InputsTold) (a b : Told) (total : Relayed)
    (types : Types) (now : Settings) → taken ≡ length names → RelayedSoFar s names taken inputs after a b total types now
    → RelaysInputs s names (Ok total) inputs after a b
inputs_all s names taken inputs after a b total types now end h =
    record {
      all = IfSome_then inputs.left h.texts
          (λ texts t. (
            t.left_is ∙ ap (λ n. Some (drop n texts)) end,
            (
              types,
              subst (λ l. RelaysEach s (are_several names) (bytes_of a) l total types (bytes_of b))
                  (sym (t.are ∙ ap (λ l. t.done ++ inputs_of l (drop taken texts)) (drop_all taken names (omega (arith, end))) ∙ append-nil t.done))
                  t.each,
            ),
          ));
      flushed = λ some. h.flushed (omega (arith, end, some));
      part = tt;
      faults = none_fail total _ _ a b h.unread h.unfailed;
    }
