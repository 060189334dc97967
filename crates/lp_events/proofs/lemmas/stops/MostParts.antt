-- The most parts that read at the start of a text, one after another.
use Rattle.std.proofs.Common.{◌≡◌, ℕ, ◌+◌, ◌<◌, ◌≤◌, List, [], ◌∷◌, ◌++◌, length, length-append, refl, arith}
use Rattle.lp_format.specs.format.{Reading, reads}
use Rattle.lp_events.specs.code.{Events.AreRead, Stops.DoesNotRead, Stops.most}
use Rattle.lp_events.proofs.lemmas.fields.FaultStops.{most_is}
use Rattle.lp_events.proofs.lemmas.fields.ManyLemmas.{read_more, same_reader}

-- `count` parts were read, and `rest` is left
pub record MostSoFar {A : Type 0} (one : List ℕ → Reading A) (text : List ℕ) (count : ℕ) (rest : List ℕ) : Type 0 where
  pub done : List A
  pub are : AreRead one one done text rest
  pub counted : count ≡ length done
  pub room : count + length rest ≤ length text

module _ {A : Type 0} (one : List ℕ → Reading A) where
  -- no parts were read at the start
  pub most_start : (text : List ℕ) → MostSoFar one text 0 text
  most_start text = record { done = []; are = refl; counted = refl; room = omega arith }

  -- one more part was read
  pub most_more : (text rest after : List ℕ) (count : ℕ) (x : A) → MostSoFar one text count rest → one rest ≡ reads x after
      → length after < length rest → MostSoFar one text (count + 1) after
  most_more text rest after count x so_far e less = record {
    done = so_far.done ++ x ∷ [];
    are = read_more one one so_far.done text rest after x so_far.are (rw (same_reader one so_far.done) e);
    counted = grind (arith, so_far.counted, length-append);
    room = grind (arith, so_far.room);
  }

  -- the parts are the most if no part reads after them
  pub most_end : (text rest : List ℕ) (count : ℕ) → MostSoFar one text count rest → DoesNotRead (one rest)
      → (count ≡ length (most one (length text) text).value) × (rest ≡ (most one (length text) text).rest)
  most_end text rest count so_far none =
      let room : length so_far.done ≤ length text = omega (arith, so_far.counted, so_far.room) in
      rw (most_is one (length text) so_far.done text rest so_far.are none room) (so_far.counted, refl)

-- rules for a reader of the most parts
pub ruleset most_steps = (most_start, most_more, most_end)
