-- The effects of the calls of the builder.
use Rattle.std.specs.Prelude.{◌≡◌, ◌≢◌, ℕ, ◌+◌, ◌^◌, ◌<◌, ◌≤◌, ◌↔◌, List, ◌++◌, length, Result, IfOk, IfErr, IsOk, MatchResult}
use Rattle.lp_build.specs.declared.builder.LineProtocolBuilder.{LineProtocolBuilder}
use Rattle.lp_build.specs.declared.{builder.buffer.NoRoom.NoRoom, builder.buffer.NoRoom.TheVariants.TooLong, builder.Refused.Refused}

-- The buffer that a builder writes to.
abbrev pub buffer_of : {B S : Type 0} → LineProtocolBuilder B S → B
buffer_of b = b.buf

-- A call that has this text to write appends exactly this text, or is refused and changes nothing.
pub record Writes {B S T : Type 0} (bytes : B → List ℕ) (room : B → ℕ) (refuses : NoRoom → Type 0)
    (text : List ℕ) (before : B) (result : Result (LineProtocolBuilder B T) (Refused B S)) : Type 0 where
  -- an accepted call appends the text, and nothing else
  pub ok : IfOk result (λ b. bytes (buffer_of b) ≡ bytes before ++ text)
  -- an accepted call takes no more room than the text has bytes
  pub left : IfOk result (λ b. room before ≤ room (buffer_of b) + length text)
  -- a refused call leaves the bytes as they were
  pub unchanged : IfErr result (λ r. bytes (buffer_of r.builder) ≡ bytes before)
  -- a refused call leaves at least the room that there was
  pub kept : IfErr result (λ r. room before ≤ room (buffer_of r.builder))
  -- a call is refused as too long exactly if no `usize` can hold the length of its text, and then no call is accepted
  pub too_long :
      MatchResult result (λ _. length text < 2 ^ 64) (λ r. (r.cause ≡ TooLong) ↔ (2 ^ 64 ≤ length text))
  -- any other refusal is for lack of room
  pub refused : IfErr result (λ r. r.cause ≢ TooLong → room before < length text)
  -- the cause of any other refusal is a cause that the buffer gives
  pub cause : IfErr result (λ r. r.cause ≢ TooLong → refuses r.cause)
  -- if the room suffices and a `usize` can hold the length, the call is accepted
  pub succeeds : length text ≤ room before → length text < 2 ^ 64 → IsOk result
