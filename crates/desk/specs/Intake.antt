-- What the reading of an input promises. Which bytes standard input gives no contract of the kit's says; of a reader whose bytes are
-- known, all of them are read, or as many as the buffer takes. Assumes nothing.
use Rattle.std.specs.Prelude.{ℕ, ◌≤◌, ◌<◌, ◌≡◌, List, length, take, Option, Some, None, Result, Ok, Err}
use Rattle.std.proofs.Common.{sym, ap, subst}
use Rattle.std.specs.Io.{ReadsAtMost}
use Rattle.std.specs.Io.KnownBytes.{Consumes, IsAtEnd}

-- what the answer of a read says: how many bytes came, none at the input's end, or that it failed
abbrev pub intake_of : {E : Type 0} → Result ℕ E → Option ℕ
intake_of (Ok count) = Some count
intake_of (Err _) = None

-- `count` bytes were read into the front of the buffer, by what the reader had to give before and after, where that is known
pub record Taken (before after : Option (List ℕ)) (buffer : List ℕ) (count : ℕ) : Type 0 where
  -- they lie in the buffer
  pub within : count ≤ length buffer
  -- they are what the reader gave
  pub given : Consumes before after (take count buffer)
  -- where there was room for more, the reader is at its end
  pub whole : count < length buffer → IsAtEnd after

-- ---- the answer of a read, as the code reads it

-- a read brings no more bytes than it was lent room for
pub brought : {E : Type 0} (room : List ℕ) (count : ℕ) (got : Result ℕ E) → ReadsAtMost got room → Some count ≡ intake_of got → count ≤ length room
brought room count (Ok k) m e = let same : count ≡ k = cc in subst (λ (n : ℕ). n ≤ length room) (sym same) m.0
brought room count (Err error) m e = absurd cc

pub failed_is : {E : Type 0} (error : E) {got : Result ℕ E} → Err error ≡ got → None ≡ intake_of got
failed_is error q = ap intake_of q

-- no bytes are the input's end, which is no failure
pub came_is : {E : Type 0} (count : ℕ) {got : Result ℕ E} → Ok count ≡ got → Some count ≡ intake_of got
came_is count q = ap intake_of q
