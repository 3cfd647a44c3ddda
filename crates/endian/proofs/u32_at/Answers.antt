-- `endian::u32_at` meets its contract: two halves, as in `u16_at`. Assumes nothing.
use mathlib.Core.Path.{sym}
use native.Mathlib.Omega.{arith}
use Rattle.endian.specs.Endian.{u32_at, past_u32}
use Rattle.endian.proofs.u32_at.Goals as goal

pub returns-then-bytes-k : goal.returns-then-bytes-k
returns-then-bytes-k c = sym (past_u32 _ _ c.if-bytes-k.true)

pub returns : goal.returns
unfolding u32_at
returns c = omega arith
