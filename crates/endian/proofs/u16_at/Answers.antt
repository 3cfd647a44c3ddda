-- `endian::u16_at` meets its contract: where both bytes are there the sum is the definition; else the low byte is all. Assumes nothing.
use Prim.Native.Nat.{◌+◌, ◌≤◌}
use mathlib.Core.Path.{sym, ◌∙◌}
use native.Mathlib.Omega.{arith}
use lib.ListN.{length}
use Rattle.endian.specs.Endian.{u16_at, low_u16}
use Rattle.endian.proofs.u16_at.Goals as goal
use Rattle.endian.proofs.u16_at.Goals.{else-bytes-ge2-via-then-bytes-ge2+else-k-bytes, else-bytes-ge2-via-else-bytes-ge2}

pub returns-then-k-bytes : goal.returns-then-k-bytes
unfolding u16_at
returns-then-k-bytes c = omega (arith, c.from.ensures, c.from-then-k-bytes.ensures)

pub returns-else-bytes-ge2 : goal.returns-else-bytes-ge2
returns-else-bytes-ge2 c =
    let past : length c.args.bytes.now ≤ c.args.k + 1 = elim c.else-bytes-ge2.branch [ else-bytes-ge2-via-then-bytes-ge2+else-k-bytes w ↦ omega arith | else-bytes-ge2-via-else-bytes-ge2 w ↦ omega arith ] in
    c.from-else-bytes-ge2.ensures ∙ c.byte_at.ensures ∙ sym (low_u16 _ _ past)
