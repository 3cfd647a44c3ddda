-- `burns::last_burn` meets its contract: the digest's burn follows the indicator's and the data words'. Assumes nothing.
use Rattle.std.proofs.Common.{arith, ◌≡◌, ◌+◌, ◌-◌, length}
use Rattle.burns.specs.Run.{order}
use Rattle.burns.proofs.Turns.{count_cells, count_pairs}
use Rattle.burns.proofs.last_burn.Goals as goal
use Rattle.burns.proofs.last_burn.Goals.{then-software, else-software}

pub returns : goal.returns
returns c =
    let a = c.args in
    let digest : c.if-software.data_words + 1 ≡ length (order a.software a.n) - 1 = elim c.if-software.branch [
      | then-software w ↦ omega (arith, w.data_words-is, count_cells a.software a.n w.if-software.true)
      | else-software w ↦ omega (arith, w.data_words-is, count_pairs a.software a.n w.if-software.false)
    ] in
    omega (arith, c.min.ensures, digest)
