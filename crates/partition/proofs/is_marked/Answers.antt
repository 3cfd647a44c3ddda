-- `partition::is_marked` meets its contract: the three tests of the definition. Assumes nothing.
use mathlib.Core.Logic.{⊎_elim}
use mathlib.Core.Path.{◌≡◌, refl}
use mathlib.Core.Bool.{false}
use borrow.Author.Tests.{lt-leb, le-leb}
use Rattle.partition.specs.Partition.{marked}
use Rattle.partition.proofs.is_marked.Goals as goal
use Rattle.partition.proofs.is_marked.Goals.{then-zeroizable, else-zeroizable}

pub returns-then-pairs-ge1 : goal.returns-then-pairs-ge1
unfolding marked
returns-then-pairs-ge1 c =
    let yes = c.if-pairs-ge1.true in
    let zeroizable = yes.0 in
    simp (zeroizable, le-leb _ _ yes.1, c.pair_at.ensures)

pub returns-else-pairs-ge1 : goal.returns-else-pairs-ge1
unfolding marked
returns-else-pairs-ge1 c =
    elim c.if-zeroizable.branch [
      | then-zeroizable w ↦
          let z = w.if-zeroizable.true in
          let is = w.t-6-is in
          ⊎_elim (λ few. rw (is, z, lt-leb _ _ few.1) refl) (λ (no : c.args.zeroizable ≡ false). rw (is, no) (cc)) c.if-pairs-ge1.either
      | else-zeroizable w ↦ let z = w.if-zeroizable.false in let is = w.t-6-is in rw (is, z) refl
    ]
