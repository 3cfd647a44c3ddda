-- `burns::word_at` meets its contract: a word of the data, or the digest that follows them. Assumes nothing.
use mathlib.Core.Path.{sym}
use native.Mathlib.Omega.{arith}
use Rattle.burns.specs.Run.{pair_from}
use Rattle.burns.proofs.Turns.{order_fewer, later_word, later_within}
use Rattle.burns.proofs.word_at.Goals as goal

pub place_of-at-requires : goal.place_of-at-requires
place_of-at-requires c = omega (arith, c.requires, order_fewer c.args.software c.args.n c.requires.0)

pub returns : goal.returns
returns c =
    let a = c.args in
    let pre = c.requires in
    rw c.place_of-at.ensures
    (sym (later_word a.software a.n a.j (pair_from 0) pre.1 pre.3 pre.4), later_within a.software a.n a.j pre.0 pre.1 pre.3 pre.4)
