-- `wording::put_pair` meets its contract: four pieces are one. Assumes nothing.
use native.Mathlib.Omega.{arith}
use Rattle.laws.specs.Put.{then}
use Rattle.wording.specs.Wording.{pair_words}
use Rattle.wording.proofs.put_pair.Goals as goal

pub returns : goal.returns
unfolding pair_words
returns c = (
  then (then (then c.put_numbered-at.ensures.0 c.put_numbered-at-2.ensures.0) c.put_numbered-at-3.ensures.0) c.put.ensures,
  omega (arith, c.put_numbered-at.ensures.1, c.put_numbered-at-2.ensures.1, c.put_numbered-at-3.ensures.1, c.put.ensures.is_next),
)
