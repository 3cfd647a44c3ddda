-- `map::header_good` meets its contract: the code is the chain of rules itself. Assumes nothing.
use mathlib.Core.Path.{refl}
use Rattle.laws.specs.Tests.{every}
use Rattle.map.specs.Map.{header_good}
use Rattle.map.proofs.header_good.Goals as goal

pub returns : goal.returns
unfolding header_good every
returns c = refl
