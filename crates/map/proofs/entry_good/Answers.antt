-- `map::entry_good` meets its contract: the code is the chain of rules itself, with the flags named. Assumes nothing.
use mathlib.Core.Path.{refl}
use Rattle.laws.specs.Tests.{every}
use Rattle.map.specs.Map.{entry_good}
use Rattle.map.proofs.entry_good.Goals as goal

pub returns : goal.returns
unfolding entry_good every
returns c = rw (c.is_zeroizable-zeroizable.ensures, c.is_secret-secret.ensures, c.is_slot-slot.ensures, c.is_on_older_guide-older.ensures, c.end_of-end.ensures) refl
