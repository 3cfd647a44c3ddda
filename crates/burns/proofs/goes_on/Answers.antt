-- `burns::goes_on` meets its contract: by the definition. Assumes nothing.
use Rattle.burns.specs.Run.{goes_on}
use Rattle.burns.proofs.goes_on.Goals as goal

pub returns : goal.returns
unfolding goes_on
returns c = c.is_marked.ensures
