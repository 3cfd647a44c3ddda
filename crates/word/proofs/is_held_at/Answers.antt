-- `word::is_held_at` meets its contract: at the entry that was read. Assumes nothing.
use Rattle.word.specs.Word.{is_held_at}
use Rattle.word.proofs.is_held_at.Goals as goal

pub returns : goal.returns
unfolding is_held_at
returns c = rw (c.end_of.ensures, c.read_entry-x.ensures)
