-- `word::word_at` meets its contract: by the partition that holds the cell. Assumes nothing.
use Rattle.std.proofs.Common.{rules}
use Rattle.word.specs.Laws.{word_found, word_none, found_holds}
use Rattle.word.proofs.word_at.Goals as goal

pub returns-in_err-i : goal.returns-in_err-i
returns-in_err-i c = rw c.from_residual.ensures (word_none _ _ c.in_err-i.ensures)

pub word_in-requires : goal.word_in-requires
word_in-requires c = found_holds _ _ c.in_ok-i.ensures c.read_entry.ensures

pub returns : goal.returns
returns c = word_found _ _ c.in_ok-i.ensures c.read_entry.ensures c.word_in.ensures
