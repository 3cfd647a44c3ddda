-- `cache::clear` meets its contract: the loop's invariant: the words that were gone over are 0. Assumes nothing.
use lib.ListN.{drop, replicate}
use mathlib.Core.Path.{◌≡◌}
use mathlib.Core.List.{◌++◌}
use Rattle.cache.proofs.clear.Given as goal

abbrev pub invariant-loop-word : goal.invariant-loop-word
invariant-loop-word l = l.word-items ≡ replicate l.word-index 0 ++ drop l.word-index l.initial.word-items
