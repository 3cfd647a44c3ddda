-- `cache::awaited` meets its contract. Assumes nothing.
use Rattle.cache.specs.Cache.{cache_of}
use Rattle.std.proofs.Common.{rules}
use Rattle.cache.proofs.awaited.Goals as goal

pub returns : goal.returns
unfolding cache_of
returns c = search rules
