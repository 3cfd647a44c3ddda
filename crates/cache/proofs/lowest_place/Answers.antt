-- `cache::lowest_place` meets its contract: its search over the places answers for the whole. Assumes nothing.
use Rattle.std.proofs.Common.{◌≡◌, true, false, rules}
use Rattle.std.proofs.lemmas.Iterator.{first_from_Range}
use Rattle.laws.proofs.Below.{search_found}
use Rattle.cache.specs.Cache.{cache_of, is_at}
use Rattle.cache.proofs.lowest_place.Goals as goal

pub returns : goal.returns
returns c =
    let is = is_at (cache_of c.args.context.now) c.args.sought in
    search_found is 16 _ (first_from_Range _ _ _ _ (λ k. is k ≡ true) (λ k. is k ≡ false) c.find.ensures.ran (λ k q h. search rules) (λ k q h. (search rules, search rules)))
