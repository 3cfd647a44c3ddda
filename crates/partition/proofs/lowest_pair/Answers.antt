-- `partition::lowest_pair` meets its contract: the chain gives what its definition says, by `lowest`. Assumes nothing.
use Rattle.std.proofs.Common.{rules, tests, ap, ◌≡◌, ◌∙◌, ◌/◌, length, arith}
use Rattle.std.specs.Prelude.{unwrap_or}
use Rattle.std.proofs.lemmas.Iterator.{YieldsList-from_range}
use Rattle.std.proofs.lemmas.Iterator.Search.{position_from_yields_List}
use Rattle.partition.specs.Partition.{short_at}
use Rattle.partition.proofs.Chains.{lowest}
use Rattle.partition.proofs.lowest_pair.Goals as goal

pub returns : goal.returns
returns c =
    let short = short_at c.args.bound c.args.part.now in
    let n = length c.args.part.now / 2 in
    let told : c.unwrap_or.result ≡ unwrap_or c.position.result n = search (rules, tests) in
    told ∙ ap (λ r. unwrap_or r n)
    (position_from_yields_List short _ _ c.position.result c.position.ensures.ran (YieldsList-from_range 0 n n (cc) (omega arith)) (λ x b q k. search (rules, tests)))
    ∙ lowest c.args.bound c.args.part.now
