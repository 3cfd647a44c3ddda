-- `partition::no_data` meets its contract: by `zeros`. Assumes nothing.
use Rattle.std.proofs.Common.{rules, tests, ◌∙◌, arith}
use Rattle.std.specs.Prelude.{take, eqb}
use Rattle.std.proofs.lemmas.Iterator.{YieldsList-from_slice}
use Rattle.std.proofs.lemmas.Iterator.Search.{all_from_yields_List}
use Rattle.partition.specs.Partition.{data_cells}
use Rattle.partition.proofs.Chains.{zeros}
use Rattle.partition.proofs.no_data.Goals as goal

pub returns : goal.returns
returns c =
    let part = c.args.part.now in
    let d = data_cells c.args.zeroizable part in
    all_from_yields_List (λ x. eqb x 0) _ _ c.all.result c.all.ensures.ran (YieldsList-from_slice (take d part) cc) (λ x b q k. search (rules, tests))
    ∙ zeros part d (omega arith)
