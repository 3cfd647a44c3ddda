-- `handles::largest_of` meets its contract: none is greater, and it is one of them. Assumes nothing.
use Rattle.std.proofs.Common.{ℕ, List, refl, arith, rules}
use Rattle.std.proofs.lemmas.Grind.{common_steps}
use Rattle.std.proofs.lemmas.List.Recursion.{max_bounds, max_least}
use Rattle.handles.specs.Making.{largest}
use Rattle.handles.specs.Laws.{greater_max}
use Rattle.handles.proofs.largest_of.Goals as goal

pub returns : goal.returns
returns c =
    let step = λ (n : ℕ) (numbers : List ℕ). greater_max n (largest numbers) in
    let bounds = max_bounds largest (λ n. n) refl step c.args.handles.now in
    let least = max_least largest (λ n. n) refl step c.args.handles.now 0 c.unwrap_or.result (search rules) in
    grind (arith, common_steps, bounds, least)
