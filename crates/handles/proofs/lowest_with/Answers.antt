-- `handles::lowest_with` meets its contract: its search over the places answers for the whole. Assumes nothing.
use Rattle.std.proofs.Common.{◌≡◌, true, false, rules}
use Rattle.std.proofs.lemmas.Iterator.{first_from_Range}
use Rattle.laws.proofs.Below.{search_found}
use Rattle.handles.specs.Handles.{table_of, is_held_at}
use Rattle.handles.proofs.lowest_with.Goals as goal

pub returns : goal.returns
returns c =
    let is = is_held_at (table_of c.args.context.now) c.args.handle in
    search_found is 3 _ (first_from_Range _ _ _ _ (λ k. is k ≡ true) (λ k. is k ≡ false) c.find.ensures.ran (λ k q h. search rules) (λ k q h. (search rules, search rules)))
