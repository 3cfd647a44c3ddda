-- `mailbox::effects::rotate_effect` meets its contract: at what was read. Assumes nothing.
use mathlib.Core.Path.{refl, ap, ◌∙◌}
use Rattle.std.proofs.Common.{rules}
use Rattle.std.specs.Prelude.{ℕ, Option, unwrap_or}
use Rattle.laws.proofs.Below.{found_or}
use Rattle.handles.specs.Handles.{table_of, is_held_at}
use Rattle.mailbox.proofs.effects.rotate_effect.Goals as goal

pub returns : goal.returns
returns c =
    let place = c.unwrap_or.ensures ∙ ap (λ (o : Option ℕ). unwrap_or o 3) c.lowest_with.ensures ∙ found_or (is_held_at (table_of c.args.context.now) c.handle_of.result) 3 in
    search (rules, place)
