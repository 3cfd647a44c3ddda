-- `mailbox::effects::clear_effect` meets its contract: at the timeout that was read. Assumes nothing.
use mathlib.Core.Path.{refl, ◌∙◌}
use Rattle.codec.specs.declared.Command.TheVariants.{Clkc}
use Rattle.mailbox.proofs.effects.clear_effect.Goals as goal

pub returns : goal.returns
returns c = c.effect_with.ensures ∙ rw (c.timeout_of.ensures Clkc refl, c.no_numbers.ensures)
