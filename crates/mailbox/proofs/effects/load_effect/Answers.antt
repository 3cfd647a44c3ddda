-- `mailbox::effects::load_effect` meets its contract: at what was read. Assumes nothing.
use mathlib.Core.Path.{refl, ap, ◌∙◌}
use Prim.Native.Nat.{ℕ}
use Rattle.std.specs.Prelude.{Option, unwrap_or}
use Rattle.laws.proofs.Below.{found_or}
use Rattle.cache.specs.Cache.{cache_of, is_at}
use Rattle.cache.specs.declared.Sought.TheVariants.{Empty}
use Rattle.codec.specs.declared.Command.TheVariants.{Klod}
use Rattle.mailbox.proofs.effects.load_effect.Goals as goal

pub returns : goal.returns
returns c =
    let place = c.unwrap_or-place.ensures ∙ ap (λ (o : Option ℕ). unwrap_or o 16) c.lowest_place.ensures ∙ found_or (is_at (cache_of c.args.context.now) Empty) 16 in
    c.effect_with.ensures
    ∙ rw (c.one_number.ensures, place, c.tag_of.ensures Klod refl, c.timeout_of.ensures Klod refl)
