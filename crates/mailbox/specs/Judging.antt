-- The laws of a command's own refusals: the number, by the place of the test that gives it, and all of them by their three parts. Assumes
-- nothing.
-- The theorems stand in proofs/Judging.antt.
use Rattle.std.specs.Prelude.{ℕ, ◌≡◌, refl, true, List}
use Rattle.refusal.specs.Refusals.{lacks}
use Rattle.context.specs.State.{State}
use Rattle.codec.specs.declared.Command.{Command}
use Rattle.codec.specs.declared.Command.TheVariants.{Clkc, Klod, Kunl, Fers, Fsta, Ehdl, Rhpk, Unknown}
use Rattle.mailbox.specs.Mailbox.{command_tests, own_tests}

-- none is 0, of the command's nor of all
pub not_0 : (command : Command) (image request : List ℕ) (s : State)
    → (lacks 0 (command_tests command image request s) ≡ true) × (lacks 0 (own_tests command image request s) ≡ true)
not_0 Clkc image request s = (refl, refl)
not_0 Klod image request s = (refl, refl)
not_0 Kunl image request s = (refl, refl)
not_0 Fers image request s = (refl, refl)
not_0 Fsta image request s = (refl, refl)
not_0 Ehdl image request s = (refl, refl)
not_0 Rhpk image request s = (refl, refl)
not_0 Unknown image request s = (refl, refl)
