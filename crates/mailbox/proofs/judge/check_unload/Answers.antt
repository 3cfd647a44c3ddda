-- `mailbox::judge::check_unload` meets its contract: at the tag that was read. Assumes nothing.
use Rattle.std.proofs.Common.{rules, refl}
use Rattle.codec.specs.declared.Command.TheVariants.{Kunl}
use Rattle.mailbox.proofs.judge.check_unload.Goals as goal

pub returns-then-not-has_place : goal.returns-then-not-has_place
returns-then-not-has_place c = let tag = c.tag_of.ensures Kunl refl in search (rules, tag)

pub returns : goal.returns
returns c = let tag = c.tag_of.ensures Kunl refl in search (rules, tag)
