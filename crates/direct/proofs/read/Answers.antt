-- `direct::read` meets its contract: a word of a secret partition is refused, any other shown. Assumes nothing.
use mathlib.Core.Path.{refl, sym, ◌∙◌}
use Rattle.std.proofs.lemmas.Result.{err_from_is_err_and}
use Rattle.direct.specs.Direct.{clears, changes_slot, cells_after, new_after}
use Rattle.direct.proofs.Laws.{run_drive, run_nothing, read_forbidden, named, word_at_lem, word_carried}
use Rattle.direct.proofs.read.Goals as goal

pub returns-in_err-check_drive : goal.returns-in_err-check_drive
returns-in_err-check_drive c =
    let told = err_from_is_err_and c.from_residual.result c.from_residual.ensures.1 in
    λ context. rw (told.1, told.2) (run_drive _ _ _ _ _ c.in_err-check_drive.ensures)

pub returns-in_default : goal.returns-in_default
returns-in_default c = λ context. run_nothing _ _ _ _ c.in_ok-check_drive.ensures c.in_default.ensures

pub returns-then-is_secret : goal.returns-then-is_secret
returns-then-is_secret c =
    let secret = sym (read_forbidden _ _ c.read_entry.ensures _ _ _ _ c.is_secret.ensures) ∙ c.if-is_secret.true in
    λ context. word_at_lem _ _ _ _ c.in_ok-check_drive.ensures c.in-Some.ensures 0 tt secret

pub word_of-requires : goal.word_of-requires
word_of-requires c = (named _ _ _ _ c.in_ok-check_drive.ensures c.in-Some.ensures).within

pub returns : goal.returns
unfolding clears changes_slot cells_after new_after
returns c =
    let may = sym (read_forbidden _ _ c.read_entry.ensures _ _ _ _ c.is_secret.ensures) ∙ c.if-is_secret.false in
    λ context. word_carried _ _ _ _ c.in_ok-check_drive.ensures c.in-Some.ensures (may, (refl, (refl, tt))) refl refl refl c.read_entry.ensures c.word_of.ensures refl
