-- `direct::write` meets its contract: 8, 9 and 10 by its tests; else its word is burned. Assumes nothing.
use mathlib.Core.Path.{◌≡◌, refl, sym, ◌∙◌}
use mathlib.Core.Bool.{false, not}
use denote.Enum.Bare.{sameb}
use Rattle.word.specs.contracts.Role.{the_type}
use Rattle.word.specs.declared.Role.{Role}
use Rattle.word.specs.declared.Role.TheVariants.{Data, Digest, Indicator}
use Rattle.direct.specs.declared.Command.TheVariants.{Write}
use Rattle.direct.specs.Direct.{is_data, forbidden, clears, changes_slot, cells_after, new_after}
use Rattle.direct.proofs.Laws.{write_forbidden, write_clears, write_keeps, run_drive, run_nothing, named, word_at_lem, word_carried}
use Rattle.std.proofs.Common.{rules}
use Rattle.std.proofs.lemmas.Result.{err_from_is_err_and}
use Rattle.direct.proofs.write.Goals as goal
use Rattle.direct.proofs.write.Goals.{Else-ne-x, Else-word_of-value}

-- the code's test of the role is the definition's
data_by : (role : Role) → not (sameb the_type role Data) ≡ not (is_data role)
data_by Data = refl
data_by Digest = refl
data_by Indicator = refl

may : (c : Else-ne-x)
    → let a = c.args in
    forbidden (Write a.cell a.value) a.image.now a.cells.now c.in-Some.word.partition c.in-Some.word.role c.in-Some.word.wide ≡ false
may c =
    sym (write_forbidden _ _ c.read_entry-x.ensures _ _ _ _ _ (c.ne.ensures ∙ data_by c.in-Some.word.role)
    c.is_marked-is_marked.ensures) ∙ c.if-ne-x.false

keeps : (c : Else-word_of-value)
    → let a = c.args in
    clears (Write a.cell a.value) a.cells.now c.in-Some.word.wide ≡ false
keeps c = write_keeps _ _ _ _ c.word_of.ensures c.if-word_of-value.false

pub invariant_of-is_marked : goal.invariant_of-is_marked
invariant_of-is_marked c = record { whole = (named _ _ _ _ c.in_ok-check_drive.ensures c.in-Some.ensures).whole }

pub is_marked-is_marked-requires : goal.is_marked-is_marked-requires
is_marked-is_marked-requires c = (named _ _ _ _ c.in_ok-check_drive.ensures c.in-Some.ensures).partition

pub returns-then-ne-x : goal.returns-then-ne-x
returns-then-ne-x c =
    let forbidden = sym (write_forbidden _ _ c.read_entry-x.ensures _ _ _ _ _ (c.ne.ensures ∙ data_by c.in-Some.word.role)
    c.is_marked-is_marked.ensures) ∙ c.if-ne-x.true in
    word_at_lem _ _ _ _ c.in_ok-check_drive.ensures c.in-Some.ensures 0 tt forbidden

pub word_of-requires : goal.word_of-requires
word_of-requires c = (named _ _ _ _ c.in_ok-check_drive.ensures c.in-Some.ensures).within

pub returns-then-word_of-value : goal.returns-then-word_of-value
returns-then-word_of-value c = word_at_lem _ _ _ _ c.in_ok-check_drive.ensures c.in-Some.ensures 1 (may (goal.at.returns-then-word_of-value c).Else-ne-x, tt) (write_clears _ _ _ _ c.word_of.ensures c.if-word_of-value.true)

pub returns-then-in_use : goal.returns-then-in_use
unfolding changes_slot
returns-then-in_use c =
    let held = sym c.is_slot_in_use-in_use.ensures ∙ c.if-in_use.true in
    word_at_lem _ _ _ _ c.in_ok-check_drive.ensures c.in-Some.ensures 2 (may (goal.at.returns-then-in_use c).Else-ne-x, (keeps (goal.at.returns-then-in_use c).Else-word_of-value, tt)) held

pub burn_word-new-requires : goal.burn_word-new-requires
burn_word-new-requires c =
    let n = named _ _ _ _ c.in_ok-check_drive.ensures c.in-Some.ensures in
    (n.within, rw n.marks_long n.within)

pub written-requires : goal.written-requires
written-requires c = search (rules, (named _ _ _ _ c.in_ok-check_drive.ensures c.in-Some.ensures).within)

pub returns-in_err-check_drive : goal.returns-in_err-check_drive
returns-in_err-check_drive c =
    let told = err_from_is_err_and c.from_residual.result c.from_residual.ensures.1 in
    rw (told.1, told.2) (run_drive _ _ _ _ _ c.in_err-check_drive.ensures)

pub returns-in_default : goal.returns-in_default
returns-in_default c = run_nothing _ _ _ _ c.in_ok-check_drive.ensures c.in_default.ensures

pub returns : goal.returns
unfolding changes_slot cells_after new_after
returns c =
    let free = sym c.is_slot_in_use-in_use.ensures ∙ c.if-in_use.false in
    word_carried _ _ _ _ c.in_ok-check_drive.ensures c.in-Some.ensures (may (goal.at.returns c).Else-ne-x, (keeps (goal.at.returns c).Else-word_of-value, (free, tt))) c.burn_word-new.ensures.0 c.burn_word-new.ensures.1 refl
    c.read_entry-x.ensures refl c.written.ensures
