-- `direct::zeroize` meets its contract: 8 and 10 by its tests; else its word is burned. Assumes nothing.
use mathlib.Core.Path.{refl, sym, ◌∙◌}
use Rattle.direct.specs.Direct.{clears, changes_slot, cells_after, new_after}
use Rattle.direct.proofs.Laws.{zeroize_forbidden, run_drive, run_nothing, named, word_at_lem, word_carried, check_header}
use Rattle.std.proofs.Common.{rules}
use Rattle.std.proofs.lemmas.Result.{err_from_is_err_and}
use Rattle.direct.proofs.zeroize.Goals as goal

pub returns-then-not-is_zeroizable : goal.returns-then-not-is_zeroizable
returns-then-not-is_zeroizable c = word_at_lem _ _ _ _ c.in_ok-header.ensures c.in-Some.ensures 0 tt (sym (zeroize_forbidden _ _ c.read_entry-x.ensures _ _ _ _ c.is_zeroizable.ensures) ∙ c.if-not-is_zeroizable.true-raw)

pub returns-then-is_slot_in_use : goal.returns-then-is_slot_in_use
unfolding clears changes_slot
returns-then-is_slot_in_use c =
    let may = sym (zeroize_forbidden _ _ c.read_entry-x.ensures _ _ _ _ c.is_zeroizable.ensures) ∙ c.if-not-is_zeroizable.false-raw in
    word_at_lem _ _ _ _ c.in_ok-header.ensures c.in-Some.ensures 2 (may, (refl, tt)) (sym c.is_slot_in_use.ensures ∙ c.if-is_slot_in_use.true)

pub burn_word-new-requires : goal.burn_word-new-requires
burn_word-new-requires c =
    let n = named _ _ _ _ c.in_ok-header.ensures c.in-Some.ensures in
    (n.within, rw n.marks_long n.within)

pub word_of-stands-requires : goal.word_of-stands-requires
word_of-stands-requires c = search (rules, (named _ _ _ _ c.in_ok-header.ensures c.in-Some.ensures).within)

pub returns-in_err-header : goal.returns-in_err-header
returns-in_err-header c =
    let told = err_from_is_err_and c.from_residual.result c.from_residual.ensures.1 in
    rw (told.1, told.2) (run_drive _ _ _ _ _ c.in_err-header.ensures)

pub returns-in_default : goal.returns-in_default
returns-in_default c = run_nothing _ _ _ _ c.in_ok-header.ensures c.in_default.ensures

pub returns : goal.returns
unfolding clears changes_slot cells_after new_after
returns c =
    let may = sym (zeroize_forbidden _ _ c.read_entry-x.ensures _ _ _ _ c.is_zeroizable.ensures) ∙ c.if-not-is_zeroizable.false-raw in
    let free = sym c.is_slot_in_use.ensures ∙ c.if-is_slot_in_use.false in
    word_carried _ _ _ _ c.in_ok-header.ensures c.in-Some.ensures (may, (refl, (free, tt))) c.burn_word-new.ensures.0 c.burn_word-new.ensures.1 (check_header _ _ _ _ c.in_ok-header.ensures)
    c.read_entry-x.ensures c.word_of-stands.ensures c.zeroized.ensures
