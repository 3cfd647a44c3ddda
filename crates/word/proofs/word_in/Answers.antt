-- `word::word_in` meets its contract: the six cases of the definition. Assumes nothing.
use Prim.Native.Nat.{ℕ, ◌-◌, ◌%◌}
use mathlib.Core.Path.{ap, ◌∙◌, ◌≡◌}
use Rattle.std.specs.Prelude.{Bool, true, false, not, ◌&&◌, Option, None, eqb, cond}
use Rattle.std.proofs.Common.{arith, refl}
use borrow.Author.Tests.{lt-ltb, le-ltb, eq-eqb, ne_eqb, eqb-true, eqb-false}
use Rattle.map.specs.Map.{software}
use Rattle.partition.specs.Partition.{tail}
use Rattle.word.specs.declared.Role.TheVariants.{Data}
use Rattle.word.specs.declared.Word.{Word}
use Rattle.word.specs.Word.{some_word, word_in, word_by}
use Rattle.word.specs.Laws.{word_by_lem}
use Rattle.word.proofs.word_in.Goals as goal
use Rattle.word.proofs.word_in.Goals.{After-tail_cells-tail}

-- the definition at the numbers that the code compares
by : (c : After-tail_cells-tail)
    → let a = c.args in
    word_in a.x a.partition a.cell ≡ word_by (software a.x) c.tail_cells-tail.result (c.end_of.result - a.cell) a.partition a.cell
by c = word_by_lem _ _ _ _ _ c.end_of.ensures (c.tail_cells-tail.ensures.0 ∙ ap tail c.is_zeroizable.ensures)

-- a word of the data: one cell, or a pair that starts at an even cell
abbrev at_data : (software : Bool) (i cell : ℕ) → Option Word
at_data software i cell = cond software (some_word i Data false) (cond (eqb (cell % 2) 0) (some_word i Data true) None)

odd_none : (software : Bool) (i cell : ℕ) → (not software && eqb (cell % 2) 1) ≡ true → None ≡ at_data software i cell
odd_none true i cell h = cc
odd_none false i cell h = rw (ne_eqb (cell % 2) 0 (λ e. omega (arith, e, eqb-true _ _ h)))

even_some : (software : Bool) (i cell : ℕ) → (not software && eqb (cell % 2) 1) ≡ false → some_word i Data (not software) ≡ at_data software i cell
even_some true i cell h = refl
even_some false i cell h = let n = eqb-false _ _ h in rw (eq-eqb (cell % 2) 0 (omega arith))

pub returns-then-wide-cell : goal.returns-then-wide-cell
returns-then-wide-cell c =
    rw (by (goal.at.returns-then-wide-cell c).After-tail_cells-tail, lt-ltb _ _ c.if-tail-left.true, ← c.is_software-wide.ensures)
    (odd_none c.is_software-wide.result c.args.partition c.args.cell c.if-wide-cell.true)

pub returns-then-tail-left : goal.returns-then-tail-left
returns-then-tail-left c =
    rw (by (goal.at.returns-then-tail-left c).After-tail_cells-tail, lt-ltb _ _ c.if-tail-left.true, ← c.is_software-wide.ensures)
    (even_some c.is_software-wide.result c.args.partition c.args.cell c.if-wide-cell.false)

pub returns-else-left-eq2 : goal.returns-else-left-eq2
returns-else-left-eq2 c = rw (by (goal.at.returns-else-left-eq2 c).After-tail_cells-tail) (simp (le-ltb _ _ c.if-tail-left.false, ne_eqb _ _ c.if-left-tail.false, ne_eqb _ _ c.if-left-eq2.false))

pub returns-then-left-tail : goal.returns-then-left-tail
returns-then-left-tail c = rw (by (goal.at.returns-then-left-tail c).After-tail_cells-tail) (simp (le-ltb _ _ c.if-tail-left.false, eq-eqb _ _ c.if-left-tail.true))

pub returns-then-left-eq2 : goal.returns-then-left-eq2
returns-then-left-eq2 c = rw (by (goal.at.returns-then-left-eq2 c).After-tail_cells-tail) (simp (le-ltb _ _ c.if-tail-left.false, ne_eqb _ _ c.if-left-tail.false, eq-eqb _ _ c.if-left-eq2.true))
