-- What calls change, and what a call answers and leaves: the definition of an entry point that is lent something to change answers in
-- these two records. Assumes nothing.
use Rattle.std.specs.Prelude.{ℕ, List}

-- ---- the state: all that one call hands on to the next

pub record State : Type 0 where
  -- the fuses
  pub cells : List ℕ
  -- what the block keeps
  pub context : List ℕ

abbrev pub state : (cells context : List ℕ) → State
state cells context = record { cells = cells; context = context }

-- the state with other cells, and with another context
abbrev pub with_cells : (cells : List ℕ) → State → State
with_cells cells s = record { cells = cells; context = s.context }

abbrev pub with_context : (context : List ℕ) → State → State
with_context context s = record { cells = s.cells; context = context }

-- ---- the outcome: what a call tells its caller, and all that it was lent to change, afterwards

pub record Outcome (A L : Type 0) : Type 0 where
  pub told : A
  pub after : L

abbrev pub outcome : {A L : Type 0} → A → L → Outcome A L
outcome told after = record { told = told; after = after }

-- a refusal before anything is done: it is told, and all stays as it was
abbrev pub refusing : {R A L : Type 0} → (refuse : R → A) → L → (refusal : R) → Outcome A L
refusing refuse lent refusal = outcome (refuse refusal) lent

-- the same outcome, told in other words
abbrev pub telling : {A B L : Type 0} → (A → B) → Outcome A L → Outcome B L
telling words o = outcome (words o.told) o.after

-- what was done with the cells alone, as what was done with the state
abbrev pub on_cells : {A : Type 0} → State → Outcome A (List ℕ) → Outcome A State
on_cells s o = outcome o.told (with_cells o.after s)

-- and what was done with the context alone
abbrev pub on_context : {A : Type 0} → State → Outcome A (List ℕ) → Outcome A State
on_context s o = outcome o.told (with_context o.after s)
