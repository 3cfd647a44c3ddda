-- Request P6, the theorem of `Handles`: what each call makes of the table, and what every list of calls keeps. Assumes nothing.
-- The theorems stand in proofs/HandlesProof.antt.
use Rattle.std.specs.Prelude.{ℕ, ◌≡◌, false, List, [], ◌∷◌, drop}
use Rattle.context.specs.Context.{count_at}
use Rattle.handles.specs.Handles.{table_of, lowest_with, used_up, next_number, rotated_at}
use Rattle.handles.specs.Laws.{Lowest}

-- ---- what a call makes of the table: it leaves it and gives no number, or it is a rotation, or a table is made where there was none

pub data Step (before after : List ℕ) (given : List ℕ) : Type 0 where
  keeps : drop count_at after ≡ drop count_at before → given ≡ [] → Step before after given
  rotates : (handle : ℕ) → Lowest (table_of before) handle (lowest_with (table_of before) handle) → used_up (table_of before) ≡ false
      → after ≡ rotated_at (lowest_with (table_of before) handle) (next_number (table_of before)) before → given ≡ next_number (table_of before) ∷ []
      → Step before after given
  makes : (table_of before).count ≡ 0 → Step before after given
