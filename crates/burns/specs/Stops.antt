-- Whether a run goes on after its first burn, the indicator's: what that hangs on, and what a run that stops leaves. Assumes nothing.
-- The theorems stand in proofs/Stops.antt.
use Prim.Native.Nat.{ℕ, ◌+◌, ◌-◌, ◌≤◌, ◌<◌}
use Rattle.std.specs.Prelude.{Bool, ◌≡◌, length, get_or}
use mathlib.Core.List.{List, [], ◌∷◌, ◌++◌}
use Rattle.fuse.specs.Fuse.{all_ones}
use Rattle.burns.specs.declared.Word.{Word}
use Rattle.burns.specs.Run.{pair_from, data_words, Tally, start, carry}
use Rattle.burns.specs.Cells.{full}

-- ---- a run by its first burn, the indicator's

-- the tally after it, on n cells that read c, and the words that follow it
abbrev pub first : (marks : List ℕ) (n : ℕ) (c : List ℕ) → Tally
first marks n c = carry marks (pair_from (n - 2)) all_ones (start c)

abbrev pub rest : (software : Bool) (n : ℕ) → List Word
rest software n = data_words software n ++ (pair_from (n - 4) ∷ [])

-- ---- request P4, "15 is given exactly when no indicator fuse is set after its burn"

-- each cell of a partition's indicator, the last two, is 0 with every fuse set that is not stuck
abbrev pub NoneSetIn : (marks s : List ℕ) → Type 0
NoneSetIn marks s = (j : ℕ) → length s ≤ j + 2 → j < length s → full (get_or marks j 0) (get_or s j 0) ≡ 0
