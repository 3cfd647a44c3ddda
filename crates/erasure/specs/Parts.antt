-- A partition's part of the array, put back after a run: inside it stands what the run left, outside nothing has changed. Assumes
-- nothing.
-- The theorems stand in proofs/Parts.antt.
use Rattle.std.specs.Prelude.{ℕ, ◌≤◌, ◌<◌, ◌⊎◌, List}
use Rattle.map.specs.Map.{entry_of, end_of}

-- a cell of the array outside partition i
abbrev pub Outside : (image : List ℕ) (i j : ℕ) → Type 0
Outside image i j = (j < (entry_of image i).first) ⊎ (end_of (entry_of image i) ≤ j)

-- what a run leaves of a partition that ends before this one or starts past it
abbrev pub Apart : (image : List ℕ) (i j : ℕ) → Type 0
Apart image i j = (end_of (entry_of image i) ≤ (entry_of image j).first) ⊎ (end_of (entry_of image j) ≤ (entry_of image i).first)
