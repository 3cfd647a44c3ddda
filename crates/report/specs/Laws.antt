-- The report's laws: the last line, which refusal is given, the cells as they are read, the table, and what an accepted input tells.
-- Assumes nothing.
-- The theorems stand in proofs/Laws.antt.
use Rattle.std.specs.Prelude.{ℕ, ◌+◌, ◌*◌, ◌≤◌, ◌≡◌, true, List, length}
use Rattle.map.specs.Map.{map_good}
use Rattle.report.specs.Status.{map_length, image_of, cell_count}

-- ---- what an accepted input tells

pub record Accepted (input : List ℕ) : Type 0 where
  pub two : 2 ≤ length input
  pub most : map_length input ≤ 256
  pub whole : 2 + map_length input ≤ length input
  pub good : map_good (image_of input) ≡ true
  pub long : length input ≡ 2 + map_length input + 8 * cell_count input
