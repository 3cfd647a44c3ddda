-- The laws of direct commands: what their tests are at the entry that was read, and the number that they give. Assumes nothing.
-- The theorems stand in proofs/Laws.antt.
use Rattle.std.specs.Prelude.{ℕ, ◌+◌, ◌≤◌, ◌<◌, ◌≡◌, Bool, length}
use mathlib.Core.List.{List}
use Rattle.map.specs.Map.{header_of}
use Rattle.fuse.specs.Fuse.{cells_in}
use Rattle.drive.specs.Drive.{Whole}

-- what is known of a word that was found: a drive that was judged, and a word that lies in it
pub record Named (image cells marks : List ℕ) (cell i : ℕ) (wide : Bool) : Type 0 where
  pub whole : Whole image cells
  pub marks_long : length marks ≡ length cells
  pub partition : i < (header_of image).partitions
  pub within : cell + cells_in wide ≤ length cells
