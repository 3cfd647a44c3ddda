-- Document 01, "Active slot and key cache": "From an empty cache, therefore, with map and marks fixed and fuses and cache changed only by
-- these commands, cuts and restarts, places are held only while the HEK is available"; with request P5, of every place that is not empty,
-- and of the engine's replies too. Assumes nothing.
-- The theorems stand in proofs/HeldKeys.antt.
use Rattle.std.specs.Prelude.{ℕ, ◌≡◌, List}
use Rattle.std.proofs.Math.Bool.{true}
use Rattle.context.specs.State.{State}
use Rattle.drive.specs.Drive.{active_slot, available}
use Rattle.history.specs.Calls.{occupied}

-- ---- the claim

-- "places are held only while the HEK is available": waiting and unsure ones too
abbrev pub Safe : (image : List ℕ) → State → Type 0
Safe image s = occupied s ≡ true → available (active_slot image s.cells) ≡ true
