-- The map's laws: first what the proofs of the check cite, then what a good map gives its callers, as records of facts on numbers.
-- Assumes nothing.
-- The theorems stand in proofs/Laws.antt.
use Rattle.std.specs.Prelude.{ℕ, ◌+◌, ◌*◌, ◌%◌, ◌≤◌, ◌≡◌, true, false}
use Rattle.map.specs.declared.Header.{Header}
use Rattle.map.specs.declared.Entry.{Entry}
use Rattle.map.specs.Map.{end_of, hardware, life_cycle, zeroizable, secret, slot, older_guide}

-- ---- what a good map gives its callers

pub record HeaderRules (h : Header) (len : ℕ) : Type 0 where
  pub partitions_least : 1 ≤ h.partitions
  pub partitions_most : h.partitions ≤ 16
  pub cells_least : 4 ≤ h.cells
  pub cells_most : h.cells ≤ 2048
  pub bound_least : 33 ≤ h.bound
  pub bound_most : h.bound ≤ 64
  pub offset_least : 8 ≤ h.offset
  pub offset_most : h.offset ≤ 128
  pub long : len ≡ h.offset + 8 * h.partitions

pub record EntryRules (before cells : ℕ) (x : Entry) : Type 0 where
  pub kind_known : x.kind ≤ 2
  pub flags_known : x.flags ≤ 15
  pub first_even : x.first % 2 ≡ 0
  pub n_even : x.n % 2 ≡ 0
  pub n_least : 4 ≤ x.n
  pub n_zeroizable : zeroizable x ≡ true → 6 ≤ x.n
  pub after : before ≤ x.first
  pub within : end_of x ≤ cells
  pub life_cycle_lem : life_cycle x ≡ true → zeroizable x ≡ false
  pub secret_hardware : secret x ≡ true → hardware x ≡ true
  pub slot_zeroizable : slot x ≡ true → zeroizable x ≡ true
  pub slot_secret : slot x ≡ true → secret x ≡ true
  pub older_zeroizable : older_guide x ≡ true → zeroizable x ≡ true
