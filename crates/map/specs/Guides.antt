-- Request P7, of maps: what two images have in common that differ in flag 8 alone, and that the flag is refused "exactly on a partition
-- that is not zeroizable" (`eight_exactly`). Assumes nothing.
-- The theorems stand in proofs/Guides.antt.
use Rattle.std.specs.Prelude.{ℕ, ◌+◌, ◌*◌, ◌/◌, ◌%◌, ◌<◌, ◌≡◌, false, List, length}
use Rattle.std.proofs.Math.Bool.{true}
use Rattle.endian.specs.Endian.{byte_at}
use Rattle.map.specs.declared.Entry.{Entry}
use Rattle.map.specs.Map.{header_of, entry_place, entry_of, zeroizable, older_guide}

-- flags with flag 8 left out
abbrev pub without8 : (flags : ℕ) → ℕ
without8 flags = flags % 8 + 16 * (flags / 16)

-- where the flags of entry i stand
abbrev pub flags_place : (image : List ℕ) (i : ℕ) → ℕ
flags_place image i = entry_place image i + 5

-- two images that differ in flag 8 alone, in as many partitions as one likes: they are as long, each byte that is not the flags of an
-- entry is the same, and so are the flags but for flag 8
pub record Differ8 (image other : List ℕ) : Type 0 where
  pub as_long : length other ≡ length image
  pub others : (k : ℕ) → ((i : ℕ) → i < (header_of image).partitions → k ≡ flags_place image i → ⊥) → byte_at other k ≡ byte_at image k
  pub flags : (i : ℕ) → i < (header_of image).partitions → without8 (byte_at other (flags_place image i)) ≡ without8 (byte_at image (flags_place image i))

-- two entries that differ in flag 8 alone
pub record SameBut8 (x y : Entry) : Type 0 where
  pub first : y.first ≡ x.first
  pub n : y.n ≡ x.n
  pub kind : y.kind ≡ x.kind
  pub flags : without8 y.flags ≡ without8 x.flags

-- ---- flag 8 is refused exactly on a partition that is not zeroizable

-- a partition with flag 8 that is not zeroizable
pub record Misplaced8 (image : List ℕ) : Type 0 where
  pub partition : ℕ
  pub within : partition < (header_of image).partitions
  pub older : older_guide (entry_of image partition) ≡ true
  pub not_zeroizable : zeroizable (entry_of image partition) ≡ false
