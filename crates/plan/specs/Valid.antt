-- "some valid map has those fields": where one has, whatever its E, the image with E = 8 is one. Assumes nothing.
-- The theorems stand in proofs/Valid.antt.
use Rattle.std.specs.Prelude.{ℕ, ◌<◌, ◌≡◌, true, length}
use mathlib.Core.List.{List}
use Rattle.endian.specs.Endian.{byte_at}
use Rattle.map.specs.Map.{header_of, entry_of, map_good}
use Rattle.plan.specs.Form.{Plan, entry_in}

-- "reading that image gives the same fields": C, B, as many partitions as the text has lines for them, and each one's four fields, read
-- by the map's own definitions
pub record Reads (image : List ℕ) (p : Plan) : Type 0 where
  pub partitions : (header_of image).partitions ≡ length p.entries
  pub cells : (header_of image).cells ≡ p.cells
  pub bound : (header_of image).bound ≡ p.bound
  pub entry : (i : ℕ) → i < length p.entries → entry_of image i ≡ entry_in p i

-- a valid map that has those fields: bytes that break no rule, with any E
pub record Valid (image : List ℕ) (p : Plan) : Type 0 where
  pub bytes : (k : ℕ) → byte_at image k < 256
  pub good : map_good image ≡ true
  pub reads : Reads image p
