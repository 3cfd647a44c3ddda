-- Document 01, "The map of the fuses": the bytes of an image, written from its fields. Assumes nothing.
use Rattle.std.specs.Prelude.{ℕ, List, [], ◌∷◌, ◌++◌}
use Rattle.endian.specs.Endian.{bytes2}

-- "Entry, 8 bytes: u16 first cell, u16 cells n, u8 kind .., u8 flags .., two zero bytes"
abbrev pub entry : (first n kind flags : ℕ) → List ℕ
entry first n kind flags = bytes2 first ++ bytes2 n ++ (kind ∷ flags ∷ 0 ∷ 0 ∷ [])

-- "Header, four u16: partition count P .., cell count C .., bound B .., offset E of the entries", the bytes up to E, and the entries
abbrev pub image : (p c b e : ℕ) (filler entries : List ℕ) → List ℕ
image p c b e filler entries = bytes2 p ++ bytes2 c ++ bytes2 b ++ bytes2 e ++ filler ++ entries
