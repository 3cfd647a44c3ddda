-- Document 01, "Active slot and key cache": the engine block, at the offsets of 003. Assumes nothing.
use Rattle.std.specs.Prelude.{ℕ, ◌-◌, ◌/◌, ◌%◌, ◌^◌, List, ◌++◌, length, replicate}
use Rattle.endian.specs.Endian.{bytes4}

-- n zero bytes
abbrev pub zeros : (n : ℕ) → List ℕ
zeros n = replicate n 0

-- "MEK 00h to 3Fh": a key, and zeros where it has fewer bytes
abbrev pub mek_bytes : (mek : List ℕ) → List ℕ
mek_bytes mek = mek ++ zeros (64 - length mek)

-- "METD 40h to 5Fh": "METD = tag in 8 bytes then zeros"
abbrev pub metd_bytes : (tag : ℕ) → List ℕ
metd_bytes tag = bytes4 (tag % 2 ^ 32) ++ bytes4 (tag / 2 ^ 32) ++ zeros 24

-- "AUX 60h to 7Fh": "AUX zero"
abbrev pub aux_bytes : List ℕ
aux_bytes = zeros 32

-- "The engine block is 128 bytes"
abbrev pub engine_block : (mek : List ℕ) (tag : ℕ) → List ℕ
engine_block mek tag = mek_bytes mek ++ metd_bytes tag ++ aux_bytes
