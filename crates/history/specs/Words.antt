-- The words that an erasure burns are the words of the map: burn j of the order goes to a word that direct commands know by the same
-- first cell and width, the indicator first, then data, the digest last. Assumes nothing.
-- The theorems stand in proofs/Words.antt.
use Rattle.std.specs.Prelude.{ℕ, ◌+◌, cond, eqb}
use Rattle.word.specs.declared.Role.{Role}
use Rattle.word.specs.declared.Role.TheVariants.{Data, Digest, Indicator}

-- what the word of burn j holds, of so many burns
abbrev pub role_of : (burns j : ℕ) → Role
role_of burns j = cond (eqb j 0) Indicator (cond (eqb (j + 1) burns) Digest Data)
