-- What document 01 says of erasures and cuts, from their definition: the lowest refusal is given, a cut that comes too late is none, and
-- each answer tells the burns that the order reaches. Assumes nothing.
-- The theorems stand in proofs/Cuts.antt.
use Rattle.std.specs.Prelude.{ℕ, ◌+◌, ◌≡◌, cond, List, length, eqb, Ok, Err}
use Rattle.refusal.specs.Numbers.{number}
use Rattle.erasure.specs.Erasure.{Told}
use Rattle.map.specs.Map.{entry_of, software}
use Rattle.burns.specs.Run.{order}
use Rattle.erasure.specs.declared.Answer.{Answer}
use Rattle.erasure.specs.declared.Answer.TheVariants.{Ended, Cut}

-- ---- the order of a partition is shorter than any cut that an erasure names which is not cut

-- the burns that an answer tells
abbrev pub burns_in : Told → ℕ
burns_in (Ok (Ended short first burns new)) = burns
burns_in (Ok (Cut burns new)) = burns
burns_in (Err refused) = refused.burns

-- "the number of burns carried out, equal to the number that this order reaches"; "the burns carried out, k + 1"; "one burn is reported"
-- for 15, and none for any other refusal
abbrev pub BurnsTold : (image : List ℕ) (i k : ℕ) → Told → Type 0
BurnsTold image i k (Ok (Ended short first burns new)) = burns ≡ length (order (software (entry_of image i)) (entry_of image i).n)
BurnsTold image i k (Ok (Cut burns new)) = burns ≡ k + 1
BurnsTold image i k (Err refused) = refused.burns ≡ cond (eqb (number refused.refusal) 15) 1 0
