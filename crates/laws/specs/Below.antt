-- What is said of the numbers below n: that a test f holds at all of them, at how many it holds, which is the lowest; and the lists
-- that f gives for them, one after the other. Every loop here is one of these four, and cites its laws. Assumes nothing.
-- The theorems stand in proofs/Below.antt.
use Rattle.std.specs.Prelude.{ℕ, zero, suc, ◌+◌, ◌≤◌, ◌<◌, ◌≡◌, List, [], ◌++◌, Bool, true, false, cond, ◌&&◌, ltb, Option, Some, None}

-- f holds at each number below n
unfoldable pub all_below : (ℕ → Bool) → ℕ → Bool
all_below f zero = true
all_below f (suc n) = all_below f n && f n

-- 1 where a test passes
abbrev pub tally : Bool → ℕ
tally true = 1
tally false = 0

-- at how many numbers below n f holds
unfoldable pub count_below : (ℕ → Bool) → ℕ → ℕ
count_below f zero = 0
count_below f (suc n) = count_below f n + tally (f n)

-- the lowest of the m numbers from i on at which f holds, i + m where there is none
unfoldable pub first_from : (ℕ → Bool) → ℕ → ℕ → ℕ
first_from f i zero = i
first_from f i (suc m) = cond (f i) i (first_from f (suc i) m)

-- the lowest number below n at which f holds, n where there is none
abbrev pub first_below : (ℕ → Bool) → ℕ → ℕ
first_below f n = first_from f 0 n

-- a search's answer as code gives it: k where it is below n, none where nothing was found below n
abbrev pub found : (n k : ℕ) → Option ℕ
found n k = cond (ltb k n) (Some k) None

-- the lists f 0 to f (n - 1), one after the other
unfoldable pub join_below : (ℕ → List ℕ) → ℕ → List ℕ
join_below f zero = []
join_below f (suc n) = join_below f n ++ f n

-- ---- the lowest: a loop that has passed the numbers below i searches the p - i that are left

-- what the answer tells: none before it passes, and it passes itself unless it is the end
pub record First (f : ℕ → Bool) (i m r : ℕ) : Type 0 where
  pub from : i ≤ r
  pub most : r ≤ i + m
  pub before : (k : ℕ) → i ≤ k → k < r → f k ≡ false
  pub at : r < i + m → f r ≡ true
