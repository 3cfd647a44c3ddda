-- The longest text that can fit: a buffer for 16 partitions is too short for any text of more than 396 bytes (12 for the first line, 24
-- for each of 16), whatever it holds. So a program with such a buffer may stop reading once it has one byte more. Assumes nothing.
use Rattle.std.specs.Prelude.{ℕ, ◌+◌, ◌*◌, ◌≤◌, ◌<◌, ◌≡◌, List, length, take, Err}
use Rattle.std.proofs.Common.{sym, ◌∙◌, arith, length-take-le}
use Rattle.context.specs.State.{refusing}
use Rattle.plan.specs.Reading.{plan_of}
use Rattle.plan.specs.Writing.{image_of, in_front, writing_of}
use Rattle.plan.proofs.Longest.{too_long}

-- so what lies past the longest text decides nothing more
pub past_any_text : (before t : List ℕ) (k : ℕ) → length before < 8 + 8 * 17 → 396 < k → k ≤ length t
    → writing_of (take k t) before ≡ writing_of t before
unfolding writing_of
past_any_text before t k m l h =
    let long : length (take k t) ≡ k = length-take-le k t h in
    too_long (take k t) (length before) m (omega arith) (refusing Err before) (in_front (image_of (plan_of (take k t))) before)
    ∙ sym (too_long t (length before) m (omega arith) (refusing Err before) (in_front (image_of (plan_of t)) before))
