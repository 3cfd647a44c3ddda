-- What `make_map` prints, by what `plan::write_map` answers and leaves in its part of the buffer. Assumes nothing.
-- The theorems stand in proofs/Maps.antt.
use Rattle.std.specs.Prelude.{ℕ, ◌≤◌, List, length, take, Result, Err}
use Rattle.refusal.specs.declared.Refusal.{Refusal}
use Rattle.refusal.specs.Numbers.{number}
use Rattle.context.specs.State.{Outcome, refusing}
use Rattle.plan.specs.Writing.{in_front}
use Rattle.report.specs.Status.{refused_line}
use Rattle.report.specs.Report.{Saying, on_output, on_errors}

-- an outcome of `write_map`, and what is printed for it
pub data Says (before : List ℕ) : Outcome (Result ℕ Refusal) (List ℕ) → Saying → Type 0 where
  refused : (refusal : Refusal) → number refusal ≤ 16
      → Says before (refusing Err before refusal) (on_errors (refused_line (number refusal)))
  written : (image : List ℕ) → length image ≤ length before → Says before (in_front image before) (on_output image)

-- the part of the buffer that is lent to `write_map`
abbrev pub part : (out : List ℕ) → List ℕ
part out = take 136 out
