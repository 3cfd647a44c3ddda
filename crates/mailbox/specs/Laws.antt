-- The mailbox's laws: what a call does by where its judging ends, what an accepted one tells, and what it leaves. Assumes nothing.
-- The theorems stand in proofs/Laws.antt.
use Rattle.std.specs.Prelude.{ℕ, ◌≤◌, ◌≡◌, Bool, true, List}
use Rattle.std.proofs.Math.ListN.{length}
use Rattle.refusal.specs.Refusals.{lacks, ascend_from}
use Rattle.refusal.specs.declared.Refusal.{Refusal}
use Rattle.engine.specs.declared.Order.{Order}
use Rattle.codec.specs.Fields.{request_fields, length_of, command_of, least_room}
use Rattle.mailbox.specs.Mailbox.{Fits}

-- ---- what an accepted call tells

-- the numbers of a call's tests never fall, none is 0, and none is 15
pub record Numbered (tests : List (Bool × Refusal)) : Type 0 where
  pub ascend : ascend_from 1 tests ≡ true
  pub not_0 : lacks 0 tests ≡ true
  pub not_15 : lacks 15 tests ≡ true

-- the request has its command's length, and the buffers are long enough
pub record Carried (code : ℕ) (order : Order) (request response block : List ℕ) : Type 0 where
  pub asked : length request ≡ length_of (request_fields (command_of code))
  pub fits : Fits order request block
  pub room : least_room ≤ length response
