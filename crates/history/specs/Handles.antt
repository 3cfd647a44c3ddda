-- Request P6: "prove that from it, while only our calls change the table, no number is given twice", over every list of calls of every entry
-- point, replies, cuts and restarts. Here is which numbers are given and the claim; the theorem is in `HandlesProof`. Assumes nothing.
use Rattle.std.specs.Prelude.{ℕ, ◌<◌, ◌≡◌, true, cond, List, [], ◌∷◌, ◌++◌, eqb, Result, Ok, Err}
use Rattle.refusal.specs.declared.Refusal.{Refusal}
use Rattle.context.specs.State.{State}
use Rattle.handles.specs.Handles.{table_of, handle_at, handles_in}
use Rattle.handles.specs.Making.{is_among, distinct, Fresh}
use Rattle.codec.specs.declared.Command.TheVariants.{Rhpk}
use Rattle.codec.specs.Fields.{code_of, HpkeHandle, response_fields, number_at, no_numbers}
use Rattle.mailbox.specs.declared.Reply.{Reply}
use Rattle.history.specs.Calls.{Call, Direct, Erase, EraseCut, Mailbox, TakeReply, MakeTable, Restart, Told, Answering, Erasing, Replying, Taking, Making, Silent}
use Rattle.history.specs.Calls.{told, after, after_all}

-- what a host reads of a response of RHPK: "the new handle"
abbrev pub number_told : (response : List ℕ) → ℕ
number_told response = number_at (response_fields Rhpk no_numbers) HpkeHandle response

-- the number that a call gives, in a list: an accepted RHPK gives the one that its response tells, no other call gives any
abbrev pub given_in : Result Reply Refusal → (response : List ℕ) → List ℕ
given_in (Err r) response = []
given_in (Ok reply) response = number_told response ∷ []

abbrev pub given_told : Told → List ℕ
given_told (Answering answer) = []
given_told (Erasing answer) = []
given_told (Replying reply response) = given_in reply response
given_told (Taking answer) = []
given_told (Making answer) = []
given_told Silent = []

abbrev pub given_by : Call → Told → List ℕ
given_by (Direct command) t = []
given_by (Erase i) t = []
given_by (EraseCut i k mask) t = []
given_by (Mailbox code request response block) t = cond (eqb code (code_of Rhpk)) (given_told t) []
given_by (TakeReply reply) t = []
given_by (MakeTable handles algorithms) t = []
given_by Restart t = []

-- these numbers, and all that a list of calls gives, the last first
abbrev pub given_all : (image marks : List ℕ) → List Call → State → (numbers : List ℕ) → List ℕ
given_all image marks [] s numbers = numbers
given_all image marks (call ∷ calls) s numbers = given_all image marks calls (after image marks call s) (given_by call (told image marks call s) ++ numbers)

-- the claim: no number stands twice among the handles at the start and those given since, and every handle of the table is one of them
pub record NoneTwice (numbers : List ℕ) (now : State) : Type 0 where
  pub none_twice : distinct numbers ≡ true
  pub all_given : (k : ℕ) → k < (table_of now.context).count → is_among (handle_at (table_of now.context) k) numbers ≡ true

-- from every state with a fresh table, over every list of calls
abbrev pub NumbersOnce : Type 0
NumbersOnce =
    (image marks : List ℕ) (start : State) → Fresh start.context → (calls : List Call)
    → NoneTwice (given_all image marks calls start (handles_in (table_of start.context))) (after_all image marks calls start)
