-- Demand 3, whole: a single claim about every list of attempts on a partition and restarts. Here is what an attempt, a history and the
-- claim are; the theorem `demand_3` is in `Demand3Proof`. Assumes nothing.
use Rattle.std.specs.Prelude.{ℕ, ◌+◌, ◌≤◌, ◌<◌, ◌≡◌, ◌⊎◌, true, false, cond, List, [], ◌∷◌, map, length, get_or, Ok, Err}
use Rattle.std.specs.Int.Bits.{bit_or}
use Rattle.laws.specs.Bits.{◌⊆◌}
use Rattle.context.specs.State.{State, with_cells, with_context}
use Rattle.map.specs.Map.{header_of, entry_of, end_of, software, zeroizable, map_good}
use Rattle.fuse.specs.Fuse.{free}
use Rattle.burns.specs.Run.{order}
use Rattle.drive.specs.Drive.{whole_arrays, marked_at}
use Rattle.cache.specs.Cache.{cache_of, AtRest}
use Rattle.handles.specs.Handles.{table_of}
use Rattle.erasure.specs.declared.Answer.TheVariants.{Ended, Cut}
use Rattle.erasure.specs.Erasure.{Told as Erasure}
use Rattle.erasure.specs.Parts.{Outside}
use Rattle.codec.specs.declared.Command.TheVariants.{Fers}
use Rattle.codec.specs.Fields.{code_of, Field, Chksum, NewFuses, same, response_fields, no_numbers, bytes_at, joined}
use Rattle.mailbox.specs.Mailbox.{partition_in}
use Rattle.history.specs.Calls.{Call, Direct, Erase, EraseCut, Mailbox, TakeReply, MakeTable, Restart}
use Rattle.history.specs.Calls.{Told, Answering, Erasing, Replying, Taking, Making, Silent, told, refusal, after, after_all}

-- ---- attempts and histories

module _ (image marks : List ℕ) where
  -- "Attempts on a partition are its erasure, its cut erasure with any k and mask, FERS naming it, and FERS refused by a number up to 6"
  abbrev pub Attempt : (i : ℕ) → Call → State → Type 0
  Attempt i (Direct command) s = ⊥
  Attempt i (Erase j) s = j ≡ i
  Attempt i (EraseCut j k mask) s = j ≡ i
  Attempt i (Mailbox code request response block) s =
      let number : ℕ = refusal (told image marks (Mailbox code request response block) s) in
      (code ≡ code_of Fers) × ((partition_in request ≡ i) ⊎ ((1 ≤ number) × (number ≤ 6)))
  Attempt i (TakeReply reply) s = ⊥
  Attempt i (MakeTable handles algorithms) s = ⊥
  Attempt i Restart s = ⊥

  -- "A cut erasure that is refused, or whose order ends before burn k, is uncut"; and so is every call that names no cut
  abbrev pub Uncut : Call → State → Type 0
  Uncut (Direct command) s = Unit {0}
  Uncut (Erase j) s = Unit {0}
  Uncut (EraseCut j k mask) s =
      (1 ≤ refusal (told image marks (EraseCut j k mask) s)) ⊎ (length (order (software (entry_of image j)) (entry_of image j).n) ≤ k)
  Uncut (Mailbox code request response block) s = Unit {0}
  Uncut (TakeReply reply) s = Unit {0}
  Uncut (MakeTable handles algorithms) s = Unit {0}
  Uncut Restart s = Unit {0}

  -- "an accepted attempt runs uncut to its end"
  pub record Accepted (i : ℕ) (call : Call) (s : State) : Type 0 where
    pub attempt : Attempt i call s
    pub uncut : Uncut call s
    pub accepted : refusal (told image marks call s) ≡ 0

  -- "Ask for the erasure of one partition as often as you like, and for nothing else but restarts"; "each call gets the cells and cache
  -- that the one before left, refused or not"
  abbrev pub History : (i : ℕ) → List Call → State → Type 0
  History i [] s = Unit {0}
  History i (call ∷ calls) s = (Attempt i call s ⊎ (call ≡ Restart)) × History i calls (after image marks call s)

  -- an accepted attempt of the history has run uncut to its end
  abbrev pub Finished : (i : ℕ) → List Call → State → Type 0
  Finished i [] s = ⊥
  Finished i (call ∷ calls) s = Accepted i call s ⊎ Finished i calls (after image marks call s)

-- ---- the same call, made alone

-- with other buffers
abbrev pub with_buffers : Call → (response block : List ℕ) → Call
with_buffers (Direct command) response' block' = Direct command
with_buffers (Erase i) response' block' = Erase i
with_buffers (EraseCut i k mask) response' block' = EraseCut i k mask
with_buffers (Mailbox code request response block) response' block' = Mailbox code request response' block'
with_buffers (TakeReply reply) response' block' = TakeReply reply
with_buffers (MakeTable handles algorithms) response' block' = MakeTable handles algorithms
with_buffers Restart response' block' = Restart

-- of the same lengths
abbrev pub SameLengths : Call → (response block : List ℕ) → Type 0
SameLengths (Direct command) response' block' = Unit {0}
SameLengths (Erase i) response' block' = Unit {0}
SameLengths (EraseCut i k mask) response' block' = Unit {0}
SameLengths (Mailbox code request response block) response' block' = (length response' ≡ length response) × (length block' ≡ length block)
SameLengths (TakeReply reply) response' block' = Unit {0}
SameLengths (MakeTable handles algorithms) response' block' = Unit {0}
SameLengths Restart response' block' = Unit {0}

-- "the same call, same request and buffer lengths, made alone from the starting cells and an empty cache", and as request P5 says of the
-- start, with no reply awaited; since request P6 also from the starting table, since 2 depends on it
pub record Alone (start : State) (call : Call) : Type 0 where
  pub context : List ℕ
  pub at_rest : AtRest (cache_of context)
  pub same_table : table_of context ≡ table_of start.context
  pub response : List ℕ
  pub block : List ℕ
  pub same : SameLengths call response block

abbrev pub call_alone : {start : State} (call : Call) → Alone start call → Call
call_alone call a = with_buffers call a.response a.block

abbrev pub start_alone : (start : State) {call : Call} → Alone start call → State
start_alone start a = with_context a.context start

-- ---- what of an answer is compared; request P8: "Demand 3's answers and responses now leave out this number and the chksum"

-- of an erasure's answer all but the fuses newly set
abbrev pub numberless : Erasure → Erasure
numberless (Ok (Ended short first burns new)) = Ok (Ended short first burns 0)
numberless (Ok (Cut burns new)) = Ok (Cut burns 0)
numberless (Err refused) = Err refused

-- the fields but one
abbrev pub without : Field → List Field → List Field
without field [] = []
without field (f ∷ fields) = cond (same field f) (without field fields) (f ∷ without field fields)

-- of FERS's response all fields but these two; a refusal has none
abbrev pub compared_bytes : (response : List ℕ) → List ℕ
compared_bytes response =
    let fields : List Field = response_fields Fers no_numbers in
    joined (map (λ (field : Field). bytes_at fields field response) (without Chksum (without NewFuses fields)))

-- of what an attempt tells, as an erasure or as FERS: no attempt has another command's response
abbrev pub compared : Told → Told
compared (Answering answer) = Answering answer
compared (Erasing answer) = Erasing (numberless answer)
compared (Replying reply response) = Replying reply (compared_bytes response)
compared (Taking answer) = Taking answer
compared (Making answer) = Making answer
compared Silent = Silent

-- ---- the claim

-- cell j is one of partition i; it is one of its indicator, the last two of a zeroizable partition
abbrev pub InPartition : (image : List ℕ) (i j : ℕ) → Type 0
InPartition image i j = ((entry_of image i).first ≤ j) × (j < end_of (entry_of image i))

abbrev pub InIndicator : (image : List ℕ) (i j : ℕ) → Type 0
InIndicator image i j = (zeroizable (entry_of image i) ≡ true) × (end_of (entry_of image i) ≤ j + 2)

-- cell j is as it was
abbrev pub Same : (start now : State) (j : ℕ) → Type 0
Same start now j = get_or now.cells j 0 ≡ get_or start.cells j 0

-- of the state now, after these calls from the start
pub record Claim (image marks : List ℕ) (i : ℕ) (start : State) (calls : List Call) (now : State) : Type 0 where
  -- "the partition is counted as zeroized, or every word but its indicator is as it was before the first attempt", where request P4 says:
  -- "In demand 3 read "marked" for "counted as zeroized""
  pub marked_or_untouched : (marked_at image now.cells i ≡ true) ⊎ ((j : ℕ) → InPartition image i j → (InIndicator image i j → ⊥) → Same start now j)
  -- "No fuse outside it has changed"
  pub outside : (j : ℕ) → Outside image i j → Same start now j
  pub as_many : length now.cells ≡ length start.cells
  -- "and no set fuse was cleared"; all places are empty, no reply is awaited and the table is the starting one, so that every state reached
  -- is again a start: no single attempt clears one either
  pub none_cleared : (j : ℕ) → get_or start.cells j 0 ⊆ get_or now.cells j 0
  pub at_rest : AtRest (cache_of now.context)
  pub same_table : table_of now.context ≡ table_of start.context
  -- "Once an accepted attempt runs uncut to its end, the set fuses of the partition are exactly those set at the start and those that are
  -- not stuck"
  pub exactly : Finished image marks i calls start → (j : ℕ) → InPartition image i j → get_or now.cells j 0 ≡ bit_or (get_or start.cells j 0) (free (get_or marks j 0))
  -- "The answer and the response of every uncut attempt, refused or not, are those of the same attempt made first, from the starting
  -- fuses", as far as they are compared
  pub same_answer : (call : Call) → Attempt image marks i call now → Uncut image marks call now → (alone : Alone start call)
      → compared (told image marks (call_alone call alone) (start_alone start alone)) ≡ compared (told image marks call now)
  -- "where that attempt is accepted or refused with 15, all cells are equal too"
  pub same_cells : (call : Call) → Attempt image marks i call now → Uncut image marks call now
      → (refusal (told image marks call now) ≡ 0) ⊎ (refusal (told image marks call now) ≡ 15) → (alone : Alone start call)
      → (after image marks (call_alone call alone) (start_alone start alone)).cells ≡ (after image marks call now).cells
  -- "With a bad map, cells or marks not C long, or no such partition, every attempt is refused and no cell changes"
  pub bad_refused : (map_good image ≡ false) ⊎ ((whole_arrays image start.cells marks ≡ false) ⊎ ((header_of image).partitions ≤ i)) → (call : Call) → Attempt image marks i call now
      → (1 ≤ refusal (told image marks call now)) × ((after image marks call now).cells ≡ start.cells)
  -- a partition that is not zeroizable: "the command may not touch it (FERS: not zeroizable)"; every attempt is refused, and nothing
  -- changes
  pub not_zeroizable_refused : zeroizable (entry_of image i) ≡ false → (call : Call) → Attempt image marks i call now
      → (1 ≤ refusal (told image marks call now)) × (after image marks call now ≡ with_cells start.cells now)

-- demand 3: any map, marks and partition, any cells at the start, where request P5 says: "Demand 3 begins with all places empty, no reply
-- awaited", and every history from there
abbrev pub Demand3 : Type 0
Demand3 =
    (image marks : List ℕ) (i : ℕ) (start : State) → AtRest (cache_of start.context)
    → (calls : List Call) → History image marks i calls start
    → Claim image marks i start calls (after_all image marks calls start)
