-- Demand 3, what its proof rests on: an attempt is refused by tests that read no fuse, or it is a run over the partition (`Form`); so what
-- it does is the same from every state that a history reaches. Here for the erasure and the cut erasure. Assumes nothing.
-- The theorems stand in proofs/Forms.antt.
use Rattle.std.specs.Prelude.{ℕ, ◌≡◌, List, length}
use Rattle.context.specs.State.{State, with_context}
use Rattle.cache.specs.Cache.{cache_of, AtRest, emptied}
use Rattle.handles.specs.Handles.{table_of}
use Rattle.history.specs.Calls.{Call, Told, told, after}
use Rattle.history.specs.Demand3.{with_buffers, SameLengths}

-- a call tells t and leaves the cells c
abbrev pub Does : (image marks : List ℕ) → Call → State → Told → (c : List ℕ) → Type 0
Does image marks call s t c = (told image marks call s ≡ t) × ((after image marks call s).cells ≡ c)

-- with all buffers of its lengths
abbrev pub DoesAll : (image marks : List ℕ) → Call → State → Told → (c : List ℕ) → Type 0
DoesAll image marks call s t c = (response block : List ℕ) → SameLengths call response block → Does image marks (with_buffers call response block) s t c

-- a state that a history reaches has as many cells as the start, all places are empty, no reply is awaited, and the table is the start's
pub record Quiet (start s : State) : Type 0 where
  pub long : length s.cells ≡ length start.cells
  pub rest : AtRest (cache_of s.context)
  pub table : table_of s.context ≡ table_of start.context

-- as at the start, at rest
abbrev pub quiet : (start : State) → State
quiet start = with_context (emptied start.context) start
