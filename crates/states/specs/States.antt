-- The states of all partitions of a drive: document 01, "Burning and counting", "Its state is one of four", and "Refusal numbers" 1 and 2. Assumes nothing.
use Rattle.std.specs.Prelude.{ℕ, List, [], ◌∷◌, ◌++◌, drop, Result, Ok, Err}
use Rattle.laws.specs.Below.{join_below}
use Rattle.refusal.specs.Refusals.{first_of}
use Rattle.refusal.specs.declared.Refusal.{Refusal}
use Rattle.context.specs.State.{Outcome, outcome, refusing}
use Rattle.map.specs.Map.{header_of}
use Rattle.partition.specs.declared.State.{State}
use Rattle.partition.specs.declared.State.TheVariants.{Erased, Torn, Blank, Programmed}
use Rattle.drive.specs.Drive.{drive_tests, survey_at}

-- the four states as numbers (ours), in document 01's order
abbrev pub state_number : State → ℕ
state_number Erased = 0
state_number Torn = 1
state_number Blank = 2
state_number Programmed = 3

-- what is listed for partition i: its state's number, and its short pairs
unfoldable pub state_in : (image cells : List ℕ) (i : ℕ) → List ℕ
state_in image cells i = state_number (survey_at image cells i).state ∷ []

unfoldable pub short_in : (image cells : List ℕ) (i : ℕ) → List ℕ
short_in image cells i = (survey_at image cells i).short ∷ []

-- an array afterwards: a number for each partition, and past them what it held
abbrev pub states_after : (image cells before : List ℕ) → List ℕ
states_after image cells before = join_below (state_in image cells) (header_of image).partitions ++ drop (header_of image).partitions before

abbrev pub shorts_after : (image cells before : List ℕ) → List ℕ
shorts_after image cells before = join_below (short_in image cells) (header_of image).partitions ++ drop (header_of image).partitions before

-- the two arrays that a listing is lent
pub record Lists : Type 0 where
  pub states : List ℕ
  pub shorts : List ℕ

abbrev pub lists : (states shorts : List ℕ) → Lists
lists states shorts = record { states = states; shorts = shorts }

-- every partition listed, or the lowest refusal that applies: 1 or 2
abbrev pub listing_of : (image cells marks : List ℕ) → Lists → Outcome (Result ℕ Refusal) Lists
listing_of image cells marks l =
    first_of (refusing Err l) (drive_tests image cells marks)
    (outcome (Ok (header_of image).partitions) (lists (states_after image cells l.states) (shorts_after image cells l.shorts)))
