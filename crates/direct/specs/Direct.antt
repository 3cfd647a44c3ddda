-- Document 01, "Direct commands", with requests P7 and P8: what a command on a word answers, and the cells that it leaves. Assumes nothing.
use Rattle.std.specs.Prelude.{ℕ, ◌^◌, Bool, true, false, cond, not, ◌&&◌, ◌||◌, List, [], ◌∷◌, ◌++◌, Option, Some, None, eqb, leb, get_or, Result, Ok, Err}
use Rattle.std.specs.Int.Bits.{bit_or}
use Rattle.refusal.specs.Refusals.{first_of}
use Rattle.refusal.specs.declared.Refusal.{Refusal}
use Rattle.refusal.specs.declared.Refusal.TheVariants.{NotThere, NotAllowed, ClearsFuse, SlotInUse}
use Rattle.context.specs.State.{State, with_cells, Outcome, outcome, refusing}
use Rattle.map.specs.declared.Entry.{Entry}
use Rattle.map.specs.Map.{header_of, entry_of, life_cycle, zeroizable, secret, older_guide}
use Rattle.fuse.specs.Fuse.{all_set, held_at, short, all_ones, burn_word, new_fuses}
use Rattle.word.specs.declared.Role.{Role}
use Rattle.word.specs.declared.Role.TheVariants.{Data, Digest, Indicator}
use Rattle.word.specs.declared.Word.{Word}
use Rattle.word.specs.Word.{word_at}
use Rattle.drive.specs.Drive.{drive_tests, check_of, marked_at, slot_in_use}
use Rattle.direct.specs.declared.Command.{Command}
use Rattle.direct.specs.declared.Command.TheVariants.{Read, Write, Zeroize}
use Rattle.direct.specs.declared.Answer.{Answer}
use Rattle.direct.specs.declared.Answer.TheVariants.{Word as Shown, Burned, Done, Withheld}

-- "each naming a word": its first cell
abbrev pub cell_of : Command → ℕ
cell_of (Read cell) = cell
cell_of (Write cell value) = cell
cell_of (Zeroize cell) = cell

-- the word that starts at a cell: a pair or one cell
abbrev pub word_of : (wide : Bool) (at : ℕ) (cells : List ℕ) → ℕ
word_of true at cells = held_at cells at
word_of false at cells = get_or cells at 0

-- ---- refusals 8, 9 and 10 of a command on the word of partition i that starts at its cell

-- "WRITE burns a data word"
abbrev pub is_data : Role → Bool
is_data Data = true
is_data Digest = false
is_data Indicator = false

-- 8, "the command may not touch it". READ: "Every word of a secret partition". WRITE: "digest .., indicator, life cycle, ..
-- a value over 32 bits for a 32-bit word" and, by request P4, "on a marked partition". ZEROIZE: "any word of a zeroizable partition, else 8"
unfoldable pub forbidden : Command → (image cells : List ℕ) (i : ℕ) → Role → (wide : Bool) → Bool
forbidden (Read cell) image cells i role wide = secret (entry_of image i)
forbidden (Write cell value) image cells i role wide =
    not (is_data role) || life_cycle (entry_of image i) || marked_at image cells i || (not wide && leb (2 ^ 32) value)
forbidden (Zeroize cell) image cells i role wide = not (zeroizable (entry_of image i))

-- 9, "WRITE would clear a fuse": "the value lacks a set fuse"
unfoldable pub clears : Command → (cells : List ℕ) (wide : Bool) → Bool
clears (Read cell) cells wide = false
clears (Write cell value) cells wide = not (eqb (bit_or (word_of wide cell cells) value) value)
clears (Zeroize cell) cells wide = false

-- 10, "slot change while keys are held"; READ changes nothing
unfoldable pub changes_slot : Command → (image : List ℕ) (i : ℕ) (context : List ℕ) → Bool
changes_slot (Read cell) image i context = false
changes_slot (Write cell value) image i context = slot_in_use image i context
changes_slot (Zeroize cell) image i context = slot_in_use image i context

-- 7, "the cell starts no word"; then 8, 9 and 10
abbrev pub word_tests : Option Word → Command → (image : List ℕ) → State → List (Bool × Refusal)
word_tests None command image s = (true, NotThere) ∷ []
word_tests (Some word) command image s =
    (forbidden command image s.cells word.partition word.role word.wide, NotAllowed)
    ∷ (clears command s.cells word.wide, ClearsFuse)
    ∷ (changes_slot command image word.partition s.context, SlotInUse)
    ∷ []

-- all refusals of a command, by what its cell starts: 1 and 2 for the drive, 7 to 10 for the word
abbrev pub direct_tests : Option Word → Command → (image marks : List ℕ) → State → List (Bool × Refusal)
direct_tests found command image marks s = drive_tests image s.cells marks ++ word_tests found command image s

-- ---- what a command that is not refused leaves

-- what is burned: "WRITE burns a data word", "ZEROIZE burns all ones"; READ burns nothing
unfoldable pub cells_after : Command → (wide : Bool) (marks cells : List ℕ) → List ℕ
cells_after (Read cell) wide marks cells = cells
cells_after (Write cell value) wide marks cells = burn_word marks cell wide value cells
cells_after (Zeroize cell) wide marks cells = burn_word marks cell wide all_ones cells

-- request P8, "the number of fuses it newly set": READ sets none
unfoldable pub new_after : Command → (wide : Bool) (marks cells : List ℕ) → ℕ
new_after (Read cell) wide marks cells = 0
new_after (Write cell value) wide marks cells = new_fuses marks cell wide value cells
new_after (Zeroize cell) wide marks cells = new_fuses marks cell wide all_ones cells

-- request P7: "all ones at the word's width"
abbrev pub ones_at : (wide : Bool) → ℕ
ones_at true = all_ones
ones_at false = all_set

-- the word that ZEROIZE tells where it withholds none: on the older guide (request P7) "the answer is all ones at the word's width, stuck
-- fuses or not", else it is the word as it now stands
abbrev pub told_word : Entry → (wide : Bool) (word : ℕ) → ℕ
told_word x wide word = cond (older_guide x) (ones_at wide) word

-- what is answered of the word of a partition as it now stands. WRITE: "or done in a secret partition". ZEROIZE: "in a secret partition
-- only if its ones reach B, otherwise withheld"; request P7: "Withholding stays". Request P8: "ZEROIZE and WRITE answer it beside their
-- word", the fuses newly set; "In a secret partition WRITE and ZEROIZE do not show it"
abbrev pub answer_of : Command → Entry → (wide : Bool) (bound word new : ℕ) → Answer
answer_of (Read cell) x wide bound word new = Shown word
answer_of (Write cell value) x wide bound word new = cond (secret x) Done (Burned word new)
answer_of (Zeroize cell) x wide bound word new =
    cond (secret x) (cond (short bound word) Withheld (Shown (told_word x wide word))) (Burned (told_word x wide word) new)

-- the answer is by the word as it now stands
abbrev pub shown_of : Command → (image : List ℕ) (i : ℕ) (wide : Bool) (new : ℕ) → State → Outcome (Result Answer Refusal) State
shown_of command image i wide new s =
    outcome (Ok (answer_of command (entry_of image i) wide (header_of image).bound (word_of wide (cell_of command) s.cells) new)) s

-- a cell that starts no word is refused before
unfoldable pub carried_out : Option Word → Command → (image marks : List ℕ) → State → Outcome (Result Answer Refusal) State
carried_out None command image marks s = refusing Err s NotThere
carried_out (Some word) command image marks s =
    shown_of command image word.partition word.wide (new_after command word.wide marks s.cells) (with_cells (cells_after command word.wide marks s.cells) s)

-- a command, by what its cell starts
abbrev pub direct_by : Option Word → (image marks : List ℕ) → Command → State → Outcome (Result Answer Refusal) State
direct_by found image marks command s = first_of (refusing Err s) (direct_tests found command image marks s) (carried_out found command image marks s)

-- a direct command
unfoldable pub direct_of : (image marks : List ℕ) → Command → State → Outcome (Result Answer Refusal) State
direct_of image marks command s = direct_by (word_at image (cell_of command)) image marks command s
