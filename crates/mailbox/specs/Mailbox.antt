-- Document 01, "Mailbox" and "Refusal numbers", and requests P5, P6 and P8: what a call does, and what it leaves. Assumes nothing.
use Rattle.std.specs.Prelude.{ℕ, ◌≡◌, Bool, true, false, cond, not, ◌&&◌, ◌||◌, List, [], ◌∷◌, ◌++◌, eqb, ltb, length, get_or, Result, Ok, Err}
use Rattle.refusal.specs.Refusals.{first_of}
use Rattle.refusal.specs.declared.Refusal.{Refusal}
use Rattle.refusal.specs.declared.Refusal.TheVariants.{BadLent, UnknownCode, HekNotAvailable, TagHeld, NoEmptyPlace, TagNotHeld, NotMarked, EngineBusy, PlaceUnsure, NoSuchHandle, NumbersUsedUp}
use Rattle.context.specs.State.{State, with_cells, with_context, Outcome, outcome, refusing, telling}
use Rattle.drive.specs.Drive.{Whole, drive_tests, active_slot, slot_number, available}
use Rattle.drive.specs.declared.ActiveSlot.{ActiveSlot}
use Rattle.cache.specs.Cache.{cache_of, lowest_place, has_place, busy, load_reply, unload_reply, waiting_at, clearing}
use Rattle.cache.specs.declared.Sought.TheVariants.{Empty, Unsure, Tag}
use Rattle.handles.specs.Handles.{Table, table_of, most, has_table, handle_at, algorithm_at, lowest_with, has_handle, used_up, next_number, rotated_at}
use Rattle.erasure.specs.declared.Answer.TheVariants.{Ended, Cut}
use Rattle.erasure.specs.Erasure.{Told, partition_tests, Erasable, uncut_of}
use Rattle.codec.specs.declared.Command.{Command}
use Rattle.codec.specs.declared.Command.TheVariants.{Clkc, Klod, Kunl, Fers, Fsta, Ehdl, Rhpk, Unknown}
use Rattle.codec.specs.Fields.{Numbers, command_of, CmdTimeout, Partition, HpkeHandle, request_fields, response_fields, length_of, number_at, tag_at, mek_at}
use Rattle.codec.specs.Fields.{no_numbers, one_number, two_numbers, three_numbers, response_in, least_room}
use Rattle.codec.specs.Request.{request_tests}
use Rattle.engine.specs.Engine.{engine_block}
use Rattle.engine.specs.declared.Order.{Order}
use Rattle.engine.specs.declared.Order.TheVariants.{Nothing, Clear, Load, Unload}
use Rattle.mailbox.specs.declared.effects.Effect.{Effect}
use Rattle.mailbox.specs.declared.Reply.{Reply}

-- ---- the effect of a command: what the engine is ordered, with the tag, the place of the table whose handle is replaced, and the numbers
-- of the response

-- no handle is replaced
abbrev pub no_place : ℕ
no_place = most

abbrev pub effect : Command → Order → (tag : ℕ) → Numbers → Effect
effect command order tag numbers = record { command = command; order = order; tag = tag; rotates = no_place; numbers = numbers }

-- CLKC: "clear" with the timeout
abbrev pub clear_of : (request : List ℕ) → Effect
clear_of request = effect Clkc (Clear (number_at (request_fields Clkc) CmdTimeout request)) 0 no_numbers

-- "A load takes the lowest empty place"; its response is the place
abbrev pub load_of : (context request : List ℕ) → Effect
load_of context request =
    let place : ℕ = lowest_place (cache_of context) Empty in
    effect Klod (Load place (number_at (request_fields Klod) CmdTimeout request)) (tag_at (request_fields Klod) request) (one_number place)

-- "KUNL frees the lowest place that holds its tag", once the engine has replied that it is done
abbrev pub unload_of : (context request : List ℕ) → Effect
unload_of context request =
    let tag : ℕ = tag_at (request_fields Kunl) request in
    effect Kunl (Unload (lowest_place (cache_of context) (Tag tag)) (number_at (request_fields Kunl) CmdTimeout request)) tag no_numbers

-- FERS, by what its erasure answers: "short pairs, first short cell" and, by request P8, the fuses newly set "as a last field"; or refusal 15.
-- It is not cut: no order reaches its cut
abbrev pub fers_of : Told → Result Effect Refusal
fers_of (Ok (Ended short first burns new)) = Ok (effect Fers Nothing 0 (three_numbers short first new))
fers_of (Err refused) = Err refused.refusal
fers_of (Ok (Cut burns new)) = Err NotMarked

-- "HEK available 1 or 0"
abbrev pub hek_number : ActiveSlot → ℕ
hek_number slot = cond (available slot) 1 0

-- FSTA: "active slot's partition or 0xFFFFFFFF, HEK available 1 or 0"
abbrev pub status_of : ActiveSlot → Effect
status_of slot = effect Fsta Nothing 0 (two_numbers (slot_number slot) (hek_number slot))

-- EHDL: "count, then handle and algorithm for each"
abbrev pub table_numbers : Table → Numbers
table_numbers t = t.count ∷ handle_at t 0 ∷ algorithm_at t 0 ∷ handle_at t 1 ∷ algorithm_at t 1 ∷ handle_at t 2 ∷ algorithm_at t 2 ∷ []

abbrev pub list_of : Table → Effect
list_of t = effect Ehdl Nothing 0 (table_numbers t)

-- the handle that a request of RHPK names
abbrev pub handle_in : (request : List ℕ) → ℕ
handle_in request = number_at (request_fields Rhpk) HpkeHandle request

-- RHPK: "the lowest place with the handle is meant"; its response is "the new handle"
abbrev pub rotation_of : Table → (request : List ℕ) → Effect
rotation_of t request =
    record { command = Rhpk; order = Nothing; tag = 0; rotates = lowest_with t (handle_in request); numbers = one_number (next_number t) }

-- the partition that a request of FERS names
abbrev pub partition_in : (request : List ℕ) → ℕ
partition_in request = number_at (request_fields Fers) Partition request

-- where no refusal of the lists below applies: the effect, and the cells, which FERS alone burns; a code that is unknown is refused before
abbrev pub accepted : Command → (image marks request : List ℕ) → State → Outcome (Result Effect Refusal) (List ℕ)
accepted Clkc image marks request s = outcome (Ok (clear_of request)) s.cells
accepted Klod image marks request s = outcome (Ok (load_of s.context request)) s.cells
accepted Kunl image marks request s = outcome (Ok (unload_of s.context request)) s.cells
accepted Fers image marks request s = telling fers_of (uncut_of image s.cells marks (partition_in request))
accepted Fsta image marks request s = outcome (Ok (status_of (active_slot image s.cells))) s.cells
accepted Ehdl image marks request s = outcome (Ok (list_of (table_of s.context))) s.cells
accepted Rhpk image marks request s = outcome (Ok (rotation_of (table_of s.context) request)) s.cells
accepted Unknown image marks request s = refusing Err s.cells UnknownCode

-- ---- refusals

-- 11 "KLOD, HEK not available", 12 "KLOD, tag held already", 13 "KLOD, no empty place"
abbrev pub load_tests : (image request : List ℕ) → State → List (Bool × Refusal)
load_tests image request s =
    (not (available (active_slot image s.cells)), HekNotAvailable)
    ∷ (has_place (cache_of s.context) (Tag (tag_at (request_fields Klod) request)), TagHeld)
    ∷ (not (has_place (cache_of s.context) Empty), NoEmptyPlace)
    ∷ []

-- 14 "KUNL, tag not held"; "KUNL finds a waiting or unsure tag but is refused on it" (`unload_held`), by 17 or 18 below
abbrev pub unload_tests : (context request : List ℕ) → List (Bool × Refusal)
unload_tests context request =
    (not (has_place (cache_of context) (Tag (tag_at (request_fields Kunl) request))), TagNotHeld)
    ∷ []

-- the refusals of a command by itself, up to 14
abbrev pub command_tests : Command → (image request : List ℕ) → State → List (Bool × Refusal)
command_tests Clkc image request s = []
command_tests Klod image request s = load_tests image request s
command_tests Kunl image request s = unload_tests s.context request
command_tests Fers image request s = partition_tests image (partition_in request) s.context
command_tests Fsta image request s = []
command_tests Ehdl image request s = []
command_tests Rhpk image request s = []
command_tests Unknown image request s = []

-- "a mailbox command other than FSTA"
abbrev pub other_than_fsta : Command → Bool
other_than_fsta Clkc = true
other_than_fsta Klod = true
other_than_fsta Kunl = true
other_than_fsta Fers = true
other_than_fsta Fsta = false
other_than_fsta Ehdl = true
other_than_fsta Rhpk = true
other_than_fsta Unknown = false

-- "KLOD or KUNL"
abbrev pub klod_or_kunl : Command → Bool
klod_or_kunl Clkc = false
klod_or_kunl Klod = true
klod_or_kunl Kunl = true
klod_or_kunl Fers = false
klod_or_kunl Fsta = false
klod_or_kunl Ehdl = false
klod_or_kunl Rhpk = false
klod_or_kunl Unknown = false

-- 17 "a mailbox command other than FSTA while a reply is awaited or a place waits", 18 "KLOD or KUNL while a place is unsure"
abbrev pub engine_tests : Command → (context : List ℕ) → List (Bool × Refusal)
engine_tests command context =
    (other_than_fsta command && busy (cache_of context), EngineBusy)
    ∷ (klod_or_kunl command && has_place (cache_of context) Unsure, PlaceUnsure)
    ∷ []

-- 20 "no such handle", 21 "numbers used up", of RHPK
abbrev pub rotation_tests : Table → (request : List ℕ) → List (Bool × Refusal)
rotation_tests t request =
    (not (has_handle t (handle_in request)), NoSuchHandle)
    ∷ (used_up t, NumbersUsedUp)
    ∷ []

abbrev pub handle_tests : Command → (context request : List ℕ) → List (Bool × Refusal)
handle_tests Clkc context request = []
handle_tests Klod context request = []
handle_tests Kunl context request = []
handle_tests Fers context request = []
handle_tests Fsta context request = []
handle_tests Ehdl context request = []
handle_tests Rhpk context request = rotation_tests (table_of context) request
handle_tests Unknown context request = []

-- request P5: "Refusals, after 14 and before 15"; request P6: "Refusals, after 19"
abbrev pub own_tests : Command → (image request : List ℕ) → State → List (Bool × Refusal)
own_tests command image request s = command_tests command image request s ++ (engine_tests command s.context ++ handle_tests command s.context request)

-- 2, "for the mailbox also": "block not 128 or response buffer under 20 bytes", now 40; request P6: "a table count outside 1 to 3"
abbrev pub lent_bad : (room block : ℕ) (context : List ℕ) → Bool
lent_bad room block context = not (eqb block 128) || (ltb room least_room || not (has_table (table_of context)))

-- the refusals of a call after the drive's own: 2 for the buffers and the table, 3 to 6 for the request, then the command's own
abbrev pub later_tests : Command → (image : List ℕ) (code : ℕ) (request : List ℕ) (bad : Bool) → State → List (Bool × Refusal)
later_tests command image code request bad s = (bad, BadLent) ∷ (request_tests command code request ++ own_tests command image request s)

-- all refusals of a call: 1 and 2 for the drive, then those; FERS's 15 is its run's, above
abbrev pub mailbox_tests : (image marks : List ℕ) (code : ℕ) (request : List ℕ) (room block : ℕ) → State → List (Bool × Refusal)
mailbox_tests image marks code request room block s =
    drive_tests image s.cells marks ++ later_tests (command_of code) image code request (lent_bad room block s.context) s

-- "the lowest that applies is given, and none is given otherwise", where by requests P5 and P6 17, 18, 20 and 21 are checked before 15
unfoldable pub done_of : (image marks : List ℕ) (code : ℕ) (request : List ℕ) (room block : ℕ) → State → Outcome (Result Effect Refusal) (List ℕ)
done_of image marks code request room block s =
    first_of (refusing Err s.cells) (mailbox_tests image marks code request room block s) (accepted (command_of code) image marks request s)

-- ---- what an effect leaves

-- what an order makes of the context: its places wait for the engine's reply (request P5)
abbrev pub context_by : Order → (tag : ℕ) (context : List ℕ) → List ℕ
context_by Nothing tag context = context
context_by (Clear timeout) tag context = clearing context
context_by (Load place timeout) tag context = waiting_at place tag load_reply context
context_by (Unload place timeout) tag context = waiting_at place tag unload_reply context

-- the context: as the order makes it, with the handle replaced that a rotation names, by the number that its response tells (request P6);
-- a refusal leaves it
abbrev pub context_after : Result Effect Refusal → (context : List ℕ) → List ℕ
context_after (Ok e) context = rotated_at e.rotates (get_or e.numbers 0 0) (context_by e.order e.tag context)
context_after (Err refusal) context = context

-- the state: the cells as they were left, and the context
abbrev pub state_after : Outcome (Result Effect Refusal) (List ℕ) → State → State
state_after done s = with_context (context_after done.told s.context) (with_cells done.after s)

-- the column "engine": "clear; block all zero", "load; MEK, METD = tag .., AUX zero", "unload; as load with MEK zero"; "Where the
-- engine column says none, the block is unchanged"
abbrev pub block_after : Order → (tag : ℕ) (request block : List ℕ) → List ℕ
block_after Nothing tag request block = block
block_after (Clear timeout) tag request block = engine_block [] 0
block_after (Load place timeout) tag request block = engine_block (mek_at (request_fields Klod) request) tag
block_after (Unload place timeout) tag request block = engine_block [] tag

-- so of an effect; a refusal leaves the block
abbrev pub block_left : Result Effect Refusal → (request block : List ℕ) → List ℕ
block_left (Ok e) request block = block_after e.order e.tag request block
block_left (Err refusal) request block = block

-- the response, by the command's field list
abbrev pub response_after : Result Effect Refusal → (response : List ℕ) → List ℕ
response_after (Ok e) response = response_in e.command e.numbers response
response_after (Err refusal) response = response

-- the refusal, or "the response length" and "the engine order: none, or clear with the timeout, or load or unload with place and timeout"
abbrev pub reply_of : Result Effect Refusal → Result Reply Refusal
reply_of (Ok e) = Ok (record { length = length_of (response_fields e.command e.numbers); order = e.order })
reply_of (Err refusal) = Err refusal

-- ---- a call

-- what it is lent to change: the state, the response buffer and the engine block
pub record Lent : Type 0 where
  pub state : State
  pub response : List ℕ
  pub block : List ℕ

abbrev pub lent : State → (response block : List ℕ) → Lent
lent state response block = record { state = state; response = response; block = block }

-- what was done, as what the call tells and leaves
abbrev pub written_out : (request : List ℕ) → Lent → Outcome (Result Effect Refusal) (List ℕ) → Outcome (Result Reply Refusal) Lent
written_out request l done =
    outcome (reply_of done.told)
    (lent (state_after done l.state) (response_after done.told l.response) (block_left done.told request l.block))

-- a call of the mailbox
abbrev pub mailbox_of : (image marks : List ℕ) (code : ℕ) (request : List ℕ) → Lent → Outcome (Result Reply Refusal) Lent
mailbox_of image marks code request l =
    written_out request l (done_of image marks code request (length l.response) (length l.block) l.state)

-- ---- below the entry point

-- an order to load a key
abbrev pub loads : Order → Bool
loads Nothing = false
loads (Clear timeout) = false
loads (Load place timeout) = true
loads (Unload place timeout) = false

-- what an order asks of request and block, where it is carried out
pub record Fits (order : Order) (request block : List ℕ) : Type 0 where
  pub block_long : length block ≡ 128
  pub request_long : loads order ≡ true → length request ≡ length_of (request_fields Klod)

-- what a command asks of the drive and of the table, where it is carried out: every one a whole drive and a table; FERS, a partition that
-- may be erased; RHPK, a number that is left
pub record Allowed (command : Command) (image marks request : List ℕ) (s : State) : Type 0 where
  pub whole : Whole image s.cells
  pub table : has_table (table_of s.context) ≡ true
  pub erasable : command ≡ Fers → Erasable image s.cells marks (partition_in request)
  pub left : command ≡ Rhpk → used_up (table_of s.context) ≡ false
