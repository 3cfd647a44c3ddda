-- What the mailbox tells: a response read by its list, which refusal is given, what FERS leaves and which place KUNL finds. Assumes nothing.
use Rattle.std.specs.Prelude.{ℕ, suc, ◌≡◌, refl, Bool, true, false, List, length, eqb, Result, Ok, Err}
use Rattle.std.proofs.Common.{sym, subst, ◌∙◌, arith, ne_eqb, leb-false}
use Rattle.std.proofs.lemmas.Bool.{false≢true, not-false}
use Rattle.laws.specs.Tests.{neither, cond_keeps}
use Rattle.refusal.specs.Refusals.{first_of, first_elim, first_map, test_at, not_numbered, GivenFirst, given_first, GivenLowest, lowest_tells}
use Rattle.refusal.specs.declared.Refusal.{Refusal}
use Rattle.refusal.specs.Numbers.{number}
use Rattle.context.specs.State.{State, Outcome, outcome, refusing, telling}
use Rattle.map.specs.Map.{map_good}
use Rattle.drive.specs.Drive.{whole_arrays, slot_number, survey_at}
use Rattle.drive.specs.declared.ActiveSlot.{ActiveSlot}
use Rattle.cache.specs.Cache.{Cache, cache_of, lowest_place, has_place, awaits, place_at}
use Rattle.cache.specs.declared.Sought.TheVariants.{Empty, Waiting, Unsure, Tag}
use Rattle.cache.specs.declared.Place.TheVariants.{Held}
use Rattle.cache.proofs.Laws.{has_tells, has_none}
use Rattle.cache.proofs.After.{held_place}
use Rattle.burns.specs.declared.End.{End}
use Rattle.burns.specs.declared.End.TheVariants.{Whole, Stopped, Cut as CutEnd}
use Rattle.burns.specs.Run.{Tally}
use Rattle.erasure.specs.declared.Answer.TheVariants.{Ended, Cut}
use Rattle.erasure.specs.Erasure.{Told, run_on, never, answer_by, uncut_of}
use Rattle.erasure.proofs.Cuts.{whole_by}
use Rattle.erasure.specs.Ends.{indicator_cell, LeftBy, LeftAs}
use Rattle.erasure.proofs.Leaves.{run_left_as}
use Rattle.engine.specs.declared.Order.{Order}
use Rattle.engine.specs.declared.Order.TheVariants.{Nothing, Clear, Load, Unload}
use Rattle.codec.specs.declared.Command.{Command}
use Rattle.codec.specs.declared.Command.TheVariants.{Clkc, Klod, Kunl, Fers, Fsta, Ehdl, Rhpk, Unknown}
use Rattle.codec.specs.Fields.{known, Place, ShortPairs, FirstShort, NewFuses, TheActiveSlot, HekAvailable, request_fields, response_fields, number_at, tag_at}
use Rattle.codec.specs.Fields.{code_of, command_of, no_numbers, one_number, two_numbers, three_numbers}
use Rattle.codec.specs.Request.{request_tests}
use Rattle.codec.proofs.Laws.{response_reads}
use Rattle.mailbox.specs.declared.effects.Effect.{Effect}
use Rattle.mailbox.specs.declared.Reply.{Reply}
use Rattle.mailbox.specs.Mailbox.{reply_of, load_of, fers_of, hek_number, status_of, accepted}
use Rattle.mailbox.specs.Mailbox.{partition_in, own_tests, lent_bad, mailbox_tests, done_of, response_after, Lent, mailbox_of}
use Rattle.mailbox.proofs.Laws.{numbered_by}

-- ---- a host that reads the response by its list finds what is meant

pub place_reads : (context request response : List ℕ)
    → let e = load_of context request in number_at (response_fields Klod e.numbers) Place (response_after (Ok e) response) ≡ lowest_place (cache_of context) Empty
place_reads context request response = response_reads Klod (one_number (lowest_place (cache_of context) Empty)) _ Place refl

pub ended_reads : (short first burns new : ℕ) (response : List ℕ)
    → let numbers = three_numbers short first new in
    let read = response_after (fers_of (Ok (Ended short first burns new))) response in
    (number_at (response_fields Fers numbers) ShortPairs read ≡ short)
    × (number_at (response_fields Fers numbers) FirstShort read ≡ first)
    × (number_at (response_fields Fers numbers) NewFuses read ≡ new)
ended_reads short first burns new response =
    let numbers = three_numbers short first new in
    (response_reads Fers numbers _ ShortPairs refl, response_reads Fers numbers _ FirstShort refl, response_reads Fers numbers _ NewFuses refl)

pub slot_reads : (slot : ActiveSlot) (response : List ℕ)
    → let e = status_of slot in
    (number_at (response_fields Fsta e.numbers) TheActiveSlot (response_after (Ok e) response) ≡ slot_number slot)
    × (number_at (response_fields Fsta e.numbers) HekAvailable (response_after (Ok e) response) ≡ hek_number slot)
slot_reads slot response =
    let numbers = two_numbers (slot_number slot) (hek_number slot) in
    (response_reads Fsta numbers _ TheActiveSlot refl, response_reads Fsta numbers _ HekAvailable refl)

-- ---- "the lowest that applies is given, and none is given otherwise"

module _ (image marks : List ℕ) (code : ℕ) (request : List ℕ) (room block : ℕ) (s : State) where
  abbrev call_tests : List (Bool × Refusal)
  call_tests = mailbox_tests image marks code request room block s

  abbrev call_done : Outcome (Result Effect Refusal) (List ℕ)
  call_done = accepted (command_of code) image marks request s

  pub mailbox_first : GivenFirst (refusing Err s.cells) call_tests call_done (done_of image marks code request room block s)
  unfolding done_of
  mailbox_first = given_first (refusing Err s.cells) call_done call_tests

  pub mailbox_lowest : GivenLowest (refusing Err s.cells) call_tests call_done (done_of image marks code request room block s)
  unfolding done_of
  mailbox_lowest = lowest_tells (refusing Err s.cells) call_done 1 call_tests (numbered_by (command_of code) image marks code request (lent_bad room block s.context) s).ascend

  -- and so does the reply
  told_by : reply_of (done_of image marks code request room block s).told ≡ first_of Err call_tests (reply_of call_done.told)
  unfolding done_of
  told_by = first_map (λ (d : Outcome (Result Effect Refusal) (List ℕ)). reply_of d.told) (refusing Err s.cells) call_tests call_done

  pub reply_first : GivenFirst Err call_tests (reply_of call_done.told) (reply_of (done_of image marks code request room block s).told)
  reply_first = subst (GivenFirst Err call_tests (reply_of call_done.told)) (sym told_by) (given_first Err (reply_of call_done.told) call_tests)

  pub reply_lowest : GivenLowest Err call_tests (reply_of call_done.told) (reply_of (done_of image marks code request room block s).told)
  reply_lowest =
      subst (GivenLowest Err call_tests (reply_of call_done.told)) (sym told_by)
      (lowest_tells Err (reply_of call_done.told) 1 call_tests (numbered_by (command_of code) image marks code request (lent_bad room block s.context) s).ascend)

  -- what holds of every refusal by the tests, none of which is 15, and of what an accepted call does, holds of what is done
  pub lent_elim : (P : Outcome (Result Effect Refusal) (List ℕ) → Type 0) → ((r : Refusal) → (number r ≡ 15 → ⊥) → P (refusing Err s.cells r))
      → (lent_bad room block s.context ≡ false → map_good image ≡ true → whole_arrays image s.cells marks ≡ true → known (command_of code) ≡ true
      → ((k : ℕ) → test_at (own_tests (command_of code) image request s) k ≡ false) → P call_done)
      → P (done_of image marks code request room block s)
  unfolding done_of request_tests
  lent_elim P by_test by_command =
      let numbered = numbered_by (command_of code) image marks code request (lent_bad room block s.context) s in
      first_elim P (refusing Err s.cells) call_tests call_done
      (λ r a. by_test r (λ e. not_numbered 15 call_tests numbered.not_15 r a e))
      -- two tests of the drive, one of what is lent besides, four of the request, then the command's own
      (λ none. by_command (none 2) (not-false _ (none 0)) (not-false _ (none 1)) (not-false _ (none 3)) (λ k. none (suc (suc (suc (suc (suc (suc (suc k)))))))))

  -- where the buffers and the table do not matter
  pub mailbox_elim : (P : Outcome (Result Effect Refusal) (List ℕ) → Type 0) → ((r : Refusal) → (number r ≡ 15 → ⊥) → P (refusing Err s.cells r))
      → (map_good image ≡ true → whole_arrays image s.cells marks ≡ true → known (command_of code) ≡ true
      → ((k : ℕ) → test_at (own_tests (command_of code) image request s) k ≡ false) → P call_done)
      → P (done_of image marks code request room block s)
  mailbox_elim P by_test by_command = lent_elim P by_test (λ _. by_command)

-- an accepted call is not refused
pub refused_not : {A : Type 0} {r : Refusal} {reply : Reply} → ◌≡◌ {A = Result Reply Refusal} (Err r) (Ok reply) → A
refused_not e = let z : ◌≡◌ {A = ℕ} 0 1 = cc in absurd (omega arith)

-- ---- FERS that ended: its partition is erased exactly when the response has no short pair or its first short cell is the indicator's, torn
-- otherwise

module _ (image marks request : List ℕ) (l : Lent) where
  abbrev p : ℕ
  p = partition_in request

  -- what a host reads of the response: the short pairs and the first short cell
  abbrev LeftAsRead : (response cells : List ℕ) → Type 0
  LeftAsRead response cells =
      let fields = response_fields Fers no_numbers in
      LeftBy (indicator_cell image p) (number_at fields ShortPairs response) (number_at fields FirstShort response) (survey_at image cells p)

  abbrev FersLeaves : Outcome (Result Effect Refusal) (List ℕ) → Type 0
  FersLeaves d = (reply : Reply) → reply_of d.told ≡ Ok reply → LeftAsRead (response_after d.told l.response) d.after

  read_back : (short first burns new : ℕ) (cells : List ℕ) → LeftBy (indicator_cell image p) short first (survey_at image cells p)
      → LeftAsRead (response_after (fers_of (Ok (Ended short first burns new))) l.response) cells
  read_back short first burns new cells h = let read = ended_reads short first burns new l.response in rw (read.0, read.1) h

  by_end : (end : End) (t : Tally) → LeftAs image p (answer_by end image p t) t.cells
      → FersLeaves (telling fers_of (outcome (answer_by end image p t) t.cells))
  by_end Whole t h reply e = read_back _ _ t.burns t.new _ h
  by_end Stopped t h reply e = refused_not e
  by_end CutEnd t h reply e = refused_not e

  pub fers_leaves : let o = mailbox_of image marks (code_of Fers) request l in
      (reply : Reply) → o.told ≡ Ok reply → LeftAsRead o.after.response o.after.state.cells
  fers_leaves =
      let s = l.state in
      mailbox_elim image marks (code_of Fers) request (length l.response) (length l.block) s FersLeaves
      (λ r _ reply e. refused_not e)
      (λ good arrays _ none.
      let r = run_on image s.cells marks p never 0 in
      by_end r.end r.tally
      (run_left_as image s.cells marks p never 0 (whole_by image s.cells marks good arrays)
      (leb-false _ _ (none 0)) (not-false _ (none 1)) r.end refl))

-- ---- an accepted KUNL: "KUNL finds a waiting or unsure tag but is refused on it"

-- a place that is to be unloaded is held, with this tag
abbrev OrdersHeld : Cache → (tag : ℕ) → Order → Type 0
OrdersHeld c tag Nothing = Unit {0}
OrdersHeld c tag (Clear timeout) = Unit {0}
OrdersHeld c tag (Load place timeout) = Unit {0}
OrdersHeld c tag (Unload place timeout) = place_at c place ≡ Held tag

abbrev UnloadsHeld : Cache → (tag : ℕ) → Result Reply Refusal → Type 0
UnloadsHeld c tag (Err refusal) = Unit {0}
UnloadsHeld c tag (Ok reply) = OrdersHeld c tag reply.order

module _ (image marks : List ℕ) (code : ℕ) (request : List ℕ) (l : Lent) where
  abbrev c : Cache
  c = cache_of l.state.context

  abbrev FindsHeld : Outcome (Result Effect Refusal) (List ℕ) → Type 0
  FindsHeld d = UnloadsHeld c (tag_at (request_fields Kunl) request) (reply_of d.told)

  -- FERS unloads nothing
  fers_no_unload : (answer : Told) (cells : List ℕ) → FindsHeld (outcome (fers_of answer) cells)
  fers_no_unload (Ok (Ended short first burns new)) cells = tt
  fers_no_unload (Err refused) cells = tt
  fers_no_unload (Ok (Cut burns new)) cells = tt

  finds_held : (command : Command) → known command ≡ true → ((k : ℕ) → test_at (own_tests command image request l.state) k ≡ false)
      → FindsHeld (accepted command image marks request l.state)
  finds_held Clkc k none = tt
  finds_held Klod k none = tt
  finds_held Kunl k none =
      let tag = tag_at (request_fields Kunl) request in
      let found = has_tells c (Tag tag) (not-false _ (none 0)) in
      held_place c (lowest_place c (Tag tag)) tag found.0 found.1
      (has_none c Waiting (neither (awaits c) (has_place c Waiting) (none 1)).1 _ found.0) (has_none c Unsure (none 2) _ found.0)
  finds_held Fers k none = let done = uncut_of image l.state.cells marks (partition_in request) in fers_no_unload done.told done.after
  finds_held Fsta k none = tt
  finds_held Ehdl k none = tt
  finds_held Rhpk k none = tt
  finds_held Unknown k none = absurd (false≢true k)

  -- the place that a call orders to unload is held, with the request's tag
  pub unload_held : (n place timeout : ℕ) → (mailbox_of image marks code request l).told ≡ Ok (record { length = n; order = Unload place timeout })
      → place_at c place ≡ Held (tag_at (request_fields Kunl) request)
  unload_held n place timeout e =
      subst (UnloadsHeld c (tag_at (request_fields Kunl) request)) e
      (mailbox_elim image marks code request (length l.response) (length l.block) l.state FindsHeld (λ _ _. tt)
      (λ _ _ k none. finds_held (command_of code) k none))
