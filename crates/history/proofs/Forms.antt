-- Demand 3, what its proof rests on: an attempt is refused by tests that read no fuse, or it is a run over the partition (`Form`); so what
-- it does is the same from every state that a history reaches. Here for the erasure and the cut erasure. Assumes nothing.
-- The definitions stand in specs/Forms.antt.
use Rattle.std.specs.Prelude.{ℕ, ◌≤◌, ◌<◌, ◌≡◌, Bool, true, false, List, [], Ok, Err}
use Rattle.std.proofs.Math.Path.{refl, ap}
use Rattle.std.proofs.Common.{sym, subst, ◌∙◌, arith}
use Rattle.std.proofs.Math.Logic.{⊎_elim}
use borrow.Author.Tests.{not-false, leb-false}
use Rattle.laws.specs.Tests.{decided}
use Rattle.refusal.specs.Refusals.{first_of, any_applies, any_refuses, none_accepts, not_numbered, applies_least, the_first, first_applies}
use Rattle.refusal.specs.declared.Refusal.{Refusal}
use Rattle.refusal.specs.declared.Refusal.TheVariants.{BadMap}
use Rattle.context.specs.State.{State, Outcome, refusing}
use Rattle.map.specs.Map.{header_of, entry_of, zeroizable, map_good}
use Rattle.drive.specs.Drive.{Whole as WholeDrive, whole_arrays}
use Rattle.cache.specs.Cache.{cache_of, busy, emptied}
use Rattle.cache.proofs.Laws.{emptied_rest, rest_idle}
use Rattle.handles.specs.Handles.{table_of}
use Rattle.burns.specs.declared.End.{End}
use Rattle.burns.specs.declared.End.TheVariants.{Stopped, Cut as CutEnd}
use Rattle.burns.specs.Run.{Tally, Ran}
use Rattle.erasure.specs.declared.Answer.TheVariants.{Ended, Cut}
use Rattle.erasure.specs.Erasure.{Told as Erasure, run_on, answer_by, ran_of, unburned, erase_tests, burning, erase_of}
use Rattle.erasure.proofs.Cuts.{past_order, whole_by}
use Rattle.history.specs.Calls.{occupied, Call, Direct, Erase, EraseCut, Mailbox, TakeReply, MakeTable, Restart, Told, Erasing, told, refusal}
use Rattle.history.proofs.Kept.{emptied_table}
use Rattle.history.specs.Demand3.{Uncut, with_buffers, SameLengths, numberless, compared}
use Rattle.history.specs.Forms.{Does, DoesAll, Quiet, quiet}

-- a call as it was lent: with its own buffers
record Own (call : Call) : Type 0 where
  response : List ℕ
  block : List ℕ
  same : SameLengths call response block
  is : with_buffers call response block ≡ call

own : (call : Call) → Own call
own (Direct command) = record { response = []; block = []; same = tt; is = refl }
own (Erase i) = record { response = []; block = []; same = tt; is = refl }
own (EraseCut i k mask) = record { response = []; block = []; same = tt; is = refl }
own (Mailbox code request response block) = record { response = response; block = block; same = (refl, refl); is = refl }
own (TakeReply reply) = record { response = []; block = []; same = tt; is = refl }
own (MakeTable handles algorithms) = record { response = []; block = []; same = tt; is = refl }
own Restart = record { response = []; block = []; same = tt; is = refl }

-- so with its own
pub as_lent : (image marks : List ℕ) (call : Call) (s : State) {t : Told} {c : List ℕ} → DoesAll image marks call s t c → Does image marks call s t c
as_lent image marks call s {t} {c} f =
    let o = own call in
    subst (λ (x : Call). Does image marks x s t c) o.is (f o.response o.block o.same)

-- so the tests on arrays, places, the awaited reply and the table say the same there
pub arrays_same : (image marks : List ℕ) (start s : State) → Quiet start s → whole_arrays image s.cells marks ≡ whole_arrays image start.cells marks
unfolding whole_arrays
arrays_same image marks start s q = rw q.long

pub places_same : (start s : State) → Quiet start s → occupied s ≡ occupied (quiet start)
places_same start s q = q.rest.all_empty ∙ sym (emptied_rest start.context).all_empty

pub busy_same : (start s : State) → Quiet start s → busy (cache_of s.context) ≡ busy (cache_of (emptied start.context))
busy_same start s q =
    rest_idle (cache_of s.context) q.rest ∙ sym (rest_idle (cache_of (emptied start.context)) (emptied_rest start.context))

pub table_same : (start s : State) → Quiet start s → table_of s.context ≡ table_of (emptied start.context)
table_same start s q = q.table ∙ sym (emptied_table start.context)

module _ (image marks : List ℕ) (i : ℕ) (start : State) where
  -- nothing refuses an erasure before its run
  pub record Ready : Type 0 where
    pub good : map_good image ≡ true
    pub arrays : whole_arrays image start.cells marks ≡ true
    pub partition : i < (header_of image).partitions
    pub may : zeroizable (entry_of image i) ≡ true

  pub whole_at : Ready → (s : State) → Quiet start s → WholeDrive image s.cells
  whole_at ready s q = whole_by image s.cells marks ready.good (arrays_same image marks start s q ∙ ready.arrays)

  -- the run of an attempt from a state
  abbrev pub run_from : (k mask : ℕ) → State → Ran
  run_from k mask s = run_on image s.cells marks i k mask

  -- what an attempt does, from all such states and with all buffers of its lengths
  pub data Form (call : Call) : Type 0 where
    -- it is refused, and the cells stay
    refuses : (t : Told) → 1 ≤ refusal t → (refusal t ≡ 15 → ⊥)
        → ((s : State) → Quiet start s → DoesAll image marks call s t s.cells)
        → Form call
    -- it is a run, tells what the run answers, of which the number is not compared, and is cut only if the call is
    runs : (k mask : ℕ) (tell : Erasure → Told) → Ready → ((answer : Erasure) → compared (tell answer) ≡ compared (tell (numberless answer)))
        → ((t : Tally) → refusal (tell (answer_by Stopped image i t)) ≡ 15)
        → ((s : State) → Quiet start s → Uncut image marks call s → (run_from k mask s).end ≡ CutEnd → ⊥)
        → ((s : State) → Quiet start s → DoesAll image marks call s (tell (ran_of image i (run_from k mask s)).told) (run_from k mask s).tally.cells)
        → Form call

  -- ---- the erasure and the cut erasure

  erased_compared : (answer : Erasure) → compared (Erasing answer) ≡ compared (Erasing (numberless answer))
  erased_compared (Ok (Ended short first burns new)) = refl
  erased_compared (Ok (Cut burns new)) = refl
  erased_compared (Err refused) = refl

  module _ (k mask : ℕ) where
    abbrev erasing : State → Outcome Erasure State
    erasing s = erase_of image marks i k mask s

    start_tests : List (Bool × Refusal)
    start_tests = erase_tests image marks i (quiet start)

    by_tests : (s : State) → Quiet start s → erasing s ≡ first_of (refusing unburned s) start_tests (burning image marks i k mask s)
    unfolding erase_of start_tests
    by_tests s q = rw (arrays_same image marks start s q, places_same start s q)

    -- of a call that is this erasure, and uncut only if the run is
    pub erase_form : (call : Call)
        → ((s : State) (response block : List ℕ) → Does image marks (with_buffers call response block) s (Erasing (erasing s).told) (erasing s).after.cells)
        → (Ready → (s : State) → Quiet start s → told image marks call s ≡ Erasing (ran_of image i (run_from k mask s)).told
        → Uncut image marks call s → (run_from k mask s).end ≡ CutEnd → ⊥)
        → Form call
    unfolding start_tests
    erase_form call is uncut =
        ⊎_elim
        (λ (y : any_applies start_tests ≡ true).
        let r = the_first start_tests in
        let applies = first_applies start_tests y in
        refuses (Erasing (unburned r)) (applies_least 1 start_tests refl r applies) (λ e. not_numbered 15 start_tests refl r applies e)
        (λ s q response block l.
        let e : erasing s ≡ refusing unburned s r = by_tests s q ∙ any_refuses (refusing unburned s) (burning image marks i k mask s) start_tests y in
        ((is s response block).0 ∙ ap (λ (o : Outcome Erasure State). Erasing o.told) e, (is s response block).1 ∙ ap (λ (o : Outcome Erasure State). o.after.cells) e)))
        (λ (o : any_applies start_tests ≡ false).
        let none = (none_accepts (λ r. r) BadMap start_tests o).none in
        let ready : Ready = record { good = not-false _ (none 0); arrays = not-false _ (none 1); partition = leb-false _ _ (none 2); may = not-false _ (none 3) } in
        let did : (s : State) → Quiet start s → DoesAll image marks call s (Erasing (ran_of image i (run_from k mask s)).told) (run_from k mask s).tally.cells
        = λ s q response block l.
        (let e : erasing s ≡ burning image marks i k mask s = by_tests s q ∙ (none_accepts (refusing unburned s) (burning image marks i k mask s) start_tests o).is in
        ((is s response block).0 ∙ ap (λ (o : Outcome Erasure State). Erasing o.told) e, (is s response block).1 ∙ ap (λ (o : Outcome Erasure State). o.after.cells) e)) in
        runs k mask Erasing ready erased_compared (λ t. refl) (λ s q u. uncut ready s q (as_lent image marks call s (did s q)).0 u) did)
        (decided (any_applies start_tests))

-- a cut erasure that is uncut is not cut: what is refused was not cut, and no run is cut past its order
pub cut_uncut : (image marks : List ℕ) (i : ℕ) (start : State) (k mask : ℕ) → Ready image marks i start → (s : State) → Quiet start s
    → told image marks (EraseCut i k mask) s ≡ Erasing (ran_of image i (run_on image s.cells marks i k mask)).told → Uncut image marks (EraseCut i k mask) s
    → (run_on image s.cells marks i k mask).end ≡ CutEnd → ⊥
cut_uncut image marks i start k mask ready s q t u e =
    let r = run_on image s.cells marks i k mask in
    let told_cut : refusal (told image marks (EraseCut i k mask) s) ≡ 0 = ap refusal t ∙ ap (λ (end : End). refusal (Erasing (answer_by end image i r.tally))) e in
    ⊎_elim (λ (l : 1 ≤ refusal (told image marks (EraseCut i k mask) s)). omega arith)
    (λ past. past_order image s.cells i (whole_at image marks i start ready s q) ready.partition marks k mask past e) u
