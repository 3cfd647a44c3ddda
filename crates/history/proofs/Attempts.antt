-- Demand 3: every attempt has its form, FERS too, and each leaves all places empty, no reply awaited and the table. Assumes nothing.
-- The definitions stand in specs/Attempts.antt.
use Rattle.std.specs.Prelude.{ℕ, ◌≤◌, ◌≡◌, Bool, true, false, cond, List, [], eqb, length, take, Result, Ok, Err}
use Rattle.std.proofs.Math.Path.{refl, subst}
use Rattle.std.proofs.Common.{sym, ap, ◌∙◌, arith, take_at}
use Rattle.std.proofs.Math.Logic.{⊎_elim}
use borrow.Author.Tests.{not-false, leb-false, ne_eqb}
use Rattle.laws.specs.Tests.{decided, cond_keeps}
use Rattle.refusal.specs.Refusals.{first_of, first_elim, any_applies, any_refuses, none_accepts, not_numbered, applies_least, the_first, first_applies}
use Rattle.refusal.specs.declared.Refusal.{Refusal}
use Rattle.refusal.specs.declared.Refusal.TheVariants.{BadMap}
use Rattle.context.specs.State.{State, Outcome, outcome, refusing}
use Rattle.cache.specs.Cache.{cache_of, AtRest, emptied}
use Rattle.cache.proofs.Laws.{emptied_rest}
use Rattle.burns.specs.declared.End.{End}
use Rattle.burns.specs.declared.End.TheVariants.{Whole, Stopped, Cut as CutEnd}
use Rattle.burns.specs.Run.{Tally}
use Rattle.erasure.specs.declared.Answer.TheVariants.{Ended, Cut}
use Rattle.erasure.specs.Erasure.{Told as Erasure, never, run_on, answer_by, erase_of, uncut_of, is_cut}
use Rattle.erasure.proofs.Cuts.{uncut_judged}
use Rattle.codec.specs.declared.Command.TheVariants.{Fers}
use Rattle.codec.specs.Fields.{code_of, response_fields, length_of, response_of, response_in}
use Rattle.codec.specs.Request.{request_tests}
use Rattle.codec.proofs.Laws.{response_long}
use Rattle.mailbox.specs.declared.effects.Effect.{Effect}
use Rattle.mailbox.proofs.Laws.{fers_context}
use Rattle.mailbox.specs.Mailbox.{fers_of, partition_in, accepted, mailbox_tests, done_of, context_after, response_after, reply_of, Lent, lent, written_out}
use Rattle.history.specs.Calls.{Call, Direct, Erase, EraseCut, Mailbox, TakeReply, MakeTable, Restart, Told, Replying, length_in, replying, refusal, after}
use Rattle.history.specs.Demand3.{Attempt, with_buffers, SameLengths, numberless, compared}
use Rattle.history.proofs.Kept.{erase_leaves, emptied_table}
use Rattle.history.specs.Forms.{Does, Quiet, quiet}
use Rattle.history.proofs.Forms.{arrays_same, places_same, busy_same, table_same, Ready, whole_at, Form, refuses, runs, erase_form, cut_uncut}
use Rattle.history.specs.Attempts.{Rested}

-- ---- FERS, on the partition p that its request names

-- what an effect tells: its reply, and the response by its list, whatever the buffer held; a refusal has no response
abbrev pub effect_tells : Result Effect Refusal → Told
effect_tells (Ok e) = Replying (reply_of (Ok e)) (response_of e.command e.numbers)
effect_tells (Err r) = Replying (Err r) []

shown : (e : Result Effect Refusal) (response : List ℕ) → Replying (reply_of e) (take (length_in (reply_of e)) (response_after e response)) ≡ effect_tells e
shown (Ok e) response = ap (Replying (reply_of (Ok e))) (take_at (response_of e.command e.numbers) _ _ (response_long e.command e.numbers))
shown (Err r) response = refl

-- past the tests it is refused with 15 or not at all
fers_late : (image : List ℕ) (i : ℕ) (t : Tally) (end : End) → refusal (effect_tells (fers_of (answer_by end image i t))) ≤ 6
    → 1 ≤ refusal (effect_tells (fers_of (answer_by end image i t))) → ⊥
fers_late image i t Whole l m = omega arith
fers_late image i t Stopped l m = omega arith
fers_late image i t CutEnd l m = omega arith

-- its number is not compared
fers_compared : (answer : Erasure) → compared (effect_tells (fers_of answer)) ≡ compared (effect_tells (fers_of (numberless answer)))
fers_compared (Ok (Ended short first burns new)) = refl
fers_compared (Ok (Cut burns new)) = refl
fers_compared (Err refused) = refl

module _ (image marks : List ℕ) (start : State) (request response block : List ℕ) where
  abbrev call : Call
  call = Mailbox (code_of Fers) request response block

  abbrev p : ℕ
  p = partition_in request

  abbrev doing : State → (response' block' : List ℕ) → Outcome (Result Effect Refusal) (List ℕ)
  doing s response' block' = done_of image marks (code_of Fers) request (length response') (length block') s

  -- what it does where no test applies
  abbrev erased : State → Outcome (Result Effect Refusal) (List ℕ)
  erased s = accepted Fers image marks request s

  fers_tests : List (Bool × Refusal)
  fers_tests = mailbox_tests image marks (code_of Fers) request (length response) (length block) (quiet start)

  module _ (s : State) (q : Quiet start s) (response' block' : List ℕ) (l : SameLengths call response' block') where
    by_fers : doing s response' block' ≡ first_of (refusing Err s.cells) fers_tests (erased s)
    unfolding done_of fers_tests
    by_fers = rw (l.0, l.1, arrays_same image marks start s q, table_same start s q, places_same start s q, busy_same start s q)

    -- what is told and left, by what was done
    fers_told : {d : Outcome (Result Effect Refusal) (List ℕ)} {t : Told} → doing s response' block' ≡ d → (replying (written_out request (lent s response' block') d)).told ≡ t
        → Does image marks (with_buffers call response' block') s t d.after
    fers_told e f =
        (ap (λ (d : Outcome (Result Effect Refusal) (List ℕ)). (replying (written_out request (lent s response' block') d)).told) e ∙ f, ap (λ (d : Outcome (Result Effect Refusal) (List ℕ)). d.after) e)

    fers_refused : any_applies fers_tests ≡ true → Does image marks (with_buffers call response' block') s (Replying (Err (the_first fers_tests)) []) s.cells
    fers_refused y = fers_told (by_fers ∙ any_refuses (refusing Err s.cells) (erased s) fers_tests y) refl

    fers_runs : any_applies fers_tests ≡ false
        → let o = uncut_of image s.cells marks p in Does image marks (with_buffers call response' block') s (effect_tells (fers_of o.told)) o.after
    fers_runs o =
        fers_told (by_fers ∙ (none_accepts (refusing Err s.cells) (erased s) fers_tests o).is)
        (shown (fers_of (uncut_of image s.cells marks p).told) response')

  -- a request that passes the tests names the partition, since what refuses it then is 15
  fers_named : (i : ℕ) (s : State) → Quiet start s → any_applies fers_tests ≡ false → Attempt image marks i call s → p ≡ i
  fers_named i s q o a =
      ⊎_elim (λ e. e)
      (λ early.
      let e = ap refusal (fers_runs s q response block (refl, refl) o).0 in
      absurd (fers_late image p _ (run_on image s.cells marks p never 0).end (rw e at early.1) (rw e at early.0)))
      a.1

  fers_form : (i : ℕ) (s : State) → Quiet start s → Attempt image marks i call s → Form image marks i start call
  unfolding fers_tests request_tests
  fers_form i s q a =
      ⊎_elim
      (λ (y : any_applies fers_tests ≡ true).
      let r = the_first fers_tests in
      let applies = first_applies fers_tests y in
      refuses (Replying (Err r) []) (applies_least 1 fers_tests refl r applies) (λ e. not_numbered 15 fers_tests refl r applies e)
      (λ s q response' block' l. fers_refused s q response' block' l y))
      (λ (o : any_applies fers_tests ≡ false).
      let none = (none_accepts (λ r. r) BadMap fers_tests o).none in
      let ready : Ready image marks p start = record { good = not-false _ (none 0); arrays = not-false _ (none 1); partition = leb-false _ _ (none 7); may = not-false _ (none 8) } in
      subst (λ (j : ℕ). Form image marks j start call) (fers_named i s q o a)
      (runs never 0 (λ answer. effect_tells (fers_of answer)) ready fers_compared (λ t. refl) (λ s q u e. uncut_judged image s.cells p (whole_at image marks p start ready s q) ready.partition marks 0 e)
      (λ s q response' block' l. fers_runs s q response' block' l o)))
      (decided (any_applies fers_tests))

-- ---- every attempt

pub form : (image marks : List ℕ) (i : ℕ) (start : State) (call : Call) (s : State) → Quiet start s → Attempt image marks i call s → Form image marks i start call
form image marks i start (Direct command) s q a = absurd a
form image marks i start (Erase j) s q a =
    subst (λ (j : ℕ). Form image marks i start (Erase j)) (sym a)
    (erase_form image marks i start never 0 (Erase i) (λ s response block. (refl, refl))
    (λ ready s q t u e. uncut_judged image s.cells i (whole_at image marks i start ready s q) ready.partition marks 0 e))
form image marks i start (EraseCut j k mask) s q a =
    subst (λ (j : ℕ). Form image marks i start (EraseCut j k mask)) (sym a)
    (erase_form image marks i start k mask (EraseCut i k mask) (λ s response block. (refl, refl)) (cut_uncut image marks i start k mask))
form image marks i start (Mailbox code request response block) s q a = by code a.0 a
  where
    by : (code : ℕ) → code ≡ code_of Fers → Attempt image marks i (Mailbox code request response block) s → Form image marks i start (Mailbox code request response block)
    by code e a =
        subst (λ (code : ℕ). Form image marks i start (Mailbox code request response block)) (sym e)
        (fers_form image marks start request response block i s q (subst (λ (code : ℕ). Attempt image marks i (Mailbox code request response block) s) e a))
form image marks i start (TakeReply reply) s q a = absurd a
form image marks i start (MakeTable handles algorithms) s q a = absurd a
form image marks i start Restart s q a = absurd a

rest_erased : (image marks : List ℕ) (i k mask : ℕ) (s : State) → AtRest (cache_of s.context)
    → Rested s.context (erase_of image marks i k mask s).after.context
rest_erased image marks i k mask s h = subst (Rested s.context) (sym (erase_leaves image marks s i k mask)) (record { rest = h; table = refl })

pub rest_after : (image marks : List ℕ) (i : ℕ) (call : Call) (s : State) → Attempt image marks i call s → AtRest (cache_of s.context)
    → Rested s.context (after image marks call s).context
unfolding done_of
rest_after image marks i (Direct command) s a h = absurd a
rest_after image marks i (Erase j) s a h = rest_erased image marks j never 0 s h
rest_after image marks i (EraseCut j k mask) s a h =
    let o = erase_of image marks j k mask s in
    let kept = rest_erased image marks j k mask s h in
    cond_keeps (Rested s.context) (is_cut o.told) (emptied o.after.context) o.after.context
    (λ _. record { rest = emptied_rest o.after.context; table = emptied_table o.after.context ∙ kept.table }) (λ _. kept)
rest_after image marks i (Mailbox code request response block) s a h = by code a.0
  where
    by : (code : ℕ) → code ≡ code_of Fers → Rested s.context (after image marks (Mailbox code request response block) s).context
    by code e =
        rw e
        (first_elim (λ (d : Outcome (Result Effect Refusal) (List ℕ)). Rested s.context (context_after d.told s.context))
        (refusing Err s.cells) (mailbox_tests image marks (code_of Fers) request (length response) (length block) s) (accepted Fers image marks request s)
        (λ n _. record { rest = h; table = refl })
        (λ none. rw (fers_context (uncut_of image s.cells marks (partition_in request)).told s.context) (record { rest = h; table = refl })))
rest_after image marks i (TakeReply reply) s a h = absurd a
rest_after image marks i (MakeTable handles algorithms) s a h = absurd a
rest_after image marks i Restart s a h = absurd a
