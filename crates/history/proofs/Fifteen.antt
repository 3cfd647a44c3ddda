-- Request P4: "15 is given exactly when no indicator fuse is set after its burn". Here is the proof, of every call of every entry point.
-- That 15 leaves every cell is `refused_unchanged`, that it tells one burn `erasure` `burns_told`. Assumes nothing.
-- The definitions stand in specs/Fifteen.antt.
use Rattle.std.specs.Prelude.{ℕ, zero, suc, ◌≤◌, ◌<◌, ◌≡◌, ◌↔◌, List, [], length, Result}
use Rattle.std.proofs.Math.Path.{refl}
use Rattle.std.proofs.Common.{sym, ap, subst, ◌∙◌, ⊎_elim, arith, ne_eqb, leb-false}
use Rattle.std.proofs.lemmas.Bool.{not-false}
use Rattle.refusal.specs.Numbers.{number, not_0}
use Rattle.refusal.specs.Refusals.{first_elim, not_numbered}
use Rattle.refusal.specs.declared.Refusal.{Refusal}
use Rattle.context.specs.State.{State, Outcome, outcome, refusing}
use Rattle.map.specs.Map.{header_of}
use Rattle.burns.specs.declared.End.{End}
use Rattle.burns.specs.declared.End.TheVariants.{Whole, Stopped, Cut as CutEnd}
use Rattle.burns.specs.Run.{Tally, order, burns_of}
use Rattle.burns.proofs.Cells.{stopped_not_whole, cut_not_stopped}
use Rattle.drive.specs.Drive.{Whole as WholeDrive}
use Rattle.erasure.specs.Erasure.{Told as Erasure, erase_tests, never, run_on, answer_by, unburned, burning, erase_of}
use Rattle.erasure.proofs.Cuts.{uncut_judged, whole_by}
use Rattle.erasure.specs.Ends.{NoneSet}
use Rattle.erasure.proofs.Ends.{stops_exactly}
use Rattle.codec.specs.declared.Command.TheVariants.{Fers}
use Rattle.codec.specs.Fields.{code_of, command_of}
use Rattle.codec.proofs.Laws.{code_of_lem}
use Rattle.mailbox.specs.declared.effects.Effect.{Effect}
use Rattle.mailbox.proofs.Laws.{fers_or_plain}
use Rattle.mailbox.proofs.Told.{mailbox_elim}
use Rattle.mailbox.specs.Mailbox.{fers_of, partition_in, accepted, done_of, reply_of, Lent, lent, mailbox_of}
use Rattle.history.specs.Calls.{Call, Direct, Erase, EraseCut, Mailbox, TakeReply, MakeTable, Restart, Erasing, Replying, refusal}
use Rattle.mailbox.specs.declared.Reply.{Reply}
use Rattle.history.proofs.Refused.{done_not, replying_number, direct_stays, reply_stays, making_stays}
use Rattle.history.specs.Fifteen.{NoOther, Fifteen}

-- ---- its proof

module _ (image marks : List ℕ) (s : State) where
  -- ---- the erasures

  abbrev Exactly : (i : ℕ) → Erasure → Type 0
  Exactly i answer = NoOther (refusal (Erasing answer)) → (refusal (Erasing answer) ≡ 15) ↔ NoneSet image s.cells marks i

  run_exactly : (i k mask : ℕ) → 1 ≤ k → WholeDrive image s.cells → i < (header_of image).partitions → (end : End)
      → (run_on image s.cells marks i k mask).end ≡ end → Exactly i (answer_by end image i (run_on image s.cells marks i k mask).tally)
  run_exactly i k mask first whole l Whole e o =
      ((λ z. absurd (omega arith)), λ none. absurd (stopped_not_whole (sym ((stops_exactly image s.cells marks i k mask whole l first).1 none) ∙ e)))
  run_exactly i k mask first whole l Stopped e o = ((λ z. (stops_exactly image s.cells marks i k mask whole l first).0 e), λ none. refl)
  run_exactly i k mask first whole l CutEnd e o =
      ((λ z. absurd (omega arith)), λ none. absurd (cut_not_stopped (sym e ∙ (stops_exactly image s.cells marks i k mask whole l first).1 none)))

  erase_exactly : (i k mask : ℕ) → 1 ≤ k → Exactly i (erase_of image marks i k mask s).told
  unfolding erase_of
  erase_exactly i k mask first =
      let tests = erase_tests image marks i s in
      first_elim (λ (o : Outcome Erasure State). Exactly i o.told) (refusing unburned s) tests (burning image marks i k mask s)
      (λ n a o.
      absurd (⊎_elim (λ (z : number n ≡ 0). not_numbered 0 tests refl n a z)
      (λ (z : number n ≡ 15). not_numbered 15 tests refl n a z) o))
      (λ none. run_exactly i k mask first (whole_by image s.cells marks (not-false _ (none 0)) (not-false _ (none 1))) (leb-false _ _ (none 2))
      (run_on image s.cells marks i k mask).end refl)

  -- one that is cut in its first burn is not refused with 15
  cut_first : (i mask : ℕ) → refusal (Erasing (erase_of image marks i 0 mask s).told) ≡ 15 → ⊥
  unfolding erase_of run_on burns_of order
  cut_first i mask =
      let tests = erase_tests image marks i s in
      first_elim (λ (o : Outcome Erasure State). refusal (Erasing o.told) ≡ 15 → ⊥) (refusing unburned s) tests (burning image marks i 0 mask s)
      (λ n a z. not_numbered 15 tests refl n a z)
      (λ none z. omega arith)

  cut_later : (i k mask : ℕ) → refusal (Erasing (erase_of image marks i k mask s).told) ≡ 15 → 1 ≤ k
  cut_later i zero mask z = absurd (cut_first i mask z)
  cut_later i (suc k) mask z = omega arith

  -- ---- FERS

  abbrev number_told : Outcome (Result Effect Refusal) (List ℕ) → ℕ
  number_told d = refusal (Replying (reply_of d.told) [])

  fers_exactly : (p : ℕ) (end : End) → (end ≡ CutEnd → ⊥) → (t : Tally) (cells : List ℕ) → Exactly p (answer_by end image p t)
      → NoOther (number_told (outcome (fers_of (answer_by end image p t)) cells))
      → (number_told (outcome (fers_of (answer_by end image p t)) cells) ≡ 15) ↔ NoneSet image s.cells marks p
  fers_exactly p Whole u t cells h o = h o
  fers_exactly p Stopped u t cells h o = h o
  fers_exactly p CutEnd u t cells h o = absurd (u refl)

  mailbox_exactly : (request : List ℕ) (room block : ℕ) → let d = done_of image marks (code_of Fers) request room block s in
      NoOther (number_told d) → (number_told d ≡ 15) ↔ NoneSet image s.cells marks (partition_in request)
  mailbox_exactly request room block =
      let p = partition_in request in
      mailbox_elim image marks (code_of Fers) request room block s (λ d. NoOther (number_told d) → (number_told d ≡ 15) ↔ NoneSet image s.cells marks p)
      (λ r not_15 o. absurd (⊎_elim (λ z. let least = not_0 r in omega arith) not_15 o))
      (λ good arrays _ none.
      let r = run_on image s.cells marks p never 0 in
      let whole = whole_by image s.cells marks good arrays in
      let within = leb-false _ _ (none 0) in
      fers_exactly p r.end (uncut_judged image s.cells p whole within marks 0) r.tally r.tally.cells
      (run_exactly p never 0 (omega arith) whole within r.end refl))

  only_fers : (code : ℕ) (request : List ℕ) (room block : ℕ) → number_told (done_of image marks code request room block s) ≡ 15 → code ≡ code_of Fers
  only_fers code request room block =
      mailbox_elim image marks code request room block s (λ d. number_told d ≡ 15 → code ≡ code_of Fers)
      (λ _ not_15 z. absurd (not_15 z))
      (λ _ _ k _ z.
      ⊎_elim (λ (e : command_of code ≡ Fers). code_of_lem code k ∙ ap code_of e)
      (λ plain. absurd (omega (arith, done_not (accepted (command_of code) image marks request s).told plain.0)))
      (fers_or_plain (command_of code) image marks request s k))

-- ---- every call

pub fifteen : (image marks : List ℕ) (s : State) (call : Call) → Fifteen image marks call s
fifteen image marks s (Direct command) = record {
  exactly = λ i e. absurd e;
  only = λ z. absurd ((direct_stays image marks s command (omega arith)).1 z);
}
fifteen image marks s (Erase j) = record {
  exactly = λ i e. rw (← e) (erase_exactly image marks s j never 0 (omega arith));
  only = λ z. (j, refl);
}
fifteen image marks s (EraseCut j k mask) = record {
  exactly = λ i e. rw (← e.0) (erase_exactly image marks s j k mask e.1);
  only = λ z. (j, (refl, cut_later image marks s j k mask z));
}
fifteen image marks s (Mailbox code request response block) = record {
  exactly = λ i e.
      let fers : Outcome (Result Reply Refusal) Lent = mailbox_of image marks (code_of Fers) request (lent s response block) in
      rw (e.0, ← e.1)
      (subst (λ (n : ℕ). NoOther n → (n ≡ 15) ↔ NoneSet image s.cells marks (partition_in request)) (sym (replying_number fers))
      (mailbox_exactly image marks s request (length response) (length block)));
  only = λ z. (
    partition_in request,
    (
      only_fers image marks s code request (length response) (length block)
          (sym (replying_number (mailbox_of image marks code request (lent s response block))) ∙ z),
      refl,
    ),
  );
}
fifteen image marks s (TakeReply reply) = record {
  exactly = λ i e. absurd e;
  only = λ z. absurd ((reply_stays image marks s reply (omega arith)).1 z);
}
fifteen image marks s (MakeTable handles algorithms) = record {
  exactly = λ i e. absurd e;
  only = λ z. absurd ((making_stays image marks s handles algorithms (omega arith)).1 z);
}
fifteen image marks s Restart = record { exactly = λ i e. absurd e; only = λ z. absurd (omega arith) }
