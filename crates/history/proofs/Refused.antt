-- Demand 1: "a refusal changes nothing", of every entry point and every number. Document 01 had one exception, 15, which left its indicator
-- burned; since request P4 it has nothing to leave, and `Fifteen` says when it is given. Assumes nothing.
-- The definitions stand in specs/Refused.antt.
use Rattle.std.specs.Prelude.{ℕ, suc, ◌-◌, ◌≤◌, ◌<◌, ◌≡◌, Bool, true, false, List, [], length, eqb, take, Option, Some, None, Result, Ok, Err, ⊤, is_ok}
use Rattle.std.proofs.Math.Path.{refl}
use Rattle.std.proofs.Common.{sym, ap, subst, ⊎_elim, arith, ne_eqb, leb-false}
use Rattle.std.proofs.lemmas.Bool.{false≢true, not-false}
use Rattle.laws.specs.Tests.{cond_keeps}
use Rattle.refusal.specs.Refusals.{first_elim, test_at, not_numbered}
use Rattle.refusal.specs.declared.Refusal.{Refusal}
use Rattle.context.specs.State.{State, with_cells, with_context, Outcome, outcome, refusing}
use Rattle.map.specs.declared.Entry.{Entry}
use Rattle.map.specs.Map.{header_of, secret, map_good}
use Rattle.fuse.specs.Fuse.{short}
use Rattle.burns.specs.declared.End.{End}
use Rattle.burns.specs.declared.End.TheVariants.{Whole, Stopped, Cut as CutEnd}
use Rattle.burns.specs.Run.{Tally}
use Rattle.word.specs.declared.Word.{Word as Found}
use Rattle.word.specs.Word.{word_at}
use Rattle.drive.specs.Drive.{Whole as WholeDrive, whole_arrays}
use Rattle.direct.specs.declared.Command.{Command}
use Rattle.direct.specs.declared.Command.TheVariants.{Read, Write, Zeroize}
use Rattle.direct.specs.declared.Answer.{Answer as DirectAnswer}
use Rattle.direct.specs.declared.Answer.TheVariants.{Word, Burned, Done, Withheld}
use Rattle.direct.specs.Direct.{cell_of, direct_tests, carried_out, answer_of, direct_by, direct_of}
use Rattle.direct.proofs.Laws.{direct_at}
use Rattle.erasure.specs.Erasure.{Told as Erasure, erase_tests, never, run_on, answer_by, unburned, burning, erase_of, is_cut}
use Rattle.erasure.proofs.Cuts.{uncut_judged, whole_by}
use Rattle.erasure.proofs.Ends.{stops_same}
use Rattle.codec.specs.declared.Command.{Command as Code}
use Rattle.codec.specs.declared.Command.TheVariants.{Fers}
use Rattle.codec.specs.Fields.{command_of, known, response_fields, length_of}
use Rattle.mailbox.specs.declared.effects.Effect.{Effect}
use Rattle.mailbox.specs.declared.Reply.{Reply}
use Rattle.mailbox.proofs.Laws.{fers_or_plain}
use Rattle.mailbox.proofs.Told.{mailbox_elim}
use Rattle.mailbox.specs.Mailbox.{fers_of, partition_in, accepted, own_tests, done_of, reply_of, state_after, response_after, block_left, Lent, lent, mailbox_of}
use Rattle.handles.specs.Making.{making_of}
use Rattle.handles.specs.Laws.{making_elim}
use Rattle.engine.specs.declared.EngineReply.{EngineReply}
use Rattle.reply.specs.Reply.{taking_of}
use Rattle.reply.specs.Laws.{reply_elim}
use Rattle.history.specs.Calls.{Call, Direct, Erase, EraseCut, Mailbox, TakeReply, MakeTable, Restart}
use Rattle.history.specs.Calls.{Answering, Erasing, Replying, Taking, Making, length_in, replying, refusal}
use Rattle.history.specs.Refused.{Unchanged}

-- a direct command that is carried out is not refused
carried_answers : (command : Command) (x : Entry) (wide : Bool) (bound word new : ℕ) → refusal (Answering (Ok (answer_of command x wide bound word new))) ≡ 0
carried_answers command x wide bound word new = refl

not_refused : (command : Command) (x : Entry) (wide : Bool) (bound word new : ℕ) → 1 ≤ refusal (Answering (Ok (answer_of command x wide bound word new))) → ⊥
not_refused command x wide bound word new l = omega (arith, carried_answers command x wide bound word new)

-- what is done and told is no refusal
pub done_not : (d : Result Effect Refusal) → is_ok d ≡ true → refusal (Replying (reply_of d) []) ≡ 0
done_not (Ok e) k = refl
done_not (Err r) k = absurd (false≢true k)

-- a reply's number is the same whatever bytes stand beside it
number_of_reply : (r : Result Reply Refusal) (bytes : List ℕ) → refusal (Replying r bytes) ≡ refusal (Replying r [])
number_of_reply (Ok reply) bytes = refl
number_of_reply (Err r) bytes = refl

pub replying_number : (o : Outcome (Result Reply Refusal) Lent) → refusal (replying o).told ≡ refusal (Replying o.told [])
replying_number o = number_of_reply o.told (take (length_in o.told) o.after.response)

module _ (image marks : List ℕ) (s : State) where
  -- a refused direct command leaves the state, and 15 is none of its refusals
  abbrev pub DirectStays : Outcome (Result DirectAnswer Refusal) State → Type 0
  DirectStays o = 1 ≤ refusal (Answering o.told) → (o.after ≡ s) × (refusal (Answering o.told) ≡ 15 → ⊥)

  by_lookup : (command : Command) (found : Option Found) → DirectStays (direct_by found image marks command s)
  unfolding carried_out
  by_lookup command None =
      let tests = direct_tests None command image marks s in
      first_elim DirectStays (refusing Err s) tests (carried_out None command image marks s)
      (λ n a l. (refl, λ e. not_numbered 15 tests refl n a e)) (λ none l. (refl, λ e. omega arith))
  by_lookup command (Some word) =
      let tests = direct_tests (Some word) command image marks s in
      first_elim DirectStays (refusing Err s) tests (carried_out (Some word) command image marks s)
      (λ n a l. (refl, λ e. not_numbered 15 tests refl n a e)) (λ none l. absurd (omega arith))

  pub direct_stays : (command : Command) → DirectStays (direct_of image marks command s)
  direct_stays command = subst DirectStays (sym (direct_at image marks command s refl)) (by_lookup command (word_at image (cell_of command)))

  abbrev ErasureStays : Outcome Erasure State → Type 0
  ErasureStays o = 1 ≤ refusal (Erasing o.told) → (o.after ≡ s) × (is_cut o.told ≡ false)

  -- an erasure that runs and is refused, with 15, leaves the state
  run_stays : (i k mask : ℕ) → WholeDrive image s.cells → i < (header_of image).partitions → (end : End) → (run_on image s.cells marks i k mask).end ≡ end
      → let t = (run_on image s.cells marks i k mask).tally in ErasureStays (outcome (answer_by end image i t) (with_cells t.cells s))
  run_stays i k mask whole p Whole e l = absurd (omega arith)
  run_stays i k mask whole p Stopped e l = (ap (λ (c : List ℕ). with_cells c s) (stops_same image s.cells marks i k mask whole p e), refl)
  run_stays i k mask whole p CutEnd e l = absurd (omega arith)

  erase_stays : (i k mask : ℕ) → ErasureStays (erase_of image marks i k mask s)
  unfolding erase_of
  erase_stays i k mask =
      first_elim ErasureStays (refusing unburned s) (erase_tests image marks i s) (burning image marks i k mask s)
      (λ n _ l. (refl, refl))
      (λ none. run_stays i k mask (whole_by image s.cells marks (not-false _ (none 0)) (not-false _ (none 1))) (leb-false _ _ (none 2))
      (run_on image s.cells marks i k mask).end refl)

  -- what a call of the mailbox leaves
  abbrev Stays : Outcome (Result Effect Refusal) (List ℕ) → Type 0
  Stays d = 1 ≤ refusal (Replying (reply_of d.told) []) → state_after d s ≡ s

  fers_stays : (i : ℕ) (t : Tally) (end : End) → (end ≡ CutEnd → ⊥) → (end ≡ Stopped → t.cells ≡ s.cells)
      → Stays (outcome (fers_of (answer_by end image i t)) t.cells)
  fers_stays i t Whole u h l = absurd (omega arith)
  fers_stays i t Stopped u h l = ap (λ (c : List ℕ). with_cells c s) (h refl)
  fers_stays i t CutEnd u h l = absurd (u refl)

  accepted_stays : (command : Code) (request : List ℕ) → map_good image ≡ true → whole_arrays image s.cells marks ≡ true → known command ≡ true
      → ((k : ℕ) → test_at (own_tests command image request s) k ≡ false) → Stays (accepted command image marks request s)
  accepted_stays command request good arrays k none =
      ⊎_elim
      (λ (e : command ≡ Fers).
      let p = partition_in request in
      let r = run_on image s.cells marks p never 0 in
      let whole = whole_by image s.cells marks good arrays in
      let tested : (k : ℕ) → test_at (own_tests Fers image request s) k ≡ false = rw e at none in
      let within = leb-false _ _ (tested 0) in
      rw e (fers_stays p r.tally r.end (uncut_judged image s.cells p whole within marks 0) (stops_same image s.cells marks p never 0 whole within)))
      (λ plain l. absurd (omega (arith, done_not (accepted command image marks request s).told plain.0)))
      (fers_or_plain command image marks request s k)

  mailbox_stays : (code : ℕ) (request : List ℕ) (room block : ℕ) → Stays (done_of image marks code request room block s)
  mailbox_stays code request room block =
      mailbox_elim image marks code request room block s Stays (λ _ _ _. refl) (accepted_stays (command_of code) request)

  -- a refused reply of the engine leaves the state, and 15 is not its refusal
  pub reply_stays : (reply : EngineReply) → let o = taking_of reply s.context in
      1 ≤ refusal (Taking o.told) → (with_context o.after s ≡ s) × (refusal (Taking o.told) ≡ 15 → ⊥)
  reply_stays reply =
      reply_elim reply s.context
      (λ (o : Outcome (Result ⊤ Refusal) (List ℕ)). 1 ≤ refusal (Taking o.told) → (with_context o.after s ≡ s) × (refusal (Taking o.told) ≡ 15 → ⊥))
      (λ _ l. (refl, λ e. omega arith)) (λ _ l. absurd (omega arith))

  -- and so a table that is refused
  pub making_stays : (handles algorithms : List ℕ) → let o = making_of handles algorithms s.context in
      1 ≤ refusal (Making o.told) → (with_context o.after s ≡ s) × (refusal (Making o.told) ≡ 15 → ⊥)
  making_stays handles algorithms =
      making_elim handles algorithms s.context
      (λ (o : Outcome (Result ⊤ Refusal) (List ℕ)). 1 ≤ refusal (Making o.told) → (with_context o.after s ≡ s) × (refusal (Making o.told) ≡ 15 → ⊥))
      (λ l. (refl, λ e. omega arith)) (λ _ l. absurd (omega arith))

  -- so every call
  pub refused_unchanged : (call : Call) → Unchanged image marks call s
  refused_unchanged (Direct command) = λ l. (direct_stays command l).0
  refused_unchanged (Erase i) = λ l. (erase_stays i never 0 l).0
  refused_unchanged (EraseCut i k mask) = λ l. let both = erase_stays i k mask l in rw both.1 both.0
  refused_unchanged (Mailbox code request response block) =
      λ l.
      mailbox_stays code request (length response) (length block)
      (subst (λ (n : ℕ). 1 ≤ n) (replying_number (mailbox_of image marks code request (lent s response block))) l)
  refused_unchanged (TakeReply reply) = λ l. (reply_stays reply l).0
  refused_unchanged (MakeTable handles algorithms) = λ l. (making_stays handles algorithms l).0
  refused_unchanged Restart = λ l. absurd (omega arith)

-- of the mailbox also response and block, whatever the refusal
pub refused_buffers : (image marks : List ℕ) (code : ℕ) (request : List ℕ) (l : Lent) → let o = mailbox_of image marks code request l in
    1 ≤ refusal (replying o).told → (o.after.response ≡ l.response) × (o.after.block ≡ l.block)
refused_buffers image marks code request l r = by (done_of image marks code request (length l.response) (length l.block) l.state).told
    (subst (λ (n : ℕ). 1 ≤ n) (replying_number (mailbox_of image marks code request l)) r)
  where
    by : (d : Result Effect Refusal) → 1 ≤ refusal (Replying (reply_of d) []) → (response_after d l.response ≡ l.response) × (block_left d request l.block ≡ l.block)
    by (Ok e) m = absurd (omega arith)
    by (Err q) m = (refl, refl)
