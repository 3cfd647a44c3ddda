-- The mailbox's laws: what a call does by where its judging ends, what an accepted one tells, and what it leaves. Assumes nothing.
-- The definitions stand in specs/Laws.antt.
use Rattle.std.specs.Prelude.{is_err, ℕ, ◌≡◌, ◌⊎◌, Bool, true, false, List, [], ◌++◌, eqb, ltb, Result, Ok, Err, is_ok}
use Rattle.std.proofs.Math.Path.{refl, sym, ap, subst}
use Rattle.std.proofs.Common.{◌∙◌, inl, inr, ⊎_elim, append-nil}
use Rattle.std.proofs.Math.Bool.{not}
use Rattle.std.proofs.lemmas.Bool.{false≢true}
use Rattle.std.proofs.Math.ListN.{length}
use borrow.Author.Tests.{ltb-false, leb-false, eqb-true, eq-eqb, ne_eqb, not-false}
use Rattle.laws.specs.Tests.{neither}
use Rattle.refusal.specs.Refusals.{first_of, accepted_tells, test_at, Accepted as Passed, judged, judged_refuses, judged_passes}
use Rattle.refusal.specs.declared.Refusal.{Refusal}
use Rattle.refusal.specs.declared.Refusal.TheVariants.{BadLent}
use Rattle.context.specs.State.{State, with_cells, with_context, Outcome, outcome, refusing, telling}
use Rattle.handles.specs.Handles.{table_of, has_table}
use Rattle.map.specs.declared.Header.{Header}
use Rattle.drive.specs.Drive.{Whole, drive_tests, check_of}
use Rattle.drive.specs.Laws.{check_refused, check_passed}
use Rattle.erasure.specs.declared.Answer.TheVariants.{Ended, Cut}
use Rattle.erasure.specs.Erasure.{Told, uncut_of}
use Rattle.engine.specs.declared.Order.{Order}
use Rattle.engine.specs.declared.Order.TheVariants.{Nothing}
use Rattle.codec.specs.declared.Command.{Command}
use Rattle.codec.specs.declared.Command.TheVariants.{Clkc, Klod, Kunl, Fers, Fsta, Ehdl, Rhpk, Unknown}
use Rattle.codec.specs.Fields.{known, request_fields, response_fields, length_of, command_of, response_in, least_room}
use Rattle.codec.specs.Request.{request_tests}
use Rattle.mailbox.specs.declared.effects.Effect.{Effect}
use Rattle.mailbox.specs.Mailbox.{fers_of, partition_in, accepted, own_tests}
use Rattle.mailbox.specs.Mailbox.{lent_bad, later_tests, mailbox_tests, done_of, context_after, block_after}
use Rattle.mailbox.specs.Mailbox.{Lent, lent, written_out, mailbox_of, loads, Allowed}
use Rattle.mailbox.specs.Laws.{Numbered, Carried}

-- ---- what a command may do, and what FERS does

-- past 2 there is a table, and past the tests a command may be carried out
pub lent_table : (room block : ℕ) (context : List ℕ) → lent_bad room block context ≡ false → has_table (table_of context) ≡ true
lent_table room block context o = not-false _ (neither (ltb room least_room) _ (neither (not (eqb block 128)) _ o).1).1

pub own_allowed : (command : Command) (image marks request : List ℕ) (s : State) → Whole image s.cells → length marks ≡ length s.cells
    → has_table (table_of s.context) ≡ true → ((k : ℕ) → test_at (own_tests command image request s) k ≡ false) → Allowed command image marks request s
own_allowed command image marks request s whole long table none = record {
  whole = whole;
  table = table;
  erasable = λ e.
      let tested : (k : ℕ) → test_at (own_tests Fers image request s) k ≡ false = rw e at none in
      record { whole = whole; marks_long = long; partition = leb-false _ _ (tested 0); may = not-false _ (tested 1) };
  left = λ e. let tested : (k : ℕ) → test_at (own_tests Rhpk image request s) k ≡ false = rw e at none in tested 3;
}

-- it does what its erasure answers and leaves
pub fers_does : {o : Outcome Told (List ℕ)} {answer : Told} {cells : List ℕ} {e : Result Effect Refusal} → outcome answer cells ≡ o → e ≡ fers_of answer
    → outcome e cells ≡ telling fers_of o
fers_does {cells = cells} q f = ap (λ (e : Result Effect Refusal). outcome e cells) f ∙ ap (telling fers_of) q

-- what an effect orders, a refusal nothing
abbrev pub order_done : Result Effect Refusal → Order
order_done (Ok e) = e.order
order_done (Err refusal) = Nothing

-- it orders nothing, whatever its erasure answers
pub fers_orders : (answer : Told) → order_done (fers_of answer) ≡ Nothing
fers_orders (Ok (Ended short first burns new)) = refl
fers_orders (Ok (Cut burns new)) = refl
fers_orders (Err refused) = refl

-- so it leaves the context
pub fers_context : (answer : Told) (context : List ℕ) → context_after (fers_of answer) context ≡ context
fers_context (Ok (Ended short first burns new)) context = refl
fers_context (Ok (Cut burns new)) context = refl
fers_context (Err refused) context = refl

-- ---- what a call does, by where its judging ends

module _ (image marks : List ℕ) (code : ℕ) (request : List ℕ) (room block : ℕ) (s : State) where
  abbrev refuse : Refusal → Outcome (Result Effect Refusal) (List ℕ)
  refuse = refusing Err s.cells

  abbrev call_done : Outcome (Result Effect Refusal) (List ℕ)
  call_done = accepted (command_of code) image marks request s

  abbrev later : List (Bool × Refusal)
  later = later_tests (command_of code) image code request (lent_bad room block s.context) s

  pub judged_drive : (r : Refusal) → Err r ≡ check_of image s.cells marks → outcome (Err r) s.cells ≡ done_of image marks code request room block s
  unfolding done_of
  judged_drive r e = sym (check_refused refuse later call_done image s.cells marks r e)

  module _ {header : Header} (e : Ok header ≡ check_of image s.cells marks) where
    past_drive : done_of image marks code request room block s ≡ first_of refuse later call_done
    unfolding done_of
    past_drive = check_passed refuse later call_done image s.cells marks header e

    pub judged_lent : lent_bad room block s.context ≡ true → outcome (Err BadLent) s.cells ≡ done_of image marks code request room block s
    judged_lent b = sym (past_drive ∙ simp b)

    module _ (b : lent_bad room block s.context ≡ false) where
      past_lent : done_of image marks code request room block s ≡ first_of refuse (request_tests (command_of code) code request ++ own_tests (command_of code) image request s) call_done
      past_lent = past_drive ∙ simp b

      module _ (command : Command) (named : command ≡ command_of code) where
        pub judged_request : (r : Refusal) → Err r ≡ judged (request_tests command code request) → outcome (Err r) s.cells ≡ done_of image marks code request room block s
        judged_request r q =
            sym (past_lent ∙ rw (← named) (judged_refuses refuse (own_tests command image request s) (accepted command image marks request s) (request_tests command code request) r q))

        module _ (z : Ok tt ≡ judged (request_tests command code request)) where
          past_request : done_of image marks code request room block s ≡ first_of refuse (own_tests command image request s) (accepted command image marks request s)
          past_request =
              past_lent
              ∙ rw (← named) (judged_passes refuse (own_tests command image request s) (accepted command image marks request s) (request_tests command code request) z).is

          -- with no test behind them
          alone : first_of refuse (own_tests command image request s) (accepted command image marks request s)
              ≡ first_of refuse (own_tests command image request s ++ []) (accepted command image marks request s)
          alone = ap (λ (tests : List (Bool × Refusal)). first_of refuse tests (accepted command image marks request s)) (sym (append-nil (own_tests command image request s)))

          pub judged_own : (r : Refusal) → Err r ≡ judged (own_tests command image request s) → outcome (Err r) s.cells ≡ done_of image marks code request room block s
          judged_own r q = sym (past_request ∙ alone ∙ judged_refuses refuse [] (accepted command image marks request s) (own_tests command image request s) r q)

          module _ (none : Ok tt ≡ judged (own_tests command image request s)) where
            own_passed : Passed (own_tests command image request s) (accepted command image marks request s)
                (first_of refuse (own_tests command image request s ++ []) (accepted command image marks request s))
            own_passed = judged_passes refuse [] (accepted command image marks request s) (own_tests command image request s) none

            pub judged_passed : (k : ℕ) → test_at (own_tests command image request s) k ≡ false
            judged_passed = own_passed.none

            pub judged_done : {d : Outcome (Result Effect Refusal) (List ℕ)} → d ≡ accepted command image marks request s → d ≡ done_of image marks code request room block s
            judged_done q = q ∙ sym (past_request ∙ alone ∙ own_passed.is)

-- ---- what an accepted call tells

pub numbered_by : (command : Command) (image marks : List ℕ) (code : ℕ) (request : List ℕ) (bad : Bool) (s : State)
    → Numbered (drive_tests image s.cells marks ++ later_tests command image code request bad s)
unfolding request_tests
numbered_by Clkc image marks code request bad s = record { ascend = refl; not_0 = refl; not_15 = refl }
numbered_by Klod image marks code request bad s = record { ascend = refl; not_0 = refl; not_15 = refl }
numbered_by Kunl image marks code request bad s = record { ascend = refl; not_0 = refl; not_15 = refl }
numbered_by Fers image marks code request bad s = record { ascend = refl; not_0 = refl; not_15 = refl }
numbered_by Fsta image marks code request bad s = record { ascend = refl; not_0 = refl; not_15 = refl }
numbered_by Ehdl image marks code request bad s = record { ascend = refl; not_0 = refl; not_15 = refl }
numbered_by Rhpk image marks code request bad s = record { ascend = refl; not_0 = refl; not_15 = refl }
numbered_by Unknown image marks code request bad s = record { ascend = refl; not_0 = refl; not_15 = refl }

-- only KLOD orders a load
pub load_only : (command : Command) (image marks request : List ℕ) (s : State) → loads (order_done (accepted command image marks request s).told) ≡ true → command ≡ Klod
load_only Clkc image marks request s e = absurd (false≢true e)
load_only Klod image marks request s e = refl
load_only Kunl image marks request s e = absurd (false≢true e)
load_only Fers image marks request s e = absurd (false≢true (rw (fers_orders (uncut_of image s.cells marks (partition_in request)).told) at e))
load_only Fsta image marks request s e = absurd (false≢true e)
load_only Ehdl image marks request s e = absurd (false≢true e)
load_only Rhpk image marks request s e = absurd (false≢true e)
load_only Unknown image marks request s e = absurd (false≢true e)

-- FERS alone burns, and can be refused past the tests
pub fers_or_plain : (command : Command) (image marks request : List ℕ) (s : State) → known command ≡ true
    → (command ≡ Fers) ⊎ ((is_ok (accepted command image marks request s).told ≡ true) × ((accepted command image marks request s).after ≡ s.cells))
fers_or_plain Clkc image marks request s k = inr (refl, refl)
fers_or_plain Klod image marks request s k = inr (refl, refl)
fers_or_plain Kunl image marks request s k = inr (refl, refl)
fers_or_plain Fers image marks request s k = inl refl
fers_or_plain Fsta image marks request s k = inr (refl, refl)
fers_or_plain Ehdl image marks request s k = inr (refl, refl)
fers_or_plain Rhpk image marks request s k = inr (refl, refl)
fers_or_plain Unknown image marks request s k = absurd (false≢true k)

module _ (image marks : List ℕ) (code : ℕ) (request : List ℕ) (l : Lent) where
  abbrev call_tests : List (Bool × Refusal)
  call_tests = mailbox_tests image marks code request (length l.response) (length l.block) l.state

  abbrev done : Outcome (Result Effect Refusal) (List ℕ)
  done = done_of image marks code request (length l.response) (length l.block) l.state

  -- a refusal leaves everything but the cells as it was, and these as its effect has them: with 15 FERS has burned, though it set nothing
  pub refused_left : {r : Refusal} {cells : List ℕ} → outcome (Err r) cells ≡ done
      → outcome (Err r) (lent (with_cells cells l.state) l.response l.block) ≡ mailbox_of image marks code request l
  refused_left d = ap (written_out request l) d

  -- what is found of a call that is refused is that refusal, and orders nothing
  pub is_refused : {r : Refusal} {cells : List ℕ} → outcome (Err r) cells ≡ done → (done.told ≡ Err r) × (order_done done.told ≡ Nothing)
  is_refused {r} d = subst (λ (o : Outcome (Result Effect Refusal) (List ℕ)). (o.told ≡ Err r) × (order_done o.told ≡ Nothing)) d (refl, refl)

  module _ {e : Effect} {cells : List ℕ} (d : outcome (Ok e) cells ≡ done) where
    pub carried : Carried code e.order request l.response l.block
    unfolding done_of request_tests
    carried =
        let told = accepted_tells (refusing Err l.state.cells) (λ (o : Outcome (Result Effect Refusal) (List ℕ)). is_err o.told) call_tests
        (accepted (command_of code) image marks request l.state) (λ _ _. refl)
        (ap (λ (o : Outcome (Result Effect Refusal) (List ℕ)). is_err o.told) (sym d)) in
        let is : e.order ≡ order_done (accepted (command_of code) image marks request l.state).told =
        ap (λ (o : Outcome (Result Effect Refusal) (List ℕ)). order_done o.told) (d ∙ told.is) in
        let lent_good = neither (not (eqb (length l.block) 128)) _ (told.none 2) in
        let asked : length request ≡ length_of (request_fields (command_of code)) = eqb-true _ _ (not-false _ (told.none 4)) in
        record {
          asked = asked;
          fits = record {
            block_long = eqb-true _ _ (not-false _ lent_good.0);
            request_long = λ y.
                subst (λ (command : Command). length request ≡ length_of (request_fields command))
                (load_only (command_of code) image marks request l.state (rw is at y)) asked;
          };
          room = ltb-false _ _ (neither (ltb (length l.response) least_room) _ lent_good.1).0;
        }

    -- an effect leaves each part as it says
    pub carried_left : {context response block : List ℕ} {n : ℕ} → context ≡ context_after (Ok e) l.state.context
        → block ≡ block_after e.order e.tag request l.block
        → (n ≡ length_of (response_fields e.command e.numbers)) × (response ≡ response_in e.command e.numbers l.response)
        → outcome (Ok (record { length = n; order = e.order })) (lent (with_context context (with_cells cells l.state)) response block)
        ≡ mailbox_of image marks code request l
    carried_left p q r = rw (p, q, r.0, r.1) (ap (written_out request l) d)
