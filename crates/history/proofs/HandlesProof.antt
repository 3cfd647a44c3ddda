-- Request P6, the theorem of `Handles`: what each call makes of the table, and what every list of calls keeps. Assumes nothing.
-- The definitions stand in specs/HandlesProof.antt.
use Rattle.std.specs.Prelude.{ℕ, ◌%◌, ◌^◌, ◌≤◌, ◌<◌, ◌≡◌, refl, Bool, true, false, cond, List, [], ◌∷◌, ◌++◌, eqb, length, get_or, take, drop, Result, ⊤, Ok, Err}
use Rattle.std.proofs.Common.{sym, ap, subst, ◌∙◌, ⊎_elim, append-nil, arith, take_at, eqb-true, ne_eqb}
use Rattle.std.proofs.lemmas.Bool.{false≢true, eqb-false, not-false}
use Rattle.laws.specs.Tests.{decided, not_yes, cond_keeps}
use Rattle.refusal.specs.Refusals.{test_at}
use Rattle.refusal.specs.declared.Refusal.{Refusal}
use Rattle.refusal.specs.Numbers.{number}
use Rattle.context.specs.Context.{count_at}
use Rattle.context.specs.State.{State, Outcome, outcome}
use Rattle.cache.specs.Cache.{cache_of, load_reply, unload_reply, emptied}
use Rattle.cache.proofs.Laws.{waiting_behind, clearing_behind, settled_behind, emptied_behind}
use Rattle.handles.specs.Handles.{most, count_good, Table, Long, table_of, has_table, handle_at, handles_in, lowest_with, used_up, next_number, rotated_at}
use Rattle.handles.specs.Making.{is_among, distinct, Fresh}
use Rattle.handles.specs.Laws.{good_most, next_fits, lowest_tells, making_elim}
use Rattle.handles.specs.After.{store_long, table_behind, long_behind, rotated_keeps, rotated_count, rotated_greatest, rotated_handle, rotated_other}
use Rattle.handles.specs.Fresh.{among_here, among_after, largest_most, handle_among, entries_long, made_fresh}
use Rattle.erasure.specs.Erasure.{never, erase_of, is_cut, uncut_of}
use Rattle.codec.specs.declared.Command.{Command}
use Rattle.codec.specs.declared.Command.TheVariants.{Clkc, Klod, Kunl, Fers, Fsta, Ehdl, Rhpk, Unknown}
use Rattle.codec.specs.Fields.{code_of, command_of, known, HpkeHandle, one_number, response_of, response_in}
use Rattle.codec.proofs.Laws.{code_of_lem, response_reads, response_long}
use Rattle.mailbox.specs.declared.effects.Effect.{Effect}
use Rattle.mailbox.specs.Mailbox.{handle_in, rotation_of, partition_in, accepted, own_tests, context_after, lent, written_out}
use Rattle.mailbox.proofs.Laws.{fers_context}
use Rattle.mailbox.proofs.Told.{mailbox_elim}
use Rattle.reply.specs.Reply.{kind_after}
use Rattle.reply.specs.Laws.{reply_elim}
use Rattle.history.specs.Calls.{Call, Direct, Erase, EraseCut, Mailbox, TakeReply, MakeTable, Restart}
use Rattle.history.specs.Calls.{Making, replying, told, refusal, after, after_all}
use Rattle.history.proofs.Kept.{direct_leaves, erase_leaves}
use Rattle.history.specs.Handles.{given_told, given_by, given_all, NumbersOnce}
use Rattle.history.specs.HandlesProof.{Step, keeps, rotates, makes}

-- ---- what is kept

-- a table is there, in a context that has its words, as every lent one has
record Tabled (context : List ℕ) : Type 0 where
  long : Long context
  counted : has_table (table_of context) ≡ true

tabled_same : (before after : List ℕ) → drop count_at after ≡ drop count_at before → Tabled before → Tabled after
tabled_same before after e t = record { long = long_behind before after e t.long; counted = rw (table_behind before after e) t.counted }

tabled_rotated : (k number : ℕ) (before : List ℕ) → k < most → Tabled before → Tabled (rotated_at k number before)
tabled_rotated k number before l t =
    record { long = rotated_keeps Long store_long before t.long k number; counted = rw (rotated_count k number before t.long l) t.counted }

-- no table is made where one is
no_table : (context : List ℕ) → (table_of context).count ≡ 0 → Tabled context → ⊥
no_table context none t = false≢true (sym (ap count_good none) ∙ t.counted)

-- the numbers so far: none twice, none above the greatest, and every handle of the table is one of them
record SoFar (numbers context : List ℕ) : Type 0 where
  tabled : Tabled context
  none_twice : distinct numbers ≡ true
  none_above : (number : ℕ) → is_among number numbers ≡ true → number ≤ (table_of context).greatest
  all_given : (k : ℕ) → k < (table_of context).count → is_among (handle_at (table_of context) k) numbers ≡ true

-- a fresh table
so_far_start : (context : List ℕ) → Fresh context → SoFar (handles_in (table_of context)) context
so_far_start context f = record {
  tabled = record { long = f.long; counted = f.counted };
  none_twice = f.apart;
  none_above = λ number a. rw f.largest_given (largest_most (handles_in (table_of context)) number a);
  all_given = λ k l. handle_among (table_of context) k l (rw (entries_long context f.long) (omega (arith, good_most (table_of context).count f.counted)));
}

-- a number above all that were given is new
is_new : (number : ℕ) (numbers : List ℕ) → ((n : ℕ) → is_among n numbers ≡ true → n < number) → is_among number numbers ≡ false
is_new number numbers above = not_yes (is_among number numbers) (λ a. omega (arith, above number a))

module _ (numbers before : List ℕ) (s : SoFar numbers before) where
  -- the table stays
  so_far_same : (after : List ℕ) → drop count_at after ≡ drop count_at before → SoFar numbers after
  so_far_same after e =
      let same = table_behind before after e in
      record { tabled = tabled_same before after e s.tabled; none_twice = s.none_twice; none_above = rw same s.none_above; all_given = rw same s.all_given }

  -- a handle gets the next number
  module _ (k : ℕ) (l : k < most) (left : used_up (table_of before) ≡ false) where
    abbrev next : ℕ
    next = next_number (table_of before)

    abbrev rotated_now : List ℕ
    rotated_now = rotated_at k next before

    given_now : (j : ℕ) → j < (table_of before).count → is_among (handle_at (table_of rotated_now) j) (next ∷ numbers) ≡ true
    given_now j m =
        ⊎_elim
        (λ (y : eqb j k ≡ true).
        let new : handle_at (table_of rotated_now) j ≡ next =
        ap (handle_at (table_of rotated_now)) (eqb-true j k y) ∙ rotated_handle k next before s.tabled.long l (next_fits (table_of before) left) in
        subst (λ (h : ℕ). is_among h (next ∷ numbers) ≡ true) (sym new) (among_here next numbers))
        (λ (o : eqb j k ≡ false).
        let within : j < most = omega (arith, good_most (table_of before).count s.tabled.counted) in
        let old : handle_at (table_of rotated_now) j ≡ handle_at (table_of before) j =
        ap (λ (entry : ℕ). entry % 2 ^ 32) (rotated_other k next before s.tabled.long l j within (eqb-false j k o)) in
        subst (λ (h : ℕ). is_among h (next ∷ numbers) ≡ true) (sym old) (among_after next (handle_at (table_of before) j) numbers (s.all_given j m)))
        (decided (eqb j k))

    above_now : (number : ℕ) → is_among number (next ∷ numbers) ≡ true → number ≤ next
    above_now number a =
        ⊎_elim
        (λ (y : eqb number next ≡ true). omega (arith, eqb-true number next y))
        (λ (o : eqb number next ≡ false). omega (arith, s.none_above number (rw o at a)))
        (decided (eqb number next))

    so_far_rotated : SoFar (next ∷ numbers) rotated_now
    so_far_rotated = record {
      tabled = tabled_rotated k next before l s.tabled;
      none_twice = rw (is_new next numbers (λ n a. omega (arith, s.none_above n a))) s.none_twice;
      none_above = rw (rotated_greatest k next before s.tabled.long l) above_now;
      all_given = rw (rotated_count k next before s.tabled.long l) given_now;
    }

  -- so each step
  so_far_step : (after given : List ℕ) → Step before after given → SoFar (given ++ numbers) after
  so_far_step after given (keeps e none) = rw none (so_far_same after e)
  so_far_step after given (rotates handle found left e is) = rw (e, is) (so_far_rotated (lowest_with (table_of before) handle) found.within left)
  so_far_step after given (makes none) = absurd (no_table before none s.tabled)

-- ---- the step of each call

none_given : (b : Bool) (given : List ℕ) → b ≡ false → cond b given [] ≡ []
none_given b given o = rw o

module _ (image marks : List ℕ) (s : State) where
  cut_step : (i k mask : ℕ) → Step s.context (after image marks (EraseCut i k mask) s).context []
  cut_step i k mask =
      let o = erase_of image marks i k mask s in
      let same = ap (drop count_at) (erase_leaves image marks s i k mask) in
      cond_keeps (λ (context : List ℕ). Step s.context context []) (is_cut o.told) (emptied o.after.context) o.after.context
      (λ _. keeps (emptied_behind o.after.context ∙ same) refl) (λ _. keeps same refl)

  -- of the mailbox's commands
  module _ (code : ℕ) (request response block : List ℕ) where
    abbrev given_of : Outcome (Result Effect Refusal) (List ℕ) → List ℕ
    given_of d = cond (eqb code (code_of Rhpk)) (given_told (replying (written_out request (lent s response block) d)).told) []

    abbrev DoneStep : Outcome (Result Effect Refusal) (List ℕ) → Type 0
    DoneStep d = Step s.context (context_after d.told s.context) (given_of d)

    refused_step : (r : Refusal) → DoneStep (outcome (Err r) s.cells)
    refused_step r = keeps refl (cond_keeps (λ (g : List ℕ). g ≡ []) (eqb code (code_of Rhpk)) [] [] (λ _. refl) (λ _. refl))

    -- the number that RHPK tells
    rotation_given : let t = table_of s.context in code ≡ code_of Rhpk → given_of (outcome (Ok (rotation_of t request)) s.cells) ≡ next_number t ∷ []
    rotation_given e =
        let t = table_of s.context in
        let numbers = one_number (next_number t) in
        let is : take 16 (response_in Rhpk numbers response) ≡ response_of Rhpk numbers ++ []
        = take_at (response_of Rhpk numbers) (drop 16 response) 16 (response_long Rhpk numbers) ∙ sym (append-nil (response_of Rhpk numbers)) in
        rw (e, is) (ap (λ (n : ℕ). n ∷ []) (response_reads Rhpk numbers [] HpkeHandle refl))

    command_step : (command : Command) → code ≡ code_of command → known command ≡ true → ((k : ℕ) → test_at (own_tests command image request s) k ≡ false)
        → DoneStep (accepted command image marks request s)
    command_step Clkc e k none = keeps (clearing_behind s.context) (none_given _ _ (ap (λ (c : ℕ). eqb c (code_of Rhpk)) e))
    command_step Klod e k none = keeps (waiting_behind _ _ load_reply s.context) (none_given _ _ (ap (λ (c : ℕ). eqb c (code_of Rhpk)) e))
    command_step Kunl e k none = keeps (waiting_behind _ _ unload_reply s.context) (none_given _ _ (ap (λ (c : ℕ). eqb c (code_of Rhpk)) e))
    command_step Fers e k none =
        keeps (ap (drop count_at) (fers_context (uncut_of image s.cells marks (partition_in request)).told s.context))
        (none_given _ _ (ap (λ (c : ℕ). eqb c (code_of Rhpk)) e))
    command_step Fsta e k none = keeps refl (none_given _ _ (ap (λ (c : ℕ). eqb c (code_of Rhpk)) e))
    command_step Ehdl e k none = keeps refl (none_given _ _ (ap (λ (c : ℕ). eqb c (code_of Rhpk)) e))
    command_step Rhpk e k none =
        rotates (handle_in request) (lowest_tells (table_of s.context) (handle_in request) (not-false _ (none 2))) (none 3) refl (rotation_given e)
    command_step Unknown e k none = absurd (false≢true k)

  -- and of every call
  pub call_step : (call : Call) → Step s.context (after image marks call s).context (given_by call (told image marks call s))
  call_step (Direct command) = keeps (ap (drop count_at) (direct_leaves image marks s command)) refl
  call_step (Erase i) = keeps (ap (drop count_at) (erase_leaves image marks s i never 0)) refl
  call_step (EraseCut i k mask) = cut_step i k mask
  call_step (Mailbox code request response block) =
      mailbox_elim image marks code request (length response) (length block) s (DoneStep code request response block)
      (λ r _. refused_step code request response block r)
      (λ _ _ k none. command_step code request response block (command_of code) (code_of_lem code k) k none)
  call_step (TakeReply reply) =
      reply_elim reply s.context (λ (o : Outcome (Result ⊤ Refusal) (List ℕ)). Step s.context o.after [])
      (λ _. keeps refl refl) (λ _. keeps (settled_behind (kind_after reply (cache_of s.context).awaited) s.context) refl)
  call_step (MakeTable handles algorithms) =
      making_elim handles algorithms s.context (λ (o : Outcome (Result ⊤ Refusal) (List ℕ)). Step s.context o.after [])
      (keeps refl refl) (λ none. makes (eqb-true _ _ (not-false _ (none 0))))
  call_step Restart = keeps (emptied_behind s.context) refl

-- ---- every list of calls

so_far_all : (image marks : List ℕ) (calls : List Call) (s : State) (numbers : List ℕ) → SoFar numbers s.context
    → SoFar (given_all image marks calls s numbers) (after_all image marks calls s).context
so_far_all image marks [] s numbers sound = sound
so_far_all image marks (call ∷ calls) s numbers sound =
    let now = after image marks call s in
    let given = given_by call (told image marks call s) in
    so_far_all image marks calls now (given ++ numbers) (so_far_step numbers s.context sound now.context given (call_step image marks s call))

pub numbers_once : NumbersOnce
numbers_once image marks start fresh calls =
    let sound = so_far_all image marks calls start (handles_in (table_of start.context)) (so_far_start start.context fresh) in
    record { none_twice = sound.none_twice; all_given = sound.all_given }

-- ---- a table that is made is fresh: of handles of 32 bits, as they are by their type, in a context that has the words of a table

pub made_is_fresh : (image marks handles algorithms : List ℕ) (s : State) → Long s.context → ((k : ℕ) → k < length handles → get_or handles k 0 < 2 ^ 32)
    → refusal (told image marks (MakeTable handles algorithms) s) ≡ 0 → Fresh (after image marks (MakeTable handles algorithms) s).context
made_is_fresh image marks handles algorithms s long fits =
    making_elim handles algorithms s.context (λ (o : Outcome (Result ⊤ Refusal) (List ℕ)). refusal (Making o.told) ≡ 0 → Fresh o.after)
    (λ z. absurd (omega arith)) (λ none _. made_fresh handles algorithms s.context long fits (not-false _ (none 1)) (not-false _ (none 3)))

-- ---- and one that is there stays, in such a context: its count does not change

record Stays (before after : List ℕ) : Type 0 where
  tabled : Tabled after
  same_count : (table_of after).count ≡ (table_of before).count

step_stays : (before after given : List ℕ) → Step before after given → Tabled before → Stays before after
step_stays before after given (keeps e none) t =
    record { tabled = tabled_same before after e t; same_count = ap (λ (x : Table). x.count) (table_behind before after e) }
step_stays before after given (rotates handle found left e is) t =
    let k = lowest_with (table_of before) handle in
    let next = next_number (table_of before) in
    rw e (record { tabled = tabled_rotated k next before found.within t; same_count = rotated_count k next before t.long found.within })
step_stays before after given (makes none) t = absurd (no_table before none t)

pub table_stays : (image marks : List ℕ) (calls : List Call) (s : State) → Long s.context → has_table (table_of s.context) ≡ true
    → (table_of (after_all image marks calls s).context).count ≡ (table_of s.context).count
table_stays image marks [] s long h = refl
table_stays image marks (call ∷ calls) s long h =
    let now = after image marks call s in
    let t = step_stays s.context now.context _ (call_step image marks s call) (record { long = long; counted = h }) in
    table_stays image marks calls now t.tabled.long t.tabled.counted ∙ t.same_count
