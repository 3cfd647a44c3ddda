-- Request P5: no sequence locks the block for good. From every state that calls, replies, cuts and restarts reach from an empty context, on
-- a drive that 1 and 2 do not refuse, any reply, then CLKC, then done lead back to an empty cache. Assumes nothing.
-- The definitions stand in specs/Recovery.antt.
use Rattle.std.specs.Prelude.{ℕ, ◌≡◌, refl, true, false, not, List, [], Result, Err, ⊤}
use Rattle.std.proofs.Common.{sym, ap, subst, ◌∙◌, eq-eqb, arith}
use Rattle.std.proofs.lemmas.Bool.{false≢true}
use Rattle.laws.specs.Tests.{not_yes}
use Rattle.refusal.specs.Refusals.{past_all}
use Rattle.refusal.specs.declared.Refusal.{Refusal}
use Rattle.context.specs.State.{State, Outcome, refusing}
use Rattle.endian.specs.Endian.{u16_at, u32_at}
use Rattle.map.specs.Map.{map_good}
use Rattle.drive.specs.Drive.{whole_arrays}
use Rattle.cache.specs.Cache.{cache_of, has_place, awaits, busy, AtRest, clearing}
use Rattle.cache.specs.declared.Sought.TheVariants.{Waiting}
use Rattle.cache.proofs.Laws.{has_tells}
use Rattle.cache.proofs.After.{is_waiting}
use Rattle.handles.specs.Handles.{count_good, Long as TableThere, table_of, has_table}
use Rattle.engine.specs.declared.EngineReply.{EngineReply}
use Rattle.engine.specs.declared.EngineReply.TheVariants.{Done}
use Rattle.codec.specs.declared.Command.TheVariants.{Clkc}
use Rattle.codec.specs.Fields.{code_of}
use Rattle.codec.specs.Request.{request_tests}
use Rattle.mailbox.specs.declared.effects.Effect.{Effect}
use Rattle.mailbox.specs.Mailbox.{accepted, mailbox_tests, done_of, context_after}
use Rattle.reply.specs.Reply.{kind_after, replied, taking_of}
use Rattle.reply.specs.Laws.{reply_elim, reply_taken}
use Rattle.history.specs.Calls.{Call, TakeReply, told, after, after_all}
use Rattle.history.proofs.Kept.{settled_table}
use Rattle.history.specs.Orders.{Given, orders_after, EmptyContext}
use Rattle.history.specs.Standing.{Standing, idle, awaited, Sound}
use Rattle.history.proofs.Standing.{sound_start, sound_clear}
use Rattle.history.proofs.Settled.{none_awaited, sound_reply, clear_done}
use Rattle.history.proofs.HandlesProof.{table_stays}
use Rattle.history.proofs.OrdersProof.{call_kept, all_kept, open_exactly}
use Rattle.history.specs.Recovery.{request, room, clkc, recovering}

-- on a drive that 1 and 2 do not refuse CLKC is carried out where nothing is awaited and no place waits
clkc_clears : (image marks : List ℕ) (s : State) → map_good image ≡ true → whole_arrays image s.cells marks ≡ true
    → has_table (table_of s.context) ≡ true → busy (cache_of s.context) ≡ false → (after image marks clkc s).context ≡ clearing s.context
unfolding done_of request_tests u32_at u16_at
clkc_clears image marks s good arrays table still =
    ap (λ (d : Outcome (Result Effect Refusal) (List ℕ)). context_after d.told s.context)
    (sym (past_all (refusing Err s.cells) (accepted Clkc image marks request s) (mailbox_tests image marks (code_of Clkc) request room 128 s)
    (ap not good, (ap not arrays, (ap not table, (refl, (refl, (refl, (refl, (still, (refl, tt)))))))))))

-- where none is awaited, no place waits
idle_still : (context : List ℕ) {orders : List Given} → Standing context orders → awaits (cache_of context) ≡ false → busy (cache_of context) ≡ false
idle_still context (idle e none z) o =
    rw o (not_yes (has_place (cache_of context) Waiting) (λ y. let t = has_tells (cache_of context) Waiting y in none _ t.0 (is_waiting (cache_of context) _ t.1)))
idle_still context (awaited order before e waits z) o = absurd (false≢true (sym o ∙ (open_exactly context (awaited order before e waits z)).1.0 (omega arith)))

-- after any reply nothing is awaited and no place waits
reply_still : (image marks : List ℕ) (s : State) (orders : List Given) → Sound orders s.context → (reply : EngineReply)
    → busy (cache_of (after image marks (TakeReply reply) s).context) ≡ false
reply_still image marks s orders sound reply =
    reply_elim reply s.context (λ (o : Outcome (Result ⊤ Refusal) (List ℕ)). busy (cache_of o.after) ≡ false)
    (λ none. idle_still s.context sound.standing none)
    (λ some. idle_still (replied reply s.context) (sound_reply reply orders s.context sound some).standing
    (ap not (eq-eqb _ _ (none_awaited reply s.context sound.long))))

-- and the table is as it was
reply_table : (image marks : List ℕ) (s : State) (reply : EngineReply) → table_of (after image marks (TakeReply reply) s).context ≡ table_of s.context
reply_table image marks s reply =
    reply_elim reply s.context (λ (o : Outcome (Result ⊤ Refusal) (List ℕ)). table_of o.after ≡ table_of s.context)
    (λ _. refl) (λ _. settled_table (kind_after reply (cache_of s.context).awaited) s.context)

-- ---- the theorem; that 1 and 2 do not refuse the drive, by request P6 that there is a table too, is asked of what is lent when the three
-- calls begin

module _ (image marks : List ℕ) (good : map_good image ≡ true) where
  recovers_from : (s : State) (orders : List Given) → Sound orders s.context → whole_arrays image s.cells marks ≡ true
      → has_table (table_of s.context) ≡ true → (reply : EngineReply) → AtRest (cache_of (after_all image marks (recovering reply) s).context)
  recovers_from s orders sound arrays table reply =
      let then = after image marks (TakeReply reply) s in
      let kept = orders_after (TakeReply reply) (told image marks (TakeReply reply) s) orders in
      let still = reply_still image marks s orders sound reply in
      let cleared = sound_clear kept then.context (call_kept image marks s orders sound (TakeReply reply)) still 1000 in
      let done = clear_done (clearing then.context) cleared 1000 kept refl in
      let is : (after image marks clkc then).context ≡ clearing then.context = clkc_clears image marks then good arrays (ap has_table (reply_table image marks s reply) ∙ table) still in
      subst (λ (context : List ℕ). AtRest (cache_of (taking_of Done context).after)) (sym is) (rw (reply_taken Done (clearing then.context) done.0) done.1)

  pub recovers : (start : State) → EmptyContext start.context → (calls : List Call) → let now = after_all image marks calls start in
      whole_arrays image now.cells marks ≡ true → has_table (table_of now.context) ≡ true → (reply : EngineReply)
      → AtRest (cache_of (after_all image marks (recovering reply) now).context)
  recovers start e calls arrays table reply =
      recovers_from (after_all image marks calls start) _ (all_kept image marks calls start [] (sound_start start.context e)) arrays table reply

  -- so from every start with all places empty and a table
  pub recovers_tabled : (start : State) → EmptyContext start.context → TableThere start.context → has_table (table_of start.context) ≡ true
      → (calls : List Call) → let now = after_all image marks calls start in
      whole_arrays image now.cells marks ≡ true → (reply : EngineReply) → AtRest (cache_of (after_all image marks (recovering reply) now).context)
  recovers_tabled start e long table calls arrays reply =
      recovers start e calls arrays (ap count_good (table_stays image marks calls start long table) ∙ table) reply
