-- Request P5, the theorem of `Orders`: each call keeps what `Standing` says, so every list of calls does. Assumes nothing.
use Rattle.std.specs.Prelude.{ℕ, ◌≤◌, ◌≡◌, true, false, cond, not, List, [], ◌∷◌, eqb, length, get_or, Result, Ok, Err, ⊤}
use Rattle.std.proofs.Common.{sym, ap, subst, ◌∙◌, ⊎_elim, arith, eq-eqb, ne_eqb}
use Rattle.std.proofs.lemmas.Bool.{false≢true, not-false}
use Rattle.laws.specs.Tests.{decided, cond_keeps}
use Rattle.refusal.specs.Refusals.{test_at}
use Rattle.refusal.specs.declared.Refusal.{Refusal}
use Rattle.context.specs.State.{State, Outcome}
use Rattle.map.specs.Map.{map_good}
use Rattle.drive.specs.Drive.{whole_arrays}
use Rattle.cache.specs.Cache.{cache_of, lowest_place, awaits, place_at, AtRest}
use Rattle.cache.specs.declared.Place.TheVariants.{Waiting}
use Rattle.cache.specs.declared.Sought.TheVariants.{Empty, Tag}
use Rattle.cache.proofs.Laws.{has_tells}
use Rattle.cache.specs.After.{Long}
use Rattle.cache.proofs.After.{store_long, place_held, place_waiting, is_occupied}
use Rattle.handles.specs.Handles.{table_of}
use Rattle.handles.specs.Making.{made}
use Rattle.handles.specs.Laws.{making_elim}
use Rattle.handles.specs.After.{rotated_keeps, made_keeps}
use Rattle.erasure.specs.declared.Answer.TheVariants.{Ended, Cut}
use Rattle.erasure.specs.Erasure.{Told as Erasure, never, erase_of, is_cut, uncut_of}
use Rattle.engine.specs.declared.Order.TheVariants.{Nothing}
use Rattle.engine.specs.declared.EngineReply.{EngineReply}
use Rattle.engine.specs.declared.EngineReply.TheVariants.{Done}
use Rattle.codec.specs.declared.Command.{Command as Code}
use Rattle.codec.specs.declared.Command.TheVariants.{Clkc, Klod, Kunl, Fers, Fsta, Ehdl, Rhpk, Unknown}
use Rattle.codec.specs.Fields.{command_of, known, CmdTimeout, request_fields, number_at, tag_at}
use Rattle.mailbox.specs.declared.effects.Effect.{Effect}
use Rattle.mailbox.specs.declared.Reply.{Reply}
use Rattle.mailbox.proofs.Told.{mailbox_elim}
use Rattle.mailbox.proofs.Handles.{rotated_cache}
use Rattle.mailbox.specs.Mailbox.{fers_of, rotation_of, partition_in, accepted, own_tests, context_after, reply_of}
use Rattle.reply.specs.Laws.{reply_elim, reply_taken}
use Rattle.history.specs.Calls.{Call, Direct, Erase, EraseCut, Mailbox, TakeReply, MakeTable, Restart, Taking, order_in, told, after, after_all}
use Rattle.history.proofs.Kept.{direct_leaves, erase_leaves, made_cache}
use Rattle.history.specs.Orders.{Given, Answered, opened, closed, taken_told, orders_after, orders_all, open_in, EmptyContext, Orderly}
use Rattle.history.specs.Standing.{Standing, idle, awaited, Sound}
use Rattle.history.proofs.Standing.{sound_start, sound_cache, sound_emptied, sound_load, sound_unload, sound_clear, replied_to}
use Rattle.history.proofs.Settled.{sound_reply, clear_done}

module _ (image marks : List ℕ) (s : State) where
  -- ---- each call

  module _ (orders : List Given) (sound : Sound orders s.context) where
    -- what a call of the mailbox orders and leaves
    abbrev DoneSound : Outcome (Result Effect Refusal) (List ℕ) → Type 0
    DoneSound d = Sound (opened (order_in (reply_of d.told)) orders) (context_after d.told s.context)

    -- FERS orders nothing
    fers_sound : (answer : Erasure) → Sound (opened (order_in (reply_of (fers_of answer))) orders) (context_after (fers_of answer) s.context)
    fers_sound (Ok (Ended short first burns new)) = sound
    fers_sound (Err refused) = sound
    fers_sound (Ok (Cut burns new)) = sound

    accepted_sound : (command : Code) (request : List ℕ) → map_good image ≡ true → whole_arrays image s.cells marks ≡ true → known command ≡ true
        → ((k : ℕ) → test_at (own_tests command image request s) k ≡ false) → DoneSound (accepted command image marks request s)
    accepted_sound Clkc request good arrays k none =
        sound_clear orders s.context sound (none 0) (number_at (request_fields Clkc) CmdTimeout request)
    accepted_sound Klod request good arrays k none =
        sound_load orders s.context sound (none 3) (lowest_place (cache_of s.context) Empty) (number_at (request_fields Klod) CmdTimeout request)
        (tag_at (request_fields Klod) request) (has_tells (cache_of s.context) Empty (not-false _ (none 2))).0 (none 1)
    accepted_sound Kunl request good arrays k none =
        let tag = tag_at (request_fields Kunl) request in
        let found = has_tells (cache_of s.context) (Tag tag) (not-false _ (none 0)) in
        sound_unload orders s.context sound (none 1) (lowest_place (cache_of s.context) (Tag tag))
        (number_at (request_fields Kunl) CmdTimeout request) tag found.0 found.1
    accepted_sound Fers request good arrays k none = fers_sound (uncut_of image s.cells marks (partition_in request)).told
    accepted_sound Fsta request good arrays k none = sound
    accepted_sound Ehdl request good arrays k none = sound
    accepted_sound Rhpk request good arrays k none =
        let e = rotation_of (table_of s.context) request in
        sound_cache orders s.context (context_after (Ok e) s.context) (rotated_cache e.rotates (get_or e.numbers 0 0) s.context)
        (rotated_keeps Long store_long s.context sound.long e.rotates (get_or e.numbers 0 0)) sound
    accepted_sound Unknown request good arrays k none = absurd (false≢true k)

    -- so every call
    abbrev pub Kept : Call → Type 0
    Kept call = Sound (orders_after call (told image marks call s) orders) (after image marks call s).context

    cut_kept : (i k mask : ℕ) → Kept (EraseCut i k mask)
    cut_kept i k mask =
        let o = erase_of image marks i k mask s in
        ⊎_elim
        (λ (y : is_cut o.told ≡ true). rw y (sound_emptied orders o.after.context))
        (λ (n : is_cut o.told ≡ false). rw n (subst (Sound orders) (sym (erase_leaves image marks s i k mask)) sound))
        (decided (is_cut o.told))

    reply_kept : (reply : EngineReply) → Kept (TakeReply reply)
    reply_kept reply =
        reply_elim reply s.context
        (λ (o : Outcome (Result ⊤ Refusal) (List ℕ)). Sound (cond (taken_told (Taking o.told)) (closed (Answered reply) orders) orders) o.after)
        (λ _. sound) (λ some. sound_reply reply orders s.context sound some)

    table_kept : (handles algorithms : List ℕ) → Kept (MakeTable handles algorithms)
    table_kept handles algorithms =
        making_elim handles algorithms s.context (λ (o : Outcome (Result ⊤ Refusal) (List ℕ)). Sound orders o.after) sound
        (λ _. sound_cache orders s.context (made handles algorithms s.context) (made_cache handles algorithms s.context)
        (made_keeps Long store_long s.context sound.long handles algorithms) sound)

    pub call_kept : (call : Call) → Kept call
    call_kept (Direct command) = subst (Sound orders) (sym (direct_leaves image marks s command)) sound
    call_kept (Erase i) = subst (Sound orders) (sym (erase_leaves image marks s i never 0)) sound
    call_kept (EraseCut i k mask) = cut_kept i k mask
    call_kept (Mailbox code request response block) =
        mailbox_elim image marks code request (length response) (length block) s DoneSound (λ _ _. sound) (accepted_sound (command_of code) request)
    call_kept (TakeReply reply) = reply_kept reply
    call_kept (MakeTable handles algorithms) = table_kept handles algorithms
    call_kept Restart = sound_emptied orders s.context

-- ---- every list of calls

pub all_kept : (image marks : List ℕ) (calls : List Call) (s : State) (orders : List Given) → Sound orders s.context
    → Sound (orders_all image marks calls s orders) (after_all image marks calls s).context
all_kept image marks [] s orders sound = sound
all_kept image marks (call ∷ calls) s orders sound =
    all_kept image marks calls (after image marks call s) (orders_after call (told image marks call s) orders) (call_kept image marks s orders sound call)

-- what is kept is the claim
pub open_exactly : (context : List ℕ) {orders : List Given} → Standing context orders
    → (open_in orders ≤ 1) × ((open_in orders ≡ 1 → awaits (cache_of context) ≡ true) × (awaits (cache_of context) ≡ true → open_in orders ≡ 1))
open_exactly context (idle e none z) =
    (omega arith, ((λ q. absurd (omega arith)), λ y. absurd (false≢true (sym (ap not (eq-eqb _ _ e)) ∙ y))))
open_exactly context (awaited order before e waits z) =
    (omega arith, ((λ _. ap not (ne_eqb _ _ (λ q. replied_to order context waits (sym e ∙ q)))), λ _. omega arith))

waiting_awaited : (context : List ℕ) {orders : List Given} → Standing context orders → (k tag : ℕ) → place_at (cache_of context) k ≡ Waiting tag
    → awaits (cache_of context) ≡ true
waiting_awaited context (idle e none z) k tag w = let at = place_waiting (cache_of context) k tag w in absurd (none k at.0 at.1)
waiting_awaited context (awaited order before e waits z) k tag w = (open_exactly context (awaited order before e waits z)).1.0 (omega arith)

pub orderly : (image marks : List ℕ) (start : State) → EmptyContext start.context → (calls : List Call)
    → Orderly image marks (orders_all image marks calls start []) (after_all image marks calls start)
orderly image marks start e calls =
    let now = after_all image marks calls start in
    let sound = all_kept image marks calls start [] (sound_start start.context e) in
    let one = open_exactly now.context sound.standing in
    record {
      held_by_load = λ k tag h. let at = place_held (cache_of now.context) k tag h in sound.held_by k at.0 at.1;
      waits_awaited = waiting_awaited now.context sound.standing;
      one_open = one.0;
      open_awaited = one.1;
      tags_apart = λ j k l m o p. sound.apart j k l m (is_occupied (cache_of now.context) j o) (is_occupied (cache_of now.context) k p);
      clear_done = λ timeout before q.
          let done = clear_done now.context sound timeout before q in
          subst (λ (o : Outcome (Result ⊤ Refusal) (List ℕ)). AtRest (cache_of o.after)) (sym (reply_taken Done now.context done.0)) done.1;
    }
