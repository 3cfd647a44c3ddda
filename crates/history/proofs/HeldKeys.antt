-- Document 01, "Active slot and key cache": "From an empty cache, therefore, with map and marks fixed and fuses and cache changed only by
-- these commands, cuts and restarts, places are held only while the HEK is available"; with request P5, of every place that is not empty,
-- and of the engine's replies too. Assumes nothing.
-- The definitions stand in specs/HeldKeys.antt.
use Rattle.std.specs.Prelude.{ℕ, ◌≤◌, ◌<◌, ◌≡◌, refl, Bool, false, List, [], ◌∷◌, length, get_or, Option, Some, None, Result, Err, ⊤}
use Rattle.std.proofs.Common.{sym, ap, subst, ◌∙◌, ⊎_elim, inl, inr, arith}
use Rattle.std.proofs.Math.Bool.{true}
use Rattle.std.proofs.lemmas.Bool.{false≢true}
use borrow.Author.Tests.{not-false, leb-false}
use Rattle.laws.specs.Tests.{ordered, not_first, cond_keeps}
use Rattle.refusal.specs.Refusals.{test_at, first_elim}
use Rattle.refusal.specs.declared.Refusal.{Refusal}
use Rattle.context.specs.State.{State, with_cells, with_context, Outcome, refusing}
use Rattle.map.specs.Map.{header_of, entry_of, end_of, slot, map_good}
use Rattle.map.proofs.Laws.{map_order}
use Rattle.fuse.specs.Fuse.{burn_word}
use Rattle.fuse.proofs.Burn.{burn_apart}
use Rattle.word.specs.declared.Role.{Role}
use Rattle.word.specs.declared.Word.{Word}
use Rattle.word.specs.Word.{word_at}
use Rattle.word.specs.Laws.{Found, word_tells}
use Rattle.drive.specs.Drive.{whole_arrays, cells_of, active_slot, slot_in_use}
use Rattle.drive.specs.Laws.{active_same}
use Rattle.cache.specs.Cache.{cache_of, emptied}
use Rattle.cache.specs.declared.Sought.TheVariants.{Tag}
use Rattle.cache.proofs.Laws.{emptied_rest, has_occupied, tag_occupies, clearing_occupied, settled_occupied}
use Rattle.handles.specs.Handles.{table_of}
use Rattle.handles.specs.Laws.{making_elim}
use Rattle.direct.specs.declared.Command.{Command}
use Rattle.direct.specs.declared.Command.TheVariants.{Read, Write, Zeroize}
use Rattle.direct.specs.declared.Answer.{Answer}
use Rattle.direct.specs.Direct.{cell_of, changes_slot, direct_tests, cells_after, carried_out, direct_by}
use Rattle.direct.proofs.Laws.{direct_at}
use Rattle.codec.specs.declared.Command.{Command as Command'}
use Rattle.codec.specs.declared.Command.TheVariants.{Clkc, Klod, Kunl, Fers, Fsta, Ehdl, Rhpk, Unknown}
use Rattle.codec.specs.Fields.{command_of, known, request_fields, tag_at}
use Rattle.erasure.specs.Erasure.{Told as Erasure, erase_tests, never, run_on, unburned, burning, erase_of, uncut_of, is_cut}
use Rattle.erasure.specs.Parts.{Apart}
use Rattle.erasure.proofs.Parts.{run_apart}
use Rattle.erasure.proofs.Cuts.{whole_by}
use Rattle.mailbox.specs.declared.effects.Effect.{Effect}
use Rattle.mailbox.proofs.Laws.{fers_context}
use Rattle.mailbox.proofs.Told.{mailbox_elim}
use Rattle.mailbox.proofs.Handles.{rotated_cache}
use Rattle.mailbox.specs.Mailbox.{rotation_of, partition_in, accepted, own_tests, state_after}
use Rattle.engine.specs.declared.EngineReply.{EngineReply}
use Rattle.reply.specs.Reply.{kind_after}
use Rattle.reply.specs.Laws.{reply_elim}
use Rattle.history.specs.Calls.{occupied, Call, Direct, Erase, EraseCut, Mailbox, TakeReply, MakeTable, Restart, after, after_all}
use Rattle.history.proofs.Kept.{made_cache}
use Rattle.history.specs.HeldKeys.{Safe}

-- ---- what changes no slot

-- a change of a partition that is no slot, which leaves every partition that lies apart from it, leaves the active slot
slots_kept : (image : List ℕ) → map_good image ≡ true → (i : ℕ) → i < (header_of image).partitions → slot (entry_of image i) ≡ false → (cells after : List ℕ)
    → ((j : ℕ) → Apart image i j → cells_of image after j ≡ cells_of image cells j) → active_slot image after ≡ active_slot image cells
slots_kept image good i within no_slot cells after kept =
    active_same image cells after
    (λ j l is_slot.
    ⊎_elim
    (λ (t : i < j). kept j (inl (map_order image good i j t l)))
    (⊎_elim
    (λ (t : j < i). kept j (inr (map_order image good j i t within)))
    (λ (e : i ≡ j). absurd (false≢true (sym no_slot ∙ ap (λ (p : ℕ). slot (entry_of image p)) e ∙ is_slot))))
    (ordered i j))

-- so a burn of a word there
word_kept : (image : List ℕ) → map_good image ≡ true → {k i : ℕ} {role : Role} {wide : Bool} → Found image k i role wide → slot (entry_of image i) ≡ false
    → (marks : List ℕ) (v : ℕ) (cells : List ℕ) → active_slot image (burn_word marks k wide v cells) ≡ active_slot image cells
word_kept image good {k} {i} {role} {wide} found no_slot marks v cells =
    slots_kept image good i found.partition no_slot cells (burn_word marks k wide v cells)
    (λ j apart. burn_apart (entry_of image j).first (entry_of image j).n marks k wide v cells
    (⊎_elim (λ (l : end_of (entry_of image i) ≤ (entry_of image j).first). inl (omega (arith, found.high)))
    (λ (l : end_of (entry_of image j) ≤ (entry_of image i).first). inr (omega (arith, found.low))) apart))

-- ---- one call

module _ (image marks : List ℕ) (s : State) (safe : Safe image s) where
  -- an empty cache has no place that is occupied
  none_safe : (t : State) → Safe image (with_context (emptied t.context) t)
  none_safe t h = absurd (false≢true (sym (emptied_rest t.context).all_empty ∙ h))

  -- a direct command that is not refused changes no slot while a place is occupied
  word_safe : (command : Command) (i : ℕ) (role : Role) (wide : Bool) → map_good image ≡ true → Found image (cell_of command) i role wide
      → changes_slot command image i s.context ≡ false → Safe image (with_cells (cells_after command wide marks s.cells) s)
  unfolding cells_after changes_slot
  word_safe (Read cell) i role wide good found n h = safe h
  word_safe (Write cell value) i role wide good found n h = rw (word_kept image good found (not_first _ _ n h) marks value s.cells) (safe h)
  word_safe (Zeroize cell) i role wide good found n h = rw (word_kept image good found (not_first _ _ n h) marks _ s.cells) (safe h)

  by_safe : (command : Command) (found : Option Word) → word_at image (cell_of command) ≡ found → Safe image (direct_by found image marks command s).after
  unfolding carried_out
  by_safe command None e =
      first_elim (λ (o : Outcome (Result Answer Refusal) State). Safe image o.after) (refusing Err s) (direct_tests None command image marks s) (carried_out None command image marks s)
      (λ n _. safe) (λ none. safe)
  by_safe command (Some word) e =
      first_elim (λ (o : Outcome (Result Answer Refusal) State). Safe image o.after) (refusing Err s)
      (direct_tests (Some word) command image marks s) (carried_out (Some word) command image marks s)
      (λ n _. safe)
      (λ none. let good : map_good image ≡ true = not-false _ (none 0) in word_safe command word.partition word.role word.wide good (word_tells image good (cell_of command) word.partition word.role word.wide (sym e)) (none 4))

  direct_safe : (command : Command) → Safe image (after image marks (Direct command) s)
  direct_safe command = subst (λ (o : Outcome (Result Answer Refusal) State). Safe image o.after) (sym (direct_at image marks command s refl)) (by_safe command (word_at image (cell_of command)) refl)

  -- nor does a run over a partition, cut or not
  run_safe : (i k mask : ℕ) → map_good image ≡ true → whole_arrays image s.cells marks ≡ true → i < (header_of image).partitions
      → slot_in_use image i s.context ≡ false → Safe image (with_cells (run_on image s.cells marks i k mask).tally.cells s)
  run_safe i k mask good arrays within unused h =
      let whole = whole_by image s.cells marks good arrays in
      let apart = run_apart image s.cells marks i k mask whole within in
      rw (slots_kept image good i within (not_first _ _ unused h) s.cells (run_on image s.cells marks i k mask).tally.cells apart) (safe h)

  erase_safe : (i k mask : ℕ) → Safe image (erase_of image marks i k mask s).after
  unfolding erase_of
  erase_safe i k mask =
      first_elim (λ (o : Outcome Erasure State). Safe image o.after) (refusing unburned s) (erase_tests image marks i s) (burning image marks i k mask s)
      (λ n _. safe)
      (λ none. run_safe i k mask (not-false _ (none 0)) (not-false _ (none 1)) (leb-false _ _ (none 2)) (none 4))

  -- a cut leaves no place occupied
  cut_safe : (i k mask : ℕ) → Safe image (after image marks (EraseCut i k mask) s)
  cut_safe i k mask =
      let o = erase_of image marks i k mask s in
      cond_keeps (λ (context : List ℕ). Safe image (with_context context o.after)) (is_cut o.told) (emptied o.after.context) o.after.context
      (λ _. none_safe o.after) (λ _. erase_safe i k mask)

  -- of the mailbox's commands a load alone occupies a place, and it needs the HEK; FERS alone changes fuses
  abbrev DoneSafe : Outcome (Result Effect Refusal) (List ℕ) → Type 0
  DoneSafe d = Safe image (state_after d s)

  accepted_safe : (command : Command') (request : List ℕ) → map_good image ≡ true → whole_arrays image s.cells marks ≡ true → known command ≡ true
      → ((k : ℕ) → test_at (own_tests command image request s) k ≡ false) → DoneSafe (accepted command image marks request s)
  accepted_safe Clkc request good arrays k none = λ h. safe (clearing_occupied s.context h)
  accepted_safe Klod request good arrays k none = λ _. not-false _ (none 0)
  accepted_safe Kunl request good arrays k none =
      let tag = tag_at (request_fields Kunl) request in
      λ _. safe (has_occupied (cache_of s.context) (Tag tag) (tag_occupies tag) (not-false _ (none 0)))
  accepted_safe Fers request good arrays k none =
      rw (fers_context (uncut_of image s.cells marks (partition_in request)).told s.context) (run_safe (partition_in request) never 0 good arrays (leb-false _ _ (none 0)) (none 2))
  accepted_safe Fsta request good arrays k none = safe
  accepted_safe Ehdl request good arrays k none = safe
  accepted_safe Rhpk request good arrays k none =
      let e = rotation_of (table_of s.context) request in λ h. safe (rw (rotated_cache e.rotates (get_or e.numbers 0 0) s.context) at h)
  accepted_safe Unknown request good arrays k none = absurd (false≢true k)

  mailbox_safe : (code : ℕ) (request response block : List ℕ) → Safe image (after image marks (Mailbox code request response block) s)
  mailbox_safe code request response block =
      mailbox_elim image marks code request (length response) (length block) s DoneSafe (λ _ _. safe) (accepted_safe (command_of code) request)

  -- a reply occupies none
  reply_safe : (reply : EngineReply) → Safe image (after image marks (TakeReply reply) s)
  reply_safe reply =
      reply_elim reply s.context (λ (o : Outcome (Result ⊤ Refusal) (List ℕ)). Safe image (with_context o.after s))
      (λ _. safe) (λ _ h. safe (settled_occupied (kind_after reply (cache_of s.context).awaited) s.context h))

  -- nor does a table that is made
  table_safe : (handles algorithms : List ℕ) → Safe image (after image marks (MakeTable handles algorithms) s)
  table_safe handles algorithms =
      making_elim handles algorithms s.context (λ (o : Outcome (Result ⊤ Refusal) (List ℕ)). Safe image (with_context o.after s))
      safe (λ _ h. safe (rw (made_cache handles algorithms s.context) at h))

-- ---- every list of calls

-- one call keeps the claim
pub call_safe : (image marks : List ℕ) (call : Call) (s : State) → Safe image s → Safe image (after image marks call s)
call_safe image marks (Direct command) s safe = direct_safe image marks s safe command
call_safe image marks (Erase i) s safe = erase_safe image marks s safe i never 0
call_safe image marks (EraseCut i k mask) s safe = cut_safe image marks s safe i k mask
call_safe image marks (Mailbox code request response block) s safe = mailbox_safe image marks s safe code request response block
call_safe image marks (TakeReply reply) s safe = reply_safe image marks s safe reply
call_safe image marks (MakeTable handles algorithms) s safe = table_safe image marks s safe handles algorithms
call_safe image marks Restart s safe = none_safe image marks s safe s

-- so does every list of calls
pub calls_safe : (image marks : List ℕ) (calls : List Call) (s : State) → Safe image s → Safe image (after_all image marks calls s)
calls_safe image marks [] s safe = safe
calls_safe image marks (call ∷ calls) s safe = calls_safe image marks calls (after image marks call s) (call_safe image marks call s safe)

-- from any state with every place empty, with map and marks fixed: after every list of calls, a place is not empty only while the HEK is
-- available
pub held_only_while_available : (image marks : List ℕ) (start : State) → occupied start ≡ false → (calls : List Call) → Safe image (after_all image marks calls start)
held_only_while_available image marks start none calls = calls_safe image marks calls start (λ h. absurd (false≢true (sym none ∙ h)))
