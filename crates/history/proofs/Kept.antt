-- What calls leave of the context: a direct command and an erasure all of it; replies, cuts and restarts the table; a
-- table that is made the cache. Assumes nothing.
use Rattle.std.specs.Prelude.{ℕ, ◌≡◌, refl, List, Option, Some, None, Result, Err}
use Rattle.std.proofs.Common.{sym, subst, ◌∙◌}
use Rattle.refusal.specs.Refusals.{first_elim}
use Rattle.refusal.specs.declared.Refusal.{Refusal}
use Rattle.context.specs.State.{State, Outcome, refusing}
use Rattle.cache.specs.Cache.{cache_of, emptied, settled}
use Rattle.cache.proofs.Laws.{emptied_behind, settled_behind, store_behind}
use Rattle.handles.specs.Handles.{table_of}
use Rattle.handles.specs.Making.{made}
use Rattle.handles.specs.After.{table_behind, made_keeps}
use Rattle.word.specs.declared.Word.{Word}
use Rattle.word.specs.Word.{word_at}
use Rattle.direct.specs.declared.Command.{Command}
use Rattle.direct.specs.declared.Answer.{Answer as DirectAnswer}
use Rattle.direct.specs.Direct.{cell_of, direct_tests, carried_out, direct_by, direct_of}
use Rattle.direct.proofs.Laws.{direct_at}
use Rattle.erasure.specs.Erasure.{Told as Erasure, erase_tests, unburned, burning, erase_of}

-- ---- calls that leave the context

module _ (image marks : List ℕ) (s : State) where
  by_lookup : (command : Command) (found : Option Word) → (direct_by found image marks command s).after.context ≡ s.context
  unfolding carried_out
  by_lookup command None =
      first_elim (λ (o : Outcome (Result DirectAnswer Refusal) State). o.after.context ≡ s.context) (refusing Err s) (direct_tests None command image marks s)
      (carried_out None command image marks s) (λ n _. refl) (λ none. refl)
  by_lookup command (Some word) =
      first_elim (λ (o : Outcome (Result DirectAnswer Refusal) State). o.after.context ≡ s.context) (refusing Err s) (direct_tests (Some word) command image marks s)
      (carried_out (Some word) command image marks s) (λ n _. refl) (λ none. refl)

  pub direct_leaves : (command : Command) → (direct_of image marks command s).after.context ≡ s.context
  direct_leaves command =
      subst (λ (o : Outcome (Result DirectAnswer Refusal) State). o.after.context ≡ s.context) (sym (direct_at image marks command s refl))
      (by_lookup command (word_at image (cell_of command)))

  pub erase_leaves : (i k mask : ℕ) → (erase_of image marks i k mask s).after.context ≡ s.context
  unfolding erase_of
  erase_leaves i k mask =
      first_elim (λ (o : Outcome Erasure State). o.after.context ≡ s.context) (refusing unburned s) (erase_tests image marks i s) (burning image marks i k mask s)
      (λ n _. refl) (λ none. refl)

-- ---- what replies, cuts and restarts leave of the table

pub emptied_table : (context : List ℕ) → table_of (emptied context) ≡ table_of context
emptied_table context = table_behind context (emptied context) (emptied_behind context)

pub settled_table : (kind : ℕ) (context : List ℕ) → table_of (settled kind context) ≡ table_of context
settled_table kind context = table_behind context (settled kind context) (settled_behind kind context)

-- ---- what a table that is made leaves of the cache, as a rotation does (`mailbox` `rotated_cache`)

pub made_cache : (handles algorithms context : List ℕ) → cache_of (made handles algorithms context) ≡ cache_of context
made_cache handles algorithms context =
    made_keeps (λ (c : List ℕ). cache_of c ≡ cache_of context) (λ c i v l e. store_behind c i v l ∙ e) context refl handles algorithms
