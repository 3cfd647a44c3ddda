-- The laws of a command's own refusals: the refusal, by the place of the test that gives it, and all of them by their three parts. Assumes
-- nothing.
-- The definitions stand in specs/Judging.antt.
use Rattle.std.specs.Prelude.{ℕ, ◌≡◌, refl, Bool, true, List, ◌++◌, Result, Ok, Err, ⊤}
use Rattle.std.proofs.Common.{sym, ◌∙◌}
use Rattle.refusal.specs.Refusals.{test_at, refusal_at, Past, refused_at, past_all, judged, judged_refuses, judged_passes}
use Rattle.refusal.specs.declared.Refusal.{Refusal}
use Rattle.context.specs.State.{State}
use Rattle.handles.specs.Handles.{Table}
use Rattle.codec.specs.declared.Command.{Command}
use Rattle.mailbox.specs.Mailbox.{load_tests, unload_tests, command_tests, engine_tests, rotation_tests, handle_tests, own_tests}

module _ (image request : List ℕ) (s : State) where
  pub load_at : (k : ℕ) → Past k (load_tests image request s) → test_at (load_tests image request s) k ≡ true
      → Err (refusal_at (load_tests image request s) k) ≡ judged (load_tests image request s)
  load_at k = refused_at Err (Ok tt) k (load_tests image request s)

  pub load_past : Past 3 (load_tests image request s) → Ok tt ≡ judged (load_tests image request s)
  load_past = past_all Err (Ok tt) (load_tests image request s)

module _ (context request : List ℕ) where
  pub unload_at : (k : ℕ) → Past k (unload_tests context request) → test_at (unload_tests context request) k ≡ true
      → Err (refusal_at (unload_tests context request) k) ≡ judged (unload_tests context request)
  unload_at k = refused_at Err (Ok tt) k (unload_tests context request)

  pub unload_past : Past 1 (unload_tests context request) → Ok tt ≡ judged (unload_tests context request)
  unload_past = past_all Err (Ok tt) (unload_tests context request)

module _ (command : Command) (context : List ℕ) where
  pub engine_at : (k : ℕ) → Past k (engine_tests command context) → test_at (engine_tests command context) k ≡ true
      → Err (refusal_at (engine_tests command context) k) ≡ judged (engine_tests command context)
  engine_at k = refused_at Err (Ok tt) k (engine_tests command context)

  pub engine_past : Past 2 (engine_tests command context) → Ok tt ≡ judged (engine_tests command context)
  engine_past = past_all Err (Ok tt) (engine_tests command context)

module _ (t : Table) (request : List ℕ) where
  pub rotation_at : (k : ℕ) → Past k (rotation_tests t request) → test_at (rotation_tests t request) k ≡ true
      → Err (refusal_at (rotation_tests t request) k) ≡ judged (rotation_tests t request)
  rotation_at k = refused_at Err (Ok tt) k (rotation_tests t request)

  pub rotation_past : Past 2 (rotation_tests t request) → Ok tt ≡ judged (rotation_tests t request)
  rotation_past = past_all Err (Ok tt) (rotation_tests t request)

-- so it is the command's, or else the engine's, or else the table's
module _ (command : Command) (image request : List ℕ) (s : State) where
  abbrev engines : List (Bool × Refusal)
  engines = engine_tests command s.context

  abbrev tables : List (Bool × Refusal)
  tables = handle_tests command s.context request

  pub own_first : {r : Refusal} → Err r ≡ judged (command_tests command image request s) → Err r ≡ judged (own_tests command image request s)
  own_first e = sym (judged_refuses Err (engines ++ tables) (Ok tt) (command_tests command image request s) _ e)

  module _ (z : Ok tt ≡ judged (command_tests command image request s)) where
    past_command : judged (own_tests command image request s) ≡ judged (engines ++ tables)
    past_command = (judged_passes Err (engines ++ tables) (Ok tt) (command_tests command image request s) z).is

    pub own_second : {r : Refusal} → Err r ≡ judged engines → Err r ≡ judged (own_tests command image request s)
    own_second e = sym (past_command ∙ judged_refuses Err tables (Ok tt) engines _ e)

    pub own_third : {r : Result ⊤ Refusal} → Ok tt ≡ judged engines → r ≡ judged tables → r ≡ judged (own_tests command image request s)
    own_third y e = e ∙ sym (past_command ∙ (judged_passes Err tables (Ok tt) engines y).is)
