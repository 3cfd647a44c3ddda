-- Document 01, "Direct commands" and demand 2: what no answer shows, and when a key is loaded. Assumes nothing.
-- The definitions stand in specs/Secrets.antt.
use Rattle.std.specs.Prelude.{ℕ, ◌+◌, ◌-◌, ◌≤◌, ◌<◌, ◌≡◌, Bool, List, eqb, length, Option, Some, None, Result, Err, Ok}
use Rattle.std.proofs.Math.Path.{refl}
use Rattle.std.proofs.Common.{sym, ap, ◌∙◌, ⊎_elim, arith}
use Rattle.std.proofs.Math.Bool.{true, false}
use Rattle.std.proofs.lemmas.Bool.{false≢true}
use borrow.Author.Tests.{not-false}
use Rattle.laws.specs.Tests.{not_yes, cond_keeps, ordered}
use Rattle.refusal.specs.Refusals.{first_elim}
use Rattle.refusal.specs.declared.Refusal.{Refusal}
use Rattle.context.specs.State.{State, Outcome, refusing}
use Rattle.map.specs.Map.{header_of, entry_of, secret, map_good}
use Rattle.fuse.specs.Fuse.{short, cells_in}
use Rattle.word.specs.declared.Role.{Role}
use Rattle.word.specs.declared.Word.{Word}
use Rattle.word.specs.Word.{holds, word_at, some_word}
use Rattle.word.specs.Laws.{Found, apart, holds_at, word_tells, secret_wide}
use Rattle.direct.specs.declared.Command.{Command}
use Rattle.direct.specs.declared.Command.TheVariants.{Read, Write, Zeroize}
use Rattle.direct.specs.declared.Answer.{Answer}
use Rattle.direct.specs.declared.Answer.TheVariants.{Word as Shown, Withheld}
use Rattle.direct.specs.Direct.{cell_of, forbidden, direct_tests, cells_after, carried_out, direct_by, direct_of}
use Rattle.direct.proofs.Laws.{direct_at}
use Rattle.drive.specs.Active.{Available, available_tells}
use Rattle.codec.specs.Fields.{command_of}
use Rattle.mailbox.specs.declared.effects.Effect.{Effect}
use Rattle.mailbox.specs.declared.Reply.{Reply}
use Rattle.mailbox.proofs.Laws.{order_done, load_only}
use Rattle.mailbox.proofs.Told.{mailbox_elim}
use Rattle.mailbox.specs.Mailbox.{accepted, reply_of, Lent, mailbox_of, loads}
use Rattle.history.specs.Calls.{order_in}
use Rattle.history.specs.Secrets.{shows, shown_word, tells_new, zeros_of, Open, Secret}
use Rattle.history.proofs.Shown.{shown_least}

-- ---- READ

module _ (image marks : List ℕ) (s : State) (cell : ℕ) where
  -- a cell of a word that lies in partition i lies in no other
  elsewhere : map_good image ≡ true → {i : ℕ} {role : Role} {wide : Bool} → Found image cell i role wide → secret (entry_of image i) ≡ false → (j k : ℕ)
      → j < (header_of image).partitions → secret (entry_of image j) ≡ true → cell ≤ k → k < cell + cells_in wide → holds (entry_of image j) k ≡ false
  elsewhere good {i} found not_secret j k l is_secret low high =
      let here : holds (entry_of image i) k ≡ true = holds_at (entry_of image i) k (omega (arith, found.low)) (omega (arith, found.high)) in
      not_yes _ (λ there.
      ⊎_elim
      (λ (t : i < j). apart image good i j k t l here there)
      (⊎_elim
      (λ (t : j < i). apart image good j i k t found.partition there here)
      (λ (e : i ≡ j). false≢true (sym not_secret ∙ ap (λ (p : ℕ). secret (entry_of image p)) e ∙ is_secret)))
      (ordered i j))

  open_by : (found : Option Word) → word_at image cell ≡ found → shows (direct_by found image marks (Read cell) s).told ≡ true
      → Open image s.cells cell (direct_by found image marks (Read cell) s).told
  unfolding forbidden carried_out cells_after
  open_by None e =
      first_elim (λ (o : Outcome (Result Answer Refusal) State). shows o.told ≡ true → Open image s.cells cell o.told) (refusing Err s)
      (direct_tests None (Read cell) image marks s) (carried_out None (Read cell) image marks s)
      (λ n _ y. absurd (false≢true y))
      (λ h y. absurd (false≢true y))
  open_by (Some word) e =
      first_elim (λ (o : Outcome (Result Answer Refusal) State). shows o.told ≡ true → Open image s.cells cell o.told) (refusing Err s)
      (direct_tests (Some word) (Read cell) image marks s) (carried_out (Some word) (Read cell) image marks s)
      (λ n _ y. absurd (false≢true y))
      (λ h y.
      let good : map_good image ≡ true = not-false _ (h 0) in
      record { partition = word.partition; role = word.role; wide = word.wide; starts = e; is_word = refl; is_open = h 2; no_secret = elsewhere good (word_tells image good cell word.partition word.role word.wide (sym e)) (h 2) })

  -- "Every word of a secret partition is refused": READ never shows a cell of one
  pub read_shows : shows (direct_of image marks (Read cell) s).told ≡ true → Open image s.cells cell (direct_of image marks (Read cell) s).told
  read_shows = rw (direct_at image marks (Read cell) s refl) (open_by (word_at image cell) refl)

same_word : {i j : ℕ} {r q : Role} {v w : Bool} → some_word i r v ≡ some_word j q w → i ≡ j
same_word {i} e = ap partition_in e
  where
    partition_in : Option Word → ℕ
    partition_in (Some word) = word.partition
    partition_in None = i

-- so READ of a word of a secret partition shows nothing
pub read_hides : (image marks : List ℕ) (s : State) (cell : ℕ) → Secret image cell → shows (direct_of image marks (Read cell) s).told ≡ false
read_hides image marks s cell hidden =
    not_yes _ (λ y.
    let o = read_shows image marks s cell y in
    let same = same_word (sym o.starts ∙ hidden.starts) in
    false≢true (sym o.is_open ∙ ap (λ (p : ℕ). secret (entry_of image p)) same ∙ hidden.is_secret))

-- ---- WRITE and ZEROIZE

module _ (image marks : List ℕ) (s : State) (cell : ℕ) (hidden : Secret image cell) where
  found : Option Word
  found = some_word hidden.partition hidden.role hidden.wide

  -- "Answer: the word as it now stands, or done in a secret partition": WRITE shows nothing there
  pub write_hides : (value : ℕ) → shows (direct_of image marks (Write cell value) s).told ≡ false
  unfolding found carried_out
  write_hides value =
      rw (direct_at image marks (Write cell value) s hidden.starts)
      (first_elim (λ (o : Outcome (Result Answer Refusal) State). shows o.told ≡ false) (refusing Err s)
      (direct_tests found (Write cell value) image marks s) (carried_out found (Write cell value) image marks s)
      (λ n _. refl)
      (λ h. rw hidden.is_secret))

  -- "A value given in answer to ZEROIZE from a secret partition thus has at most 64 - B zeros", on either guide
  pub zeroize_shows : shows (direct_of image marks (Zeroize cell) s).told ≡ true → zeros_of (shown_word (direct_of image marks (Zeroize cell) s).told) ≤ 64 - (header_of image).bound
  unfolding found carried_out
  zeroize_shows =
      rw (direct_at image marks (Zeroize cell) s hidden.starts)
      (first_elim (λ (o : Outcome (Result Answer Refusal) State). shows o.told ≡ true → zeros_of (shown_word o.told) ≤ 64 - (header_of image).bound) (refusing Err s)
      (direct_tests found (Zeroize cell) image marks s) (carried_out found (Zeroize cell) image marks s)
      (λ n _ y. absurd (false≢true y))
      (λ h y.
      let good : map_good image ≡ true = not-false _ (h 0) in
      let lies = word_tells image good cell hidden.partition hidden.role hidden.wide (sym hidden.starts) in
      let pair = secret_wide image good lies hidden.is_secret in
      shown_least (entry_of image hidden.partition) hidden.wide (header_of image).bound _ _ hidden.is_secret pair _ refl y))

  -- request P8, "In a secret partition WRITE and ZEROIZE do not show it", the number of fuses newly set, nor does READ
  pub new_hidden : (command : Command) → cell_of command ≡ cell → tells_new (direct_of image marks command s).told ≡ false
  unfolding found carried_out
  new_hidden command at =
      rw (direct_at image marks command s (ap (word_at image) at ∙ hidden.starts))
      (first_elim (λ (o : Outcome (Result Answer Refusal) State). tells_new o.told ≡ false) (refusing Err s)
      (direct_tests found command image marks s) (carried_out found command image marks s)
      (λ n _. refl)
      (λ h. by command))
    where
      by : (command : Command) → tells_new (carried_out found command image marks s).told ≡ false
      by (Read cell) = refl
      by (Write cell value) = rw hidden.is_secret
      by (Zeroize cell) = rw hidden.is_secret (cond_keeps (λ (a : Answer). tells_new (Ok a) ≡ false) (short _ _) Withheld (Shown _) (λ _. refl) (λ _. refl))

-- ---- loads

-- what is done orders what its reply tells
ordered_by : (d : Result Effect Refusal) → loads (order_in (reply_of d)) ≡ true → loads (order_done d) ≡ true
ordered_by (Ok e) y = y
ordered_by (Err r) y = y

-- "No key is loaded unless the active slot is programmed": a call that orders a load finds the HEK available
pub load_needs_hek : (image marks : List ℕ) (code : ℕ) (request : List ℕ) (l : Lent) → loads (order_in (mailbox_of image marks code request l).told) ≡ true
    → Available image l.state.cells
load_needs_hek image marks code request l =
    mailbox_elim image marks code request (length l.response) (length l.block) l.state
    (λ (d : Outcome (Result Effect Refusal) (List ℕ)). loads (order_in (reply_of d.told)) ≡ true → Available image l.state.cells)
    (λ _ _ y. absurd (false≢true y))
    (λ good arrays k none y.
    let named = load_only (command_of code) image marks request l.state (ordered_by (accepted (command_of code) image marks request l.state).told y) in
    available_tells image l.state.cells (not-false _ (rw named at (none 0))))
