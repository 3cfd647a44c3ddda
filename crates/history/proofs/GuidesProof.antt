-- Request P7, the theorem of `Guides`: past the map's own check nothing but the word that a ZEROIZE answers reads flag 8. Assumes nothing.
use Rattle.std.specs.Prelude.{ℕ, ◌≡◌, Bool, true, false, cond, length, Option, Some, None, Result, Err, Ok}
use Rattle.std.proofs.Math.Path.{refl, ap}
use Rattle.std.proofs.Common.{sym, ap₂, ◌∙◌}
use Rattle.std.proofs.lemmas.Bool.{false≢true}
use mathlib.Core.List.{List, [], ◌∷◌, ◌++◌}
use Rattle.laws.specs.Below.{first_below}
use Rattle.laws.proofs.Below.{first_same}
use Rattle.refusal.specs.Refusals.{first_of, first_both}
use Rattle.refusal.specs.declared.Refusal.{Refusal}
use Rattle.refusal.specs.declared.Refusal.TheVariants.{BadLent}
use Rattle.context.specs.State.{State, Outcome, outcome, refusing, telling, on_cells}
use Rattle.map.specs.Map.{header_of, entry_of, secret, map_good}
use Rattle.map.proofs.Laws.{map_header}
use Rattle.map.specs.Guides.{Differ8, SameBut8}
use Rattle.map.proofs.Guides.{same_header, same_entry, same_zeroizable, same_secret, same_slot}
use Rattle.map.specs.declared.Header.{Header}
use Rattle.map.specs.declared.Entry.{Entry}
use Rattle.fuse.specs.Fuse.{short}
use Rattle.word.specs.declared.Word.{Word}
use Rattle.word.specs.Word.{word_in, is_held_at, partition_of, word_at}
use Rattle.drive.specs.Drive.{whole_arrays, drive_tests, cells_of, survey_at, marked_at, slot_at, present, open_slot, active_place, active_slot, slot_in_use}
use Rattle.burns.specs.declared.End.{End}
use Rattle.burns.specs.declared.End.TheVariants.{Whole, Stopped, Cut as CutEnd}
use Rattle.burns.specs.Run.{Tally}
use Rattle.erasure.specs.Erasure.{Told as Erasure, partition_tests, run_on, never, answer_by, ran_of, unburned, erase_of, after_cut}
use Rattle.codec.specs.declared.Command.{Command as Code}
use Rattle.codec.specs.declared.Command.TheVariants.{Clkc, Klod, Kunl, Fers, Fsta, Ehdl, Rhpk, Unknown}
use Rattle.codec.specs.Fields.{command_of}
use Rattle.codec.specs.Request.{request_tests}
use Rattle.mailbox.specs.Mailbox.{fers_of, partition_in, accepted, command_tests, engine_tests, handle_tests, lent_bad, done_of}
use Rattle.mailbox.specs.Mailbox.{Lent, lent, written_out, mailbox_of}
use Rattle.direct.specs.declared.Command.{Command}
use Rattle.direct.specs.declared.Command.TheVariants.{Read, Write, Zeroize}
use Rattle.direct.specs.declared.Answer.{Answer}
use Rattle.direct.specs.declared.Answer.TheVariants.{Word as Shown, Burned, Withheld}
use Rattle.direct.specs.Direct.{cell_of, word_of, forbidden, changes_slot, word_tests, direct_tests, cells_after, new_after, told_word, answer_of, carried_out, direct_of}
use Rattle.direct.proofs.Laws.{direct_at}
use Rattle.history.specs.Calls.{Call, Direct, Erase, EraseCut, Mailbox, TakeReply, MakeTable, Restart, Told, Answering, Erasing}
use Rattle.history.specs.Calls.{replying, outcome_of, after, after_all}
use Rattle.history.specs.Guides.{wordless, zeroizes, OnlyTheWord}

-- ---- what reads no flag 8

-- equal tests and equal accepted answers give the same
first_by : {A : Type 0} (refuse : Refusal → A) {tests tests' : List (Bool × Refusal)} {accepted accepted' : A} → tests' ≡ tests → accepted' ≡ accepted
    → first_of refuse tests' accepted' ≡ first_of refuse tests accepted
first_by refuse p q = ap₂ (λ tests accepted. first_of refuse tests accepted) p q

module _ (image other marks : List ℕ) (d : Differ8 image other) (good : map_good image ≡ true) (good' : map_good other ≡ true) where
  header : header_of other ≡ header_of image
  header = same_header image other d (map_header image good).offset_least

  count : (header_of other).partitions ≡ (header_of image).partitions
  count = ap (λ (h : Header). h.partitions) header

  bound : (header_of other).bound ≡ (header_of image).bound
  bound = ap (λ (h : Header). h.bound) header

  entry : (i : ℕ) → SameBut8 (entry_of image i) (entry_of other i)
  entry = same_entry image other d (map_header image good).offset_least

  part : (l : List ℕ) (i : ℕ) → cells_of other l i ≡ cells_of image l i
  part l i = rw ((entry i).first, (entry i).n)

  drive_tests_lem : (cells : List ℕ) → drive_tests other cells marks ≡ drive_tests image cells marks
  unfolding whole_arrays
  drive_tests_lem cells = rw (good, good', ap (λ (h : Header). h.cells) header)

  in_use : (i : ℕ) (context : List ℕ) → slot_in_use other i context ≡ slot_in_use image i context
  in_use i context = rw (same_slot (entry i))

  -- the word at a cell
  place : (cell : ℕ) → partition_of other cell ≡ partition_of image cell
  unfolding is_held_at
  place cell =
      ap (first_below (is_held_at other cell)) count
      ∙ first_same (is_held_at other cell) (is_held_at image cell) (header_of image).partitions (λ i _. rw ((entry i).first, (entry i).n))

  word : (cell : ℕ) → word_at other cell ≡ word_at image cell
  unfolding word_at word_in
  word cell =
      let i = partition_of image cell in
      rw (place cell, count, (entry i).first, (entry i).n, (entry i).kind, same_zeroizable (entry i))

  -- the active slot
  survey : (cells : List ℕ) (i : ℕ) → survey_at other cells i ≡ survey_at image cells i
  unfolding survey_at
  survey cells i = rw (part cells i, bound, same_zeroizable (entry i))

  slot_same : (cells : List ℕ) (i : ℕ) → slot_at other cells i ≡ slot_at image cells i
  unfolding slot_at
  slot_same cells i = rw (survey cells i, same_slot (entry i))

  active : (cells : List ℕ) → active_slot other cells ≡ active_slot image cells
  unfolding active_slot open_slot
  active cells =
      let first = ap (first_below (open_slot other cells)) count
      ∙ first_same (open_slot other cells) (open_slot image cells) (header_of image).partitions (λ i _. ap present (slot_same cells i)) in
      rw (first, count, slot_same cells (active_place image cells))

  -- ---- direct commands: the same tests, and for READ and WRITE the same answers

  marked_same : (cells : List ℕ) (i : ℕ) → marked_at other cells i ≡ marked_at image cells i
  unfolding marked_at
  marked_same cells i = rw (part cells i, same_zeroizable (entry i))

  word_tests_lem : (found : Option Word) (command : Command) (s : State) → word_tests found command other s ≡ word_tests found command image s
  unfolding forbidden changes_slot
  word_tests_lem None command s = refl
  word_tests_lem (Some word) (Read cell) s = rw (same_secret (entry word.partition))
  word_tests_lem (Some word) (Write cell value) s = rw ((entry word.partition).kind, marked_same s.cells word.partition, same_slot (entry word.partition))
  word_tests_lem (Some word) (Zeroize cell) s = rw (same_zeroizable (entry word.partition), same_slot (entry word.partition))

  direct_tests_lem : (found : Option Word) (command : Command) (s : State) → direct_tests found command other marks s ≡ direct_tests found command image marks s
  direct_tests_lem found command s = ap₂ ◌++◌ (drive_tests_lem s.cells) (word_tests_lem found command s)

  carried_same : (found : Option Word) (command : Command) (s : State) → zeroizes (Direct command) ≡ false
      → carried_out found command other marks s ≡ carried_out found command image marks s
  unfolding carried_out
  carried_same None command s o = refl
  carried_same (Some word) (Read cell) s o = refl
  carried_same (Some word) (Write cell value) s o = rw (same_secret (entry word.partition))
  carried_same (Some word) (Zeroize cell) s o = absurd (false≢true (sym o))

  direct_same : (command : Command) → zeroizes (Direct command) ≡ false → (s : State) → direct_of other marks command s ≡ direct_of image marks command s
  direct_same command o s =
      let found = word_at image (cell_of command) in
      direct_at other marks command s (word (cell_of command))
      ∙ first_by (refusing Err s) (direct_tests_lem found command s) (carried_same found command s o)
      ∙ sym (direct_at image marks command s refl)

  -- of ZEROIZE all but the word
  abbrev Alike : Outcome (Result Answer Refusal) State → Outcome (Result Answer Refusal) State → Type 0
  Alike o p = (wordless o.told ≡ wordless p.told) × (o.after ≡ p.after)

  shown_alike : (hidden few : Bool) (v w new : ℕ)
      → wordless (Ok (cond hidden (cond few Withheld (Shown v)) (Burned v new))) ≡ wordless (Ok (cond hidden (cond few Withheld (Shown w)) (Burned w new)))
  shown_alike true true v w new = refl
  shown_alike true false v w new = refl
  shown_alike false few v w new = refl

  answer_alike : (i cell : ℕ) (wide : Bool) (bound word new : ℕ)
      → wordless (Ok (answer_of (Zeroize cell) (entry_of other i) wide bound word new)) ≡ wordless (Ok (answer_of (Zeroize cell) (entry_of image i) wide bound word new))
  answer_alike i cell wide bound word new =
      let shown : Entry → ℕ = λ x. told_word x wide word in
      rw (same_secret (entry i)) (shown_alike (secret (entry_of image i)) (short bound word) (shown (entry_of other i)) (shown (entry_of image i)) new)

  carried_alike : (found : Option Word) (cell : ℕ) (s : State)
      → Alike (carried_out found (Zeroize cell) other marks s) (carried_out found (Zeroize cell) image marks s)
  unfolding carried_out
  carried_alike None cell s = (refl, refl)
  carried_alike (Some word) cell s =
      let stands = word_of word.wide cell (cells_after (Zeroize cell) word.wide marks s.cells) in
      (rw bound (answer_alike word.partition cell word.wide (header_of image).bound stands (new_after (Zeroize cell) word.wide marks s.cells)), refl)

  zeroize_alike : (cell : ℕ) (s : State) → Alike (direct_of other marks (Zeroize cell) s) (direct_of image marks (Zeroize cell) s)
  zeroize_alike cell s =
      let found = word_at image cell in
      let refuse = refusing Err s in
      let there = carried_out found (Zeroize cell) other marks s in
      let at_other = direct_at other marks (Zeroize cell) s (word cell) ∙ first_by refuse (direct_tests_lem found (Zeroize cell) s) refl in
      rw (at_other, direct_at image marks (Zeroize cell) s refl)
      (first_both Alike refuse refuse (direct_tests found (Zeroize cell) image marks s) there (carried_out found (Zeroize cell) image marks s)
      (λ n _. (refl, refl)) (λ none. carried_alike found cell s))

  -- ---- erasures

  ran : (cells : List ℕ) (i k mask : ℕ) → run_on other cells marks i k mask ≡ run_on image cells marks i k mask
  unfolding run_on
  ran cells i k mask = rw ((entry i).first, (entry i).n, (entry i).kind)

  told_same : (end : End) (i : ℕ) (t : Tally) → answer_by end other i t ≡ answer_by end image i t
  told_same Whole i t = rw ((entry i).first, (entry i).n, bound)
  told_same Stopped i t = refl
  told_same CutEnd i t = refl

  ran_same : (cells : List ℕ) (i k mask : ℕ) → ran_of other i (run_on other cells marks i k mask) ≡ ran_of image i (run_on image cells marks i k mask)
  ran_same cells i k mask =
      let r = run_on image cells marks i k mask in
      ap (ran_of other i) (ran cells i k mask) ∙ ap (λ (a : Erasure). outcome a r.tally.cells) (told_same r.end i r.tally)

  partition_tests_lem : (i : ℕ) (context : List ℕ) → partition_tests other i context ≡ partition_tests image i context
  partition_tests_lem i context = rw (count, same_zeroizable (entry i), same_slot (entry i))

  erase_same : (i k mask : ℕ) (s : State) → erase_of other marks i k mask s ≡ erase_of image marks i k mask s
  unfolding erase_of
  erase_same i k mask s =
      first_by (refusing unburned s) (ap₂ ◌++◌ (drive_tests_lem s.cells) (partition_tests_lem i s.context)) (ap (on_cells s) (ran_same s.cells i k mask))

  -- ---- the mailbox

  command_tests_lem : (command : Code) (request : List ℕ) (s : State) → command_tests command other request s ≡ command_tests command image request s
  command_tests_lem Clkc request s = refl
  command_tests_lem Klod request s = rw (active s.cells)
  command_tests_lem Kunl request s = refl
  command_tests_lem Fers request s = partition_tests_lem (partition_in request) s.context
  command_tests_lem Fsta request s = refl
  command_tests_lem Ehdl request s = refl
  command_tests_lem Rhpk request s = refl
  command_tests_lem Unknown request s = refl

  accepted_same : (command : Code) (request : List ℕ) (s : State) → accepted command other marks request s ≡ accepted command image marks request s
  accepted_same Clkc request s = refl
  accepted_same Klod request s = refl
  accepted_same Kunl request s = refl
  accepted_same Fers request s = ap (telling fers_of) (ran_same s.cells (partition_in request) never 0)
  accepted_same Fsta request s = rw (active s.cells)
  accepted_same Ehdl request s = refl
  accepted_same Rhpk request s = refl
  accepted_same Unknown request s = refl

  done_same : (code : ℕ) (request : List ℕ) (room block : ℕ) (s : State)
      → done_of other marks code request room block s ≡ done_of image marks code request room block s
  unfolding done_of
  done_same code request room block s =
      let command = command_of code in
      let rest = engine_tests command s.context ++ handle_tests command s.context request in
      let later = ap (λ (own : List (Bool × Refusal)). (lent_bad room block s.context, BadLent) ∷ (request_tests command code request ++ (own ++ rest)))
      (command_tests_lem command request s) in
      first_by (refusing Err s.cells) (ap₂ ◌++◌ (drive_tests_lem s.cells) later) (accepted_same command request s)

  -- ---- every call

  mailbox_same : (code : ℕ) (request : List ℕ) (l : Lent) → mailbox_of other marks code request l ≡ mailbox_of image marks code request l
  mailbox_same code request l = ap (written_out request l) (done_same code request (length l.response) (length l.block) l.state)

  call_same : (call : Call) → zeroizes call ≡ false → (s : State) → outcome_of other marks call s ≡ outcome_of image marks call s
  call_same (Direct command) o s = ap (telling Answering) (direct_same command o s)
  call_same (Erase i) o s = ap (telling Erasing) (erase_same i never 0 s)
  call_same (EraseCut i k mask) o s = ap (λ (e : Outcome Erasure State). telling Erasing (after_cut e)) (erase_same i k mask s)
  call_same (Mailbox code request response block) o s = ap replying (mailbox_same code request (lent s response block))
  call_same (TakeReply reply) o s = refl
  call_same (MakeTable handles algorithms) o s = refl
  call_same Restart o s = refl

  leaves : (call : Call) → zeroizes call ≡ false → (s : State) → after other marks call s ≡ after image marks call s
  leaves call o s = ap (λ (p : Outcome Told State). p.after) (call_same call o s)

  after_same : (call : Call) (s : State) → after other marks call s ≡ after image marks call s
  after_same (Direct (Read cell)) s = leaves (Direct (Read cell)) refl s
  after_same (Direct (Write cell value)) s = leaves (Direct (Write cell value)) refl s
  after_same (Direct (Zeroize cell)) s = (zeroize_alike cell s).1
  after_same (Erase i) s = leaves (Erase i) refl s
  after_same (EraseCut i k mask) s = leaves (EraseCut i k mask) refl s
  after_same (Mailbox code request response block) s = leaves (Mailbox code request response block) refl s
  after_same (TakeReply reply) s = refl
  after_same (MakeTable handles algorithms) s = refl
  after_same Restart s = refl

  pub only_the_word : OnlyTheWord image other marks
  only_the_word = record {
    same_told = λ call o s. ap (λ (q : Outcome Told State). q.told) (call_same call o s);
    same_mailbox = mailbox_same;
    same_but_word = λ cell s. (zeroize_alike cell s).0;
    same_after = after_same;
    same_after_all = all;
    same_survey = survey;
    same_active = active;
  }
    where
      all : (calls : List Call) (s : State) → after_all other marks calls s ≡ after_all image marks calls s
      all [] s = refl
      all (call ∷ calls) s = ap (after_all other marks calls) (after_same call s) ∙ all calls (after image marks call s)
