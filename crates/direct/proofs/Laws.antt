-- The laws of direct commands: what their tests are at the entry that was read, and the number that they give. Assumes nothing.
-- The definitions stand in specs/Laws.antt.
use Rattle.std.specs.Prelude.{ℕ, ◌^◌, ◌≡◌, Bool, false, not, ◌&&◌, ◌||◌, Option, Some, None, leb, Result, Ok, Err}
use Rattle.std.proofs.Math.Path.{refl, sym, ap, subst}
use Rattle.std.proofs.Common.{◌∙◌, arith, eq-eqb, ne_eqb}
use Rattle.std.proofs.Math.Bool.{true}
use mathlib.Core.List.{List}
use Rattle.std.specs.Int.Bits.{bit_or}
use Rattle.refusal.specs.Refusals.{first_of, test_at, refusal_at, Past, refused_at, past_all, GivenFirst, given_first}
use Rattle.refusal.specs.Refusals.{ascend_from, GivenLowest, lowest_tells}
use Rattle.refusal.specs.declared.Refusal.{Refusal}
use Rattle.refusal.specs.declared.Refusal.TheVariants.{NotThere}
use Rattle.context.specs.State.{State, with_cells, Outcome, outcome, refusing}
use Rattle.map.specs.declared.Entry.{Entry}
use Rattle.map.specs.declared.Header.{Header}
use Rattle.map.specs.Map.{header_of, entry_of, life_cycle, zeroizable, secret}
use Rattle.fuse.specs.Fuse.{pair_of}
use Rattle.word.specs.declared.Role.{Role}
use Rattle.word.specs.declared.Word.{Word}
use Rattle.word.specs.Word.{word_at}
use Rattle.word.specs.Laws.{word_tells}
use Rattle.drive.specs.Drive.{marked_at, check_of}
use Rattle.drive.specs.Laws.{check_refused, check_passed, judged}
use Rattle.direct.specs.declared.Command.{Command}
use Rattle.direct.specs.declared.Command.TheVariants.{Read, Write, Zeroize}
use Rattle.direct.specs.declared.Answer.{Answer}
use Rattle.direct.specs.Direct.{cell_of, word_of, is_data, forbidden, clears, word_tests, direct_tests, cells_after, new_after, answer_of, shown_of, carried_out}
use Rattle.direct.specs.Direct.{direct_by, direct_of}
use Rattle.direct.specs.Laws.{Named}

-- a word of one cell is a pair with nothing in its high half
pub low_alone : (x : ℕ) → pair_of x 0 ≡ x
low_alone x = omega arith

-- ---- the tests, at the entry that was read

module _ (image : List ℕ) (i : ℕ) {x : Entry} (e : x ≡ entry_of image i) where
  module _ (cells : List ℕ) (role : Role) (wide : Bool) (cell : ℕ) where
    pub read_forbidden : {r : Bool} → r ≡ secret x → r ≡ forbidden (Read cell) image cells i role wide
    unfolding forbidden
    read_forbidden q = q ∙ ap secret e

    pub write_forbidden : (value : ℕ) {not_data is_marked : Bool} → not_data ≡ not (is_data role) → is_marked ≡ marked_at image cells i
        → (not_data || life_cycle x || is_marked || (not wide && leb (2 ^ 32) value)) ≡ forbidden (Write cell value) image cells i role wide
    unfolding forbidden
    write_forbidden value d q = rw (d, q, e)

    pub zeroize_forbidden : {may : Bool} → may ≡ zeroizable x → not may ≡ forbidden (Zeroize cell) image cells i role wide
    unfolding forbidden
    zeroize_forbidden q = rw (q, e)

-- WRITE's value has every set fuse of the word that was read, or lacks one
module _ (cells : List ℕ) (wide : Bool) (cell value : ℕ) {word : ℕ} (e : word ≡ word_of wide cell cells) where
  pub write_clears : (bit_or word value ≡ value → ⊥) → clears (Write cell value) cells wide ≡ true
  unfolding clears
  write_clears o = rw (ne_eqb (bit_or (word_of wide cell cells) value) value (rw e at o))

  pub write_keeps : bit_or word value ≡ value → clears (Write cell value) cells wide ≡ false
  unfolding clears
  write_keeps q = rw (eq-eqb (bit_or (word_of wide cell cells) value) value (rw e at q))

-- ---- a command on a drive

module _ (image marks : List ℕ) (command : Command) (s : State) where
  abbrev found : Option Word
  found = word_at image (cell_of command)

  abbrev accepted : Outcome (Result Answer Refusal) State
  accepted = carried_out found command image marks s

  -- on the word that starts at its cell
  abbrev on_word : Word → Outcome (Result Answer Refusal) State
  on_word word = first_of (refusing Err s) (word_tests (Some word) command image s) (carried_out (Some word) command image marks s)

  -- it goes by what its cell starts
  pub direct_at : {f : Option Word} → found ≡ f → direct_of image marks command s ≡ direct_by f image marks command s
  unfolding direct_of
  direct_at e = ap (λ (f : Option Word). direct_by f image marks command s) e

  -- a drive's refusal is the command's
  pub run_drive : (r : Refusal) → Err r ≡ check_of image s.cells marks → refusing Err s r ≡ direct_of image marks command s
  unfolding direct_of
  run_drive r e = sym (check_refused (refusing Err s) (word_tests found command image s) accepted image s.cells marks r e)

  -- on a drive that is ready, a cell that starts no word is refused with 7, and one that starts a word answers as that word does
  module _ {header : Header} (e : Ok header ≡ check_of image s.cells marks) where
    past_drive : direct_of image marks command s ≡ first_of (refusing Err s) (word_tests found command image s) accepted
    unfolding direct_of
    past_drive = check_passed (refusing Err s) (word_tests found command image s) accepted image s.cells marks header e

    pub run_nothing : None ≡ found → refusing Err s NotThere ≡ direct_of image marks command s
    run_nothing w = sym (past_drive ∙ rw (← w) refl)

    run_word : {word : Word} → Some word ≡ found → on_word word ≡ direct_of image marks command s
    run_word w = sym (past_drive ∙ rw (← w) refl)

  -- "the lowest that applies is given, and none is given otherwise"
  pub direct_lowest : GivenLowest (refusing Err s) (direct_tests found command image marks s) accepted (direct_of image marks command s)
  unfolding direct_of
  direct_lowest = lowest_tells (refusing Err s) accepted 1 (direct_tests found command image marks s) (ascends found)
    where
      ascends : (f : Option Word) → ascend_from 1 (direct_tests f command image marks s) ≡ true
      ascends None = refl
      ascends (Some word) = refl

  -- and it is the refusal of the first test that applies
  pub direct_first : GivenFirst (refusing Err s) (direct_tests found command image marks s) accepted (direct_of image marks command s)
  unfolding direct_of
  direct_first = given_first (refusing Err s) accepted (direct_tests found command image marks s)

-- ---- a word that was found

-- the header of a drive that was judged
pub check_header : (image cells marks : List ℕ) (header : Header) → Ok header ≡ check_of image cells marks → header ≡ header_of image
check_header image cells marks header e = (judged image cells marks header e).header_is

-- it lies in the drive that was judged
module _ (image cells marks : List ℕ) (cell : ℕ) where
  pub named : {header : Header} {word : Word} → Ok header ≡ check_of image cells marks → Some word ≡ word_at image cell
      → Named image cells marks cell word.partition word.wide
  named {header} {word} e w =
      let told = judged image cells marks header e in
      let found = word_tells image told.whole.good cell word.partition word.role word.wide w in
      record {
        whole = told.whole;
        marks_long = told.marks_long ∙ sym told.whole.long;
        partition = found.partition;
        within = rw told.whole.long found.within;
      }

-- the command answers as on that word
module _ (image marks : List ℕ) (command : Command) (s : State) {header : Header} {word : Word} (e : Ok header ≡ check_of image s.cells marks)
    (w : Some word ≡ word_at image (cell_of command)) where
  abbrev tests : List (Bool × Refusal)
  tests = word_tests (Some word) command image s

  abbrev done : Outcome (Result Answer Refusal) State
  done = carried_out (Some word) command image marks s

  -- the first of its tests that applies, by the test's place, gives its refusal
  pub word_at_lem : (k : ℕ) → Past k tests → test_at tests k ≡ true → refusing Err s (refusal_at tests k) ≡ direct_of image marks command s
  word_at_lem k p y = refused_at (refusing Err s) done k tests p y ∙ run_word image marks command s e w

  -- where none does it is carried out: the answer at the values that were read
  pub word_carried : Past 3 tests → {cells' : List ℕ} {header : Header} {x : Entry} {stands new : ℕ} {r : Answer}
      → cells' ≡ cells_after command word.wide marks s.cells → new ≡ new_after command word.wide marks s.cells
      → header ≡ header_of image → x ≡ entry_of image word.partition → stands ≡ word_of word.wide (cell_of command) cells'
      → r ≡ answer_of command x word.wide header.bound stands new
      → outcome (Ok r) (with_cells cells' s) ≡ direct_of image marks command s
  unfolding carried_out
  word_carried none {cells'} p m h x w' q =
      ap (λ (answer : Answer). outcome (Ok answer) (with_cells cells' s)) (q ∙ rw (w', h, x, m) refl)
      ∙ ap (λ (cells : List ℕ). shown_of command image word.partition word.wide (new_after command word.wide marks s.cells) (with_cells cells s)) p
      ∙ past_all (refusing Err s) done tests none
      ∙ run_word image marks command s e w
