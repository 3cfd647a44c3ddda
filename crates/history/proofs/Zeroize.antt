-- Request P7: "State once, over both guides, what the fuses hold afterwards" of a ZEROIZE, and that "Withholding stays": in that claim the
-- flag does not occur; its theorem is `zeroize_leaves`. What is answered, the word by the flag and beside it, by request P8, the fuses newly set, is
-- `zeroize_answers`. Assumes nothing.
-- The definitions stand in specs/Zeroize.antt.
use Rattle.std.specs.Prelude.{ℕ, ◌≡◌, ◌⊎◌, Bool, false, cond, List, Option, Some, None, Result, Err, Ok}
use Rattle.std.proofs.Math.Path.{refl, subst}
use Rattle.std.proofs.Common.{sym, arith}
use Rattle.std.proofs.Math.Logic.{inl, inr, ⊎_elim}
use Rattle.std.proofs.Math.Bool.{true}
use borrow.Author.Tests.{not-false, lt-ltb, ltb-true}
use Rattle.laws.specs.Tests.{decided, cond_keeps}
use Rattle.refusal.specs.Refusals.{not_numbered, first_elim}
use Rattle.refusal.specs.declared.Refusal.{Refusal}
use Rattle.context.specs.State.{State, with_cells, Outcome, refusing}
use Rattle.map.specs.Map.{header_of, entry_of, secret, map_good}
use Rattle.fuse.specs.Fuse.{short, all_ones, new_fuses}
use Rattle.burns.proofs.Cells.{grown_burn, burn_beside, burn_fills}
use Rattle.word.specs.declared.Role.{Role}
use Rattle.word.specs.declared.Word.{Word}
use Rattle.word.specs.Word.{word_at, some_word}
use Rattle.word.specs.Laws.{word_tells}
use Rattle.erasure.proofs.Cuts.{whole_by}
use Rattle.direct.specs.declared.Command.TheVariants.{Zeroize}
use Rattle.direct.specs.declared.Answer.{Answer}
use Rattle.direct.specs.declared.Answer.TheVariants.{Word as Shown, Burned, Withheld}
use Rattle.direct.specs.Direct.{word_of, direct_tests, cells_after, new_after, told_word, carried_out, direct_by, direct_of}
use Rattle.direct.proofs.Laws.{direct_at}
use Rattle.history.specs.Calls.{Direct, Answering, refusal}
use Rattle.history.proofs.Refused.{refused_unchanged}
use Rattle.history.specs.Zeroize.{Zeroized, ZeroizeLeaves}

-- ---- the theorems

-- it is withheld by its test alone
withheld_by : (hidden few : Bool) (shown new : ℕ) → Answering (Ok (cond hidden (cond few Withheld (Shown shown)) (Burned shown new))) ≡ Answering (Ok Withheld)
    → (hidden ≡ true) × (few ≡ true)
withheld_by true true shown new e = (refl, refl)
withheld_by true false shown new e = let z : ◌≡◌ {A = ℕ} 0 1 = cc in absurd (omega arith)
withheld_by false few shown new e = let z : ◌≡◌ {A = ℕ} 0 1 = cc in absurd (omega arith)

module _ (image marks : List ℕ) (cell : ℕ) (s : State) where
  abbrev Carried : Outcome (Result Answer Refusal) State → Type 0
  Carried o = refusal (Answering o.told) ≡ 0 → Zeroized image marks cell s o.after (Answering o.told)

  carried_by : (found : Option Word) → word_at image cell ≡ found → Carried (direct_by found image marks (Zeroize cell) s)
  unfolding carried_out cells_after
  carried_by None e =
      let tests = direct_tests None (Zeroize cell) image marks s in
      first_elim Carried (refusing Err s) tests (carried_out None (Zeroize cell) image marks s)
      (λ n a r. absurd (not_numbered 0 tests refl n a r)) (λ none r. absurd (omega arith))
  carried_by (Some word) e =
      let tests = direct_tests (Some word) (Zeroize cell) image marks s in
      first_elim Carried (refusing Err s) tests (carried_out (Some word) (Zeroize cell) image marks s)
      (λ n a r. absurd (not_numbered 0 tests refl n a r))
      (λ none _.
      let good : map_good image ≡ true = not-false _ (none 0) in
      let found = word_tells image good cell word.partition word.role word.wide (sym e) in
      let whole = whole_by image s.cells marks good (not-false _ (none 1)) in
      record {
        partition = word.partition;
        role = word.role;
        wide = word.wide;
        starts = e;
        burned = λ j l m. burn_fills marks s.cells j (omega (arith, found.within, whole.long)) cell word.wide l m;
        beside = burn_beside marks cell word.wide all_ones s.cells;
        as_many = (grown_burn marks cell word.wide all_ones s.cells).len;
        same_context = refl;
        hidden = λ w. let both = withheld_by (secret (entry_of image word.partition)) _ _ _ w in (both.0, ltb-true _ _ both.1);
        hides = λ h few. rw (h, lt-ltb _ _ few);
      })

  -- it answers the word that it tells of partition i's word at the cell, by the flag, with the fuses newly set beside it; in a secret partition
  -- the word alone, or withholds it
  module _ {i : ℕ} {role : Role} {wide : Bool} (starts : word_at image cell ≡ some_word i role wide) where
    abbrev told_of : State → ℕ
    told_of now = told_word (entry_of image i) wide (word_of wide cell now.cells)

    abbrev Answers : Outcome (Result Answer Refusal) State → Type 0
    Answers o = refusal (Answering o.told) ≡ 0
        → ((secret (entry_of image i) ≡ false) × (o.told ≡ Ok (Burned (told_of o.after) (new_fuses marks cell wide all_ones s.cells))))
        ⊎ ((secret (entry_of image i) ≡ true) × ((o.told ≡ Ok Withheld) ⊎ (o.told ≡ Ok (Shown (told_of o.after)))))

    pub zeroize_answers : Answers (direct_of image marks (Zeroize cell) s)
    unfolding carried_out new_after
    zeroize_answers =
        let tests = direct_tests (some_word i role wide) (Zeroize cell) image marks s in
        let now = with_cells (cells_after (Zeroize cell) wide marks s.cells) s in
        let few = short (header_of image).bound (word_of wide cell now.cells) in
        subst Answers (sym (direct_at image marks (Zeroize cell) s starts))
        (first_elim Answers (refusing Err s) tests (carried_out (some_word i role wide) (Zeroize cell) image marks s)
        (λ n a r. absurd (not_numbered 0 tests refl n a r))
        (λ none _.
        ⊎_elim
        (λ (y : secret (entry_of image i) ≡ true).
        inr (y, rw y (cond_keeps (λ (a : Answer). (◌≡◌ {A = Result Answer Refusal} (Ok a) (Ok Withheld)) ⊎ (◌≡◌ {A = Result Answer Refusal} (Ok a) (Ok (Shown (told_of now))))) few Withheld (Shown (told_of now)) (λ _. inl refl) (λ _. inr refl))))
        (λ (n : secret (entry_of image i) ≡ false). inl (n, rw n))
        (decided (secret (entry_of image i)))))

  pub zeroize_leaves : ZeroizeLeaves image marks cell s
  zeroize_leaves = record {
    refused = refused_unchanged image marks s (Direct (Zeroize cell));
    carried = subst Carried (sym (direct_at image marks (Zeroize cell) s refl)) (carried_by (word_at image cell) refl);
  }
