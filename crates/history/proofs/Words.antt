-- The words that an erasure burns are the words of the map: burn j of the order goes to a word that direct commands know by the same
-- first cell and width, the indicator first, then data, the digest last. Assumes nothing.
-- The definitions stand in specs/Words.antt.
use Rattle.std.specs.Prelude.{ℕ, ◌+◌, ◌-◌, ◌*◌, ◌%◌, ◌≤◌, ◌<◌, ◌≡◌, true, false, cond, List, length, get_or, eqb}
use Rattle.std.proofs.Common.{sym, ◌∙◌, ⊎_elim, eq-or-lt_of_le, eqb-true, eq-eqb, ne_eqb, lt-ltb, le-ltb}
use native.Mathlib.Omega.{arith}
use Rattle.std.proofs.lemmas.Bool.{eqb-false}
use Rattle.laws.specs.Tests.{decided}
use Rattle.map.specs.declared.Entry.{Entry}
use Rattle.map.specs.Map.{header_of, entry_of, end_of, software, zeroizable, map_good}
use Rattle.map.proofs.Laws.{map_entry}
use Rattle.burns.specs.declared.Word.{Word}
use Rattle.burns.specs.Run.{pair_from, order}
use Rattle.burns.proofs.Turns.{first_word, cell_word, pair_word, count_cells, count_pairs}
use Rattle.word.specs.declared.Role.TheVariants.{Data, Digest}
use Rattle.word.specs.Word.{word_by, word_in, word_at, some_word}
use Rattle.word.specs.Laws.{holds_at, word_of}
use Rattle.history.specs.Words.{role_of}

-- ---- the word that starts a cells past the partition's first

-- of single cells, and of pairs: the digest, or data
cell_at : (i cell a n : ℕ) → 4 ≤ n → a ≤ n - 4 → word_by true 4 (n - a) i cell ≡ some_word i (cond (eqb a (n - 4)) Digest Data) (eqb a (n - 4))
cell_at i cell a n four l =
    ⊎_elim
    (λ (e : a ≡ n - 4). simp (le-ltb 4 (n - a) (omega arith), eq-eqb (n - a) 4 (omega arith), eq-eqb _ _ e))
    (λ (m : a < n - 4). simp (lt-ltb 4 (n - a) (omega arith), ne_eqb a (n - 4) (λ e. omega arith)))
    (eq-or-lt_of_le l)

pair_at : (i cell a n : ℕ) → 4 ≤ n → a ≤ n - 4 → cell % 2 ≡ 0 → word_by false 4 (n - a) i cell ≡ some_word i (cond (eqb a (n - 4)) Digest Data) true
pair_at i cell a n four l even =
    ⊎_elim
    (λ (e : a ≡ n - 4). simp (le-ltb 4 (n - a) (omega arith), eq-eqb (n - a) 4 (omega arith), eq-eqb _ _ e))
    (λ (m : a < n - 4). simp (lt-ltb 4 (n - a) (omega arith), eq-eqb _ _ even, ne_eqb a (n - 4) (λ e. omega arith)))
    (eq-or-lt_of_le l)

module _ (image : List ℕ) (good : map_good image ≡ true) (i : ℕ) (l : i < (header_of image).partitions) (z : zeroizable (entry_of image i) ≡ true) where
  abbrev x : Entry
  x = entry_of image i

  abbrev words : List Word
  words = order (software x) x.n

  -- the map's word there, by the cells that are left
  word_from_lem : (a : ℕ) → a < x.n → word_at image (x.first + a) ≡ word_by (software x) 4 (x.n - a) i (x.first + a)
  unfolding word_in
  word_from_lem a m =
      let left : end_of x - (x.first + a) ≡ x.n - a = omega arith in
      word_of image good i (x.first + a) l (holds_at x (x.first + a) (omega arith) (omega arith)) ∙ rw (z, left)

  -- what burn j goes to is what the map has there
  abbrev Known : (j : ℕ) → Word → Type 0
  Known j w = word_at image (x.first + w.at) ≡ some_word i (role_of (length words) j) w.wide

  first_known : (j : ℕ) → j ≡ 0 → Known j (get_or words j (pair_from 0))
  first_known j e =
      let rules = map_entry image good i l in
      let two : x.n - (x.n - 2) ≡ 2 = omega (arith, rules.n_least) in
      rw (first_word (software x) x.n j (pair_from 0) e, eq-eqb _ _ e) (word_from_lem (x.n - 2) (omega (arith, rules.n_least)) ∙ rw two)

  later_known : (j : ℕ) → 1 ≤ j → j < length words → Known j (get_or words j (pair_from 0))
  later_known j p m =
      let rules = map_entry image good i l in
      ⊎_elim
      (λ (s : software x ≡ true).
      let count = count_cells (software x) x.n s in
      let last : eqb (j + 1) (length words) ≡ eqb (j - 1) (x.n - 4) = same_test (j + 1) (length words) (j - 1) (x.n - 4) (λ e. omega arith) (λ e. omega (arith, rules.n_least)) in
      rw (cell_word (software x) x.n j (pair_from 0) p m s, ne_eqb j 0 (λ e. omega arith), last)
      (word_from_lem (j - 1) (omega (arith, rules.n_least)) ∙ rw s (cell_at i (x.first + (j - 1)) (j - 1) x.n rules.n_least (omega arith))))
      (λ (s : software x ≡ false).
      let count = count_pairs (software x) x.n s in
      let last : eqb (j + 1) (length words) ≡ eqb (2 * (j - 1)) (x.n - 4) = same_test (j + 1) (length words) (2 * (j - 1)) (x.n - 4)
      (λ e. omega (arith, rules.n_even)) (λ e. omega (arith, rules.n_least)) in
      rw (pair_word (software x) x.n j (pair_from 0) p m s rules.n_even, ne_eqb j 0 (λ e. omega arith), last)
      (word_from_lem (2 * (j - 1)) (omega (arith, rules.n_least)) ∙ rw s (pair_at i (x.first + 2 * (j - 1)) (2 * (j - 1)) x.n rules.n_least (omega arith) (omega (arith, rules.first_even)))))
      (decided (software x))
    where
      same_test : (a b c d : ℕ) → (a ≡ b → c ≡ d) → (c ≡ d → a ≡ b) → eqb a b ≡ eqb c d
      same_test a b c d f g =
          ⊎_elim (λ (e : eqb a b ≡ true). rw (e, eq-eqb c d (f (eqb-true a b e)))) (λ (e : eqb a b ≡ false). rw (e, ne_eqb c d (λ q. eqb-false a b e (g q)))) (decided (eqb a b))

  -- so each burn of an erasure
  pub burns_known_words : (j : ℕ) → j < length words → Known j (get_or words j (pair_from 0))
  burns_known_words j m = ⊎_elim (λ (e : 0 ≡ j). first_known j (sym e)) (λ (p : 0 < j). later_known j p m) (eq-or-lt_of_le (omega arith))
