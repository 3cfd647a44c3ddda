-- What burns and runs do to each cell: they keep every fuse, add only fuses that are not stuck, and a run that goes through its order
-- adds all of those. Assumes nothing.
-- The definitions stand in specs/Cells.antt.
use Prim.Native.Nat.{ℕ, zero, suc, ◌+◌, ◌-◌, ◌*◌, ◌/◌, ◌%◌, ◌^◌, ◌≤◌, ◌<◌}
use Rattle.std.specs.Prelude.{Bool, ◌≡◌, refl, ◌⊎◌, List, [], ◌∷◌, ◌++◌, length, get_or, set}
use Rattle.std.proofs.Math.Bool.{true, false}
use Rattle.std.proofs.Common.{sym, ap, ◌∙◌, inl, inr, eq-or-lt_of_le, suc-mul, add-zero, arith, get_or-set_same, get_or-take, get_or-drop}
use Rattle.std.proofs.Math.Logic.{⊎_elim}
use Rattle.std.proofs.Math.ListN.{length-set}
use Rattle.laws.specs.Tests.{lt_or_le, cond_keeps}
use Rattle.laws.specs.Bits.{◌⊆◌}
use Rattle.laws.proofs.Bits.{sub_refl, sub_trans, sub_antisym, sub_or_l, sub_or_r, or_lub}
use Rattle.fuse.specs.Fuse.{all_set, free, cells_in, all_ones, burn_cell, burn_word}
use Rattle.fuse.proofs.Burn.{keeps, only_free, burn_all, absorbs, burn_apart}
use Rattle.burns.specs.declared.Word.{Word}
use Rattle.burns.specs.declared.End.TheVariants.{Whole, Stopped, Cut}
use Rattle.burns.specs.Run.{words_from, data_words, order, Tally, start, carry, stops_after, Ran, ran, burns_of, run}
use Rattle.burns.specs.Cells.{full, Between, Grown}

-- ---- one cell

-- what lies within full cells, filled, lies within them still
full_sub : (stuck x : ℕ) {y : ℕ} → y ⊆ full stuck x → full stuck y ⊆ full stuck x
full_sub stuck x p = or_lub p (sub_or_r x (free stuck))

pub between_refl : (stuck x : ℕ) → Between stuck x x
between_refl stuck x = record { kept = sub_refl x; most = sub_or_l x (free stuck) }

pub between_trans : {stuck x y z : ℕ} → Between stuck x y → Between stuck y z → Between stuck x z
between_trans {stuck} {x} p q = record { kept = sub_trans p.kept q.kept; most = sub_trans q.most (full_sub stuck x p.most) }

-- all ones leave the same of both
pub full_same : {stuck x y : ℕ} → Between stuck x y → full stuck y ≡ full stuck x
full_same {stuck} {x} {y} p = sym (burn_all stuck y) ∙ absorbs stuck p.kept p.most ∙ burn_all stuck x

-- a full cell stays as it is
pub full_stays : (stuck x : ℕ) {y z : ℕ} → y ≡ full stuck x → Between stuck y z → z ≡ full stuck x
full_stays stuck x {y} {z} e p =
    let q : Between stuck (full stuck x) z = rw e at p in
    sub_antisym (sub_trans q.most (full_sub stuck x (sub_refl (full stuck x)))) q.kept

-- ---- all cells

grown_refl : (marks c : List ℕ) → Grown marks c c
grown_refl marks c = record { len = refl; each = λ j. between_refl (get_or marks j 0) (get_or c j 0) }

grown_trans : {marks b c d : List ℕ} → Grown marks b c → Grown marks c d → Grown marks b d
grown_trans p q = record { len = q.len ∙ p.len; each = λ j. between_trans (p.each j) (q.each j) }

-- setting an element changes no other, and none where the list ends before it
set_between : (stuck : ℕ) (l : List ℕ) (i a j : ℕ) → (j ≡ i → Between stuck (get_or l j 0) a) → Between stuck (get_or l j 0) (get_or (set l i a) j 0)
set_between stuck [] i a j f = between_refl stuck 0
set_between stuck (x ∷ l) zero a zero f = f refl
set_between stuck (x ∷ l) zero a (suc j) f = between_refl stuck (get_or l j 0)
set_between stuck (x ∷ l) (suc i) a zero f = between_refl stuck x
set_between stuck (x ∷ l) (suc i) a (suc j) f = set_between stuck l i a j (λ e. f (ap suc e))

module _ (marks : List ℕ) where
  grown_cell : (k v : ℕ) (cells : List ℕ) → Grown marks cells (burn_cell marks k v cells)
  unfolding burn_cell
  grown_cell k v cells = record {
    len = length-set cells k _;
    each = λ j. set_between (get_or marks j 0) cells k _ j (λ e. rw e (record { kept = keeps (get_or marks k 0) (get_or cells k 0) v; most = only_free (get_or marks k 0) (get_or cells k 0) v }));
  }

  pub grown_burn : (k : ℕ) (wide : Bool) (v : ℕ) (cells : List ℕ) → Grown marks cells (burn_word marks k wide v cells)
  unfolding burn_word
  grown_burn k true v cells = grown_trans (grown_cell k (v % 2 ^ 32) cells) (grown_cell (k + 1) (v / 2 ^ 32) _)
  grown_burn k false v cells = grown_cell k (v % 2 ^ 32) cells

  -- the cells beside a word, before it or behind it, stay as they are
  pub burn_beside : (k : ℕ) (wide : Bool) (v : ℕ) (cells : List ℕ) (j : ℕ) → (j < k) ⊎ (k + cells_in wide ≤ j)
      → get_or (burn_word marks k wide v cells) j 0 ≡ get_or cells j 0
  burn_beside k wide v cells j beside =
      let one : 0 < 1 = omega arith in
      let apart : (k + cells_in wide ≤ j) ⊎ (j + 1 ≤ k) = ⊎_elim (λ (l : j < k). inr (omega arith)) (λ (l : k + cells_in wide ≤ j). inl l) beside in
      simp (get_or-take {A = ℕ} 1, get_or-drop {A = ℕ}, add-zero) at (ap (λ (x : List ℕ). get_or x 0 0) (burn_apart j 1 marks k wide v cells apart))

  pub burn_before : (k : ℕ) (wide : Bool) (v : ℕ) (cells : List ℕ) (j : ℕ) → j < k → get_or (burn_word marks k wide v cells) j 0 ≡ get_or cells j 0
  burn_before k wide v cells j l = burn_beside k wide v cells j (inl l)

  cell_fills : (cells : List ℕ) (j : ℕ) → j < length cells → (k : ℕ) → k ≡ j → get_or (burn_cell marks k all_set cells) j 0 ≡ full (get_or marks j 0) (get_or cells j 0)
  unfolding burn_cell
  cell_fills cells j l k e = rw e (get_or-set_same cells j _ 0 l ∙ burn_all (get_or marks j 0) (get_or cells j 0))

  -- all ones fill each cell of their word
  pub burn_fills : (cells : List ℕ) (j : ℕ) → j < length cells → (k : ℕ) (wide : Bool) → k ≤ j → j < k + cells_in wide
      → get_or (burn_word marks k wide all_ones cells) j 0 ≡ full (get_or marks j 0) (get_or cells j 0)
  unfolding burn_word
  burn_fills cells j l k true a b =
      let low = grown_cell k all_set cells in
      ⊎_elim
      (λ (e : k ≡ j). full_stays (get_or marks j 0) (get_or cells j 0) (cell_fills cells j l k e) ((grown_cell (k + 1) all_set _).each j))
      (λ (m : k < j). cell_fills (burn_cell marks k all_set cells) j (rw low.len l) (k + 1) (omega arith) ∙ full_same (low.each j))
      (eq-or-lt_of_le a)
  burn_fills cells j l k false a b = cell_fills cells j l k (omega arith)

-- ---- a run

-- a turn of a run stops or goes on: what holds of both holds of the run
module _ (P : Ran → Type 0) (marks : List ℕ) (mask k : ℕ) (word : Word) (words : List Word) (t : Tally) where
  pub turn_keeps : let u : Tally = carry marks word all_ones t in
      (stops_after u.burns u.cells ≡ true → P (ran Stopped u))
      → (stops_after u.burns u.cells ≡ false → P (burns_of marks mask k words u))
      → P (burns_of marks mask (suc k) (word ∷ words) t)
  unfolding burns_of
  turn_keeps p q = cond_keeps P (stops_after _ _) _ _ p q

-- whatever the cut, a run only adds fuses that are not stuck
pub grown_burns : (marks : List ℕ) (mask k : ℕ) (words : List Word) (t : Tally) → Grown marks t.cells (burns_of marks mask k words t).tally.cells
unfolding burns_of
grown_burns marks mask k [] t = grown_refl marks t.cells
grown_burns marks mask zero (word ∷ words) t = grown_burn marks word.at word.wide mask t.cells
grown_burns marks mask (suc k) (word ∷ words) t =
    let first = grown_burn marks word.at word.wide all_ones t.cells in
    turn_keeps (λ (r : Ran). Grown marks t.cells r.tally.cells) marks mask k word words t
    (λ _. first) (λ _. grown_trans first (grown_burns marks mask k words (carry marks word all_ones t)))

-- no two ends are the same
pub cut_not_whole : Cut ≡ Whole → ⊥
cut_not_whole e = let z : ◌≡◌ {A = ℕ} 0 1 = cc in omega arith

pub stopped_not_whole : Stopped ≡ Whole → ⊥
stopped_not_whole e = let z : ◌≡◌ {A = ℕ} 0 1 = cc in omega arith

pub cut_not_stopped : Cut ≡ Stopped → ⊥
cut_not_stopped e = let z : ◌≡◌ {A = ℕ} 0 1 = cc in omega arith

-- cell j is one of the word's
record In (word : Word) (j : ℕ) : Type 0 where
  from : word.at ≤ j
  upto : j < word.at + cells_in word.wide

-- cell j is of one of the words
data Reached (j : ℕ) : List Word → Type 0 where
  here : {word : Word} {words : List Word} → In word j → Reached j (word ∷ words)
  later : {word : Word} {words : List Word} → Reached j words → Reached j (word ∷ words)

-- a run that goes through its words fills each cell that they reach
module _ (marks : List ℕ) (mask j x : ℕ) where
  abbrev Filled : Ran → Type 0
  Filled r = r.end ≡ Whole → get_or r.tally.cells j 0 ≡ full (get_or marks j 0) x

  burns_fill : (k : ℕ) (words : List Word) (t : Tally) → j < length t.cells → Between (get_or marks j 0) x (get_or t.cells j 0) → Reached j words
      → Filled (burns_of marks mask k words t)
  unfolding burns_of
  burns_fill zero words t l b (here i) = λ e. absurd (cut_not_whole e)
  burns_fill zero words t l b (later r) = λ e. absurd (cut_not_whole e)
  burns_fill (suc k) words t l b (here {word = word} {words = rest} i) =
      let filled = burn_fills marks t.cells j l word.at word.wide i.from i.upto ∙ full_same b in
      let after = (grown_burns marks mask k rest (carry marks word all_ones t)).each j in
      turn_keeps Filled marks mask k word rest t (λ _ e. absurd (stopped_not_whole e)) (λ _ _. full_stays (get_or marks j 0) x filled after)
  burns_fill (suc k) words t l b (later {word = word} {words = rest} r) =
      let first = grown_burn marks word.at word.wide all_ones t.cells in
      turn_keeps Filled marks mask k word rest t (λ _ e. absurd (stopped_not_whole e))
      (λ _. burns_fill k rest (carry marks word all_ones t) (rw first.len l) (between_trans b (first.each j)) r)

-- ---- the order reaches every cell: the data words those before the last four, digest and indicator two each

reached_left : (j : ℕ) (l r : List Word) → Reached j l → Reached j (l ++ r)
reached_left j l r (here i) = here i
reached_left j l r (later {words = words} h) = later (reached_left j words r h)

reached_right : (j : ℕ) (l r : List Word) → Reached j r → Reached j (l ++ r)
reached_right j [] r h = h
reached_right j (word ∷ l) r h = later (reached_right j l r h)

words_reach : (wide : Bool) (count at j : ℕ) → at ≤ j → j < at + count * cells_in wide → Reached j (words_from wide count at)
unfolding words_from
words_reach wide zero at j a b = absurd (omega arith)
words_reach wide (suc count) at j a b =
    ⊎_elim
    (λ (h : j < at + cells_in wide). here (record { from = a; upto = h }))
    (λ (h : at + cells_in wide ≤ j). later (words_reach wide count (at + cells_in wide) j h (omega (arith, suc-mul count (cells_in wide)))))
    (lt_or_le j (at + cells_in wide))

data_reach : (software : Bool) (n j : ℕ) → n % 2 ≡ 0 → j < n - 4 → Reached j (data_words software n)
data_reach true n j even h = words_reach false ((n - 4) / 1) 0 j (omega arith) (omega arith)
data_reach false n j even h = words_reach true ((n - 4) / 2) 0 j (omega arith) (omega arith)

order_reaches : (software : Bool) (n j : ℕ) → 4 ≤ n → n % 2 ≡ 0 → j < n → Reached j (order software n)
unfolding order
order_reaches software n j four even h =
    ⊎_elim
    (λ (a : j < n - 4). later (reached_left j (data_words software n) _ (data_reach software n j even a)))
    (λ (a : n - 4 ≤ j).
    ⊎_elim
    (λ (b : j < n - 2). later (reached_right j (data_words software n) _ (here (record { from = a; upto = omega arith }))))
    (λ (b : n - 2 ≤ j). here (record { from = b; upto = omega arith }))
    (lt_or_le j (n - 2)))
    (lt_or_le j (n - 4))

-- a run that goes through its order fills every cell; x is the cell at some time before
pub run_fills : (marks : List ℕ) (software : Bool) (k mask : ℕ) (cells : List ℕ) (j x : ℕ) → 4 ≤ length cells → length cells % 2 ≡ 0 → j < length cells
    → Between (get_or marks j 0) x (get_or cells j 0) → (run marks software k mask cells).end ≡ Whole
    → get_or (run marks software k mask cells).tally.cells j 0 ≡ full (get_or marks j 0) x
run_fills marks software k mask cells j x four even l b =
    burns_fill marks mask j x k (order software (length cells)) (start cells) l b (order_reaches software (length cells) j four even l)
