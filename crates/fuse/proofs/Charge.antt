-- The laws of the fuses that burns newly set (request P8): a burn adds what it reports to the set fuses of the whole array, whatever numbers
-- stand in cells and marks; of a cell that is one these are the fuses of v that are not stuck and were not set. Then what the code counts.
-- Assumes nothing.
-- The definitions stand in specs/Charge.antt.
use Prim.Native.Nat.{ℕ, zero, suc, ◌+◌, ◌-◌, ◌*◌, ◌/◌, ◌%◌, ◌^◌, ◌≤◌, ◌<◌}
use Rattle.std.specs.Prelude.{◌≡◌, Bool, true, List, [], ◌∷◌, ◌++◌, length, set, take, drop}
use Rattle.std.proofs.Common.{sym, ◌∙◌, inl, inr, le_trans, mod-eq_of_lt, length-set, length-take, length-drop, take-append-drop, take_all, drop-drop}
use Rattle.std.proofs.Math.Path.{ap}
use Rattle.std.proofs.Math.Bool.{false}
use Rattle.std.proofs.Math.Nat.{zero-div, mod-mod}
use native.Mathlib.Omega.{arith}
use Rattle.std.proofs.Math.ListN.{get_or}
use Rattle.std.proofs.Math.Seq.{get_or-set_other}
use Rattle.std.specs.Int.Bits.{bit_and, bit_or, and_le_r, or_add_and}
use Rattle.std.proofs.lemmas.Nat.{and_le_l, or_disjoint, or_mod, or_shr, and_mod, and_shr}
use Rattle.std.specs.Int.Count.{ones, ones_in}
use Rattle.std.proofs.Math.Pow.{ones_sub-lt}
use Rattle.laws.proofs.Bits.{ext, bit_or_lem, bit_and_lem, bit_not, at_digit, sub_full, or_most}
use Rattle.laws.proofs.Ones.{counted, count_le, count_mono, count_added, count_cat}
use Rattle.fuse.specs.Fuse.{free, burn, pair_of, held_at, cells_in, all_ones, burn_cell, burn_word, set_fuses, word_cells, new_fuses}
use Rattle.fuse.proofs.Burn.{keeps, fits, burn_apart}
use Rattle.fuse.specs.Charge.{PairBurned}

-- ---- set fuses of cells

pub set_append : (l m : List ℕ) → set_fuses (l ++ m) ≡ set_fuses l + set_fuses m
unfolding set_fuses
set_append [] m = omega arith
set_append (x ∷ l) m = omega (arith, set_append l m)

set_most : (l : List ℕ) → set_fuses l ≤ 32 * length l
unfolding set_fuses
set_most [] = omega arith
set_most (x ∷ l) = omega (arith, count_le 32 x, set_most l)

-- another cell at k
set_other : (l : List ℕ) (k a : ℕ) → k < length l → set_fuses (set l k a) + ones_in 32 (get_or l k 0) ≡ set_fuses l + ones_in 32 a
unfolding set_fuses
set_other [] k a h = absurd (omega arith)
set_other (x ∷ l) zero a h = omega arith
set_other (x ∷ l) (suc k) a h = omega (arith, set_other l k a (omega arith))

-- fuses are only ever added
cell_grows : (marks : List ℕ) (k v : ℕ) (cells : List ℕ) → set_fuses cells ≤ set_fuses (burn_cell marks k v cells)
unfolding burn_cell set_fuses
cell_grows marks k v cells = more cells k _ (count_mono 32 (keeps (get_or marks k 0) (get_or cells k 0) v))
  where
    more : (l : List ℕ) (k a : ℕ) → ones_in 32 (get_or l k 0) ≤ ones_in 32 a → set_fuses l ≤ set_fuses (set l k a)
    more [] k a h = omega arith
    more (x ∷ l) zero a h = omega arith
    more (x ∷ l) (suc k) a h = omega (arith, more l k a h)

word_grows : (marks : List ℕ) (k : ℕ) (wide : Bool) (v : ℕ) (cells : List ℕ) → set_fuses cells ≤ set_fuses (burn_word marks k wide v cells)
unfolding burn_word
word_grows marks k true v cells = le_trans (cell_grows marks k _ cells) (cell_grows marks (k + 1) _ _)
word_grows marks k false v cells = cell_grows marks k (v % 2 ^ 32) cells

-- ---- the word and what lies around it

pub set_split : (k : ℕ) (l : List ℕ) → set_fuses l ≡ set_fuses (take k l) + set_fuses (drop k l)
set_split k l = ap set_fuses (sym (take-append-drop k l)) ∙ set_append (take k l) (drop k l)

around : (wide : Bool) (k : ℕ) (l : List ℕ) → set_fuses l ≡ set_fuses (take k l) + (set_fuses (word_cells wide k l) + set_fuses (drop (k + cells_in wide) l))
around wide k l = omega (arith, set_split k l, set_split (cells_in wide) (drop k l), ap set_fuses (drop-drop (cells_in wide) k l))

module _ (marks : List ℕ) (k : ℕ) (wide : Bool) (v : ℕ) (cells : List ℕ) where
  abbrev after : List ℕ
  after = burn_word marks k wide v cells

  behind : drop (k + cells_in wide) after ≡ drop (k + cells_in wide) cells
  behind =
      let end : ℕ = k + cells_in wide in
      let n : ℕ = length after + length cells in
      let whole : (l : List ℕ) → length l ≤ n → take n (drop end l) ≡ drop end l = λ l h. take_all n (drop end l) (omega (arith, length-drop end l)) in
      sym (whole after (omega arith)) ∙ burn_apart end n marks k wide v cells (inl (omega arith)) ∙ whole cells (omega arith)

  -- a burn adds what it reports
  pub burn_charge : set_fuses after ≡ set_fuses cells + new_fuses marks k wide v cells
  unfolding new_fuses
  burn_charge =
      omega (
        arith,
        word_grows marks k wide v cells,
        around wide k after,
        around wide k cells,
        ap set_fuses (burn_apart 0 k marks k wide v cells (inr (omega arith))),
        ap set_fuses behind,
      )

-- stuck fuses and fuses that were set draw nothing: those that a cell gets are of v, not stuck, and were not set
pub newly_set : (cell v stuck : ℕ) → cell < 2 ^ 32 → ones_in 32 (burn cell v stuck) ≡ ones_in 32 cell + ones_in 32 (bit_and (bit_and v (free stuck)) (free cell))
newly_set cell v stuck h =
    let added = bit_and v (free stuck) in
    let apart : bit_and cell (bit_and added (free cell)) ≡ 0 = ext _ _ (λ i. simp (bit_and_lem, bit_not 32 h) (omega (arith, zero-div (2 ^ i)))) in
    let same : bit_or cell (bit_and added (free cell)) ≡ bit_or cell added = ext _ _ (λ i. simp (bit_or_lem, bit_and_lem, bit_not 32 h) (omega (arith, at_digit (sub_full 32 (ones_sub-lt 32 stuck)) i))) in
    let new : bit_or cell added - cell ≡ bit_and added (free cell) = omega (arith, same, or_disjoint cell (bit_and added (free cell)) apart) in
    rw (← new) (count_added 32 cell added)

-- no more than a word has
pub new_most : (marks : List ℕ) (k : ℕ) (wide : Bool) (v : ℕ) (cells : List ℕ) {new : ℕ} → new ≡ new_fuses marks k wide v cells → new ≤ 64
unfolding new_fuses
new_most marks k wide v cells e =
    let left : List ℕ = drop k (burn_word marks k wide v cells) in
    omega (arith, e, set_most (take (cells_in wide) left), length-take (cells_in wide) left, width wide)
  where
    width : (wide : Bool) → cells_in wide ≤ 2
    width true = omega arith
    width false = omega arith

-- ---- a burn as the code makes it: the ones of what it adds to its word are counted

module _ (marks : List ℕ) (k v : ℕ) (cells : List ℕ) where
  -- a burn of its word, as a burn of its cell
  cell_charge : v < 2 ^ 32 → set_fuses (burn_cell marks k v cells) ≡ set_fuses cells + new_fuses marks k false v cells
  unfolding burn_word
  cell_charge h = ap (λ (x : ℕ). set_fuses (burn_cell marks k x cells)) (sym (mod-eq_of_lt h)) ∙ burn_charge marks k false v cells

  pub cell_adds : v < 2 ^ 32 → k < length cells → {before after : ℕ} → before ≡ get_or cells k 0 → after ≡ burn before v (get_or marks k 0)
      → (before ≤ after) × (ones (after - before) ≡ new_fuses marks k false v cells)
  unfolding burn_cell
  cell_adds h l {before} {after} b a =
      let added = bit_and v (free (get_or marks k 0)) in
      let most : after - before ≤ added = rw a (omega (arith, or_add_and before added)) in
      let counts : ones_in 32 (after - before) ≡ ones (after - before) = counted 32 (after - before) (omega (arith, most, and_le_r v (free (get_or marks k 0)))) in
      let sum : ones_in 32 after ≡ ones_in 32 before + ones_in 32 (after - before) = rw a (count_added 32 before added) in
      let all : set_fuses (burn_cell marks k v cells) + ones_in 32 before ≡ set_fuses cells + ones_in 32 after = rw (a, b) (set_other cells k _ l) in
      (rw a (or_most before added), omega (arith, counts, sum, all, cell_charge h))

-- a word of one cell takes the low 32 bits
pub narrow_adds : (marks : List ℕ) (k v : ℕ) (cells : List ℕ) {new : ℕ} → new ≡ new_fuses marks k false (v % 2 ^ 32) cells → new ≡ new_fuses marks k false v cells
unfolding new_fuses burn_word
narrow_adds marks k v cells e = rw (mod-mod v (2 ^ 32)) at e

-- a pair is burned as one number of 64 fuses: its halves are what the burns of its cells leave
module _ {low high low_stuck high_stuck : ℕ} (l : low < 2 ^ 32) (h : high < 2 ^ 32) (ls : low_stuck < 2 ^ 32) (hs : high_stuck < 2 ^ 32) (v : ℕ) where
  abbrev whole : ℕ
  whole = bit_or (pair_of low high) (bit_and v (all_ones - pair_of low_stuck high_stuck))

  low_half : whole % 2 ^ 32 ≡ burn low (v % 2 ^ 32) low_stuck
  low_half =
      let stands : pair_of low high % 2 ^ 32 ≡ low = omega arith in
      let unstuck : (all_ones - pair_of low_stuck high_stuck) % 2 ^ 32 ≡ free low_stuck = omega arith in
      or_mod (pair_of low high) _ 32 ∙ rw (stands, and_mod v (all_ones - pair_of low_stuck high_stuck) 32, unstuck)

  high_half : whole / 2 ^ 32 ≡ burn high (v / 2 ^ 32) high_stuck
  high_half =
      let stands : pair_of low high / 2 ^ 32 ≡ high = omega arith in
      let unstuck : (all_ones - pair_of low_stuck high_stuck) / 2 ^ 32 ≡ free high_stuck = omega arith in
      or_shr (pair_of low high) _ 32 ∙ rw (stands, and_shr v (all_ones - pair_of low_stuck high_stuck) 32, unstuck)

  -- and the ones of what it adds are those that its cells get
  pair_sum : v < 2 ^ 64 → ones_in 32 (whole % 2 ^ 32) + ones_in 32 (whole / 2 ^ 32) ≡ ones_in 32 low + ones_in 32 high + ones (whole - pair_of low high)
  pair_sum f =
      let added = bit_and v (all_ones - pair_of low_stuck high_stuck) in
      let most : whole - pair_of low high ≤ added = omega (arith, or_add_and (pair_of low high) added) in
      let parts : pair_of (whole % 2 ^ 32) (whole / 2 ^ 32) ≡ whole = omega arith in
      omega (
        arith,
        counted 64 (whole - pair_of low high) (omega (arith, most, and_le_l v (all_ones - pair_of low_stuck high_stuck))),
        count_added 64 (pair_of low high) added,
        count_cat 32 32 low high l,
        ap (ones_in 64) parts,
        count_cat 32 32 (whole % 2 ^ 32) (whole / 2 ^ 32) (omega arith),
      )

module _ (marks : List ℕ) (k v : ℕ) (cells : List ℕ) (f : v < 2 ^ 64) (n : k + 2 ≤ length cells)
    (l : get_or cells k 0 < 2 ^ 32) (h : get_or cells (k + 1) 0 < 2 ^ 32) (ls : get_or marks k 0 < 2 ^ 32) (hs : get_or marks (k + 1) 0 < 2 ^ 32) where
  -- so both cells are stored as their burns leave them
  both : set (set cells k (whole l h ls hs v % 2 ^ 32)) (k + 1) (whole l h ls hs v / 2 ^ 32) ≡ burn_word marks k true v cells
  unfolding burn_word burn_cell
  both =
      let low : ℕ = burn (get_or cells k 0) (v % 2 ^ 32) (get_or marks k 0) in
      let next : get_or (set cells k low) (k + 1) 0 ≡ get_or cells (k + 1) 0 = get_or-set_other cells k (k + 1) low 0 (λ e. omega arith) in
      rw (low_half l h ls hs v, high_half l h ls hs v, next)

  pub pair_burned : {after : ℕ} → after ≡ bit_or (held_at cells k) (bit_and v (all_ones - held_at marks k)) → PairBurned marks k v cells after
  pair_burned {after} e =
      let mid : List ℕ = set cells k (after % 2 ^ 32) in
      let same : set mid (k + 1) (after / 2 ^ 32) ≡ burn_word marks k true v cells = rw e both in
      let sum : ones_in 32 (after % 2 ^ 32) + ones_in 32 (after / 2 ^ 32) ≡ ones_in 32 (get_or cells k 0) + ones_in 32 (get_or cells (k + 1) 0) + ones (after - held_at cells k) =
      rw e (pair_sum l h ls hs v f) in
      record {
        stored = same;
        high = rw (e, high_half l h ls hs v) (fits (get_or marks (k + 1) 0) (v / 2 ^ 32) h);
        grows = rw e (or_most (held_at cells k) _);
        new = omega (
          arith,
          sum,
          set_other cells k (after % 2 ^ 32) (omega arith),
          set_other mid (k + 1) (after / 2 ^ 32) (omega (arith, length-set cells k (after % 2 ^ 32))),
          ap (ones_in 32) (get_or-set_other cells k (k + 1) (after % 2 ^ 32) 0 (λ e. omega arith)),
          ap set_fuses same,
          burn_charge marks k true v cells,
        );
      }
