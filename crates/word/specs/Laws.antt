-- What the lookup of a word tells: first what its proof cites, then, in a good map, where a word lies, and that a cell has its word
-- in the one partition that holds it. Assumes nothing.
use Rattle.std.specs.Prelude.{ℕ, ◌+◌, ◌-◌, ◌%◌, ◌≤◌, ◌<◌, ◌≡◌, refl, Bool, cond, List, Option, Some, None, eqb, leb}
use Rattle.std.proofs.Math.Path.{sym, ap}
use Rattle.std.proofs.Common.{subst, ◌∙◌, eq-or-lt_of_le}
use Rattle.std.proofs.Math.Logic.{⊎_elim}
use Rattle.std.proofs.Math.Bool.{true, false, not}
use Rattle.std.proofs.lemmas.Bool.{false≢true}
use native.Mathlib.Omega.{arith}
use Rattle.std.proofs.Math.Dec.{ltb}
use borrow.Author.Tests.{leb-true, ltb-true, ltb-false, eqb-true, eqb-false, lt-ltb, le-ltb, le-leb}
use Rattle.laws.specs.Tests.{decided, not_yes, cond_keeps, and}
use Rattle.laws.specs.Below.{found as found_below}
use Rattle.laws.proofs.Below.{first_tells, first_is}
use Rattle.map.specs.declared.Header.{Header}
use Rattle.map.specs.declared.Entry.{Entry}
use Rattle.map.specs.Map.{header_of, entry_of, end_of, end_before, software, zeroizable, secret, map_good}
use Rattle.fuse.specs.Fuse.{cells_in}
use Rattle.partition.specs.Partition.{tail}
use Rattle.map.specs.Laws.{EntryRules}
use Rattle.map.proofs.Laws.{map_entry, map_order}
use Rattle.word.specs.declared.Role.{Role}
use Rattle.word.specs.declared.Role.TheVariants.{Data, Digest, Indicator}
use Rattle.word.specs.declared.Word.{Word}
use Rattle.word.specs.Word.{some_word, holds, word_by, word_in, is_held_at, partition_of, word_at}

pub held : (x : Entry) (cell : ℕ) → holds x cell ≡ true → (x.first ≤ cell) × (cell < end_of x)
held x cell h = let r = and (leb x.first cell) (ltb cell (end_of x)) h in (leb-true _ _ r.0, ltb-true _ _ r.1)

-- and back
pub holds_at : (x : Entry) (cell : ℕ) → x.first ≤ cell → cell < end_of x → holds x cell ≡ true
holds_at x cell l h = rw (le-leb _ _ l, lt-ltb _ _ h)

pub word_by_lem : (x : Entry) (i cell end last : ℕ) → end ≡ end_of x → last ≡ tail (zeroizable x) → word_in x i cell ≡ word_by (software x) last (end - cell) i cell
unfolding word_in
word_by_lem x i cell end last e t = rw (e, t)

-- ---- the lookup, by the partition that holds the cell, and at the entry that was read

module _ (s : List ℕ) (cell : ℕ) where
  abbrev held_by : Option ℕ
  held_by = found_below (header_of s).partitions (partition_of s cell)

  -- a partition that was found is the lowest, and one of the map's
  found_is : {i : ℕ} → Some i ≡ held_by → (i ≡ partition_of s cell) × (ltb (partition_of s cell) (header_of s).partitions ≡ true)
  found_is e =
      ⊎_elim
      (λ (y : ltb (partition_of s cell) (header_of s).partitions ≡ true). (some_same (e ∙ rw y refl), y))
      (λ (o : ltb (partition_of s cell) (header_of s).partitions ≡ false). absurd (some_not (e ∙ rw o refl)))
      (decided (ltb (partition_of s cell) (header_of s).partitions))
    where
      some_same : {i k : ℕ} → Some i ≡ Some k → i ≡ k
      some_same q = cc

      some_not : {i : ℕ} → ◌≡◌ {A = Option ℕ} (Some i) None → ⊥
      some_not q = let z : ◌≡◌ {A = ℕ} 0 1 = cc in omega arith

  -- it holds the cell
  holds_it : partition_of s cell < (header_of s).partitions → holds (entry_of s (partition_of s cell)) cell ≡ true
  unfolding is_held_at
  holds_it l = (first_tells (is_held_at s cell) 0 (header_of s).partitions).at (omega arith)

  module _ {i : ℕ} (e : Some i ≡ held_by) {x : Entry} (q : x ≡ entry_of s i) where
    pub found_holds : cell < end_of x
    found_holds = let f = found_is e in rw (q, f.0) (held (entry_of s (partition_of s cell)) cell (holds_it (ltb-true _ _ f.1))).1

    pub word_found : {r : Option Word} → r ≡ word_in x i cell → r ≡ word_at s cell
    unfolding word_at
    word_found t = let f = found_is e in rw f.1 (t ∙ rw (q, f.0) refl)

  pub word_none : None ≡ held_by → None ≡ word_at s cell
  unfolding word_at
  word_none e =
      ⊎_elim
      (λ (y : ltb (partition_of s cell) (header_of s).partitions ≡ true). absurd (none_not {i = partition_of s cell} (e ∙ rw y refl)))
      (λ (o : ltb (partition_of s cell) (header_of s).partitions ≡ false). rw o refl)
      (decided (ltb (partition_of s cell) (header_of s).partitions))
    where
      none_not : {i : ℕ} → ◌≡◌ {A = Option ℕ} None (Some i) → ⊥
      none_not q = let z : ◌≡◌ {A = ℕ} 0 1 = cc in omega arith

-- ---- in a good map

-- no cell lies in two partitions
pub apart : (s : List ℕ) → map_good s ≡ true → (i j cell : ℕ) → i < j → j < (header_of s).partitions → holds (entry_of s i) cell ≡ true → holds (entry_of s j) cell ≡ true → ⊥
apart s g i j cell l p a b =
    let o = map_order s g i j l p in
    let x = held (entry_of s i) cell a in
    let y = held (entry_of s j) cell b in
    omega arith

-- so the word at a cell is the one that its partition has there
pub word_of : (s : List ℕ) → map_good s ≡ true → (i cell : ℕ) → i < (header_of s).partitions → holds (entry_of s i) cell ≡ true → word_at s cell ≡ word_in (entry_of s i) i cell
unfolding is_held_at
word_of s g i cell l h =
    let p : i ≡ partition_of s cell = sym (first_is (is_held_at s cell) _ i l h (λ j q. not_yes _ (λ a. apart s g j i cell q l a h))) in
    sym (word_found s cell {i = i} (rw (← p, lt-ltb _ _ l) refl) {x = entry_of s i} refl {r = word_in (entry_of s i) i cell} refl)

-- ---- what an answer says of the cell

-- where a word of each role lies in its partition
abbrev pub Lies : Entry → (cell : ℕ) → Role → (wide : Bool) → Type 0
Lies x cell Data wide = (cell + cells_in wide + tail (zeroizable x) ≤ end_of x) × (wide ≡ not (software x))
Lies x cell Digest wide = (cell + tail (zeroizable x) ≡ end_of x) × (wide ≡ true)
Lies x cell Indicator wide = (cell + 2 ≡ end_of x) × (wide ≡ true) × (zeroizable x ≡ true)

pub record Found (s : List ℕ) (cell i : ℕ) (role : Role) (wide : Bool) : Type 0 where
  pub partition : i < (header_of s).partitions
  pub low : (entry_of s i).first ≤ cell
  pub high : cell + cells_in wide ≤ end_of (entry_of s i)
  pub within : cell + cells_in wide ≤ (header_of s).cells
  pub even : wide ≡ true → cell % 2 ≡ 0
  pub lies : Lies (entry_of s i) cell role wide

-- the tests on the way to each answer of `word_in`
module _ (x : Entry) (i cell : ℕ) where
  abbrev By : Role → (wide : Bool) → Type 0
  By Data wide = (tail (zeroizable x) < end_of x - cell) × (wide ≡ not (software x)) × (wide ≡ true → cell % 2 ≡ 0)
  By Digest wide = (end_of x - cell ≡ tail (zeroizable x)) × (wide ≡ true)
  By Indicator wide = (end_of x - cell ≡ 2) × (end_of x - cell < tail (zeroizable x)) × (wide ≡ true)

  abbrev Tests : Option Word → Type 0
  Tests (Some word) = (word.partition ≡ i) × By word.role word.wide
  Tests None = Unit {0}

  abbrev data_word : Option Word
  data_word = cond (eqb (cell % 2) 0) (some_word i Data true) None

  abbrev last_word : Option Word
  last_word = cond (eqb (end_of x - cell) 2) (some_word i Indicator true) None

  tests : Tests (word_in x i cell)
  unfolding word_in
  tests =
      cond_keeps Tests (ltb (tail (zeroizable x)) (end_of x - cell)) (cond (software x) (some_word i Data false) data_word) (cond (eqb (end_of x - cell) (tail (zeroizable x))) (some_word i Digest true) last_word)
      (λ a. cond_keeps Tests (software x) (some_word i Data false) data_word
      (λ b. (refl, (ltb-true _ _ a, sym (ap not b), λ n. absurd (false≢true n))))
      (λ b. cond_keeps Tests (eqb (cell % 2) 0) (some_word i Data true) None (λ d. (refl, (ltb-true _ _ a, sym (ap not b), λ _. eqb-true _ _ d))) (λ d. tt)))
      (λ a. cond_keeps Tests (eqb (end_of x - cell) (tail (zeroizable x))) (some_word i Digest true) last_word
      (λ b. (refl, (eqb-true _ _ b, refl)))
      (λ b. cond_keeps Tests (eqb (end_of x - cell) 2) (some_word i Indicator true) None
      (λ d. (refl, (eqb-true _ _ d, below (end_of x - cell) (tail (zeroizable x)) (ltb-false _ _ a) (eqb-false _ _ b), refl))) (λ d. tt)))
    where
      below : (m n : ℕ) → m ≤ n → (m ≡ n → ⊥) → m < n
      below m n l e = ⊎_elim (λ q. absurd (e q)) (λ q. q) (eq-or-lt_of_le l)

-- digest and indicator are pairs, and leave room for data
record Ends (x : Entry) : Type 0 where
  least : 2 ≤ tail (zeroizable x)
  even : tail (zeroizable x) % 2 ≡ 0
  room : tail (zeroizable x) + 2 ≤ x.n

ends : (x : Entry) → 4 ≤ x.n → (zeroizable x ≡ true → 6 ≤ x.n) → Ends x
ends x four six =
    ⊎_elim
    (λ (z : zeroizable x ≡ true). let n = six z in record { least = rw z (omega arith); even = rw z; room = rw z n })
    (λ (z : zeroizable x ≡ false). record { least = rw z (omega arith); even = rw z; room = rw z four })
    (decided (zeroizable x))

-- only a zeroizable partition has more than a digest there
indicator_only : (zeroizable : Bool) → 2 < tail zeroizable → zeroizable ≡ true
indicator_only true l = refl
indicator_only false l = absurd (omega arith)

-- what the tests give in a good map
module _ (s : List ℕ) (g : map_good s ≡ true) (cell k : ℕ) (l : k < (header_of s).partitions) (h : holds (entry_of s k) cell ≡ true) where
  abbrev x : Entry
  x = entry_of s k

  rules : EntryRules (end_before s k) (header_of s).cells x
  rules = map_entry s g k l

  last : Ends x
  last = ends x rules.n_least rules.n_zeroizable

  inside : (x.first ≤ cell) × (cell < end_of x)
  inside = held x cell h

  -- a word of some width that ends within the partition, given where its role says
  found : (role : Role) (wide : Bool) → cell + cells_in wide ≤ end_of x → (wide ≡ true → cell % 2 ≡ 0) → Lies x cell role wide → Found s cell k role wide
  found role wide high even lies = record { partition = l; low = inside.0; high = high; within = omega (arith, rules.within); even = even; lies = lies }

  place : (role : Role) (wide : Bool) → By x k cell role wide → Found s cell k role wide
  place Data true t =
      let even = t.2 refl in
      let room : cell + 2 + tail (zeroizable x) ≤ end_of x = omega (arith, t.0, rules.first_even, rules.n_even, last.even) in
      found Data true (omega arith) (λ _. even) (room, t.1)
  place Data false t = found Data false (omega (arith, inside.1)) (λ n. absurd (false≢true n)) (omega (arith, t.0), t.1)
  place Digest wide t =
      let at : cell + tail (zeroizable x) ≡ end_of x = omega (arith, t.0, inside.1) in
      rw t.1 (found Digest true (omega (arith, last.least)) (λ _. omega (arith, rules.first_even, rules.n_even, last.even)) (at, refl))
  place Indicator wide t =
      let at : cell + 2 ≡ end_of x = omega (arith, t.0) in
      rw t.2 (found Indicator true (omega arith) (λ _. omega (arith, rules.first_even, rules.n_even)) (at, refl, indicator_only (zeroizable x) (omega (arith, t.0, t.1))))

  -- so at an answer that names some partition i, the partition is k
  at_answer : (i : ℕ) (role : Role) (wide : Bool) → some_word i role wide ≡ word_in x k cell → Found s cell i role wide
  at_answer i role wide q =
      let t : Tests x k cell (some_word i role wide) = subst (Tests x k cell) (sym q) (tests x k cell) in
      subst (λ (j : ℕ). Found s cell j role wide) (sym t.0) (place role wide t.1)

-- each word that the lookup answers lies in the partition that it names
pub word_tells : (s : List ℕ) → map_good s ≡ true → (cell i : ℕ) (role : Role) (wide : Bool) → some_word i role wide ≡ word_at s cell → Found s cell i role wide
unfolding word_at
word_tells s g cell i role wide q =
    let k = partition_of s cell in
    ⊎_elim
    (λ (a : ltb k (header_of s).partitions ≡ true).
    let l = ltb-true _ _ a in
    at_answer s g cell k l (holds_it s cell l) i role wide (rw a at q))
    (λ (a : ltb k (header_of s).partitions ≡ false).
    let n : some_word i role wide ≡ None = rw a at q in
    let z : ◌≡◌ {A = ℕ} 0 1 = cc in
    absurd (omega arith))
    (decided (ltb k (header_of s).partitions))

-- "Secret needs kind 0": every word of a secret partition is a pair
pub secret_wide : (s : List ℕ) → map_good s ≡ true → {cell i : ℕ} {role : Role} {wide : Bool} → Found s cell i role wide
    → secret (entry_of s i) ≡ true → wide ≡ true
secret_wide s g {cell} {i} {role} {wide} f is_secret = by role f.lies
  where
    by : (role : Role) → Lies (entry_of s i) cell role wide → wide ≡ true
    by Data lies =
        let hardware_kind : (entry_of s i).kind ≡ 0 = eqb-true _ _ ((map_entry s g i f.partition).secret_hardware is_secret) in
        lies.1 ∙ rw hardware_kind
    by Digest lies = lies.1
    by Indicator lies = lies.1
