-- The laws of a partition's pairs and states: first what the proofs cite, then what callers cite in place of the definitions' text.
-- Assumes nothing.
-- The definitions stand in specs/Laws.antt.
use Rattle.std.specs.Prelude.{ℕ, ◌+◌, ◌*◌, ◌^◌, ◌≤◌, ◌<◌, refl, Bool, true, false, cond, List, length, get_or, eqb, Some, None}
use Rattle.std.proofs.Math.Logic.{⊎_elim}
use Rattle.std.proofs.Math.Path.{◌≡◌, subst}
use Rattle.std.proofs.Common.{sym, ◌∙◌, arith}
use Rattle.std.proofs.lemmas.Bool.{false≢true}
use Rattle.std.proofs.Math.Dec.{ltb}
use borrow.Author.Tests.{eqb-true, eqb-false, le-leb, leb-true, ltb-true, ltb-false, not-true, ne_eqb, lt-ltb, le-ltb}
use Rattle.laws.specs.Tests.{and, decided, not_yes}
use Rattle.laws.specs.Bits.{◌⊆◌}
use Rattle.laws.proofs.Below.{count_none, first_tells, first_within}
use Rattle.laws.specs.Below.{First}
use Rattle.fuse.proofs.Burn.{short_anti}
use Rattle.partition.specs.declared.State.{State}
use Rattle.partition.specs.Partition.{pairs, indicator, short_at, lowest_pair, lowest_short, short_pairs, short_besides, SomeBesides, counted, marked}
use Rattle.partition.specs.Partition.{no_data, state_of}
use Rattle.partition.specs.declared.State.TheVariants.{Erased, Torn, Blank, Programmed}
use Rattle.partition.specs.Laws.{LowestAt}

module _ (bound : ℕ) (part : List ℕ) where
  -- the answer of a search that ended at pair j
  pub lowest_cell : (j : ℕ) → j < pairs part → lowest_pair bound part ≡ j → Some (2 * j) ≡ lowest_short bound part
  unfolding lowest_short
  lowest_cell j l e = rw (e, lt-ltb _ _ l)

  pub lowest_none : lowest_pair bound part ≡ pairs part → None ≡ lowest_short bound part
  unfolding lowest_short
  lowest_none e = rw (e, le-ltb (pairs part) (pairs part) (omega arith))

-- ---- the four states

-- what the tests were, by the state that they give
Tests : (m s d : Bool) → State → Type 0
Tests m s d Erased = (m ≡ true) × (s ≡ true)
Tests m s d Torn = (m ≡ true) × (s ≡ false)
Tests m s d Blank = (m ≡ false) × (d ≡ true)
Tests m s d Programmed = (m ≡ false) × (d ≡ false)

tests : (m s d : Bool) → Tests m s d (cond m (cond s Erased Torn) (cond d Blank Programmed))
unfolding Tests
tests true true d = (refl, refl)
tests true false d = (refl, refl)
tests false s true = (refl, refl)
tests false s false = (refl, refl)

module _ (zeroizable : Bool) (bound : ℕ) (part : List ℕ) where
  pub torn_is : marked zeroizable part ≡ true → SomeBesides bound part → state_of zeroizable bound part ≡ Torn
  unfolding state_of
  torn_is m s = simp (m, ne_eqb _ _ s)

  pub blank_is : marked zeroizable part ≡ false → no_data zeroizable part ≡ true → state_of zeroizable bound part ≡ Blank
  unfolding state_of
  blank_is m d = simp (m, d)

  pub programmed_is : marked zeroizable part ≡ false → no_data zeroizable part ≡ false → state_of zeroizable bound part ≡ Programmed
  unfolding state_of
  programmed_is m d = simp (m, d)

  -- and back: what each state tells
  told : {state : State} → state_of zeroizable bound part ≡ state → Tests (marked zeroizable part) (eqb (short_besides bound part) 0) (no_data zeroizable part) state
  unfolding state_of
  told e = subst (Tests (marked zeroizable part) (eqb (short_besides bound part) 0) (no_data zeroizable part)) e (tests _ _ _)

  pub erased_tells : state_of zeroizable bound part ≡ Erased → (marked zeroizable part ≡ true) × (short_besides bound part ≡ 0)
  unfolding Tests
  erased_tells e = let t = told e in (t.0, eqb-true _ _ t.1)

  -- an erased partition has no short pair before its indicator
  pub erased_whole : state_of zeroizable bound part ≡ Erased → (j : ℕ) → j < indicator part → short_at bound part j ≡ false
  erased_whole e j l = count_none (short_at bound part) (indicator part) (erased_tells e).1 j l

  pub torn_tells : state_of zeroizable bound part ≡ Torn → (marked zeroizable part ≡ true) × SomeBesides bound part
  unfolding Tests
  torn_tells e = let t = told e in (t.0, eqb-false _ _ t.1)

  pub blank_tells : state_of zeroizable bound part ≡ Blank → (marked zeroizable part ≡ false) × (no_data zeroizable part ≡ true)
  unfolding Tests
  blank_tells e = told e

  pub programmed_tells : state_of zeroizable bound part ≡ Programmed → (marked zeroizable part ≡ false) × (no_data zeroizable part ≡ false)
  unfolding Tests
  programmed_tells e = told e

  -- what it is to count as zeroized
  pub counted_is : zeroizable ≡ true → 1 ≤ pairs part → short_at bound part (indicator part) ≡ false → counted zeroizable bound part ≡ true
  unfolding counted
  counted_is z p s = simp (z, le-leb _ _ p, s)

  pub counted_tells : counted zeroizable bound part ≡ true → (zeroizable ≡ true) × (1 ≤ pairs part) × (short_at bound part (indicator part) ≡ false)
  unfolding counted
  counted_tells c =
      let last = and _ _ c in
      let first = and _ _ last.0 in
      (first.0, leb-true _ _ first.1, not-true _ last.1)

-- more fuses never take it back; a cell is a number of 32 bits
pub counted_mono : (zeroizable : Bool) (bound : ℕ) (part more : List ℕ) → length more ≡ length part
    → ((j : ℕ) → get_or part j 0 < 2 ^ 32) → ((j : ℕ) → get_or more j 0 < 2 ^ 32)
    → ((j : ℕ) → get_or part j 0 ⊆ get_or more j 0) → counted zeroizable bound part ≡ true → counted zeroizable bound more ≡ true
unfolding short_at
counted_mono zeroizable bound part more len small small' grown c =
    let told = counted_tells zeroizable bound part c in
    let at : ℕ = 2 * indicator part in
    counted_is zeroizable bound more told.0 (rw len told.1)
    (rw len (not_yes _ (λ t. false≢true (sym told.2 ∙ short_anti (small at) (small' at) (grown at) (grown (at + 1)) bound t))))

-- ---- the lowest short pair

module _ (bound : ℕ) (part : List ℕ) where
  -- it is there where some pair is short
  pub some_lowest : (short_pairs bound part ≡ 0 → ⊥) → lowest_short bound part ≡ Some (2 * lowest_pair bound part)
  unfolding lowest_short
  some_lowest some = rw (lt-ltb _ _ (first_within (short_at bound part) (pairs part) some))

  -- and none where none is
  pub no_lowest : short_pairs bound part ≡ 0 → None ≡ lowest_short bound part
  no_lowest none =
      let j = lowest_pair bound part in
      let w : First (short_at bound part) 0 (pairs part) j = first_tells (short_at bound part) 0 (pairs part) in
      ⊎_elim
      (λ (l : ltb j (pairs part) ≡ true). let i = ltb-true j (pairs part) l in absurd (false≢true (sym (count_none (short_at bound part) (pairs part) none j i) ∙ w.at (omega arith))))
      (λ (l : ltb j (pairs part) ≡ false). lowest_none bound part (omega (arith, w.most, ltb-false j (pairs part) l)))
      (decided (ltb j (pairs part)))

  pub lowest_tells : (k : ℕ) → Some k ≡ lowest_short bound part → LowestAt bound part k
  unfolding lowest_short
  lowest_tells k e =
      let j = lowest_pair bound part in
      let w : First (short_at bound part) 0 (pairs part) j = first_tells (short_at bound part) 0 (pairs part) in
      ⊎_elim
      (λ (l : ltb j (pairs part) ≡ true).
      let q : Some k ≡ Some (2 * j) = rw l at e in
      let i = ltb-true _ _ l in
      record { pair = j; cell = cc; within = i; short_there = w.at (omega arith); none_before = λ i a. w.before i (omega arith) a })
      (λ (l : ltb j (pairs part) ≡ false). let q : Some k ≡ None = rw l at e in let z : ◌≡◌ {A = ℕ} 0 1 = cc in absurd (omega arith))
      (decided (ltb j (pairs part)))
