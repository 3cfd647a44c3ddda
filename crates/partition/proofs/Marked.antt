-- Request P4, "Call a zeroizable partition marked when its indicator has at least one set fuse": what it tells, what keeps it, how
-- it stands to counted as zeroized, and what a marked partition's short pairs say of its state. Callers cite these laws in place of the
-- definition's text. Assumes nothing.
use Rattle.std.specs.Prelude.{ℕ, zero, suc, ◌+◌, ◌-◌, ◌*◌, ◌%◌, ◌^◌, ◌≤◌, ◌<◌, ◌⊎◌, ◌↔◌, ◌≡◌, Bool, cond, ◌&&◌, ◌||◌, List, length, get_or, eqb, Some}
use Rattle.std.proofs.Common.{inl, inr, ⊎_elim, sym, subst, ◌∙◌, eq-or-lt_of_le, add-zero, arith}
use Rattle.std.proofs.Math.Path.{refl, ap}
use Rattle.std.proofs.Math.Bool.{true, false, not, false≢true}
use borrow.Author.Tests.{eqb-true, eqb-false, ne_eqb, le-leb, leb-true, lt-ltb, not-true}
use Rattle.laws.specs.Tests.{and, decided, not_yes, lt_or_le}
use Rattle.laws.specs.Bits.{◌⊆◌}
use Rattle.laws.proofs.Bits.{sub_none}
use Rattle.laws.specs.Below.{tally, count_below, First}
use Rattle.laws.proofs.Below.{count_step, count_none, none_count, first_tells, first_is, first_within}
use Rattle.fuse.specs.Fuse.{ones_of}
use Rattle.fuse.proofs.Burn.{ones_zero, no_ones}
use Rattle.partition.specs.declared.State.TheVariants.{Erased, Torn}
use Rattle.partition.specs.Partition.{pairs, pair_at, indicator, short_at, short_pairs, lowest_pair, lowest_short, counted, marked, short_besides, lowest_besides, SomeBesides, state_of}
use Rattle.partition.proofs.StateIs.{erased_is}
use Rattle.partition.proofs.Laws.{torn_is, erased_tells, counted_tells, lowest_cell, lowest_tells}

module _ (zeroizable : Bool) (part : List ℕ) where
  pub marked_is : zeroizable ≡ true → 1 ≤ pairs part → (pair_at part (indicator part) ≡ 0 → ⊥) → marked zeroizable part ≡ true
  unfolding marked
  marked_is z p s = simp (z, le-leb _ _ p, ne_eqb _ _ s)

  pub marked_tells : marked zeroizable part ≡ true → (zeroizable ≡ true) × (1 ≤ pairs part) × (pair_at part (indicator part) ≡ 0 → ⊥)
  unfolding marked
  marked_tells m =
      let last = and _ _ m in
      let first = and _ _ last.0 in
      (first.0, leb-true _ _ first.1, eqb-false _ _ (not-true _ last.1))

  -- "at least one set fuse", by the indicator's number of ones; a cell is a number of 32 bits
  pub marked_ones : zeroizable ≡ true → 1 ≤ pairs part → ((j : ℕ) → get_or part j 0 < 2 ^ 32)
      → (marked zeroizable part ≡ true) ↔ (1 ≤ ones_of (pair_at part (indicator part)))
  marked_ones z p small = (
    (λ m.
        ⊎_elim
        (λ (l : ones_of (pair_at part (indicator part)) < 1). absurd ((marked_tells m).2 (no_ones (small (2 * indicator part)) (small (2 * indicator part + 1)) (omega arith))))
        (λ l. l)
        (lt_or_le (ones_of (pair_at part (indicator part))) 1)),
    λ some. marked_is z p (λ none. let o : ones_of (pair_at part (indicator part)) ≡ 0 = ap ones_of none ∙ ones_zero in omega (arith, some, o)),
  )

  -- a partition that counts as zeroized is marked: its indicator has as many set fuses as the bound asks
  pub counted_marked : {bound : ℕ} → 1 ≤ bound → counted zeroizable bound part ≡ true → marked zeroizable part ≡ true
  unfolding short_at
  counted_marked {bound} b c =
      let told = counted_tells zeroizable bound part c in
      marked_is told.0 told.1
      (λ none. let o : ones_of (pair_at part (indicator part)) ≡ 0 = ap ones_of none ∙ ones_zero in
      let under : ones_of (pair_at part (indicator part)) < bound = omega (arith, o, b) in
      false≢true (sym told.2 ∙ lt-ltb _ _ under))

-- ---- the indicator's cells, the last two

module _ (part : List ℕ) (two : 2 ≤ length part) (even : length part % 2 ≡ 0) where
  low_at : 2 * indicator part ≡ length part - 2
  low_at = omega arith

  high_at : 2 * indicator part + 1 ≡ length part - 1
  high_at = omega arith

  -- a zeroizable partition is not marked exactly when both are 0
  pub unmarked_exactly : (marked true part ≡ false) ↔ ((j : ℕ) → length part ≤ j + 2 → j < length part → get_or part j 0 ≡ 0)
  unmarked_exactly = (
    (λ u j a b.
        let none = zero_pair u in
        ⊎_elim
        (λ (e : length part - 2 ≡ j). rw (← e, ← low_at) (omega (arith, none)))
        (λ (l : length part - 2 < j). let e : j ≡ length part - 1 = omega arith in rw (e, ← high_at) (omega (arith, none)))
        (eq-or-lt_of_le (omega arith))),
    λ zeros. not_yes _ (λ m. (marked_tells true part m).2
        (let low = zeros (2 * indicator part) (omega arith) (omega arith) in
        let high = zeros (2 * indicator part + 1) (omega arith) (omega arith) in
        rw (low, high))),
  )
    where
      zero_pair : marked true part ≡ false → pair_at part (indicator part) ≡ 0
      zero_pair u =
          ⊎_elim (λ (e : eqb (pair_at part (indicator part)) 0 ≡ true). eqb-true _ _ e)
          (λ (o : eqb (pair_at part (indicator part)) 0 ≡ false). absurd (false≢true (sym u ∙ marked_is true part refl (omega arith) (eqb-false _ _ o))))
          (decided (eqb (pair_at part (indicator part)) 0))

-- more fuses never unmark a partition
pub marked_mono : (zeroizable : Bool) (part more : List ℕ) → length more ≡ length part → ((j : ℕ) → get_or part j 0 ⊆ get_or more j 0)
    → marked zeroizable part ≡ true → marked zeroizable more ≡ true
marked_mono zeroizable part more len grown m =
    let told = marked_tells zeroizable part m in
    let at = 2 * indicator part in
    marked_is zeroizable more told.0 (rw len told.1)
    (λ none. let zero : pair_at more (indicator part) ≡ 0 = rw len at none in
    let low : get_or part at 0 ≡ 0 = sub_none (subst (λ x. get_or part at 0 ⊆ x) (omega (arith, zero)) (grown at)) in
    let high : get_or part (at + 1) 0 ≡ 0 = sub_none (subst (λ x. get_or part (at + 1) 0 ⊆ x) (omega (arith, zero)) (grown (at + 1))) in
    told.2 (rw (low, high)))

-- ---- the short pairs of a marked partition

-- all of them are those besides the indicator, and the indicator if it is short
pub shorts_split : (bound : ℕ) (part : List ℕ) → 1 ≤ pairs part → short_pairs bound part ≡ short_besides bound part + tally (short_at bound part (indicator part))
shorts_split bound part p =
    let last : indicator part + 1 ≡ pairs part = omega arith in
    ap (count_below (short_at bound part)) (sym last) ∙ count_step (short_at bound part) (indicator part) _ refl

-- so "no short pair besides the indicator" is no short pair, or one, the indicator
none_besides : (besides : ℕ) (last : Bool) → (eqb (besides + tally last) 0 || (eqb (besides + tally last) 1 && last)) ≡ eqb besides 0
none_besides zero true = refl
none_besides zero false = refl
none_besides (suc n) true = rw (ne_eqb (suc n + 1) 0 (λ e. omega arith), ne_eqb (suc n + 1) 1 (λ e. omega arith), ne_eqb (suc n) 0 (λ e. omega arith))
none_besides (suc n) false = rw (ne_eqb (suc n + 0) 0 (λ e. omega arith), ne_eqb (suc n) 0 (λ e. omega arith)) (and-false (eqb (suc n + 0) 1))
  where
    and-false : (b : Bool) → (b && false) ≡ false
    and-false true = refl
    and-false false = refl

pub besides_by : (bound : ℕ) (part : List ℕ) {short : ℕ} {last : Bool} → 1 ≤ pairs part → short ≡ short_pairs bound part
    → last ≡ short_at bound part (indicator part)
    → (eqb short 0 || (eqb short 1 && last)) ≡ eqb (short_besides bound part) 0
besides_by bound part p s l = rw (s, l, shorts_split bound part p) (none_besides (short_besides bound part) (short_at bound part (indicator part)))

module _ (zeroizable : Bool) (bound : ℕ) (part : List ℕ) where
  -- the state of a partition that counts as zeroized is the one that document 01 gave it: "no pair short", "some pair short"
  pub counted_state : 1 ≤ bound → counted zeroizable bound part ≡ true → state_of zeroizable bound part ≡ cond (eqb (short_pairs bound part) 0) Erased Torn
  unfolding state_of
  counted_state b c =
      let told = counted_tells zeroizable bound part c in
      simp (counted_marked zeroizable part b c, shorts_split bound part told.1, told.2, add-zero)

  -- "an erased slot may report one short pair": exactly where its indicator is short, so that it is not counted as zeroized
  pub erased_shorts : state_of zeroizable bound part ≡ Erased → short_pairs bound part ≡ tally (not (counted zeroizable bound part))
  unfolding counted
  erased_shorts e =
      let told = erased_tells zeroizable bound part e in
      let m = marked_tells zeroizable part told.0 in
      shorts_split bound part m.1 ∙ simp (told.1, m.0, le-leb _ _ m.1) (by (short_at bound part (indicator part)))
    where
      by : (short : Bool) → 0 + tally short ≡ tally (not (true && true && not short))
      by true = refl
      by false = refl

  module _ (m : marked zeroizable part ≡ true) where
    abbrev some : 1 ≤ pairs part
    some = (marked_tells zeroizable part m).1

    -- erased exactly when no pair is short or the lowest short one is the indicator
    pub erased_exactly : (state_of zeroizable bound part ≡ Erased) ↔ ((short_pairs bound part ≡ 0) ⊎ (lowest_short bound part ≡ Some (2 * indicator part)))
    erased_exactly = (
      (λ e. let rest = (erased_tells zeroizable bound part e).1 in
          ⊎_elim
          (λ (y : short_at bound part (indicator part) ≡ true). inr (alone rest y))
          (λ (o : short_at bound part (indicator part) ≡ false). inl (shorts_split bound part some ∙ rw (rest, o)))
          (decided (short_at bound part (indicator part)))),
      λ told. erased_is zeroizable bound part m
          (⊎_elim (λ (none : short_pairs bound part ≡ 0). omega (arith, shorts_split bound part some, none)) before told),
    )
      where
        alone : short_besides bound part ≡ 0 → short_at bound part (indicator part) ≡ true → lowest_short bound part ≡ Some (2 * indicator part)
        alone rest y =
            let first = first_is (short_at bound part) (pairs part) (indicator part) (omega (arith, some)) y (λ j l. count_none (short_at bound part) (indicator part) rest j l) in
            sym (lowest_cell bound part (indicator part) (omega (arith, some)) first)

        before : lowest_short bound part ≡ Some (2 * indicator part) → short_besides bound part ≡ 0
        before e =
            let w = lowest_tells bound part (2 * indicator part) (sym e) in
            none_count (short_at bound part) (indicator part) (λ j l. w.none_before j (omega (arith, w.cell)))

    -- and torn otherwise
    pub torn_otherwise : (state_of zeroizable bound part ≡ Erased → ⊥) → state_of zeroizable bound part ≡ Torn
    torn_otherwise o = torn_is zeroizable bound part m (λ rest. o (erased_is zeroizable bound part m rest))

-- ---- a torn partition's first short pair

module _ (bound : ℕ) (part : List ℕ) (some : SomeBesides bound part) where
  pub torn_within : lowest_besides bound part < indicator part
  torn_within = first_within (short_at bound part) (indicator part) some

  -- it is the first of all: the indicator comes after it
  pub torn_first : lowest_pair bound part ≡ lowest_besides bound part
  torn_first =
      let j = lowest_besides bound part in
      let w : First (short_at bound part) 0 (indicator part) j = first_tells (short_at bound part) 0 (indicator part) in
      first_is (short_at bound part) (pairs part) j (omega (arith, torn_within)) (w.at (omega (arith, torn_within))) (λ k l. w.before k (omega arith) l)

  pub torn_lowest : lowest_short bound part ≡ Some (2 * lowest_besides bound part)
  torn_lowest = sym (lowest_cell bound part (lowest_besides bound part) (omega (arith, torn_within)) torn_first)
