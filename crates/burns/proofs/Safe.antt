-- What any number of runs on one partition leaves, wherever they were cut: cells that each run keeps safe, and from which each run
-- goes as it would have gone at the start. Assumes nothing.
-- The definitions stand in specs/Safe.antt.
use Prim.Native.Nat.{ℕ, zero, suc, ◌+◌, ◌-◌, ◌%◌, ◌≤◌, ◌<◌}
use Rattle.std.specs.Prelude.{Bool, true, false, cond, not, ◌≡◌, ◌⊎◌, length, get_or}
use Rattle.std.proofs.lemmas.Bool.{false≢true}
use Rattle.std.proofs.Math.Path.{refl, ap}
use Rattle.std.proofs.Common.{sym, ◌∙◌, inl, inr, ⊎_elim, arith, ext_get_or}
use mathlib.Core.List.{List, [], ◌∷◌}
use Rattle.laws.specs.Tests.{lt_or_le}
use Rattle.fuse.specs.Fuse.{all_ones, burn_word}
use Rattle.burns.specs.declared.Word.{Word}
use Rattle.burns.specs.declared.End.{End}
use Rattle.burns.specs.declared.End.TheVariants.{Whole, Stopped, Cut}
use Rattle.burns.specs.Run.{order, Tally, start, carry, goes_on, stops_after, Ran, burns_of, run}
use Rattle.burns.specs.Cells.{full, Grown}
use Rattle.burns.proofs.Cells.{between_refl, between_trans, full_same, full_stays, grown_burn, burn_before, burn_fills, grown_burns, run_fills}
use Rattle.burns.proofs.Stops.{on_same, on_grown, past_first, first_keeps, run_stopped}
use Rattle.burns.specs.Stops.{first, rest}
use Rattle.burns.specs.Safe.{Alike, Untouched, Safe}

-- ---- past the first burn a run does not hang on the cells

cond_alike : (test : Bool) (x y x' y' : Ran) → Alike x x' → Alike y y' → Alike (cond test x y) (cond test x' y')
cond_alike true x y x' y' p q = p
cond_alike false x y x' y' p q = q

module _ (marks : List ℕ) (mask : ℕ) where
  later_alike : (k : ℕ) (words : List Word) (t u : Tally) → 1 ≤ t.burns → t.burns ≡ u.burns → Alike (burns_of marks mask k words t) (burns_of marks mask k words u)
  unfolding burns_of
  later_alike k [] t u l e = record { end = refl; burns = e }
  later_alike zero (word ∷ words) t u l e = record { end = refl; burns = ap (λ (x : ℕ). x + 1) e }
  later_alike (suc k) (word ∷ words) t u l e =
      rw (past_first marks mask word t l, past_first marks mask word u (omega arith))
      (later_alike k words (carry marks word all_ones t) (carry marks word all_ones u) (omega arith) (ap (λ (x : ℕ). x + 1) e))

-- ---- the invariant

-- the indicator holds every fuse that it can hold
abbrev IndicatorFull : (marks s c : List ℕ) → Type 0
IndicatorFull marks s c = (j : ℕ) → length s - 2 ≤ j → j < length s → get_or c j 0 ≡ full (get_or marks j 0) (get_or s j 0)

-- before the first run
pub safe_start : (marks : List ℕ) (s : List ℕ) → Safe marks s s
safe_start marks s = record { len = refl; between = λ j. between_refl (get_or marks j 0) (get_or s j 0); gate = inr (λ j l. refl) }

-- ---- burns of safe cells

module _ (marks : List ℕ) (s : List ℕ) (four : 4 ≤ length s) (even : length s % 2 ≡ 0) where
  -- from one full indicator a run goes on as from another
  full_on : (c d : List ℕ) → length c ≡ length s → length d ≡ length s → IndicatorFull marks s c → IndicatorFull marks s d → goes_on c ≡ goes_on d
  full_on c d p q f g = on_same (length s) c d (omega arith) even p q (λ j a b. f j a b ∙ sym (g j a b))

  -- burns keep cells safe from which a run goes on, or of which the rest is untouched after them
  safe_grown : {c d : List ℕ} → Safe marks s c → Grown marks c d → (goes_on c ≡ true) ⊎ Untouched s d → Safe marks s d
  safe_grown {c} h g gate = record {
    len = g.len ∙ h.len;
    between = λ j. between_trans (h.between j) (g.each j);
    gate = ⊎_elim (λ (on : goes_on c ≡ true). inl (on_grown g on)) inr gate;
  }

  -- so does any burn of the indicator
  safe_burn : (v : ℕ) {c : List ℕ} → Safe marks s c → Safe marks s (burn_word marks (length s - 2) true v c)
  safe_burn v {c} h =
      safe_grown h (grown_burn marks (length s - 2) true v c)
      (⊎_elim inl (λ (u : Untouched s c). inr (λ j l. burn_before marks (length s - 2) true v c j l ∙ u j l)) h.gate)

  -- the first burn of a run leaves one and the same indicator, so the run goes on, or not, as it would have at the start
  first_full : {c : List ℕ} → Safe marks s c → IndicatorFull marks s (first marks (length s) c).cells
  first_full {c} h j a b = burn_fills marks c j (rw h.len b) (length s - 2) true a (omega arith) ∙ full_same (h.between j)

  first_on : {c d : List ℕ} → Safe marks s c → Safe marks s d → goes_on (first marks (length s) c).cells ≡ goes_on (first marks (length s) d).cells
  first_on h g = full_on _ _ (safe_burn all_ones h).len (safe_burn all_ones g).len (first_full h) (first_full g)

  -- where it does not, the partition was not marked before, so nothing else has changed
  off_untouched : {c : List ℕ} → Safe marks s c → goes_on (first marks (length s) c).cells ≡ false → Untouched s c
  off_untouched {c} h off =
      ⊎_elim
      (λ (on : goes_on c ≡ true). absurd (false≢true (sym off ∙ on_grown (grown_burn marks (length s - 2) true all_ones c) on)))
      (λ (u : Untouched s c). u)
      h.gate

  off_same : {c : List ℕ} → Safe marks s c → goes_on (first marks (length s) c).cells ≡ false → (first marks (length s) c).cells ≡ (first marks (length s) s).cells
  off_same {c} h off =
      let g = safe_start marks s in
      let len = (safe_burn all_ones h).len in
      ext_get_or 0 _ _ (len ∙ sym (safe_burn all_ones g).len)
      (λ j l. ⊎_elim
      (λ (a : j < length s - 2). burn_before marks (length s - 2) true all_ones c j a ∙ off_untouched h off j a ∙ sym (burn_before marks (length s - 2) true all_ones s j a))
      (λ (a : length s - 2 ≤ j). let m = rw len at l in first_full h j a m ∙ sym (first_full g j a m))
      (lt_or_le j (length s - 2)))

  alike_from : (software : Bool) (k mask : ℕ) {c d : List ℕ} → Safe marks s c → Safe marks s d
      → Alike (burns_of marks mask k (order software (length s)) (start c)) (burns_of marks mask k (order software (length s)) (start d))
  unfolding burns_of order stops_after
  alike_from software zero mask h g = record { end = refl; burns = refl }
  alike_from software (suc k) mask {c} {d} h g =
      rw (first_on h g)
      (cond_alike (not (goes_on (first marks (length s) d).cells)) _ _ _ _ (record { end = refl; burns = refl })
      (later_alike marks mask k (rest software (length s)) (first marks (length s) c) (first marks (length s) d) (omega arith) refl))

-- ---- a run from any cells

pub length_run : (marks : List ℕ) (software : Bool) (k mask : ℕ) (s : List ℕ) → length (run marks software k mask s).tally.cells ≡ length s
length_run marks software k mask s = (grown_burns marks mask k (order software (length s)) (start s)).len

-- a full cell stays full
pub filled_kept : (marks : List ℕ) (software : Bool) (k mask : ℕ) (c : List ℕ) (j x : ℕ) → get_or c j 0 ≡ full (get_or marks j 0) x
    → get_or (run marks software k mask c).tally.cells j 0 ≡ full (get_or marks j 0) x
filled_kept marks software k mask c j x e = full_stays (get_or marks j 0) x e ((grown_burns marks mask k (order software (length c)) (start c)).each j)

-- ---- a run from safe cells

module _ {marks : List ℕ} {s c : List ℕ} (h : Safe marks s c) (four : 4 ≤ length s) (even : length s % 2 ≡ 0) (software : Bool) (k mask : ℕ) where
  -- it leaves safe cells
  pub safe_run : Safe marks s (run marks software k mask c).tally.cells
  safe_run =
      let after = safe_burn marks s four even all_ones h in
      rw h.len
      (first_keeps (λ (r : Ran). Safe marks s r.tally.cells) marks software k mask (length s) c
      (safe_burn marks s four even mask h) (λ _. after)
      (λ j on. safe_grown marks s four even after (grown_burns marks mask j (rest software (length s)) (first marks (length s) c)) (inl on)))

  -- it ends as the same run from the start
  pub run_alike : Alike (run marks software k mask c) (run marks software k mask s)
  run_alike = rw h.len (alike_from marks s four even software k mask h (safe_start marks s))

  -- where it goes through its order, it fills every cell
  pub run_full : (run marks software k mask c).end ≡ Whole → (j : ℕ) → j < length s → get_or (run marks software k mask c).tally.cells j 0 ≡ full (get_or marks j 0) (get_or s j 0)
  run_full e j l = run_fills marks software k mask c j (get_or s j 0) (rw h.len four) (rw h.len even) (rw h.len l) (h.between j) e

  -- unless it is cut, it leaves what the same run from the start leaves
  pub run_cells : ((run marks software k mask c).end ≡ Cut → ⊥) → (run marks software k mask c).tally.cells ≡ (run marks software k mask s).tally.cells
  run_cells uncut = by (run marks software k mask c).end refl
    where
      by : (end : End) → (run marks software k mask c).end ≡ end → (run marks software k mask c).tally.cells ≡ (run marks software k mask s).tally.cells
      by Whole e =
          ext_get_or 0 _ _ (safe_run.len ∙ sym (length_run marks software k mask s))
          (λ j l.
          let m : j < length s = rw safe_run.len at l in
          run_full e j m ∙ sym (run_fills marks software k mask s j (get_or s j 0) four even m (between_refl (get_or marks j 0) (get_or s j 0)) (sym run_alike.end ∙ e)))
      by Stopped e =
          let there = rw h.len at (run_stopped marks software k mask c e) in
          rw h.len (there.0 ∙ off_same marks s four even h there.1 ∙ sym (run_stopped marks software k mask s (sym run_alike.end ∙ e)).0)
      by Cut e = absurd (uncut e)
