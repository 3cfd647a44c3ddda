-- The order of burns, word by word, and a run, burn by burn: what the loop of `burns::run` cites. Assumes nothing.
-- The definitions stand in specs/Turns.antt.
use Prim.Native.Nat.{ℕ, zero, suc, ◌+◌, ◌-◌, ◌*◌, ◌/◌, ◌%◌, ◌≤◌, ◌<◌}
use Rattle.std.specs.Prelude.{Bool, true, false, cond, not, ◌||◌, ◌≡◌, refl, List, [], ◌∷◌, length, get_or, drop, eqb}
use Rattle.std.proofs.Common.{sym, ap, ◌∙◌, ⊎_elim, suc-mul, mul-one, zero-add, eq-or-lt_of_le, length-append, drop_of_length-le, ne_eqb, eq-eqb, eqb-true}
use Rattle.std.proofs.Math.Nat.{sub-zero}
use Rattle.std.proofs.Math.Numerals.{add-one}
use native.Mathlib.Omega.{arith}
use Rattle.std.proofs.Math.ListN.{get_or-append}
use Rattle.std.proofs.Math.Seq.{drop-cons}
use Rattle.std.proofs.lemmas.List.{get_or_at}
use Rattle.std.proofs.lemmas.Bool.{eqb-false}
use Rattle.laws.specs.Tests.{decided}
use Rattle.fuse.specs.Fuse.{cells_in, all_ones, burn_word, new_fuses}
use Rattle.fuse.proofs.Charge.{new_most as word_most}
use Rattle.burns.specs.declared.Word.{Word}
use Rattle.burns.specs.declared.End.TheVariants.{Whole, Stopped, Cut}
use Rattle.burns.proofs.Cells.{grown_burn}
use Rattle.burns.specs.Run.{word_from, pair_from, words_from, data_words, order, Tally, tally_of, start, carry, goes_on, stops_after, ran, burns_of, run, place_of, value_of, end_of}
use Rattle.burns.specs.Turns.{Running}

-- ---- the order

length_words : (wide : Bool) (count at : ℕ) → length (words_from wide count at) ≡ count
unfolding words_from
length_words wide zero at = refl
length_words wide (suc count) at = ap suc (length_words wide count (at + cells_in wide))

word_of : (wide : Bool) (count at j : ℕ) (d : Word) → j < count → get_or (words_from wide count at) j d ≡ word_from wide (at + j * cells_in wide)
unfolding words_from
word_of wide zero at j d h = absurd (omega arith)
word_of wide (suc count) at zero d h = ap (word_from wide) (omega arith)
word_of wide (suc count) at (suc j) d h =
    word_of wide count (at + cells_in wide) j d (omega arith) ∙ ap (word_from wide) (omega (arith, suc-mul j (cells_in wide)))

-- how many burns there are: the data words, indicator and digest
length_order : (software : Bool) (n : ℕ) → length (order software n) ≡ (n - 4) / cells_in (not software) + 2
unfolding order
length_order software n =
    ap suc (length-append (data_words software n) (pair_from (n - 4) ∷ []))
    ∙ ap (λ (x : ℕ). suc (x + 1)) (length_words (not software) ((n - 4) / cells_in (not software)) 0) ∙ omega arith

-- in a software partition, and in any other
pub count_cells : (software : Bool) (n : ℕ) → software ≡ true → n - 4 + 2 ≡ length (order software n)
count_cells software n e = sym (length_order software n ∙ rw e (omega arith))

pub count_pairs : (software : Bool) (n : ℕ) → software ≡ false → (n - 4) / 2 + 2 ≡ length (order software n)
count_pairs software n e = sym (length_order software n ∙ rw e)

-- a partition has more cells than burns
fewer : (software : Bool) (n : ℕ) → 4 ≤ n → (n - 4) / cells_in (not software) + 4 ≤ n
fewer true n h = omega arith
fewer false n h = omega arith

-- and two burns at least, the indicator's and the digest's
pub order_two : (software : Bool) (n : ℕ) → 2 ≤ length (order software n)
order_two software n = omega (arith, length_order software n)

pub order_fewer : (software : Bool) (n : ℕ) → 4 ≤ n → length (order software n) < n
order_fewer software n h = omega (arith, length_order software n, fewer software n h)

pub first_word : (software : Bool) (n j : ℕ) (d : Word) → j ≡ 0 → get_or (order software n) j d ≡ pair_from (n - 2)
unfolding order
first_word software n j d e = rw e

data_word : (software : Bool) (n j : ℕ) (d : Word) → j < (n - 4) / cells_in (not software) → get_or (order software n) (suc j) d ≡ word_from (not software) (j * cells_in (not software))
unfolding order
data_word software n j d h =
    get_or-append (data_words software n) (pair_from (n - 4) ∷ []) d j (omega (arith, length_words (not software) ((n - 4) / cells_in (not software)) 0))
    ∙ word_of (not software) ((n - 4) / cells_in (not software)) 0 j d h ∙ ap (word_from (not software)) (omega arith)

last_word : (software : Bool) (n j : ℕ) (d : Word) → j ≡ (n - 4) / cells_in (not software) → get_or (order software n) (suc j) d ≡ pair_from (n - 4)
unfolding order
last_word software n j d e = get_or_at (data_words software n) (pair_from (n - 4)) [] d j (length_words (not software) ((n - 4) / cells_in (not software)) 0 ∙ sym e)

-- the digest stands where another data word would: of one cell each, or of two
cell_next : (n j : ℕ) (d : Word) → j ≤ n - 4 → get_or (order true n) (suc j) d ≡ word_from (eqb j (n - 4)) j
cell_next n j d h =
    ⊎_elim
    (λ (e : j ≡ n - 4). last_word true n j d (omega arith) ∙ rw (eq-eqb _ _ e) (ap (word_from true) (sym e)))
    (λ (l : j < n - 4). data_word true n j d (omega arith) ∙ rw (ne_eqb j (n - 4) (λ e. omega arith)) (ap (word_from false) (omega arith)))
    (eq-or-lt_of_le h)

pair_next : (n j : ℕ) (d : Word) → n % 2 ≡ 0 → j ≤ (n - 4) / 2 → get_or (order false n) (suc j) d ≡ pair_from (2 * j)
pair_next n j d even h =
    ⊎_elim
    (λ (e : j ≡ (n - 4) / 2). last_word false n j d e ∙ ap pair_from (omega arith))
    (λ (l : j < (n - 4) / 2). data_word false n j d l ∙ ap pair_from (omega arith))
    (eq-or-lt_of_le h)

-- the same at the number j of a burn after the first, with room in the partition
module _ (software : Bool) (n j : ℕ) (d : Word) (p : 1 ≤ j) (h : j < length (order software n)) where
  before : j ≡ suc (j - 1)
  before = omega arith

  pub cell_word : software ≡ true → get_or (order software n) j d ≡ word_from (eqb (j - 1) (n - 4)) (j - 1)
  cell_word e = rw e (ap (λ (i : ℕ). get_or (order true n) i d) before ∙ cell_next n (j - 1) d (omega (arith, rw e at h, length_order true n)))

  pub pair_word : software ≡ false → n % 2 ≡ 0 → get_or (order software n) j d ≡ pair_from (2 * (j - 1))
  pair_word e even = rw e (ap (λ (i : ℕ). get_or (order false n) i d) before ∙ pair_next n (j - 1) d even (omega (arith, rw e at h, length_order false n)))

  -- before the digest it has the data's width
  pub data_at : j + 1 < length (order software n) → get_or (order software n) j d ≡ word_from (not software) (place_of software j)
  data_at l = ap (λ (i : ℕ). get_or (order software n) i d) before ∙ data_word software n (j - 1) d (omega (arith, length_order software n))

-- whatever its width
pub later_word : (software : Bool) (n j : ℕ) (d : Word) → n % 2 ≡ 0 → 1 ≤ j → j < length (order software n)
    → get_or (order software n) j d ≡ word_from (not software || eqb (place_of software j) (n - 4)) (place_of software j)
later_word true n j d even p h = rw (mul-one (j - 1)) (cell_word true n j d p h refl)
later_word false n j d even p h = pair_word false n j d p h refl even ∙ ap pair_from (omega arith)

-- and it lies in the partition
pub later_within : (software : Bool) (n j : ℕ) → 4 ≤ n → n % 2 ≡ 0 → 1 ≤ j → j < length (order software n)
    → place_of software j + cells_in (not software || eqb (place_of software j) (n - 4)) ≤ n
later_within true n j four even p h =
    rw (mul-one (j - 1))
    (⊎_elim
    (λ (e : j - 1 ≡ n - 4). rw (eq-eqb _ _ e) (omega arith))
    (λ (l : j - 1 < n - 4). rw (ne_eqb (j - 1) (n - 4) (λ e. omega arith)) (omega arith))
    (eq-or-lt_of_le (omega (arith, length_order true n))))
later_within false n j four even p h = omega (arith, length_order false n)

pub data_within : (software : Bool) (n j : ℕ) → n % 2 ≡ 0 → 1 ≤ j → j + 1 < length (order software n) → place_of software j + cells_in (not software) ≤ n
data_within true n j even p h = omega (arith, length_order true n)
data_within false n j even p h = omega (arith, length_order false n)

-- ---- a run, burn by burn

module _ (marks : List ℕ) (mask : ℕ) (words : List Word) (k j : ℕ) (t : Tally) (d : Word) where
  run_done : length words ≤ j → burns_of marks mask (k - j) (drop j words) t ≡ ran Whole t
  unfolding burns_of
  run_done h = rw (drop_of_length-le words h)

  run_cut : j < length words → j ≡ k → burns_of marks mask (k - j) (drop j words) t ≡ ran Cut (carry marks (get_or words j d) mask t)
  unfolding burns_of
  run_cut h e = let z : k - j ≡ 0 = omega arith in rw (z, drop-cons words j d h)

  run_turn : j < length words → j < k → (u : Tally) → u ≡ carry marks (get_or words j d) all_ones t
      → burns_of marks mask (k - j) (drop j words) t ≡ cond (stops_after u.burns u.cells) (ran Stopped u) (burns_of marks mask (k - (j + 1)) (drop (j + 1) words) u)
  unfolding burns_of
  run_turn h l u e = let z : k - j ≡ suc (k - (j + 1)) = omega arith in rw (z, drop-cons words j d h, add-one j, e)

-- ---- the loop

running_start : (marks : List ℕ) (software : Bool) (k mask : ℕ) (cells : List ℕ) → Running marks software k mask cells (start cells)
running_start marks software k mask cells = record { within = omega arith; uncut = omega arith; len = refl; new_most = omega arith; same = rw (sub-zero k) }

module _ {marks : List ℕ} {software : Bool} {k mask : ℕ} {cells : List ℕ} {t : Tally} (h : Running marks software k mask cells t) where
  running_done : length (order software (length cells)) ≤ t.burns → ran Whole t ≡ run marks software k mask cells
  running_done l = sym (h.same ∙ run_done marks mask (order software (length cells)) k t.burns t (pair_from 0) l)

  -- this turn's word, and the tally after its burn
  module _ {word : Word} {u : Tally} (l : t.burns < length (order software (length cells))) (e : word ≡ get_or (order software (length cells)) t.burns (pair_from 0)) where
    running_cut : t.burns ≡ k → u ≡ carry marks word mask t → ran Cut u ≡ run marks software k mask cells
    running_cut q b = sym (h.same ∙ run_cut marks mask (order software (length cells)) k t.burns t (pair_from 0) l q ∙ rw (← e, ← b))

    module _ (q : t.burns ≡ k → ⊥) (b : u ≡ carry marks word all_ones t) where
      turned : run marks software k mask cells
          ≡ cond (stops_after u.burns u.cells) (ran Stopped u) (burns_of marks mask (k - (t.burns + 1)) (drop (t.burns + 1) (order software (length cells))) u)
      turned = h.same ∙ run_turn marks mask (order software (length cells)) k t.burns t (pair_from 0) l (omega (arith, h.uncut)) u (b ∙ ap (λ (w : Word). carry marks w all_ones t) e)

      running_stop : stops_after u.burns u.cells ≡ true → ran Stopped u ≡ run marks software k mask cells
      running_stop s = sym (turned ∙ rw s)

      running_on : stops_after u.burns u.cells ≡ false → Running marks software k mask cells u
      running_on s =
          let more : u.burns ≡ t.burns + 1 = ap (λ (x : Tally). x.burns) b in
          record {
            within = omega arith;
            uncut = omega (arith, h.uncut);
            len = ap (λ (x : Tally). length x.cells) b ∙ (grown_burn marks word.at word.wide all_ones t.cells).len ∙ h.len;
            new_most = omega (arith, h.new_most, ap (λ (x : Tally). x.new) b, word_most marks word.at word.wide all_ones t.cells refl);
            same = turned ∙ rw (s, more);
          }

-- ---- as the code makes it: the first burn, those of the loop, and the last

-- the tally after a burn, by what the burn left of the cells and what it reports
carried : (marks : List ℕ) (word : Word) (v : ℕ) (t : Tally) {after : List ℕ} {more : ℕ} → after ≡ burn_word marks word.at word.wide v t.cells
    → more ≡ new_fuses marks word.at word.wide v t.cells → tally_of after (t.burns + 1) (t.new + more) ≡ carry marks word v t
carried marks word v t e r = rw (e, r)

-- only the first burn can stop a run
pub stops_later : (burns : ℕ) (cells : List ℕ) → (burns ≡ 1 → ⊥) → false ≡ stops_after burns cells
unfolding stops_after
stops_later burns cells n = rw (ne_eqb burns 1 n)

module _ (marks : List ℕ) (software : Bool) (k mask : ℕ) (cells : List ℕ) where
  abbrev indicator : Word
  indicator = pair_from (length cells - 2)

  first_is : indicator ≡ get_or (order software (length cells)) 0 (pair_from 0)
  first_is = sym (first_word software (length cells) 0 (pair_from 0) refl)

  some : 0 < length (order software (length cells))
  some = omega (arith, order_two software (length cells))

  -- the indicator's burn: cut, or whole, and then the run stops or goes on
  module _ {v : ℕ} {after : List ℕ} {new : ℕ} (w : v ≡ value_of 0 k mask) (e : after ≡ burn_word marks (length cells - 2) true v cells)
      (r : new ≡ new_fuses marks (length cells - 2) true v cells) where
    carried_first : {value : ℕ} → value_of 0 k mask ≡ value → tally_of after 1 new ≡ carry marks indicator value (start cells)
    carried_first z =
        ap (tally_of after 1) (sym (zero-add new)) ∙ carried marks indicator v (start cells) e r ∙ ap (λ (x : ℕ). carry marks indicator x (start cells)) (w ∙ z)

    pub first_cut : k ≡ 0 → ran Cut (tally_of after 1 new) ≡ run marks software k mask cells
    first_cut z = running_cut (running_start marks software k mask cells) some first_is (sym z) (carried_first (rw z))

    module _ (z : k ≡ 0 → ⊥) where
      whole : value_of 0 k mask ≡ all_ones
      whole = rw (ne_eqb 0 k (λ y. z (sym y)))

      pub first_stops : goes_on after ≡ false → ran Stopped (tally_of after 1 new) ≡ run marks software k mask cells
      unfolding stops_after
      first_stops off = running_stop (running_start marks software k mask cells) some first_is (λ y. z (sym y)) (carried_first whole) (rw off)

      pub first_goes : goes_on after ≡ true → Running marks software k mask cells (tally_of after 1 new)
      unfolding stops_after
      first_goes on = running_on (running_start marks software k mask cells) some first_is (λ y. z (sym y)) (carried_first whole) (rw on)

  -- a later one
  module _ {c : List ℕ} {burns new : ℕ} (h : Running marks software k mask cells (tally_of c burns new)) (p : 1 ≤ burns) {after : List ℕ} {more : ℕ} where
    pub data_goes : burns + 1 < length (order software (length cells)) → burns < k → {at : ℕ} → at ≡ place_of software burns
        → after ≡ burn_word marks at (not software) all_ones c → more ≡ new_fuses marks at (not software) all_ones c
        → Running marks software k mask cells (tally_of after (burns + 1) (new + more))
    data_goes l under {at} q e r =
        running_on h (omega arith) (ap (word_from (not software)) q ∙ sym (data_at software (length cells) burns (pair_from 0) p (omega arith) l)) (λ y. omega arith)
        (carried marks (word_from (not software) at) all_ones (tally_of c burns new) e r) (sym (stops_later (burns + 1) after (λ y. omega arith)))

    -- and the last one: cut, or the digest's
    pub last_turn : {word : Word} → burns < length (order software (length cells)) → word ≡ get_or (order software (length cells)) burns (pair_from 0)
        → ((burns ≡ k → ⊥) → length (order software (length cells)) ≤ burns + 1)
        → {v : ℕ} → v ≡ value_of burns k mask → after ≡ burn_word marks word.at word.wide v c → more ≡ new_fuses marks word.at word.wide v c
        → ran (end_of burns k) (tally_of after (burns + 1) (new + more)) ≡ run marks software k mask cells
    last_turn {word} l q all {v} w e r =
        let t = tally_of c burns new in
        let burned : (value : ℕ) → value_of burns k mask ≡ value → tally_of after (burns + 1) (new + more) ≡ carry marks word value t =
        λ value z. carried marks word v t e r ∙ ap (λ (x : ℕ). carry marks word x t) (w ∙ z) in
        ⊎_elim
        (λ (z : eqb burns k ≡ true). rw z (running_cut h l q (eqb-true burns k z) (burned mask (rw z))))
        (λ (z : eqb burns k ≡ false).
        let uncut = eqb-false burns k z in
        rw z (running_done (running_on h l q uncut (burned all_ones (rw z)) (sym (stops_later (burns + 1) after (λ y. omega arith)))) (all uncut)))
        (decided (eqb burns k))
