-- The map's laws: first what the proofs of the check cite, then what a good map gives its callers, as records of facts on numbers.
-- Assumes nothing.
-- The definitions stand in specs/Laws.antt.
use Rattle.std.specs.Prelude.{ℕ, zero, suc, ◌+◌, ◌-◌, ◌*◌, ◌≤◌, ◌<◌, ◌≡◌, Bool, true, false, ◌&&◌, List, length, take, drop, eqb}
use Rattle.std.proofs.Common.{⊎_elim, arith, add-one, not-suc-le-zero, eq-or-lt_of_le, le_of_suc-le-suc, leb-true, eqb-true, le-ltb, le-leb, eq-eqb, ne_eqb}
use Rattle.std.proofs.Math.Bool.{and-false}
use Rattle.laws.specs.Tests.{and, implies, not_both, every, every_at}
use Rattle.laws.specs.Below.{all_below}
use Rattle.laws.proofs.Below.{all_at}
use Rattle.endian.specs.Endian.{byte_at, u16_at, byte_part, u16_part}
use Rattle.map.specs.declared.Header.{Header}
use Rattle.map.specs.declared.Entry.{Entry}
use Rattle.map.specs.Map.{header_of, entry_place, entry_at, entry_of, end_of, zeroizable, secret, slot}
use Rattle.map.specs.Map.{header_good, filler_good, entry_good, end_before, place_good, map_good}
use Rattle.map.specs.Laws.{HeaderRules, EntryRules}

-- past the header a byte of the filler is good where it is zero
pub filler_is : (s : List ℕ) (k : ℕ) → 8 ≤ k → filler_good s k ≡ eqb (byte_at s k) 0
unfolding filler_good
filler_is s k l = simp (le-ltb _ _ l)

-- the entry before the next one is this one
suc_sub : (k : ℕ) → k + 1 - 1 ≡ k
suc_sub k = omega arith

pub end_next : (s : List ℕ) (i : ℕ) → end_before s (i + 1) ≡ end_of (entry_of s i)
end_next s i = simp (ne_eqb (i + 1) 0 (λ e. omega arith), suc_sub i)

-- an entry, and its last two bytes, read from its own eight bytes, from byte `at` on
module _ (s : List ℕ) (at : ℕ) where
  eight : at + 8 - at ≡ 8
  eight = omega arith

  pub entry_own : entry_at (take (at + 8 - at) (drop at s)) 0 ≡ entry_at s at
  entry_own =
      let zero_in : at + 0 ≡ at = omega arith in
      rw (eight, u16_part s at 8 0 (omega arith), u16_part s at 8 2 (omega arith), byte_part s at 8 4 (omega arith), byte_part s at 8 5 (omega arith), zero_in)

  pub spare_own : u16_at (take (at + 8 - at) (drop at s)) 6 ≡ u16_at s (at + 6)
  spare_own = rw eight (u16_part s at 8 6 (omega arith))

-- what the code tests of the entry that starts at byte `at` is its rule
pub place_is : (s : List ℕ) (i before cells at spare : ℕ) (x : Entry) (b : Bool) → before ≡ end_before s i → cells ≡ (header_of s).cells → at ≡ entry_place s i
    → x ≡ entry_at s at → spare ≡ u16_at s (at + 6)
    → b ≡ entry_good before cells x spare
    → b ≡ place_good s i
unfolding place_good
place_is s i before cells at spare x b p q t e u v = rw (v, e, u, p, q, t)

-- the whole check, at the header h that was read
module _ (s : List ℕ) (h : Header) (e : h ≡ header_of s) where
  pub bad_header : header_good h (length s) ≡ false → map_good s ≡ false
  unfolding map_good
  bad_header g = simp (rw e at g)

  pub bad_filler : all_below (filler_good s) h.offset ≡ false → map_good s ≡ false
  unfolding map_good
  bad_filler g = simp (rw e at g, and-false)

  pub good_so_far : header_good h (length s) ≡ true → all_below (filler_good s) h.offset ≡ true → map_good s ≡ all_below (place_good s) h.partitions
  unfolding map_good
  good_so_far g f = simp (rw e at g, rw e at f, e)

-- ---- what a good map gives its callers

pub header_rules : (h : Header) (len : ℕ) → header_good h len ≡ true → HeaderRules h len
unfolding header_good
header_rules h len g =
    let rule = every_at _ g in
    record {
      partitions_least = leb-true _ _ (rule 0);
      partitions_most = leb-true _ _ (rule 1);
      cells_least = leb-true _ _ (rule 2);
      cells_most = leb-true _ _ (rule 3);
      bound_least = leb-true _ _ (rule 4);
      bound_most = leb-true _ _ (rule 5);
      offset_least = leb-true _ _ (rule 6);
      offset_most = leb-true _ _ (rule 7);
      long = eqb-true _ _ (rule 8);
    }

-- and back
pub rules_header : (h : Header) (len : ℕ) → HeaderRules h len → header_good h len ≡ true
unfolding header_good every
rules_header h len r =
    rw (
      le-leb 1 h.partitions r.partitions_least,
      le-leb h.partitions 16 r.partitions_most,
      le-leb 4 h.cells r.cells_least,
      le-leb h.cells 2048 r.cells_most,
      le-leb 33 h.bound r.bound_least,
      le-leb h.bound 64 r.bound_most,
      le-leb 8 h.offset r.offset_least,
      le-leb h.offset 128 r.offset_most,
    ) (eq-eqb len (h.offset + 8 * h.partitions) r.long)

pub entry_rules : (before cells : ℕ) (x : Entry) (spare : ℕ) → entry_good before cells x spare ≡ true → EntryRules before cells x
unfolding entry_good
entry_rules before cells x spare g =
    let rule = every_at _ g in
    let both : slot x ≡ true → (zeroizable x ≡ true) × (secret x ≡ true) = λ z. and (zeroizable x) (secret x) (implies _ _ (rule 11) z) in
    record {
      kind_known = leb-true _ _ (rule 0);
      flags_known = leb-true _ _ (rule 1);
      first_even = eqb-true _ _ (rule 3);
      n_even = eqb-true _ _ (rule 4);
      n_least = leb-true _ _ (rule 5);
      n_zeroizable = λ z. leb-true _ _ (implies _ _ (rule 6) z);
      after = leb-true _ _ (rule 7);
      within = leb-true _ _ (rule 8);
      life_cycle_lem = λ k. not_both _ _ (rule 9) k;
      secret_hardware = λ z. implies _ _ (rule 10) z;
      slot_zeroizable = λ z. (both z).0;
      slot_secret = λ z. (both z).1;
      older_zeroizable = λ z. implies _ _ (rule 12) z;
    }

pub map_parts : (s : List ℕ) → map_good s ≡ true → (header_good (header_of s) (length s) ≡ true) × (all_below (place_good s) (header_of s).partitions ≡ true)
unfolding map_good
map_parts s g = let r = and _ _ g in ((and _ _ r.0).0, r.1)

pub map_fillers : (s : List ℕ) → map_good s ≡ true → all_below (filler_good s) (header_of s).offset ≡ true
unfolding map_good
map_fillers s g =
    let header = header_good (header_of s) (length s) in
    let fillers = all_below (filler_good s) (header_of s).offset in
    (and header fillers (and (header && fillers) _ g).0).1

pub map_header : (s : List ℕ) → map_good s ≡ true → HeaderRules (header_of s) (length s)
map_header s g = header_rules _ _ (map_parts s g).0

pub map_entry : (s : List ℕ) → map_good s ≡ true → (i : ℕ) → i < (header_of s).partitions → EntryRules (end_before s i) (header_of s).cells (entry_of s i)
unfolding place_good
map_entry s g i l = entry_rules _ _ _ _ (all_at (place_good s) _ (map_parts s g).1 i l)

-- entries ascend without overlap: one partition ends before any later one starts
after_next : (s : List ℕ) → map_good s ≡ true → (j : ℕ) → j + 1 < (header_of s).partitions → end_of (entry_of s j) ≤ (entry_of s (j + 1)).first
after_next s g j l = rw (end_next s j) at (map_entry s g (j + 1) l).after

pub map_order : (s : List ℕ) → map_good s ≡ true → (i j : ℕ) → i < j → j < (header_of s).partitions → end_of (entry_of s i) ≤ (entry_of s j).first
map_order s g i zero l lp = absurd (not-suc-le-zero l)
map_order s g i (suc j) l lp =
    let a : end_of (entry_of s j) ≤ (entry_of s (suc j)).first = rw (add-one j) at (after_next s g j (omega arith)) in
    ⊎_elim (λ (e : i ≡ j). rw e a)
    (λ (h : i < j). let b = map_order s g i j h (omega arith) in omega arith)
    (eq-or-lt_of_le (le_of_suc-le-suc l))
