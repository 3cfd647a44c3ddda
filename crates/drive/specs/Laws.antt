-- The drive's laws: what a check that refuses nothing tells, and the answers of the walk over the slots. Assumes nothing.
use Rattle.std.specs.Prelude.{ℕ, ◌+◌, ◌-◌, ◌≤◌, ◌<◌, ◌≡◌, refl, Bool, true, false, not, ◌&&◌, length, take, drop, eqb, ltb, Result, Ok, Err}
use Rattle.std.proofs.Common.{sym, ◌∙◌, arith, length-take}
use Rattle.std.proofs.Math.Path.{ap}
use Rattle.std.proofs.Math.Logic.{⊎_elim}
use Rattle.std.proofs.Math.Bool.{cond}
use mathlib.Core.List.{List, ◌++◌}
use borrow.Author.Tests.{ltb-true, ltb-false, eqb-true, lt-ltb, le-ltb, not-false}
use Rattle.laws.specs.Tests.{and, decided}
use Rattle.laws.specs.Below.{First}
use Rattle.laws.proofs.Below.{first_tells, first_same, count_le, tally_le}
use Rattle.refusal.specs.Refusals.{first_of, test_at, refusal_at, Past, refused_at, past_all, first_elim, first_both}
use Rattle.refusal.specs.declared.Refusal.{Refusal}
use Rattle.map.specs.declared.Header.{Header}
use Rattle.map.specs.declared.Entry.{Entry}
use Rattle.map.specs.Map.{header_of, entry_of, zeroizable, slot, map_good}
use Rattle.map.proofs.Laws.{map_header, map_entry}
use Rattle.partition.specs.declared.State.{State}
use Rattle.partition.specs.declared.State.TheVariants.{Erased}
use Rattle.partition.specs.declared.Survey.{Survey}
use Rattle.partition.specs.Partition.{pairs, short_at, short_pairs, counted, marked, survey_of}
use Rattle.partition.proofs.Marked.{erased_shorts}
use Rattle.cache.specs.Cache.{cache_of, has_place}
use Rattle.cache.specs.declared.Sought.TheVariants.{Occupied}
use Rattle.drive.specs.declared.Terms.{Terms}
use Rattle.drive.specs.declared.ActiveSlot.{ActiveSlot}
use Rattle.drive.specs.declared.ActiveSlot.TheVariants.{Absent}
use Rattle.drive.specs.Drive.{Whole, whole_arrays, drive_tests, check_of, cells_of, terms_of, survey_at, marked_at, slot_in, slot_at, present}
use Rattle.drive.specs.Drive.{open_slot, active_place, active_slot, slot_in_use}

-- ---- the check

-- which of its tests gives the refusal, by the test's place, and that none does
module _ (image cells marks : List ℕ) where
  pub check_at : (k : ℕ) → Past k (drive_tests image cells marks) → test_at (drive_tests image cells marks) k ≡ true
      → Err (refusal_at (drive_tests image cells marks) k) ≡ check_of image cells marks
  unfolding check_of
  check_at k = refused_at Err (Ok (header_of image)) k (drive_tests image cells marks)

  pub check_past : Past 2 (drive_tests image cells marks) → {header : Header} → header ≡ header_of image → Ok header ≡ check_of image cells marks
  unfolding check_of
  check_past p e = ap Ok e ∙ past_all Err (Ok (header_of image)) (drive_tests image cells marks) p

-- the code's test of the lengths, at the header that was read
pub arrays_are : (image cells marks : List ℕ) (header : Header) → header ≡ header_of image
    → (eqb (length cells) header.cells && eqb (length marks) header.cells) ≡ whole_arrays image cells marks
unfolding whole_arrays
arrays_are image cells marks header e = rw e

-- what an accepted drive tells
pub record Judged (image cells marks : List ℕ) (header : Header) : Type 0 where
  pub whole : Whole image cells
  pub marks_long : length marks ≡ (header_of image).cells
  pub header_is : header ≡ header_of image

-- a refusal is not ready
not_ready : {r : Refusal} {header : Header} → ◌≡◌ {A = Result Header Refusal} (Ok header) (Err r) → ⊥
not_ready e = let z : ◌≡◌ {A = ℕ} 0 1 = cc in omega arith

pub judged : (image cells marks : List ℕ) (header : Header) → Ok header ≡ check_of image cells marks → Judged image cells marks header
unfolding check_of whole_arrays
judged image cells marks header =
    first_elim (λ (check : Result Header Refusal). Ok header ≡ check → Judged image cells marks header) Err (drive_tests image cells marks) (Ok (header_of image))
    (λ _ _ e. absurd (not_ready e))
    (λ none e.
    let arrays = and (eqb (length cells) (header_of image).cells) (eqb (length marks) (header_of image).cells) (not-false _ (none 1)) in
    record {
      whole = record { good = not-false _ (none 0); long = eqb-true _ _ arrays.0 };
      marks_long = eqb-true _ _ arrays.1;
      header_is = cc;
    })

-- a call's refusals begin with the drive's: what the check answers, the whole list answers
module _ {A : Type 0} (refuse : Refusal → A) (rest : List (Bool × Refusal)) (accepted : A) (image cells marks : List ℕ) where
  pub check_refused : (r : Refusal) → Err r ≡ check_of image cells marks → first_of refuse (drive_tests image cells marks ++ rest) accepted ≡ refuse r
  unfolding check_of
  check_refused r =
      first_both (λ (check : Result Header Refusal) (a : A). Err r ≡ check → a ≡ refuse r) Err refuse (drive_tests image cells marks)
      (Ok (header_of image)) (first_of refuse rest accepted)
      (λ q _ e. let same : r ≡ q = cc in rw same)
      (λ _ e. absurd (not_ready (sym e)))

  pub check_passed : (header : Header) → Ok header ≡ check_of image cells marks
      → first_of refuse (drive_tests image cells marks ++ rest) accepted ≡ first_of refuse rest accepted
  unfolding check_of
  check_passed header =
      first_both (λ (check : Result Header Refusal) (a : A). Ok header ≡ check → a ≡ first_of refuse rest accepted) Err refuse (drive_tests image cells marks)
      (Ok (header_of image)) (first_of refuse rest accepted)
      (λ _ _ e. absurd (not_ready e))
      (λ _ e. refl)

-- ---- the active slot, by where a walk over the slots ended

module _ (image cells : List ℕ) where
  pub active_at : (i : ℕ) → i < (header_of image).partitions → active_place image cells ≡ i → active_slot image cells ≡ slot_at image cells i
  unfolding active_slot
  active_at i l e = rw (e, lt-ltb _ _ l)

  pub active_none : active_place image cells ≡ (header_of image).partitions → active_slot image cells ≡ Absent
  unfolding active_slot
  active_none e = let p = (header_of image).partitions in rw (e, le-ltb p p (omega arith))

-- ---- a partition's part of the array, and what is found in it, at the fields that were read

pub part_is : (image cells : List ℕ) (i : ℕ) (x : Entry) → x ≡ entry_of image i → take (x.first + x.n - x.first) (drop x.first cells) ≡ cells_of image cells i
part_is image cells i x e = let n : x.first + x.n - x.first ≡ x.n = omega arith in rw (n, e)

module _ (image cells : List ℕ) (i : ℕ) (terms : Terms) (part : List ℕ) (t : terms ≡ terms_of image i) (p : part ≡ cells_of image cells i) where
  pub survey_is : (r : Survey) → r ≡ survey_of terms.zeroizable terms.bound part → r ≡ survey_at image cells i
  unfolding survey_at
  survey_is r q = cc

pub marked_here : (image cells : List ℕ) (i : ℕ) {x : Entry} {may : Bool} {part : List ℕ} → x ≡ entry_of image i → may ≡ zeroizable x
    → part ≡ cells_of image cells i → (r : Bool) → r ≡ marked may part → r ≡ marked_at image cells i
unfolding marked_at
marked_here image cells i e z p r q = rw (q, z, e, p)

-- "an erased slot may report one short pair" (P4), and no more
pub erased_one_most : (image cells : List ℕ) (i : ℕ) → (survey_at image cells i).state ≡ Erased → (survey_at image cells i).short ≤ 1
unfolding survey_at
erased_one_most image cells i e =
    let z = zeroizable (entry_of image i) in
    let bound = (header_of image).bound in
    omega (arith, erased_shorts z bound (cells_of image cells i) e, tally_le (not (counted z bound (cells_of image cells i))))

-- a partition has at most 1,024 pairs, short or not
module _ (image cells : List ℕ) (good : map_good image ≡ true) (i : ℕ) (l : i < (header_of image).partitions) where
  pub shorts_most : (bound : ℕ) → short_pairs bound (cells_of image cells i) ≤ 1024
  shorts_most bound =
      let h = map_header image good in
      let x = map_entry image good i l in
      let part = cells_of image cells i in
      let long : length part ≤ (entry_of image i).n = simp length-take (omega arith) in
      let short = count_le (short_at bound part) (pairs part) in
      omega arith

  pub short_most : (survey_at image cells i).short ≤ 1024
  unfolding survey_at
  short_most = shorts_most (header_of image).bound

-- ---- a slot's answer

pub no_slot : (image cells : List ℕ) (i : ℕ) (x : Entry) → x ≡ entry_of image i → slot x ≡ false → slot_at image cells i ≡ Absent
unfolding slot_at
no_slot image cells i x e n = simp (rw e at n)

pub slot_by : (image cells : List ℕ) (i : ℕ) (x : Entry) (survey : Survey) (state : State) → x ≡ entry_of image i → slot x ≡ true
    → survey ≡ survey_at image cells i → survey.state ≡ state → slot_at image cells i ≡ slot_in state i
unfolding slot_at
slot_by image cells i x survey state e y q s = simp (rw e at y) (rw (← q) (ap (λ (t : State). slot_in t i) s))

-- the walk's test of partition i
pub open_is : (image cells : List ℕ) (i : ℕ) (found : ActiveSlot) (there : Bool) → found ≡ slot_at image cells i → there ≡ present found → there ≡ open_slot image cells i
unfolding open_slot
open_is image cells i found there e p = p ∙ ap present e

-- ---- the active slot depends on the cells of slots alone

module _ (image cells cells' : List ℕ)
    (same : (j : ℕ) → j < (header_of image).partitions → slot (entry_of image j) ≡ true → cells_of image cells' j ≡ cells_of image cells j) where
  slot_same : (j : ℕ) → j < (header_of image).partitions → slot_at image cells' j ≡ slot_at image cells j
  unfolding slot_at survey_at
  slot_same j l =
      ⊎_elim
      (λ (y : slot (entry_of image j) ≡ true).
      ap (λ (part : List ℕ). cond (slot (entry_of image j)) (slot_in (survey_of (zeroizable (entry_of image j)) (header_of image).bound part).state j) Absent)
      (same j l y))
      (λ (n : slot (entry_of image j) ≡ false). simp n)
      (decided (slot (entry_of image j)))

  place_same : active_place image cells' ≡ active_place image cells
  unfolding open_slot
  place_same = first_same (open_slot image cells') (open_slot image cells) (header_of image).partitions (λ k l. ap present (slot_same k l))

  pub active_same : active_slot image cells' ≡ active_slot image cells
  active_same =
      let p = (header_of image).partitions in
      let i = active_place image cells in
      ⊎_elim
      (λ (y : ltb i p ≡ true). let l = ltb-true i p y in active_at image cells' i l place_same ∙ slot_same i l ∙ sym (active_at image cells i l refl))
      (λ (n : ltb i p ≡ false).
      let w : First (open_slot image cells) 0 p i = first_tells (open_slot image cells) 0 p in
      let end : i ≡ p = omega (arith, w.most, ltb-false i p n) in
      active_none image cells' (place_same ∙ end) ∙ sym (active_none image cells end))
      (decided (ltb i p))

-- ---- a slot while a place is not empty, at the entry that was read

pub in_use_is : (image : List ℕ) (i : ℕ) {x : Entry} → x ≡ entry_of image i → (context : List ℕ) {is_slot occupied : Bool} → is_slot ≡ slot x
    → occupied ≡ has_place (cache_of context) Occupied → (is_slot && occupied) ≡ slot_in_use image i context
in_use_is image i e context s h = rw (s, h, e)
