-- The laws of a reason, at what was read of the drive: a slot's test, a torn slot's pair, and the refusals. Assumes nothing.
use Rattle.std.specs.Prelude.{ℕ, ◌+◌, ◌≤◌, ◌<◌, ◌≡◌, refl, Bool, true, not, List, [], length, Ok, Err}
use Rattle.std.proofs.Common.{sym, subst, ◌∙◌, arith, length-take}
use Rattle.std.proofs.Math.Path.{ap}
use Rattle.refusal.specs.Refusals.{GivenFirst, given_first, GivenLowest, lowest_tells}
use Rattle.refusal.specs.declared.Refusal.{Refusal}
use Rattle.map.specs.declared.Header.{Header}
use Rattle.map.specs.declared.Entry.{Entry}
use Rattle.map.specs.Map.{header_of, entry_of, slot, map_good}
use Rattle.map.proofs.Laws.{map_header, map_entry}
use Rattle.fuse.proofs.Burn.{ones_most}
use Rattle.partition.specs.declared.ShortPair.{ShortPair}
use Rattle.partition.specs.declared.State.TheVariants.{Torn as TornState}
use Rattle.partition.specs.Partition.{SomeBesides, torn_pair}
use Rattle.partition.proofs.Laws.{torn_tells}
use Rattle.partition.proofs.Marked.{torn_within}
use Rattle.drive.specs.Drive.{drive_tests, check_of, cells_of, survey_at, active_slot}
use Rattle.drive.specs.declared.ActiveSlot.{ActiveSlot}
use Rattle.drive.specs.declared.ActiveSlot.TheVariants.{Torn as TornSlot}
use Rattle.drive.specs.Laws.{check_refused, check_passed}
use Rattle.drive.specs.Active.{Active, Means, active_means}
use Rattle.reason.specs.declared.Reason.{Reason}
use Rattle.reason.specs.declared.Reason.TheVariants.{Torn}
use Rattle.reason.specs.Reason.{not_slot, torn_reason, reason_by, reason_in, reason_of}

-- the test of partition i
pub not_slot_lem : (image : List ℕ) (i : ℕ) (x : Entry) (is_slot : Bool) → x ≡ entry_of image i → is_slot ≡ slot x → not_slot image i ≡ not is_slot
unfolding not_slot
not_slot_lem image i x is_slot e s = rw (s, e)

-- ---- a torn slot

module _ (image cells : List ℕ) (i : ℕ) (active : Active image cells i TornState) where
  -- some pair besides the indicator is short
  pub some_short : SomeBesides (header_of image).bound (cells_of image cells i)
  unfolding survey_at
  some_short = (torn_tells _ _ _ active.state_is).1

  -- its first short pair lies in the array, and has at most 64 ones
  pub fits : map_good image ≡ true → let pair : ShortPair = torn_pair (header_of image).bound (cells_of image cells i) in
      ((entry_of image i).first + pair.cell < 2048) × (pair.ones ≤ 64)
  fits good =
      let cells_most = (map_header image good).cells_most in
      let within = (map_entry image good i active.within).within in
      let long : length (cells_of image cells i) ≤ (entry_of image i).n = simp length-take (omega arith) in
      (omega (arith, torn_within _ _ some_short), ones_most _)

  module _ {header : Header} {part : List ℕ} (h : header ≡ header_of image) (p : part ≡ cells_of image cells i) where
    pub some_here : SomeBesides header.bound part
    some_here = rw (h, p) some_short

    module _ {x : Entry} {pair : ShortPair} (e : x ≡ entry_of image i) (q : pair ≡ torn_pair header.bound part) where
      pub torn_fits : map_good image ≡ true → (x.first + pair.cell < 2048) × (pair.ones ≤ 64)
      torn_fits good = rw (q, h, e, p) (fits good)

      pub torn_is : Torn i (x.first + pair.cell) pair.ones ≡ torn_reason image cells i
      torn_is = rw (q, h, e, p)

-- ---- the reason by the walk's answer

module _ (image cells : List ℕ) where
  pub by_slot : (found : ActiveSlot) → found ≡ active_slot image cells → reason_by image cells found ≡ reason_in image cells
  unfolding reason_in
  by_slot found e = ap (reason_by image cells) e

  -- where it is a torn slot, that slot is active and torn
  pub torn_active : (i : ℕ) → TornSlot i ≡ active_slot image cells → Active image cells i TornState
  torn_active i e = subst (Means image cells) (sym e) (active_means image cells)

-- ---- the refusals

module _ (image cells marks : List ℕ) where
  -- "Checked in ascending order; the lowest that applies is given, and none is given otherwise"
  pub reason_lowest : GivenLowest Err (drive_tests image cells marks) (Ok (reason_in image cells)) (reason_of image cells marks)
  reason_lowest = lowest_tells Err (Ok (reason_in image cells)) 1 (drive_tests image cells marks) refl

  pub reason_first : GivenFirst Err (drive_tests image cells marks) (Ok (reason_in image cells)) (reason_of image cells marks)
  reason_first = given_first Err (Ok (reason_in image cells)) (drive_tests image cells marks)

  pub reason_refused : {r : Refusal} → Err r ≡ check_of image cells marks → Err r ≡ reason_of image cells marks
  reason_refused e = sym (check_refused Err [] (Ok (reason_in image cells)) image cells marks _ e)

  pub reason_given : {header : Header} {r : Reason} → Ok header ≡ check_of image cells marks → r ≡ reason_in image cells → Ok r ≡ reason_of image cells marks
  reason_given e q = ap Ok q ∙ sym (check_passed Err [] (Ok (reason_in image cells)) image cells marks _ e)
