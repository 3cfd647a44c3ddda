-- Document 02, request P1: "Each is given exactly when it holds, and none when the HEK is available". Here is the proof of the claim: when each reason
-- holds, in the request's words over the definitions of slot and state, and that it is given exactly then. Assumes nothing.
-- The definitions stand in specs/Exactly.antt.
use Rattle.std.specs.Prelude.{ℕ, ◌+◌, ◌*◌, ◌≤◌, ◌<◌, ◌≡◌, refl, ◌⊎◌, ◌↔◌, Bool, cond, List, length, Result, Ok, Err}
use Rattle.std.proofs.Common.{sym, subst, ◌∙◌, inl, inr, ⊎_elim, arith, length-take}
use Rattle.std.proofs.Math.Path.{ap}
use Rattle.std.proofs.Math.Bool.{true, false, not}
use Rattle.std.proofs.lemmas.Bool.{false≢true}
use borrow.Author.Tests.{ltb-true, ltb-false, lt-ltb, le-ltb, not-true, not-false}
use Rattle.laws.specs.Tests.{cond_keeps}
use Rattle.laws.specs.Below.{First}
use Rattle.laws.proofs.Below.{first_tells, first_is, all_at, all_fails, all_holds, fails_at}
use Rattle.refusal.specs.declared.Refusal.{Refusal}
use Rattle.refusal.specs.declared.Refusal.TheVariants.{BadMap, BadLent}
use Rattle.context.specs.Laws.{part_at}
use Rattle.map.specs.Map.{header_of, entry_of, map_good}
use Rattle.fuse.specs.Fuse.{ones_of}
use Rattle.partition.specs.Partition.{pairs, pair_at, indicator, short_at, lowest_besides, torn_pair}
use Rattle.partition.proofs.Marked.{torn_within}
use Rattle.partition.specs.declared.State.TheVariants.{Torn as TornState, Programmed as ProgrammedState}
use Rattle.drive.specs.Drive.{whole_arrays, cells_of, active_slot, available}
use Rattle.drive.specs.declared.ActiveSlot.{ActiveSlot}
use Rattle.drive.specs.declared.ActiveSlot.TheVariants.{Programmed as ProgrammedSlot, Blank as BlankSlot, Torn as TornSlot, Absent}
use Rattle.drive.specs.Active.{Active, ErasedBelow, Means, active_means, active_is, means_active, available_tells}
use Rattle.reason.specs.declared.Reason.{Reason}
use Rattle.reason.specs.declared.Reason.TheVariants.{Available, NoSlot, AllErased, Blank, Torn}
use Rattle.reason.specs.Reason.{not_slot, no_slot, torn_reason, reason_by, reason_in, reason_of}
use Rattle.reason.proofs.Laws.{some_short, by_slot}
use Rattle.reason.specs.Exactly.{pair_in, FirstShort, Holds, Exactly}

-- ---- its proof

module _ (image cells : List ℕ) (i : ℕ) where
  abbrev part : List ℕ
  part = cells_of image cells i

  abbrev bound : ℕ
  bound = (header_of image).bound

  -- a pair of the partition's part is a pair of the whole array
  pair_in_lem : (j : ℕ) → j < pairs part → pair_at part j ≡ pair_in image cells i j
  pair_in_lem j l =
      let n = (entry_of image i).n in
      let first = (entry_of image i).first in
      let long : length part ≤ n = simp length-take (omega arith) in
      let next : first + (2 * j + 1) ≡ first + 2 * j + 1 = omega arith in
      rw (part_at first n cells (2 * j) (omega arith), part_at first n cells (2 * j + 1) (omega arith), next)

  -- the torn slot's pair is that pair
  short_pair : Active image cells i TornState → FirstShort image cells i ((entry_of image i).first + (torn_pair bound part).cell) (torn_pair bound part).ones
  unfolding short_at
  short_pair a =
      let j = lowest_besides bound part in
      let within = torn_within bound part (some_short image cells i a) in
      let w : First (short_at bound part) 0 (indicator part) j = first_tells (short_at bound part) 0 (indicator part) in
      record {
        pair = j;
        within = within;
        cell_is = refl;
        ones_are = ap ones_of (pair_in_lem j (omega (arith, within)));
        short_there = ltb-true _ _ (w.at (omega arith));
        none_before = λ k l. rw (← pair_in_lem k (omega arith)) (ltb-false _ _ (w.before k (omega arith) l));
      }

  -- and there is only one such pair
  pair_is : {cell ones : ℕ} → FirstShort image cells i cell ones → Torn i cell ones ≡ torn_reason image cells i
  unfolding short_at
  pair_is f =
      let here = pair_in_lem f.pair (omega (arith, f.within)) in
      let short_there : ones_of (pair_at part f.pair) < bound = rw (here, ← f.ones_are) f.short_there in
      let first : lowest_besides bound part ≡ f.pair =
      first_is (short_at bound part) (indicator part) f.pair f.within (lt-ltb _ _ short_there)
      (λ j l. le-ltb (ones_of (pair_at part j)) bound (rw (pair_in_lem j (omega (arith, f.within))) (f.none_before j l))) in
      rw (first, here, f.cell_is, f.ones_are)

module _ (image cells : List ℕ) where
  -- what the walk's answer means, its reason tells
  holds_by : (found : ActiveSlot) → Means image cells found → Holds image cells (reason_by image cells found)
  unfolding not_slot
  holds_by (ProgrammedSlot i) a = record { partition = i; active = a }
  holds_by (BlankSlot i) a = a
  holds_by (TornSlot i) a = (a, short_pair image cells i a)
  holds_by Absent erased =
      cond_keeps (Holds image cells) (no_slot image) NoSlot AllErased
      (λ none i l. not-true _ (all_at (not_slot image) _ none i l))
      (λ some. let found = fails_at (not_slot image) _ some in ((found.0, found.1, not-false _ found.2), erased))

  holds : Holds image cells (reason_in image cells)
  unfolding reason_in
  holds = holds_by (active_slot image cells) (active_means image cells)

  -- the reason where no slot is active, by whether the map has one
  absent : (none : Bool) → no_slot image ≡ none → ErasedBelow image cells (header_of image).partitions → cond none NoSlot AllErased ≡ reason_in image cells
  absent none e erased = rw (← e) (by_slot image cells Absent (means_active image cells Absent erased))

  only : (reason : Reason) → Holds image cells reason → reason ≡ reason_in image cells
  unfolding not_slot
  only Available a = by_slot image cells (ProgrammedSlot a.partition) (means_active image cells (ProgrammedSlot a.partition) a.active)
  only NoSlot none =
      absent true (all_holds (not_slot image) _ (λ i l. ap not (none i l))) (λ i l y. absurd (false≢true (sym (none i l) ∙ y)))
  only AllErased (some, erased) = absent false (all_fails (not_slot image) _ some.0 some.1 (ap not some.2)) erased
  only (Blank i) a = by_slot image cells (BlankSlot i) (means_active image cells (BlankSlot i) a)
  only (Torn i cell ones) (a, f) = pair_is image cells i f ∙ by_slot image cells (TornSlot i) (means_active image cells (TornSlot i) a)

  -- the status line `hek` and the reason never contradict each other: no reason is given where, by document 01, "The HEK is available"
  pub hek_agrees : (available (active_slot image cells) ≡ true) ↔ (reason_in image cells ≡ Available)
  hek_agrees = (
    (λ y. sym (only Available (available_tells image cells y))),
    λ e. let a = subst (Holds image cells) e holds in rw (← active_is image cells a.partition ProgrammedState refl a.active),
  )

-- a refusal by its two tests
refused_by : (good whole : Bool) (r : Refusal) (reason : Reason) → cond (not good) (Err BadMap) (cond (not whole) (Err BadLent) (Ok reason)) ≡ Err r
    → ((r ≡ BadMap) × (good ≡ false)) ⊎ ((r ≡ BadLent) × (good ≡ true) × (whole ≡ false))
refused_by false whole r reason e = inl (cc, refl)
refused_by true false r reason e = inr (cc, refl, refl)
refused_by true true r reason e = let z : ◌≡◌ {A = ℕ} 0 1 = cc in absurd (omega arith)

-- a reason that is given
the_reason : {a b : Reason} → ◌≡◌ {A = Result Reason Refusal} (Ok a) (Ok b) → a ≡ b
the_reason e = cc

pub exactly : (image cells marks : List ℕ) → Exactly image cells marks
exactly image cells marks = record {
  refused = λ r. (
    (λ e. refused_by (map_good image) (whole_arrays image cells marks) r (reason_in image cells) e),
    λ h. ⊎_elim (λ a. rw (a.1, a.0)) (λ b. rw (b.1, b.2, b.0)) h,
  );
  given = λ good whole reason.
      let is : reason_of image cells marks ≡ Ok (reason_in image cells) = rw (good, whole) in
      ((λ e. subst (Holds image cells) (the_reason (sym is ∙ e)) (holds image cells)), λ h. is ∙ ap Ok (sym (only image cells reason h)));
  one = (reason_in image cells, holds image cells, only image cells);
}
