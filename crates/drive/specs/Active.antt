-- "Active slot: the first slot in map order that is not erased": what the walk's answer tells, and back. Assumes nothing.
use Rattle.std.specs.Prelude.{ℕ, ◌<◌, ◌≡◌, Bool, true, false, cond, List}
use Rattle.std.proofs.Math.Path.{refl, sym, subst}
use Rattle.std.proofs.Common.{ap, ◌∙◌, arith}
use Rattle.std.proofs.Math.Logic.{⊎_elim}
use Rattle.std.proofs.lemmas.Bool.{false≢true}
use Rattle.std.proofs.Math.Dec.{ltb}
use borrow.Author.Tests.{ltb-true, ltb-false}
use Rattle.laws.specs.Tests.{decided, not_yes}
use Rattle.laws.specs.Below.{First}
use Rattle.laws.proofs.Below.{first_tells, first_is}
use Rattle.map.specs.Map.{header_of, entry_of, slot}
use Rattle.partition.specs.declared.State.{State}
use Rattle.partition.specs.declared.State.TheVariants.{Erased, Torn, Blank, Programmed}
use Rattle.drive.specs.declared.ActiveSlot.{ActiveSlot}
use Rattle.drive.specs.declared.ActiveSlot.TheVariants.{Programmed as ProgrammedSlot, Blank as BlankSlot, Torn as TornSlot, Absent}
use Rattle.drive.specs.Drive.{survey_at, slot_in, slot_at, present, available, open_slot, active_place, active_slot}
use Rattle.drive.specs.Laws.{active_at, active_none}

-- every slot among the first n partitions is erased
abbrev pub ErasedBelow : (image cells : List ℕ) (n : ℕ) → Type 0
ErasedBelow image cells n = (j : ℕ) → j < n → slot (entry_of image j) ≡ true → (survey_at image cells j).state ≡ Erased

-- partition i is a slot in this state, and every slot before it is erased
pub record Active (image cells : List ℕ) (i : ℕ) (state : State) : Type 0 where
  pub within : i < (header_of image).partitions
  pub is_slot : slot (entry_of image i) ≡ true
  pub state_is : (survey_at image cells i).state ≡ state
  pub before : ErasedBelow image cells i

-- what each answer means
abbrev pub Means : (image cells : List ℕ) → ActiveSlot → Type 0
Means image cells (ProgrammedSlot i) = Active image cells i Programmed
Means image cells (BlankSlot i) = Active image cells i Blank
Means image cells (TornSlot i) = Active image cells i Torn
Means image cells Absent = ErasedBelow image cells (header_of image).partitions

-- the walk passes over a slot where it is erased, and only there
passed_over : (b : Bool) (state : State) (i : ℕ) → present (cond b (slot_in state i) Absent) ≡ false → b ≡ true → state ≡ Erased
passed_over true Erased i e y = refl
passed_over true Torn i e y = absurd (false≢true (sym e))
passed_over true Blank i e y = absurd (false≢true (sym e))
passed_over true Programmed i e y = absurd (false≢true (sym e))
passed_over false state i e y = absurd (false≢true y)

module _ (image cells : List ℕ) where
  closed_erased : (n : ℕ) → ((j : ℕ) → j < n → open_slot image cells j ≡ false) → ErasedBelow image cells n
  unfolding open_slot slot_at
  closed_erased n h j l = passed_over _ _ j (h j l)

  erased_closed : (n : ℕ) → ErasedBelow image cells n → (j : ℕ) → j < n → open_slot image cells j ≡ false
  unfolding open_slot slot_at
  erased_closed n h j l =
      ⊎_elim (λ (y : slot (entry_of image j) ≡ true). rw (y, h j l y)) (λ (o : slot (entry_of image j) ≡ false). rw o) (decided (slot (entry_of image j)))

  -- the answer at the place where the walk stopped, by the slot's test and state
  stopped : (b : Bool) (state : State) (i : ℕ) → i < (header_of image).partitions → slot (entry_of image i) ≡ b → (survey_at image cells i).state ≡ state
      → ErasedBelow image cells i → present (cond b (slot_in state i) Absent) ≡ true → Means image cells (cond b (slot_in state i) Absent)
  stopped true Torn i l y s e o = record { within = l; is_slot = y; state_is = s; before = e }
  stopped true Blank i l y s e o = record { within = l; is_slot = y; state_is = s; before = e }
  stopped true Programmed i l y s e o = record { within = l; is_slot = y; state_is = s; before = e }
  stopped true Erased i l y s e o = absurd (false≢true o)
  stopped false state i l y s e o = absurd (false≢true o)

  pub active_means : Means image cells (active_slot image cells)
  unfolding slot_at open_slot
  active_means =
      let p = (header_of image).partitions in
      let i = active_place image cells in
      let w : First (open_slot image cells) 0 p i = first_tells (open_slot image cells) 0 p in
      let erased = closed_erased i (λ j q. w.before j (omega arith) q) in
      ⊎_elim
      (λ (y : ltb i p ≡ true).
      let l = ltb-true i p y in
      subst (Means image cells) (sym (active_at image cells i l refl)) (stopped _ _ i l refl refl erased (w.at (omega arith))))
      (λ (n : ltb i p ≡ false).
      let end : i ≡ p = omega (arith, w.most, ltb-false i p n) in
      subst (Means image cells) (sym (active_none image cells end)) (rw end at erased))
      (decided (ltb i p))

  pub active_is : (i : ℕ) (state : State) → present (slot_in state i) ≡ true → Active image cells i state → slot_in state i ≡ active_slot image cells
  unfolding open_slot slot_at
  active_is i state o a =
      let here : slot_at image cells i ≡ slot_in state i = rw (a.is_slot, a.state_is) in
      let first = first_is (open_slot image cells) _ i a.within (ap present here ∙ o) (erased_closed i a.before) in
      sym (active_at image cells i a.within first ∙ here)

  -- and back: an answer that means what holds is the walk's
  pub means_active : (answer : ActiveSlot) → Means image cells answer → answer ≡ active_slot image cells
  means_active (ProgrammedSlot i) a = active_is i Programmed refl a
  means_active (BlankSlot i) a = active_is i Blank refl a
  means_active (TornSlot i) a = active_is i Torn refl a
  means_active Absent a =
      let p = (header_of image).partitions in
      let i = active_place image cells in
      let w : First (open_slot image cells) 0 p i = first_tells (open_slot image cells) 0 p in
      let past = not_yes (ltb i p) (λ y. let l = ltb-true i p y in false≢true (sym (erased_closed p a i l) ∙ w.at (omega arith))) in
      sym (active_none image cells (omega (arith, w.most, ltb-false i p past)))

-- ---- what it tells that the HEK is available

pub record Available (image cells : List ℕ) : Type 0 where
  pub partition : ℕ
  pub active : Active image cells partition Programmed

pub available_tells : (image cells : List ℕ) → available (active_slot image cells) ≡ true → Available image cells
available_tells image cells = of (active_slot image cells) (active_means image cells)
  where
    of : (answer : ActiveSlot) → Means image cells answer → available answer ≡ true → Available image cells
    of (ProgrammedSlot i) a e = record { partition = i; active = a }
    of (BlankSlot i) a e = absurd (false≢true e)
    of (TornSlot i) a e = absurd (false≢true e)
    of Absent a e = absurd (false≢true e)
