-- The laws of a listing: one partition stored after the other, and what is answered by each answer of the drive's check. Assumes nothing.
use Rattle.std.specs.Prelude.{ℕ, ◌+◌, ◌<◌, ◌≡◌, refl, List, [], ◌++◌, length, drop, set, Result, Ok, Err}
use Rattle.std.proofs.Common.{sym, arith}
use Rattle.laws.specs.Below.{join_below}
use Rattle.laws.proofs.Below.{store_next}
use Rattle.refusal.specs.Refusals.{first_elim, GivenFirst, given_first, GivenLowest, lowest_tells}
use Rattle.refusal.specs.declared.Refusal.{Refusal}
use Rattle.context.specs.State.{Outcome, outcome, refusing}
use Rattle.map.specs.Map.{header_of}
use Rattle.map.specs.declared.Header.{Header}
use Rattle.partition.specs.declared.Survey.{Survey}
use Rattle.drive.specs.Drive.{drive_tests, check_of, survey_at}
use Rattle.drive.specs.Laws.{check_refused, check_passed}
use Rattle.states.specs.States.{state_number, state_in, short_in, states_after, shorts_after, Lists, lists, listing_of}

module _ (image cells : List ℕ) (k : ℕ) (before after : List ℕ) (l : k < length before) (survey : Survey) (e : survey ≡ survey_at image cells k) where
  pub state_stored : (v : ℕ) → v ≡ state_number survey.state → after ≡ join_below (state_in image cells) k ++ drop k before
      → set after k v ≡ join_below (state_in image cells) (k + 1) ++ drop (k + 1) before
  unfolding state_in
  state_stored v q h = store_next (λ i. state_number (survey_at image cells i).state) k v before after l (rw (q, e)) h

  pub short_stored : after ≡ join_below (short_in image cells) k ++ drop k before → set after k survey.short ≡ join_below (short_in image cells) (k + 1) ++ drop (k + 1) before
  unfolding short_in
  short_stored h = store_next (λ i. (survey_at image cells i).short) k _ before after l (rw e) h

module _ (image cells marks : List ℕ) (l : Lists) where
  -- every partition listed: what an accepted call answers and leaves
  abbrev all : Outcome (Result ℕ Refusal) Lists
  all = outcome (Ok (header_of image).partitions) (lists (states_after image cells l.states) (shorts_after image cells l.shorts))

  -- "Checked in ascending order; the lowest that applies is given, and none is given otherwise"
  pub listing_lowest : GivenLowest (refusing Err l) (drive_tests image cells marks) all (listing_of image cells marks l)
  listing_lowest = lowest_tells (refusing Err l) all 1 (drive_tests image cells marks) refl

  pub listing_first : GivenFirst (refusing Err l) (drive_tests image cells marks) all (listing_of image cells marks l)
  listing_first = given_first (refusing Err l) all (drive_tests image cells marks)

  -- "Fuses, cache, block and response stay as they were"; the arrays too: a refused listing leaves both whole
  pub refused_unlisted : (r : Refusal) → (listing_of image cells marks l).told ≡ Err r → (listing_of image cells marks l).after ≡ l
  refused_unlisted r =
      first_elim (λ (o : Outcome (Result ℕ Refusal) Lists). o.told ≡ Err r → o.after ≡ l) (refusing Err l) (drive_tests image cells marks) all
      (λ _ _ e. refl) (λ none e. let z : ◌≡◌ {A = ℕ} 0 1 = cc in absurd (omega arith))

  pub lists_none : {r : Refusal} → Err r ≡ check_of image cells marks → refusing Err l r ≡ listing_of image cells marks l
  lists_none e = sym (check_refused (refusing Err l) [] all image cells marks _ e)

  pub lists_all : {header : Header} {p : ℕ} {s t : List ℕ} → Ok header ≡ check_of image cells marks
      → (p ≡ (header_of image).partitions) × (s ≡ states_after image cells l.states) × (t ≡ shorts_after image cells l.shorts)
      → outcome (Ok p) (lists s t) ≡ listing_of image cells marks l
  lists_all e h = rw (h.0, h.1, h.2) (sym (check_passed (refusing Err l) [] all image cells marks _ e))
