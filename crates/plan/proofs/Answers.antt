-- What is answered, by what the code has found: which test gives the refusal, and the plan by the numbers that were kept. Assumes nothing.
use Rattle.std.specs.Prelude.{ℕ, ◌+◌, ◌*◌, ◌/◌, ◌%◌, ◌≤◌, ◌<◌, ◌≡◌, true, false, not, List, length, Some, None, Result, Ok, Err, is_ok}
use Rattle.std.proofs.Common.{sym, ◌∙◌, arith, zero-add, take_at, eqb-true, lt-ltb, le-ltb}
use Rattle.std.proofs.lemmas.Bool.{false≢true}
use Rattle.std.proofs.Math.Path.{ap}
use Rattle.std.proofs.Math.ListN.{take}
use Rattle.std.proofs.Math.Seq.{take_all}
use Rattle.refusal.specs.Refusals.{Past, test_at, refusal_at, refused_at, past_all, GivenFirst, given_first}
use Rattle.refusal.specs.declared.Refusal.{Refusal}
use Rattle.refusal.specs.declared.Refusal.TheVariants.{BadMap, BadText}
use Rattle.context.specs.State.{outcome, refusing}
use Rattle.map.specs.Map.{map_good}
use Rattle.plan.specs.Form.{Plan}
use Rattle.plan.specs.Reading.{Progress, between, within, broken, read_of, numbers_in, whole, plan_by, has_form, plan_of}
use Rattle.plan.specs.Steps.{Keeps, reading_of}
use Rattle.plan.proofs.Steps.{some_told, none_told}
use Rattle.plan.specs.Writing.{image_of, writing_tests, in_front, writing_of}
use Rattle.plan.proofs.Images.{entries_count}
use Rattle.plan.specs.Images.{Imaged}
use Rattle.plan.proofs.Fields.{image_length, too_many, too_large}

-- ---- what was read

module _ (t : List ℕ) where
  no_form : None ≡ reading_of t → has_form t ≡ false
  unfolding has_form
  no_form e = none_told (whole (read_of t)) _ e

  -- whole lines: so many numbers
  count_rest : (s : Progress) → whole s ≡ true → length (numbers_in s) % 4 ≡ 2
  count_rest (between numbers) e = eqb-true _ _ e
  count_rest (within numbers value) e = absurd (false≢true e)
  count_rest broken e = absurd (false≢true e)

  module _ (count : ℕ) (e : Some count ≡ reading_of t) where
    has_form_lem : has_form t ≡ true
    unfolding has_form
    has_form_lem = (some_told (whole (read_of t)) _ e).0

    counted : count ≡ length (numbers_in (read_of t))
    counted = (some_told (whole (read_of t)) _ e).1

    pub count_is : count % 4 ≡ 2
    count_is = omega (arith, counted, count_rest (read_of t) (some_told (whole (read_of t)) _ e).0)

    lines_told : length (plan_of t).entries ≡ count / 4
    unfolding plan_of
    lines_told = entries_count (length (numbers_in (read_of t)) / 4) _ ∙ rw counted

    -- where all numbers were kept, they are the text's
    plan_kept : (numbers part : List ℕ) → Keeps (read_of t) numbers → count ≤ 66 → part ≡ take count numbers → plan_of t ≡ plan_by part
    unfolding plan_of
    plan_kept numbers part k l p =
        let all : take 66 (numbers_in (read_of t)) ≡ numbers_in (read_of t) = take_all 66 (numbers_in (read_of t)) (omega (arith, counted)) in
        ap plan_by (sym (k ∙ all) ∙ ap (λ (n : ℕ). take n numbers) (sym counted) ∙ sym p)

-- ---- what is answered

module _ (t before : List ℕ) where
  -- "Refusals, in this order"
  pub writing_first : GivenFirst (refusing Err before) (writing_tests t (length before)) (in_front (image_of (plan_of t)) before) (writing_of t before)
  unfolding writing_of
  writing_first = given_first (refusing Err before) (in_front (image_of (plan_of t)) before) (writing_tests t (length before))

  -- which of the tests gives the refusal, by the test's place, and that none does
  pub writing_at : (k : ℕ) → Past k (writing_tests t (length before)) → test_at (writing_tests t (length before)) k ≡ true
      → refusing Err before (refusal_at (writing_tests t (length before)) k) ≡ writing_of t before
  unfolding writing_of
  writing_at k = refused_at (refusing Err before) (in_front (image_of (plan_of t)) before) k (writing_tests t (length before))

  pub writing_past : Past 3 (writing_tests t (length before)) → in_front (image_of (plan_of t)) before ≡ writing_of t before
  unfolding writing_of
  writing_past = past_all (refusing Err before) (in_front (image_of (plan_of t)) before) (writing_tests t (length before))

-- an answer is not both
pub not_written : {a : Result ℕ Refusal} {r : Refusal} {m : ℕ} → a ≡ Err r → a ≡ Ok m → ⊥
not_written e f = false≢true (ap is_ok (sym e ∙ f))

-- the same by what the code has found: no form
pub found_formless : (t before : List ℕ) → None ≡ reading_of t → refusing Err before BadText ≡ writing_of t before
found_formless t before e = writing_at t before 0 tt (ap not (no_form t e))

-- so many numbers, the room, and those that were kept
module _ (t before : List ℕ) (count : ℕ) (e : Some count ≡ reading_of t) where
  pub found_short : length before / 8 ≤ count / 4 → refusing Err before BadText ≡ writing_of t before
  found_short s =
      writing_at t before 1 (ap not (has_form_lem t count e), tt) (rw (lines_told t count e) (lt-ltb (length before) (8 + 8 * (count / 4)) (omega (arith, s))))

  module _ (s : count / 4 < length before / 8) where
    passed : Past 2 (writing_tests t (length before))
    passed = (ap not (has_form_lem t count e), (rw (lines_told t count e) (le-ltb (length before) (8 + 8 * (count / 4)) (omega (arith, s))), tt))

    -- so the rules decide
    broken_rule : map_good (image_of (plan_of t)) ≡ false → refusing Err before BadMap ≡ writing_of t before
    broken_rule m = writing_at t before 2 passed (ap not m)

    pub found_many : 66 < count → refusing Err before BadMap ≡ writing_of t before
    found_many l = broken_rule (too_many (plan_of t) (omega (arith, lines_told t count e, count_is t count e)))

    -- the numbers that were kept, and what was written of their image
    module _ (numbers part : List ℕ) (k : Keeps (read_of t) numbers) (l : count ≤ 66) (p : part ≡ take count numbers) where
      abbrev plan : Plan
      plan = plan_by part

      is : plan_of t ≡ plan
      is = plan_kept t count e numbers part k l p

      long : length (image_of (plan_of t)) ≡ 8 + 8 * (count / 4)
      long = image_length (plan_of t) ∙ rw (lines_told t count e)

      pub found_large : (zeros image : List ℕ) (r : Refusal) → Imaged plan zeros image (Err r) → refusing Err before r ≡ writing_of t before
      found_large zeros image r i = rw i.1 (broken_rule (rw is (too_large _ i.0)))

      module _ (zeros image : List ℕ) (i : Imaged plan zeros image (Ok tt)) where
        written : take (8 + 8 * (count / 4)) image ≡ image_of (plan_of t)
        written = rw (i.1.bytes, ← is) (take_at (image_of (plan_of t)) _ (8 + 8 * (count / 4)) long)

        pub found_bad : map_good (take (8 + 8 * (count / 4)) image) ≡ false → refusing Err before BadMap ≡ writing_of t before
        found_bad m = broken_rule (rw written at m)

        pub found_good : map_good (take (8 + 8 * (count / 4)) image) ≡ true → (after : List ℕ) → Imaged plan before after (Ok tt)
            → outcome (Ok (8 + 8 * (count / 4))) after ≡ writing_of t before
        found_good m after j =
            let keeps : map_good (image_of (plan_of t)) ≡ true = rw written at m in
            rw (← long, j.1.bytes, zero-add, ← is) (writing_past t before (passed.0, (passed.1.0, (ap not keeps, tt))))
