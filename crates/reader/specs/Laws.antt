-- What `reading_of` tells, and which of its tests gives the refusal. Assumes nothing.
use Rattle.std.specs.Prelude.{ℕ, ◌≡◌, refl, true, List, Ok, Err}
use Rattle.std.proofs.Common.{ap, ◌∙◌}
use Rattle.refusal.specs.Refusals.{test_at, refusal_at, Past, refused_at, past_all, GivenFirst, given_first, GivenLowest, lowest_tells}
use Rattle.reader.specs.Reader.{fields_of, reading_tests, reading_of}
use Rattle.reader.specs.declared.Fields.{Fields}

module _ (image : List ℕ) (i : ℕ) where
  -- "Checked in ascending order; the lowest that applies is given, and none is given otherwise"
  pub reading_lowest : GivenLowest Err (reading_tests image i) (Ok (fields_of image i)) (reading_of image i)
  reading_lowest = lowest_tells Err (Ok (fields_of image i)) 1 (reading_tests image i) refl

  pub reading_first : GivenFirst Err (reading_tests image i) (Ok (fields_of image i)) (reading_of image i)
  reading_first = given_first Err (Ok (fields_of image i)) (reading_tests image i)

  -- which of the tests gives the refusal, by the test's place, and that none does
  pub reading_at : (k : ℕ) → Past k (reading_tests image i) → test_at (reading_tests image i) k ≡ true → Err (refusal_at (reading_tests image i) k) ≡ reading_of image i
  reading_at k = refused_at Err (Ok (fields_of image i)) k (reading_tests image i)

  pub reading_past : Past 2 (reading_tests image i) → {fields : Fields} → fields ≡ fields_of image i → Ok fields ≡ reading_of image i
  reading_past p e = ap Ok e ∙ past_all Err (Ok (fields_of image i)) (reading_tests image i) p
