-- The longest text that can fit: a buffer for 16 partitions is too short for any text of more than 396 bytes (12 for the first line, 24
-- for each of 16), whatever it holds. So a program with such a buffer may stop reading once it has one byte more. Assumes nothing.
use Rattle.std.specs.Prelude.{ℕ, suc, ◌+◌, ◌*◌, ◌≤◌, ◌<◌, ◌≡◌, true, false, List, [], ◌∷◌, length}
use Rattle.std.proofs.Common.{ap, ⊎_elim, arith, length-append, lt-ltb}
use Rattle.laws.specs.Tests.{decided}
use Rattle.refusal.specs.Refusals.{first_of}
use Rattle.refusal.specs.declared.Refusal.{Refusal}
use Rattle.refusal.specs.declared.Refusal.TheVariants.{BadText}
use Rattle.text.specs.Laws.{decimal_length}
use Rattle.plan.specs.Form.{Plan, numbers_of, Small, Form}
use Rattle.plan.specs.Reading.{has_form, plan_of}
use Rattle.plan.specs.Writing.{room_for, writing_tests}
use Rattle.plan.specs.Laws.{flat}
use Rattle.plan.proofs.Laws.{text_is, numbers_length, formed}

-- a number of a text has at most five digits, and one byte follows it
flat_most : (k : ℕ) (numbers : List ℕ) → Small numbers → length (flat k numbers) ≤ 6 * length numbers
flat_most k [] h = omega arith
flat_most k (v ∷ vs) h =
    let digits = decimal_length 4 v (omega (arith, h.0)) in
    let rest = flat_most (suc k) vs h.1 in
    simp length-append (omega (arith, digits, rest))

pub text_most : (t : List ℕ) (p : Plan) → Form t p → length t ≤ 12 + 24 * length p.entries
text_most t p f =
    let all = flat_most 0 (numbers_of p) f.small in
    omega (arith, ap length f.is, ap length (text_is p), all, numbers_length p)

-- a longer text is refused with 16 (`BadText`), whatever is made of a refusal and of an accepted text
pub too_long : {A : Type 0} (t : List ℕ) (room : ℕ) → room < 8 + 8 * 17 → 396 < length t → (refuse : Refusal → A) (accepted : A)
    → first_of refuse (writing_tests t room) accepted ≡ refuse BadText
too_long t room m l refuse accepted =
    ⊎_elim
    (λ (f : has_form t ≡ true). rw (f, lt-ltb room (room_for (plan_of t)) (omega (arith, text_most t (plan_of t) (formed t f)))))
    (λ (f : has_form t ≡ false). rw f)
    (decided (has_form t))
