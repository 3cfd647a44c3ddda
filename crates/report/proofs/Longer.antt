-- A longer input: once there are more than 16,642 bytes (2 + 256 + 8 · 2,048, the longest drive; no map's text that fits is longer than
-- 396), what follows changes nothing. So a program that reads at least one byte more than that may stop reading. Assumes nothing.
use Rattle.std.specs.Prelude.{ℕ, suc, ◌+◌, ◌-◌, ◌*◌, ◌≤◌, ◌<◌, ◌≡◌, refl, true, false, cond, List, [], ◌∷◌, length, take, drop}
use Rattle.std.proofs.Common.{sym, ap, ◌∙◌, arith, take-take, length-take-le}
use Rattle.std.proofs.Math.Logic.{⊎_elim}
use Rattle.std.proofs.Math.Bool.{not}
use Rattle.std.proofs.Math.Seq.{take-nil, get_or-take}
use Rattle.std.proofs.Math.Dec.{ltb}
use borrow.Author.Tests.{ltb-false, le-ltb, ne_eqb}
use Rattle.laws.specs.Tests.{decided}
use Rattle.refusal.specs.Numbers.{number}
use Rattle.refusal.specs.declared.Refusal.{Refusal}
use Rattle.refusal.specs.declared.Refusal.TheVariants.{BadMap, BadLent}
use Rattle.endian.specs.Endian.{u16_at}
use Rattle.map.proofs.Laws.{map_header}
use Rattle.map.specs.Map.{map_good}
use Rattle.report.specs.Status.{map_length, image_of, cell_count, refused_line}
use Rattle.plan.specs.Reading.{plan_of}
use Rattle.plan.specs.Writing.{image_of as plan_image}
use Rattle.plan.proofs.Longest.{too_long}
use Rattle.report.specs.declared.Program.{Program}
use Rattle.report.specs.declared.Program.TheVariants.{Status, Why, MakeMap}
use Rattle.report.specs.declared.View.{View}
use Rattle.report.specs.declared.View.TheVariants.{Table, Line}
use Rattle.report.specs.Report.{drive_report, on_output, on_errors, map_report, report_of}
use Rattle.report.proofs.Laws.{input_at}

two_cut : (j : ℕ) (s : List ℕ) → drop 2 (take (suc (suc j)) s) ≡ take j (drop 2 s)
two_cut j [] = sym (take-nil j)
two_cut j (a ∷ []) = sym (take-nil j)
two_cut j (a ∷ b ∷ s) = refl

-- an input longer than any drive is refused, by its map's length and its map alone
late : (len : ℕ) (image : List ℕ) → Refusal
late len image = cond (ltb 256 len) BadMap (cond (map_good image) BadLent BadMap)

module _ (view : View) (input : List ℕ) (l : 16642 < length input) where
  too_much : drive_report view input ≡ refused_line (number (late (map_length input) (image_of input)))
  unfolding late
  too_much =
      let len = map_length input in
      let two = le-ltb (length input) 2 (omega arith) in
      ⊎_elim
      (λ (a : ltb 256 len ≡ true). rw (← input_at input 1 (two, tt) a, a))
      (λ (a : ltb 256 len ≡ false).
      let most : len ≤ 256 = ltb-false 256 len a in
      let whole = le-ltb (length input) (2 + len) (omega arith) in
      ⊎_elim
      (λ (g : map_good (image_of input) ≡ true).
      let cells : cell_count input ≤ 2048 = (map_header (image_of input) g).cells_most in
      let no = ne_eqb (length input) (2 + len + 8 * cell_count input) (λ q. omega arith) in
      rw (← input_at input 4 (two, (a, (whole, (ap not g, tt)))) (ap not no), a, g))
      (λ (g : map_good (image_of input) ≡ false). rw (← input_at input 3 (two, (a, (whole, tt))) (ap not g), a, g))
      (decided (map_good (image_of input))))
      (decided (ltb 256 len))

module _ (view : View) (input : List ℕ) (k : ℕ) (l : 16642 < k) (h : k ≤ length input) where
  -- the front that is kept holds the map's length, and the map where it is at most 256 long
  same_length : map_length (take k input) ≡ map_length input
  unfolding u16_at
  same_length = rw (get_or-take k input 0 0 (omega arith), get_or-take k input 1 0 (omega arith))

  same_image : (len : ℕ) → len ≤ 256 → take len (drop 2 (take k input)) ≡ take len (drop 2 input)
  same_image len n =
      let j : k ≡ suc (suc (k - 2)) = omega arith in
      ap (λ (m : ℕ). take len (drop 2 (take m input))) j ∙ rw (two_cut (k - 2) input) (take-take len (k - 2) (drop 2 input) (omega arith))

  same_late : late (map_length (take k input)) (image_of (take k input)) ≡ late (map_length input) (image_of input)
  unfolding late
  same_late =
      rw same_length (⊎_elim
      (λ (a : ltb 256 (map_length input) ≡ true). simp a)
      (λ (a : ltb 256 (map_length input) ≡ false). rw (same_image (map_length input) (ltb-false _ _ a)))
      (decided (ltb 256 (map_length input))))

  drive_cut : drive_report view (take k input) ≡ drive_report view input
  drive_cut =
      let long : length (take k input) ≡ k = length-take-le k input h in
      too_much view (take k input) (omega arith) ∙ ap (λ (r : Refusal). refused_line (number r)) same_late ∙ sym (too_much view input (omega arith))

-- a map's text that is longer than any drive is refused with 16, whatever it holds
long_text : (input : List ℕ) → 16642 < length input → map_report input ≡ on_errors (refused_line 16)
unfolding map_report
long_text input l =
    too_long input 136 (omega arith) (omega arith) (λ (r : Refusal). on_errors (refused_line (number r))) (on_output (plan_image (plan_of input)))

pub past_any_input : (program : Program) (input : List ℕ) (k : ℕ) → 16642 < k → k ≤ length input
    → report_of program (take k input) ≡ report_of program input
past_any_input Status input k l h = ap on_output (drive_cut Table input k l h)
past_any_input Why input k l h = ap on_output (drive_cut Line input k l h)
past_any_input MakeMap input k l h =
    let long : length (take k input) ≡ k = length-take-le k input h in
    long_text (take k input) (omega arith) ∙ sym (long_text input (omega arith))
