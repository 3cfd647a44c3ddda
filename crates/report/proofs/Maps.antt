-- What `make_map` prints, by what `plan::write_map` answers and leaves in its part of the buffer. Assumes nothing.
-- The definitions stand in specs/Maps.antt.
use Rattle.std.specs.Prelude.{ℕ, ◌≤◌, ◌≡◌, refl, List, ◌++◌, length, drop, Result, Ok, Err}
use Rattle.std.proofs.Common.{sym, ap, ⊎_elim, append_assoc, arith, length-append, take-append-drop, length-take-le}
use Rattle.std.proofs.lemmas.List.{drop-append-le}
use borrow.Author.Tests.{ltb-false}
use Rattle.refusal.specs.declared.Refusal.{Refusal}
use Rattle.refusal.specs.declared.Refusal.TheVariants.{BadMap, BadText}
use Rattle.refusal.specs.Numbers.{number}
use Rattle.refusal.specs.Refusals.{Applies, first_both}
use Rattle.laws.specs.Put.{Put}
use Rattle.context.specs.State.{Outcome, outcome, refusing}
use Rattle.plan.specs.Reading.{plan_of}
use Rattle.plan.specs.Writing.{image_of, room_for, writing_tests, in_front, writing_of}
use Rattle.plan.proofs.Fields.{image_length}
use Rattle.plan.proofs.Answers.{not_written}
use Rattle.report.specs.declared.Stream.TheVariants.{Output, Errors}
use Rattle.report.specs.Status.{refused_line}
use Rattle.report.specs.Report.{Saying, on_output, on_errors, map_report, Told}
use Rattle.report.proofs.Laws.{in_front_lem}
use Rattle.report.specs.Maps.{Says, refused, written, part}

module _ (input before : List ℕ) (room : length before ≡ 136) where
  numbers : (r : Refusal) → Applies r (writing_tests input 136) → number r ≤ 16
  numbers r a =
      let text : r ≡ BadText → number r ≤ 16 = λ e. rw e (omega arith) in
      let map : r ≡ BadMap → number r ≤ 16 = λ e. rw e (omega arith) in
      ⊎_elim (λ (e : _ × (r ≡ BadText)). text e.1)
      (λ b. ⊎_elim (λ (e : _ × (r ≡ BadText)). text e.1) (λ c. ⊎_elim (λ (e : _ × (r ≡ BadMap)). map e.1) (λ d. absurd d) c) b) a

  pub says : Says before (writing_of input before) (map_report input)
  unfolding writing_of map_report
  says =
      rw room (first_both (Says before) (refusing Err before) (λ (r : Refusal). on_errors (refused_line (number r))) (writing_tests input 136)
      (in_front (image_of (plan_of input)) before) (on_output (image_of (plan_of input)))
      (λ r a. refused r (numbers r a))
      (λ none. written (image_of (plan_of input)) (omega (arith, image_length (plan_of input), ltb-false 136 (room_for (plan_of input)) (none 1)))))

module _ (input out : List ℕ) (room : 448 ≤ length out) where
  part_long : length (part out) ≡ 136
  part_long = length-take-le 136 out (omega arith)

  -- and the whole afterwards
  whole : (image : List ℕ) → length image ≤ length (part out)
      → image ++ drop (length image) (part out) ++ drop 136 out ≡ image ++ drop (length image) out
  whole image l =
      rw (append_assoc, ← drop-append-le (length image) (part out) (drop 136 out) l, take-append-drop)

  module _ (after : List ℕ) where
    image_from : (n : ℕ) (o : Outcome (Result ℕ Refusal) (List ℕ)) (s : Saying) → Says (part out) o s → outcome (Ok n) after ≡ o
        → Told s out (after ++ drop 136 out) (record { stream = Output; count = n })
    image_from n o s (refused r l) e = absurd (not_written refl (sym (ap (λ (x : Outcome (Result ℕ Refusal) (List ℕ)). x.told) e)))
    image_from n o s (written image l) e =
        let told = ap (λ (x : Outcome (Result ℕ Refusal) (List ℕ)). x.told) e in
        let count : n ≡ length image = cc in
        let left : after ≡ image ++ drop (length image) (part out) = ap (λ (x : Outcome (Result ℕ Refusal) (List ℕ)). x.after) e in
        let all : after ++ drop 136 out ≡ image ++ drop (length image) out = rw left (whole image l) in
        record {
          stream = refl;
          print = record {
            count = count;
            bytes = all;
            fits = rw all (simp length-append (omega arith));
          };
        }

    refused_from : (r : Refusal) (o : Outcome (Result ℕ Refusal) (List ℕ)) (s : Saying) → Says (part out) o s → outcome (Err r) after ≡ o
        → (number r ≤ 16) × (after ++ drop 136 out ≡ out) × (s ≡ on_errors (refused_line (number r)))
    refused_from r o s (refused q l) e =
        let told = ap (λ (x : Outcome (Result ℕ Refusal) (List ℕ)). x.told) e in
        let same : r ≡ q = cc in
        let left : after ≡ part out = ap (λ (x : Outcome (Result ℕ Refusal) (List ℕ)). x.after) e in
        (rw same l, rw left (take-append-drop 136 out), rw same)
    refused_from r o s (written image l) e = absurd (not_written refl (ap (λ (x : Outcome (Result ℕ Refusal) (List ℕ)). x.told) e))

    pub image_told : (n : ℕ) → outcome (Ok n) after ≡ writing_of input (part out)
        → Told (map_report input) out (after ++ drop 136 out) (record { stream = Output; count = n })
    image_told n = image_from n (writing_of input (part out)) (map_report input) (says input (part out) part_long)

    pub number_most : (r : Refusal) → outcome (Err r) after ≡ writing_of input (part out) → number r ≤ 16
    number_most r e = (refused_from r (writing_of input (part out)) (map_report input) (says input (part out) part_long) e).0

    pub refusal_told : (r : Refusal) → outcome (Err r) after ≡ writing_of input (part out)
        → {printed : List ℕ} {count : ℕ} → Put 0 (refused_line (number r)) (after ++ drop 136 out) printed count
        → Told (map_report input) out printed (record { stream = Errors; count = count })
    refusal_told r e p =
        let f = refused_from r (writing_of input (part out)) (map_report input) (says input (part out) part_long) e in
        rw f.2 (record { stream = refl; print = in_front_lem (rw f.1 at p) })
