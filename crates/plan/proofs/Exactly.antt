-- Document 02, request P2, "Write the map", as one claim in the request's words: what is answered and written for every text and every
-- buffer. Here is its proof. Assumes nothing.
-- The definitions stand in specs/Exactly.antt.
use Rattle.std.specs.Prelude.{ℕ, ◌<◌, ◌≡◌, refl, ◌⊎◌, ◌↔◌, true, false, not, List, ◌++◌, length, take, drop, ltb, Result, Ok, Err}
use Rattle.std.proofs.Common.{sym, ap, subst, ◌∙◌, inl, inr, ⊎_elim, arith, length-append, length-drop, take_at, drop_at, ltb-true, ltb-false}
use Rattle.std.proofs.lemmas.Bool.{false≢true}
use Rattle.laws.specs.Tests.{decided}
use Rattle.refusal.specs.declared.Refusal.{Refusal}
use Rattle.refusal.specs.declared.Refusal.TheVariants.{BadMap, BadText}
use Rattle.context.specs.State.{Outcome, refusing}
use Rattle.map.specs.Map.{map_good}
use Rattle.map.specs.declared.Header.{Header}
use Rattle.plan.specs.Form.{Plan, Form}
use Rattle.plan.specs.Reading.{has_form, plan_of}
use Rattle.plan.specs.Writing.{image_of, room_for, in_front, writing_of}
use Rattle.plan.proofs.Laws.{formed, form_has}
use Rattle.plan.proofs.Fields.{image_length, image_header}
use Rattle.plan.proofs.Valid.{also_good, good_valid}
use Rattle.plan.proofs.Answers.{writing_at, writing_past, not_written}
use Rattle.plan.specs.Exactly.{SomeMap, Ready, Sixteen, One, Image, Claim}

-- ---- its proof

module _ (t before : List ℕ) where
  one_plan : (p q : Plan) → Form t p → Form t q → p ≡ q
  one_plan p q f g = sym (form_has t p f).1 ∙ (form_has t q g).1

  -- the four ways to be answered
  data Way : Outcome (Result ℕ Refusal) (List ℕ) → Type 0 where
    formless : ((p : Plan) → Form t p → ⊥) → Way (refusing Err before BadText)
    short : (p : Plan) → Form t p → length before < room_for p → Way (refusing Err before BadText)
    bad : (p : Plan) → Ready t before p → map_good (image_of p) ≡ false → Way (refusing Err before BadMap)
    good : (p : Plan) → Ready t before p → map_good (image_of p) ≡ true → Way (in_front (image_of p) before)

  way : Way (writing_of t before)
  way =
      ⊎_elim
      (λ (f : has_form t ≡ true).
      ⊎_elim
      (λ (s : ltb (length before) (room_for (plan_of t)) ≡ true).
      subst Way (writing_at t before 1 (ap not f, tt) s) (short (plan_of t) (formed t f) (ltb-true _ _ s)))
      (λ (s : ltb (length before) (room_for (plan_of t)) ≡ false).
      let ready : Ready t before (plan_of t) = (formed t f, ltb-false _ _ s) in
      ⊎_elim
      (λ (m : map_good (image_of (plan_of t)) ≡ true). subst Way (writing_past t before (ap not f, (s, (ap not m, tt)))) (good (plan_of t) ready m))
      (λ (m : map_good (image_of (plan_of t)) ≡ false). subst Way (writing_at t before 2 (ap not f, (s, tt)) (ap not m)) (bad (plan_of t) ready m))
      (decided (map_good (image_of (plan_of t)))))
      (decided (ltb (length before) (room_for (plan_of t)))))
      (λ (f : has_form t ≡ false). subst Way (writing_at t before 0 tt (ap not f)) (formless (λ p g. false≢true (sym f ∙ (form_has t p g).0))))
      (decided (has_form t))

  -- where the image with E = 8 breaks a rule, no valid map has the fields
  no_map : (p : Plan) → map_good (image_of p) ≡ false → SomeMap p → ⊥
  no_map p m v = false≢true (sym m ∙ also_good v.0 p v.1.good v.1.reads)

  exactly : (o : Outcome (Result ℕ Refusal) (List ℕ)) → Way o → (p : Plan) → Ready t before p → ((n : ℕ) × (o.told ≡ Ok n)) ↔ SomeMap p
  exactly o (formless none) p r = absurd (none p r.0)
  exactly o (short q f s) p r = absurd (let e = ap room_for (one_plan p q r.0 f) in omega (arith, r.1))
  exactly o (bad q f m) p r = (λ w. absurd (not_written refl w.1), λ v. absurd (no_map q m (subst SomeMap (one_plan p q r.0 f.0) v)))
  exactly o (good q f m) p r =
      (λ w. subst SomeMap (one_plan q p f.0 r.0) (image_of q, good_valid q m), λ v. (length (image_of q), refl))

  abbrev RefusedWith : (r : Refusal) → Type 0
  RefusedWith r = ((r ≡ BadText) × Sixteen t before) ⊎ ((r ≡ BadMap) × One t before)

  -- 16 and 1 are not both given
  not_one : (p : Plan) → Ready t before p → Sixteen t before → ⊥
  not_one p r (inl none) = none p r.0
  not_one p r (inr (q, f, s)) = let e = ap room_for (one_plan p q r.0 f) in omega (arith, r.1)

  same : {r q : Refusal} → ◌≡◌ {A = Result ℕ Refusal} (Err r) (Err q) → q ≡ r
  same e = cc

  refused : (o : Outcome (Result ℕ Refusal) (List ℕ)) → Way o → (r : Refusal) → (o.told ≡ Err r) ↔ RefusedWith r
  refused o (formless none) r = (
    λ e. inl (same e, inl none),
    λ w. ⊎_elim (λ (a : (r ≡ BadText) × Sixteen t before). ap Err (sym a.0))
        (λ (a : (r ≡ BadMap) × One t before). absurd (none a.1.0 a.1.1.0)) w,
  )
  refused o (short p f s) r = (
    λ e. inl (same e, inr (p, f, s)),
    λ w. ⊎_elim (λ (a : (r ≡ BadText) × Sixteen t before). ap Err (sym a.0))
        (λ (a : (r ≡ BadMap) × One t before). absurd (not_one a.1.0 a.1.1 (inr (p, f, s)))) w,
  )
  refused o (bad p h m) r = (
    λ e. inr (same e, (p, h, no_map p m)),
    λ w. ⊎_elim (λ (a : (r ≡ BadText) × Sixteen t before). absurd (not_one p h a.1)) (λ (a : (r ≡ BadMap) × One t before). ap Err (sym a.0)) w,
  )
  refused o (good p h m) r = (
    λ e. absurd (not_written e refl),
    λ w. ⊎_elim (λ (a : (r ≡ BadText) × Sixteen t before). absurd (not_one p h a.1))
        (λ (a : (r ≡ BadMap) × One t before). absurd (a.1.2 (subst SomeMap (one_plan p a.1.0 h.0 a.1.1.0) (image_of p, good_valid p m)))) w,
  )

  written : (o : Outcome (Result ℕ Refusal) (List ℕ)) → Way o → (n : ℕ) → o.told ≡ Ok n → (p : Plan) × Form t p × Image p before o.after n
  written o (formless none) n e = absurd (not_written refl e)
  written o (short p f s) n e = absurd (not_written refl e)
  written o (bad p r m) n e = absurd (not_written refl e)
  written o (good p r m) n e =
      let is : n ≡ length (image_of p) = cc in
      let front : take n (image_of p ++ drop (length (image_of p)) before) ≡ image_of p = take_at (image_of p) _ n (sym is) in
      let rest : drop n (image_of p ++ drop (length (image_of p)) before) ≡ drop n before = drop_at (image_of p) _ n (sym is) ∙ rw is in
      let long = image_length p in (
        p,
        r.0,
        record {
          size = is ∙ long;
          valid = rw front (good_valid p m);
          offset = rw front (ap (λ (h : Header). h.offset) (image_header p));
          past = rest;
          same = simp (length-append, length-drop) (omega (arith, r.1));
        },
      )

  unchanged : (o : Outcome (Result ℕ Refusal) (List ℕ)) → Way o → (r : Refusal) → o.told ≡ Err r → o.after ≡ before
  unchanged o (formless none) n e = refl
  unchanged o (short p f s) n e = refl
  unchanged o (bad p r m) n e = refl
  unchanged o (good p r m) n e = absurd (not_written e refl)

  pub write_the_map : Claim t before
  write_the_map = record {
    one_plan = one_plan;
    one_text = λ u p f g. f.is ∙ sym g.is;
    exactly = exactly (writing_of t before) way;
    refused = refused (writing_of t before) way;
    written = written (writing_of t before) way;
    unchanged = unchanged (writing_of t before) way;
  }
