-- A text is read to its end exactly when it has the form, and then it says what was read. Assumes nothing.
-- The definitions stand in specs/Laws.antt.
use Rattle.std.specs.Prelude.{ℕ, zero, suc, ◌+◌, ◌-◌, ◌*◌, ◌/◌, ◌%◌, ◌≤◌, ◌<◌, ◌≡◌, refl, true, false, length, eqb, leb, ltb}
use Rattle.std.proofs.Common.{ap, ◌∙◌, ⊎_elim, zero-add, ltb-true, leb-true, eqb-true, eq-eqb, ne_eqb}
use Rattle.std.proofs.lemmas.Bool.{false≢true}
use mathlib.Core.List.{List, [], ◌∷◌, ◌++◌, flat_map, append_assoc, append-nil, foldl, foldl-append}
use native.Mathlib.Omega.{arith}
use Rattle.std.proofs.Math.ListN.{length-append}
use Rattle.std.proofs.Math.Seq.{append_snoc}
use Rattle.laws.specs.Tests.{and, decided, cond_keeps}
use Rattle.text.specs.Text.{decimal}
use Rattle.text.specs.Laws.{decimal_one, decimal_more}
use Rattle.map.specs.declared.Entry.{Entry}
use Rattle.plan.specs.Form.{Plan, partition_line, text_of, entry_numbers, numbers_of, Small, Form}
use Rattle.plan.specs.Reading.{is_digit, after, Progress, between, within, broken, digit_more, step, read_of}
use Rattle.plan.specs.Reading.{numbers_in, whole, entries_by, plan_by, has_form, plan_of}
use Rattle.plan.specs.Laws.{flat}
use Rattle.plan.proofs.ReadDecimal.{read_decimal}

-- ---- the text of numbers, the byte behind each by its place

flat_append : (k : ℕ) (vs ws : List ℕ) → flat k (vs ++ ws) ≡ flat k vs ++ flat (k + length vs) ws
flat_append k [] ws = let e : k + 0 ≡ k = omega arith in rw e
flat_append k (v ∷ vs) ws =
    let e : k + suc (length vs) ≡ suc k + length vs = omega arith in
    rw (flat_append (suc k) vs ws, e, append_assoc)

-- a line of a partition is that of its four numbers
line_is : (k : ℕ) (x : Entry) → k % 4 ≡ 2 → flat k (entry_numbers x) ≡ partition_line x
line_is k x e =
    let a = ne_eqb (k % 4) 1 (λ q. omega arith) in
    let b = ne_eqb (suc k % 4) 1 (λ q. omega arith) in
    let c = ne_eqb (suc (suc k) % 4) 1 (λ q. omega arith) in
    let d = eq-eqb (suc (suc (suc k)) % 4) 1 (omega arith) in
    rw (a, b, c, d, append_assoc, append_assoc, append_assoc, append_assoc, append_assoc, append_assoc)

lines_are : (k : ℕ) (xs : List Entry) → k % 4 ≡ 2 → flat k (flat_map entry_numbers xs) ≡ flat_map partition_line xs
unfolding flat_map
lines_are k [] e = refl
lines_are k (x ∷ xs) e = flat_append k (entry_numbers x) (flat_map entry_numbers xs) ∙ rw (line_is k x e, lines_are (k + 4) xs (omega arith))

-- and so is the whole text
pub text_is : (p : Plan) → flat 0 (numbers_of p) ≡ text_of p
unfolding numbers_of text_of
text_is p = rw (lines_are 2 p.entries refl, append_assoc, append_assoc, append_assoc)

-- ---- what has the form is read to its end

-- the byte behind a number is no digit, and ends it
number_ended : (numbers : List ℕ) (v : ℕ) → step (within numbers v) (after (length numbers)) ≡ between (numbers ++ (v ∷ []))
number_ended numbers v =
    let k = length numbers in
    ⊎_elim (λ (e : eqb (k % 4) 1 ≡ true). rw e) (λ (e : eqb (k % 4) 1 ≡ false). rw e) (decided (eqb (k % 4) 1))

read_flat : (numbers vs : List ℕ) → Small vs → foldl step (between numbers) (flat (length numbers) vs) ≡ between (numbers ++ vs)
read_flat numbers [] h = rw append-nil
read_flat numbers (v ∷ vs) h =
    let next : suc (length numbers) ≡ length (numbers ++ (v ∷ [])) = simp length-append (omega arith) in
    let rest = flat (suc (length numbers)) vs in
    foldl-append step (between numbers) (decimal v) (after (length numbers) ∷ rest)
    ∙ ap (λ (s : Progress). foldl step s (after (length numbers) ∷ rest)) (read_decimal numbers v v (omega arith) h.0)
    ∙ ap (λ (s : Progress). foldl step s rest) (number_ended numbers v)
    ∙ rw next (read_flat (numbers ++ (v ∷ [])) vs h.1 ∙ ap between (append_assoc numbers (v ∷ []) vs))

-- ---- what is read has the form

-- what has been read says the text
abbrev Shown : (t : List ℕ) → Progress → Type 0
Shown t (between numbers) = (t ≡ flat 0 numbers) × Small numbers
Shown t (within numbers value) = (t ≡ flat 0 numbers ++ decimal value) × Small numbers × (value ≤ 65535)
Shown t broken = Unit {0}

small_more : (numbers : List ℕ) (v : ℕ) → Small numbers → v ≤ 65535 → Small (numbers ++ (v ∷ []))
small_more [] v h l = (l, tt)
small_more (w ∷ ws) v h l = (h.0, small_more ws v h.1 l)

pub digit_range : (c : ℕ) → is_digit c ≡ true → (48 ≤ c) × (c ≤ 57)
digit_range c e = let r = and (leb 48 c) (leb c 57) e in (leb-true 48 c r.0, leb-true c 57 r.1)

first_shown : (t numbers : List ℕ) (c : ℕ) → Shown t (between numbers) → is_digit c ≡ true → Shown (t ++ (c ∷ [])) (within numbers (c - 48))
first_shown t numbers c h e =
    let r = digit_range c e in
    let last : (c - 48) % 10 + 48 ≡ c = omega (arith, r.0, r.1) in
    (rw (h.0, decimal_one (c - 48) (omega (arith, r.1)), last), h.1, omega (arith, r.1))

more_shown : (t numbers : List ℕ) (value c : ℕ) → Shown t (within numbers value) → is_digit c ≡ true → 0 < value → value * 10 + (c - 48) ≤ 65535
    → Shown (t ++ (c ∷ [])) (within numbers (value * 10 + (c - 48)))
more_shown t numbers value c h e l m =
    let r = digit_range c e in
    let w = value * 10 + (c - 48) in
    let front : w / 10 ≡ value = omega (arith, r.0, r.1) in
    let last : w % 10 + 48 ≡ c = omega (arith, r.0, r.1) in
    (rw (h.0, decimal_more w (omega arith), front, last, append_assoc), h.1, m)

ended_shown : (t numbers : List ℕ) (value : ℕ) → Shown t (within numbers value)
    → Shown (t ++ (after (length numbers) ∷ [])) (between (numbers ++ (value ∷ [])))
ended_shown t numbers value h =
    (rw (h.0, flat_append 0 numbers (value ∷ []), zero-add, append_assoc), small_more numbers value h.1 h.2)

digit_shown : (t numbers : List ℕ) (value c : ℕ) → Shown t (within numbers value) → is_digit c ≡ true
    → Shown (t ++ (c ∷ [])) (digit_more numbers value c)
digit_shown t numbers value c h e =
    cond_keeps (Shown (t ++ (c ∷ []))) _ _ _
    (λ y. let r = and (ltb 0 value) _ y in more_shown t numbers value c h e (ltb-true _ _ r.0) (leb-true _ _ r.1))
    (λ n. tt)

step_shown : (t : List ℕ) (s : Progress) (c : ℕ) → Shown t s → Shown (t ++ (c ∷ [])) (step s c)
step_shown t (between numbers) c h = cond_keeps (Shown (t ++ (c ∷ []))) (is_digit c) _ _ (λ y. first_shown t numbers c h y) (λ n. tt)
step_shown t (within numbers value) c h =
    cond_keeps (Shown (t ++ (c ∷ []))) (is_digit c) _ _ (λ y. digit_shown t numbers value c h y)
    (λ n. cond_keeps (Shown (t ++ (c ∷ []))) (eqb c (after (length numbers))) _ _
    (λ y. rw (eqb-true c (after (length numbers)) y) (ended_shown t numbers value h)) (λ m. tt))
step_shown t broken c h = tt

read_shown : (t : List ℕ) (s : Progress) (u : List ℕ) → Shown t s → Shown (t ++ u) (foldl step s u)
read_shown t s [] h = rw append-nil h
read_shown t s (c ∷ u) h = rw (← append_snoc t c u) (read_shown (t ++ (c ∷ [])) (step s c) u (step_shown t s c h))

-- ---- numbers of whole lines are those of a plan

-- what a function gives for each partition, one after the other
module _ (f : Entry → List ℕ) where
  pub flat_snoc : (xs : List Entry) (x : Entry) → flat_map f (xs ++ (x ∷ [])) ≡ flat_map f xs ++ f x
  unfolding flat_map
  flat_snoc [] x = append-nil (f x)
  flat_snoc (y ∷ xs) x = rw (flat_snoc xs x, append_assoc)

  pub flat_length : (width : ℕ) → ((x : Entry) → length (f x) ≡ width) → (xs : List Entry) → length (flat_map f xs) ≡ width * length xs
  unfolding flat_map
  flat_length width e [] = omega arith
  flat_length width e (x ∷ xs) = length-append (f x) (flat_map f xs) ∙ rw (e x, flat_length width e xs) (omega arith)

numbers_back : (count : ℕ) (numbers : List ℕ) → length numbers ≡ 4 * count → flat_map entry_numbers (entries_by count numbers) ≡ numbers
unfolding flat_map
numbers_back zero [] e = refl
numbers_back zero (a ∷ numbers) e = absurd (omega arith)
numbers_back (suc count) [] e = absurd (omega arith)
numbers_back (suc count) (a ∷ []) e = absurd (omega arith)
numbers_back (suc count) (a ∷ b ∷ []) e = absurd (omega arith)
numbers_back (suc count) (a ∷ b ∷ c ∷ []) e = absurd (omega arith)
numbers_back (suc count) (a ∷ b ∷ c ∷ d ∷ numbers) e = rw (numbers_back count numbers (omega arith))

plan_back : (numbers : List ℕ) → length numbers % 4 ≡ 2 → numbers_of (plan_by numbers) ≡ numbers
unfolding numbers_of
plan_back [] e = absurd (omega arith)
plan_back (a ∷ []) e = absurd (omega arith)
plan_back (a ∷ b ∷ numbers) e = rw (numbers_back (suc (suc (length numbers)) / 4) numbers (omega arith))

entries_back : (xs : List Entry) → entries_by (length xs) (flat_map entry_numbers xs) ≡ xs
unfolding flat_map
entries_back [] = refl
entries_back (x ∷ xs) = rw (entries_back xs)

pub numbers_length : (p : Plan) → length (numbers_of p) ≡ 2 + 4 * length p.entries
unfolding numbers_of
numbers_length p = omega (arith, flat_length entry_numbers 4 (λ x. refl) p.entries)

plan_is : (p : Plan) → plan_by (numbers_of p) ≡ p
unfolding numbers_of
plan_is p =
    let count : length (numbers_of p) / 4 ≡ length p.entries = omega (arith, numbers_length p) in
    rw (count, entries_back p.entries)

-- ---- so a text has the form exactly where it is read to its end

pub formed : (t : List ℕ) → has_form t ≡ true → Form t (plan_of t)
unfolding has_form plan_of read_of
formed t e = from (foldl step (between []) t) (read_shown [] (between []) t (refl, tt)) e
  where
    from : (s : Progress) → Shown t s → whole s ≡ true → Form t (plan_by (numbers_in s))
    from (between numbers) h e =
        let back = plan_back numbers (eqb-true _ _ e) in
        record { is = h.0 ∙ rw (← text_is (plan_by numbers), back); small = rw back h.1 }
    from (within numbers value) h e = absurd (false≢true e)
    from broken h e = absurd (false≢true e)

pub form_read : (t : List ℕ) (p : Plan) → Form t p → read_of t ≡ between (numbers_of p)
unfolding read_of
form_read t p f = rw (f.is, ← text_is p) (read_flat [] (numbers_of p) f.small)

pub form_has : (t : List ℕ) (p : Plan) → Form t p → (has_form t ≡ true) × (plan_of t ≡ p)
unfolding has_form plan_of
form_has t p f = (rw (form_read t p f) (eq-eqb (length (numbers_of p) % 4) 2 (omega (arith, numbers_length p))), rw (form_read t p f) (plan_is p))
