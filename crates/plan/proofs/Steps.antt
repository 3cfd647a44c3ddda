-- How the code reads a text: number after number, each with the byte behind it. It keeps how many they are, and as many of them as a map
-- can have. Assumes nothing.
-- The definitions stand in specs/Steps.antt.
use Rattle.std.specs.Prelude.{ℕ, ◌+◌, ◌-◌, ◌%◌, ◌≤◌, ◌<◌, ◌≡◌, refl, Bool, true, false, length, take, eqb, Some, None}
use Rattle.std.specs.Bool.{then_some}
use Rattle.std.proofs.Common.{sym, ap, ◌∙◌, ⊎_elim, arith, add-one, length-append, take_all, take-suc-set, lt-ltb, le-ltb, eq-eqb, ne_eqb, Bor}
use Rattle.std.proofs.lemmas.Option.{none-some, same_Some}
use Rattle.std.proofs.lemmas.List.{take-append-le}
use mathlib.Core.List.{List, [], ◌∷◌, ◌++◌, foldl}
use Rattle.laws.specs.Tests.{lt_or_le}
use Rattle.plan.specs.Reading.{is_digit, after, between, within, broken, step, read_of}
use Rattle.plan.specs.Steps.{longer, Numbered, kept, Keeps, Stands, reading_of}

-- what a test's option tells
pub some_told : (b : Bool) (x : ℕ) {w : ℕ} → Some w ≡ then_some b x → (b ≡ true) × (w ≡ x)
some_told true x e = (refl, same_Some _ _ e)
some_told false x e = absurd (none-some _ (sym e))

pub none_told : (b : Bool) (x : ℕ) → None ≡ then_some b x → b ≡ false
none_told true x e = absurd (none-some _ e)
none_told false x e = refl

-- ---- a number

-- what is broken stays so
broken_stays : (t : List ℕ) → foldl step broken t ≡ broken
broken_stays [] = refl
broken_stays (c ∷ t) = broken_stays t

pub no_number : (first : ℕ) (t : List ℕ) → is_digit first ≡ false → Numbered first t None
no_number first t e ended = rw e (broken_stays t)

module _ (ended : List ℕ) (c : ℕ) (t : List ℕ) where
  pub number_starts : is_digit c ≡ true → foldl step (between ended) (c ∷ t) ≡ foldl step (within ended (c - 48)) t
  number_starts e = rw e

  -- a digit goes on with a number, or breaks the form
  pub number_goes_on : (v w : ℕ) → is_digit c ≡ true → Some w ≡ longer v c → foldl step (within ended v) (c ∷ t) ≡ foldl step (within ended w) t
  number_goes_on v w e q = let told = some_told _ _ q in rw (e, told.0, told.1)

  pub number_breaks : (v : ℕ) → is_digit c ≡ true → None ≡ longer v c → foldl step (within ended v) (c ∷ t) ≡ broken
  number_breaks v e q = rw (e, none_told _ _ q) (broken_stays t)

  -- the byte behind it ends it, or breaks the form
  number_ended : (v : ℕ) → is_digit c ≡ false → c ≡ after (length ended) → foldl step (within ended v) (c ∷ t) ≡ foldl step (between (ended ++ (v ∷ []))) t
  number_ended v e q = rw (e, eq-eqb c (after (length ended)) q)

  not_ended : (v : ℕ) → is_digit c ≡ false → (c ≡ after (length ended) → ⊥) → foldl step (within ended v) (c ∷ t) ≡ broken
  not_ended v e q = rw (e, ne_eqb c (after (length ended)) q) (broken_stays t)

-- ---- the numbers of a text, one after the other

-- one number more is kept, if there is a place for it
keep_more : (ended numbers : List ℕ) (v : ℕ) → length numbers ≡ 66 → take (length ended) numbers ≡ take 66 ended
    → take (length ended + 1) (kept numbers (length ended) v) ≡ take 66 (ended ++ (v ∷ []))
keep_more ended numbers v long h =
    ⊎_elim
    (λ (l : length ended < 66).
    let all : take 66 ended ≡ ended = take_all 66 ended (omega arith) in
    let more : take 66 (ended ++ (v ∷ [])) ≡ ended ++ (v ∷ []) = take_all 66 (ended ++ (v ∷ [])) (simp length-append (omega arith)) in
    rw (lt-ltb (length ended) 66 l, add-one, take-suc-set numbers (length ended) v (omega arith), h, all, more))
    (λ (l : 66 ≤ length ended).
    let same : take (length ended) numbers ≡ numbers = take_all (length ended) numbers (omega arith) in
    let all : take (length ended + 1) numbers ≡ numbers = take_all (length ended + 1) numbers (omega arith) in
    rw (le-ltb (length ended) 66 l, all, take-append-le 66 ended (v ∷ []) l) (sym same ∙ h))
    (lt_or_le (length ended) 66)

module _ (t : List ℕ) where
  formless : (numbers : List ℕ) → read_of t ≡ broken → (None ≡ reading_of t) × Keeps (read_of t) numbers
  formless numbers e = rw e (refl, refl)

  pub stands_first : (numbers : List ℕ) → Stands t 0 t numbers
  unfolding read_of
  stands_first numbers = ([], refl, refl, refl)

  -- at the text's end
  pub ends : (count : ℕ) (numbers : List ℕ) → Stands t count [] numbers → (then_some (eqb (count % 4) 2) count ≡ reading_of t) × Keeps (read_of t) numbers
  ends count numbers (ended, c, k, r) = rw (r, ← c) (refl, k)

  -- a number more
  module _ (count : ℕ) (numbers : List ℕ) (first : ℕ) (more : List ℕ) (s : Stands t count (first ∷ more) numbers) where
    pub not_numbered : Numbered first more None → (None ≡ reading_of t) × Keeps (read_of t) numbers
    not_numbered n = formless numbers (s.3 ∙ n s.0)

    module _ (v : ℕ) (behind : Bor (List ℕ)) (n : Numbered first more (Some (v, behind))) where
      pub cut_off : behind.now ≡ [] → (None ≡ reading_of t) × Keeps (read_of t) numbers
      cut_off e = let r = s.3 ∙ n.2 s.0 in rw (r, e) (refl, rw (← s.1) s.2)

      module _ (c : ℕ) (rest : List ℕ) (e : behind.now ≡ c ∷ rest) where
        pub other_byte : (c ≡ after count → ⊥) → (None ≡ reading_of t) × Keeps (read_of t) numbers
        other_byte q = formless numbers (s.3 ∙ n.2 s.0 ∙ rw e (not_ended s.0 c rest v (rw e at n.1) (λ is. q (is ∙ ap after (sym s.1)))))

        pub stands_next : c ≡ after count → length numbers ≡ 66 → Stands t (count + 1) rest (kept numbers count v)
        stands_next q long = (
          s.0 ++ (v ∷ []),
          rw s.1 (sym (length-append s.0 (v ∷ []))),
          rw s.1 (keep_more s.0 numbers v long (rw s.1 at s.2)),
          s.3 ∙ n.2 s.0 ∙ rw e (number_ended s.0 c rest v (rw e at n.1) (q ∙ ap after s.1)),
        )
