-- What a rotation and a fresh table leave: the table afterwards, and all that stores behind the cache keep. Assumes nothing.
use Rattle.std.specs.Prelude.{ℕ, ◌+◌, ◌^◌, ◌≤◌, ◌<◌, ◌≡◌, List, ltb, length, get_or, set, take, drop}
use Rattle.std.proofs.Common.{sym, ap, ◌∙◌, arith, length-set, length-drop, get_or-set_same, get_or-set_other, get_or-drop, drop-drop}
use Rattle.laws.specs.Tests.{cond_keeps}
use Rattle.refusal.specs.Numbers.{number}
use Rattle.context.specs.Context.{count_at, entries_at, greatest_at, part}
use Rattle.handles.specs.Handles.{most, entry_of, handle_of, algorithm_of, Long, table_of, handle_at, algorithm_at, rotated, rotated_at}
use Rattle.handles.specs.Making.{made}
use Rattle.handles.specs.Laws.{count_read, greatest_read, entry_read, rotated_in}

-- ---- an entry's handle and algorithm

pub entry_handle : (handle algorithm : ℕ) → handle < 2 ^ 32 → handle_of (entry_of handle algorithm) ≡ handle
entry_handle handle algorithm l = omega arith

pub entry_algorithm : (handle algorithm : ℕ) → handle < 2 ^ 32 → algorithm_of (entry_of handle algorithm) ≡ algorithm
entry_algorithm handle algorithm l = omega arith

-- ---- what is kept

pub store_long : (context : List ℕ) (i v : ℕ) → count_at ≤ i → Long context → Long (set context i v)
store_long context i v _ long = rw (length-set context i v) long

-- the table lies in the words from its count on
pub table_behind : (before after : List ℕ) → drop count_at after ≡ drop count_at before → table_of after ≡ table_of before
unfolding table_of
table_behind before after e =
    let word : (k : ℕ) → get_or after (count_at + k) 0 ≡ get_or before (count_at + k) 0
    = λ k. (sym (get_or-drop count_at after k 0) ∙ ap (λ (c : List ℕ). get_or c k 0) e ∙ get_or-drop count_at before k 0) in
    let entries : part entries_at most after ≡ part entries_at most before
    = ap (take most) (sym (drop-drop 1 count_at after) ∙ ap (drop 1) e ∙ drop-drop 1 count_at before) in
    rw (word 0, word 4, entries)

-- and with them it is there
pub long_behind : (before after : List ℕ) → drop count_at after ≡ drop count_at before → Long before → Long after
long_behind before after e long = omega (arith, length-drop count_at after, length-drop count_at before, ap length e)

-- what every store from there on keeps, a rotation keeps, and a table that is made
module _ (P : List ℕ → Type 0) (keeps : (context : List ℕ) (i v : ℕ) → count_at ≤ i → P context → P (set context i v)) (context : List ℕ) (p : P context) where
  pub rotated_keeps : (k number : ℕ) → P (rotated_at k number context)
  unfolding rotated
  rotated_keeps k number =
      cond_keeps P (ltb k most) (rotated k number context) context
      (λ _. keeps _ greatest_at number (omega arith) (keeps context (entries_at + k) _ (omega arith) p)) (λ _. p)

  pub made_keeps : (handles algorithms : List ℕ) → P (made handles algorithms context)
  unfolding made
  made_keeps handles algorithms =
      keeps _ greatest_at _ (omega arith)
      (keeps _ (entries_at + 2) _ (omega arith)
      (keeps _ (entries_at + 1) _ (omega arith)
      (keeps _ entries_at _ (omega arith)
      (keeps context count_at _ (omega arith) p))))

-- ---- a rotation

module _ (k number : ℕ) (context : List ℕ) (long : Long context) (l : k < most) where
  abbrev entry : ℕ
  entry = entry_of number (algorithm_at (table_of context) k)

  abbrev stored : List ℕ
  stored = set context (entries_at + k) entry

  -- the words
  stored_long : Long stored
  stored_long = store_long context (entries_at + k) entry (omega arith) long

  pub rotated_count : (table_of (rotated_at k number context)).count ≡ (table_of context).count
  rotated_count =
      rw (← rotated_in k number context l, ← count_read (set stored greatest_at number), ← count_read context)
      (get_or-set_other stored greatest_at count_at number 0 (λ e. omega arith) ∙ get_or-set_other context (entries_at + k) count_at entry 0 (λ e. omega arith))

  pub rotated_greatest : (table_of (rotated_at k number context)).greatest ≡ number
  rotated_greatest =
      rw (← rotated_in k number context l, ← greatest_read (set stored greatest_at number)) (get_or-set_same stored greatest_at number 0 (omega (arith, stored_long)))

  -- the entry of its place has the number, with the algorithm that was there; every other stays
  rotated_entry : get_or (table_of (rotated_at k number context)).entries k 0 ≡ entry
  rotated_entry =
      rw (← rotated_in k number context l, ← entry_read (set stored greatest_at number) k l)
      (get_or-set_other stored greatest_at (entries_at + k) number 0 (λ e. omega arith) ∙ get_or-set_same context (entries_at + k) entry 0 (omega arith))

  pub rotated_handle : number < 2 ^ 32 → handle_at (table_of (rotated_at k number context)) k ≡ number
  rotated_handle fits = ap handle_of rotated_entry ∙ entry_handle number (algorithm_at (table_of context) k) fits

  pub rotated_algorithm : number < 2 ^ 32 → algorithm_at (table_of (rotated_at k number context)) k ≡ algorithm_at (table_of context) k
  rotated_algorithm fits = ap algorithm_of rotated_entry ∙ entry_algorithm number (algorithm_at (table_of context) k) fits

  pub rotated_other : (j : ℕ) → j < most → (j ≡ k → ⊥) → get_or (table_of (rotated_at k number context)).entries j 0 ≡ get_or (table_of context).entries j 0
  rotated_other j m o =
      rw (← rotated_in k number context l, ← entry_read (set stored greatest_at number) j m, ← entry_read context j m)
      (get_or-set_other stored greatest_at (entries_at + j) number 0 (λ e. omega arith)
      ∙ get_or-set_other context (entries_at + k) (entries_at + j) entry 0 (λ e. o (omega arith)))
