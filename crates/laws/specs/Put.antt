-- Bytes written into a lent buffer, one piece after the other: text, and the fields of a response. Assumes nothing.
use Rattle.std.specs.Prelude.{ℕ, ◌+◌, ◌-◌, ◌≤◌, ◌≡◌, refl, take, drop}
use Rattle.std.proofs.Common.{ap, subst, ◌∙◌, arith, add-zero, length-take, length-drop, drop_of_length-le, take-append-drop, take_at, take_all}
use mathlib.Core.List.{List, [], ◌++◌, append_assoc, append-nil}
use Rattle.std.proofs.Math.ListN.{length, length-append}
use Rattle.std.proofs.Math.Seq.{drop_at, drop-drop, take-length}

-- the buffer with t in the place of its bytes from `at` on
abbrev pub put_at : (at : ℕ) (t buffer : List ℕ) → List ℕ
put_at at t buffer = take at buffer ++ (t ++ drop (at + length t) buffer)

-- t was written at `at`, where there was room for it, `next` is the place past it, and every other byte is as before
pub record Put (at : ℕ) (t before after : List ℕ) (next : ℕ) : Type 0 where
  pub room : at + length t ≤ length before
  pub same : length after ≡ length before
  pub is_next : next ≡ at + length t
  pub bytes : after ≡ put_at at t before

put_length : (at : ℕ) (t before : List ℕ) → at + length t ≤ length before → length (put_at at t before) ≡ length before
put_length at t before h = simp (length-append, length-take, length-drop) (omega arith)

-- t in its place
pub put_is : (at : ℕ) (t before : List ℕ) {after : List ℕ} → at + length t ≤ length before → after ≡ take at before ++ t ++ drop (at + length t) before
    → Put at t before after (at + length t)
put_is at t before h e =
    let bytes = e ∙ append_assoc (take at before) t (drop (at + length t) before) in
    record { room = h; same = ap length bytes ∙ put_length at t before h; is_next = refl; bytes = bytes }

-- two pieces, one after the other, are one piece
module _ (at : ℕ) (t u before : List ℕ) (h : at + length t ≤ length before) where
  front : length (take at before ++ t) ≡ at + length t
  front = simp (length-append, length-take) (omega arith)

  behind : List ℕ
  behind = drop (at + length t) before

  kept : take (at + length t) (put_at at t before) ≡ take at before ++ t
  unfolding behind
  kept = rw (← append_assoc (take at before) t behind) (take_at (take at before ++ t) behind _ front)

  left : drop (at + length t + length u) (put_at at t before) ≡ drop (at + length (t ++ u)) before
  unfolding behind
  left =
      let sum : at + length t + length u ≡ at + length (t ++ u) = simp length-append (omega arith) in
      rw (← append_assoc (take at before) t behind, ← drop-drop (length u) (at + length t) (take at before ++ t ++ behind), drop_at (take at before ++ t) behind _ front, drop-drop, sum)

  put_twice : put_at (at + length t) u (put_at at t before) ≡ put_at at (t ++ u) before
  put_twice = rw (kept, left, append_assoc, append_assoc)

pub then : {at next last : ℕ} {t u before middle after : List ℕ} → Put at t before middle next → Put next u middle after last → Put at (t ++ u) before after last
then {at = at} {t = t} {u = u} {before = before} p q =
    record {
      room = simp length-append (omega arith);
      same = q.same ∙ p.same;
      is_next = simp length-append (omega arith);
      bytes = q.bytes ∙ rw (p.bytes, p.is_next) (put_twice at t u before p.room);
    }

-- a copy of all of t into the part of the buffer from `at` on
pub copied : (at : ℕ) (t out part : List ℕ) (r : ℕ) → at + length t ≤ length out → r ≡ length t → part ≡ take (length t) t ++ drop (length t) (take (length out - at) (drop at out))
    → Put at t out (take at out ++ (part ++ drop (length out - at) (drop at out))) (at + r)
copied at t out part r h n e =
    let all : take (length out - at) (drop at out) ≡ drop at out = take_all (length out - at) (drop at out) (simp length-drop (omega arith)) in
    let rest : drop (length out - at) (drop at out) ≡ [] = drop_of_length-le (drop at out) {i = length out - at} (simp length-drop (omega arith)) in
    let bytes : take at out ++ (part ++ drop (length out - at) (drop at out)) ≡ put_at at t out = rw (e, rest, append-nil, all, take-length, drop-drop) in
    record { room = h; same = ap length bytes ∙ put_length at t out h; is_next = omega arith; bytes = bytes }

-- nothing is written
pub nothing : (at : ℕ) (before : List ℕ) → at ≤ length before → Put at [] before before at
nothing at before h = record {
  room = omega arith;
  same = refl;
  is_next = omega arith;
  bytes = rw (add-zero, take-append-drop);
}

-- the same bytes under another name
pub retext : {at next : ℕ} {t u before after : List ℕ} → t ≡ u → Put at t before after next → Put at u before after next
retext {at} {next} {t} {u} {before} {after} e p = subst (λ (x : List ℕ). Put at x before after next) e p
