-- One more read: what it brought into the part behind what was read stands behind that; and a number that is not below 0. Assumes nothing.
use Rattle.std.specs.Prelude.{ℕ, ◌+◌, ◌≤◌, ◌≡◌, true, false, List, ◌++◌, length, take, Option, ℤ, pos, negsuc, T}
use Rattle.std.proofs.Common.{sym, subst, ap, ◌∙◌, length-take-le}
use Rattle.std.proofs.Math.Seq.{take-append-add}
use Rattle.std.proofs.lemmas.Bool.{false≢true}
use Rattle.std.proofs.lemmas.List.{take-append-le}
use Rattle.std.proofs.KnownBytes.{Consumes-trans}
use Rattle.std.specs.Io.KnownBytes.{Consumes}
use Rattle.std.specs.Int.Signed.{lt_z, non_neg}
use borrow.Rule.Slice.PartMut.{put_mid, post_of}

behind : (done room more : ℕ) (buffer part : List ℕ) → done ≤ length buffer → more ≤ length part
    → take (done + more) (put_mid done room buffer part) ≡ take done buffer ++ take more part
behind done room more buffer part h l =
    ap (λ (n : ℕ). take (n + more) (put_mid done room buffer part)) (sym (length-take-le done buffer h))
    ∙ take-append-add (take done buffer) (part ++ post_of done room buffer) more
    ∙ ap (λ (t : List ℕ). take done buffer ++ t) (take-append-le more part (post_of done room buffer) l)

pub read_on : (a b c : Option (List ℕ)) (done room more : ℕ) (buffer part : List ℕ) → done ≤ length buffer → more ≤ length part
    → Consumes a b (take done buffer) → Consumes b c (take more part) → Consumes a c (take (done + more) (put_mid done room buffer part))
read_on a b c done room more buffer part h l p q = subst (Consumes a c) (sym (behind done room more buffer part h l)) (Consumes-trans a b c _ _ p q)

pub not_negative : (z : ℤ) → lt_z z (pos 0) ≡ false → T (non_neg z)
not_negative (pos k) e = tt
not_negative (negsuc k) e = absurd (false≢true (sym e))
