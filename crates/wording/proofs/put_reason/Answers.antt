-- `wording::put_reason` meets its contract: a torn slot has a pair, another reason none. Assumes nothing.
use Prim.Native.Nat.{ℕ}
use mathlib.Core.Path.{◌≡◌, refl, ap}
use mathlib.Core.List.{[]}
use native.Mathlib.Omega.{arith}
use Rattle.laws.specs.Put.{then, nothing}
use Rattle.reason.specs.declared.Reason.{Reason}
use Rattle.reason.specs.declared.Reason.TheVariants.{Available, NoSlot, AllErased, Blank, Torn}
use Rattle.wording.specs.Wording.{pair_words, pair_part}
use Rattle.wording.proofs.put_reason.Goals as goal

-- the variants of the other reasons, and that none of them has a pair
no_pair : (bound : ℕ) (reason : Reason) → ((i cell ones : ℕ) → reason ≡ Torn i cell ones → ⊥) → pair_part bound reason ≡ []
no_pair bound Available k = refl
no_pair bound NoSlot k = refl
no_pair bound AllErased k = refl
no_pair bound (Blank i) k = refl
no_pair bound (Torn i cell ones) k = absurd (k i cell ones refl)

-- and a torn slot has the one that its variant holds
a_pair : (bound : ℕ) {reason : Reason} {i cell ones : ℕ} → reason ≡ Torn i cell ones → pair_part bound reason ≡ pair_words bound cell ones
a_pair bound e = ap (pair_part bound) e

pub returns-in_default : goal.returns-in_default
returns-in_default c =
    let wrote = c.put_words-at.ensures in
    rw (no_pair c.args.bound c.args.reason c.in_default.not-Torn)
    (then (then wrote.0 (nothing _ _ (omega (arith, wrote.0.same, wrote.1, c.requires.0)))) c.put.ensures)

pub returns : goal.returns
returns c =
    let wrote = then (then c.put_words-at.ensures.0 c.put_pair-at.ensures.0) c.put-2.ensures in
    rw (a_pair c.args.bound c.in-Torn.is) wrote
