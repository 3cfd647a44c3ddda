-- Document 01, "Direct commands" and demand 2: what no answer shows, and when a key is loaded. Assumes nothing.
-- The definitions stand in specs/Secrets.antt.
use Rattle.std.specs.Prelude.{ℕ, ◌-◌, ◌≤◌, ◌≡◌, Bool, Ok}
use Rattle.std.proofs.Common.{◌∙◌, ⊎_elim, arith}
use Rattle.std.proofs.Math.Bool.{true, false}
use Rattle.std.proofs.lemmas.Bool.{false≢true}
use borrow.Author.Tests.{ltb-false}
use Rattle.laws.specs.Tests.{decided, cond_keeps}
use Rattle.map.specs.declared.Entry.{Entry}
use Rattle.map.specs.Map.{secret, older_guide}
use Rattle.fuse.specs.Fuse.{ones_of, short, all_ones}
use Rattle.fuse.proofs.Burn.{ones_all}
use Rattle.direct.specs.declared.Command.TheVariants.{Zeroize}
use Rattle.direct.specs.declared.Answer.{Answer}
use Rattle.direct.specs.declared.Answer.TheVariants.{Word as Shown, Withheld}
use Rattle.direct.specs.Direct.{told_word, answer_of}
use Rattle.history.specs.Secrets.{shows, shown_word, zeros_of}

-- ---- WRITE and ZEROIZE

-- a pair of a secret partition that is shown has few zeros as it stands, and on the older guide, which shows all ones, none
pub shown_least : (x : Entry) (wide : Bool) (bound word new : ℕ) → secret x ≡ true → wide ≡ true → (answer : Answer) → answer ≡ answer_of (Zeroize 0) x wide bound word new
    → shows (Ok answer) ≡ true → zeros_of (shown_word (Ok answer)) ≤ 64 - bound
shown_least x wide bound word new s w answer e y =
    ⊎_elim
    (λ (t : short bound word ≡ true). let q : answer ≡ Withheld = e ∙ rw (s, t) in absurd (false≢true (rw q at y)))
    (λ (t : short bound word ≡ false).
    let q : answer ≡ Shown (told_word x true word) = e ∙ rw (s, t, w) in
    let enough : bound ≤ ones_of word = ltb-false (ones_of word) bound t in
    let none : zeros_of all_ones ≤ 64 - bound = rw ones_all (omega arith) in
    let few : 64 - ones_of word ≤ 64 - bound = omega arith in
    rw q (cond_keeps (λ (shown : ℕ). zeros_of shown ≤ 64 - bound) (older_guide x) all_ones word (λ _. none) (λ _. few)))
    (decided (short bound word))
