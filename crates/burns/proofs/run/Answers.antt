-- `burns::run` meets its contract: the indicator's burn, then each turn a word of the data, and the last burn; what is left of the run is the
-- loop's invariant. Assumes nothing.
use Prim.Native.Nat.{ℕ, ◌+◌, ◌^◌, ◌≤◌, ◌<◌}
use mathlib.Core.Path.{◌≡◌, sym, ◌∙◌}
use mathlib.Core.List.{List}
use native.Mathlib.Omega.{arith}
use lib.ListN.{length}
use Rattle.fuse.proofs.Charge.{new_most}
use Rattle.burns.specs.Run.{order, tally_of}
use Rattle.burns.specs.Turns.{Running}
use Rattle.burns.proofs.Turns.{first_cut, first_stops, first_goes, data_goes, last_turn, order_fewer, order_two, data_within}
use Rattle.burns.proofs.run.Goals as goal
use Rattle.burns.proofs.run.Goals.{At-loop-j, In-loop-j}

pub returns-then-k-eq0 : goal.returns-then-k-eq0
returns-then-k-eq0 c =
    let burn = c.burn_word-new.ensures in
    (first_cut _ _ _ _ c.args.cells.now c.value_of.ensures burn.0 burn.1 c.if-k-eq0.true, omega (arith, c.requires.0))

pub returns-then-not-goes_on : goal.returns-then-not-goes_on
returns-then-not-goes_on c =
    let burn = c.burn_word-new.ensures in
    let off = sym c.goes_on.ensures ∙ c.if-not-goes_on.true in
    (first_stops _ _ _ _ c.args.cells.now c.value_of.ensures burn.0 burn.1 c.if-k-eq0.false off, omega (arith, c.requires.0))

-- in a turn the next burn is one of the data's, and not the one that is cut
module _ (c : At-loop-j) where
  abbrev last : ℕ
  last = c.last_burn-last.result

  abbrev burns_of : ℕ
  burns_of = length (order c.args.software (length c.args.cells.now))

  few : burns_of < 2048
  few = omega (arith, order_fewer c.args.software (length c.args.cells.now) c.requires.0, c.requires.2)

  last_some : 1 ≤ last
  last_some = omega (arith, c.last_burn-last.ensures, order_two c.args.software (length c.args.cells.now), c.if-k-eq0.false)

  last_few : last < burns_of
  last_few = omega (arith, c.last_burn-last.ensures, order_two c.args.software (length c.args.cells.now))

  goes : Running c.args.marks.now c.args.software c.args.k c.args.mask c.args.cells.now
      (tally_of c.burn_word-new.new.cells 1 c.burn_word-new.result)
  goes =
      let burn = c.burn_word-new.ensures in
      let on = sym c.goes_on.ensures ∙ c.if-not-goes_on.false in
      first_goes c.args.marks.now c.args.software c.args.k c.args.mask c.args.cells.now
      c.value_of.ensures burn.0 burn.1 c.if-k-eq0.false on

  going : Running c.args.marks.now c.args.software c.args.k c.args.mask c.args.cells.now
      (tally_of c.loop-j.cells c.loop-j.j c.loop-j.new)
  going = c.loop-j.invariant c.args.cells.now goes

  going_at : {n : ℕ} → c.loop-j.j ≡ n → Running c.args.marks.now c.args.software c.args.k c.args.mask c.args.cells.now
      (tally_of c.loop-j.cells n c.loop-j.new)
  going_at e = rw (← e) going

  all_few : last + 1 ≤ length c.args.cells.now
  all_few = omega (arith, last_few, order_fewer c.args.software (length c.args.cells.now) c.requires.0)

  new_fits : {more : ℕ} → more ≤ 64 → c.loop-j.new + more < 2 ^ 32
  new_fits l = omega (arith, going.new_most, c.loop-j.auto.j-end last_some, last_few, few)

data_left : (c : In-loop-j) → let a = c.args in c.loop-j.j + 1 < length (order a.software (length a.cells.now))
data_left c =
    let a = c.args in
    omega (arith, c.loop-j-test.true, c.last_burn-last.ensures, order_two a.software (length a.cells.now))

pub place_of-at-requires : goal.place_of-at-requires
place_of-at-requires c = (c.loop-j.auto.j, omega (arith, c.loop-j-test.true, last_few (goal.at.place_of-at-requires c).At-loop-j, few (goal.at.place_of-at-requires c).At-loop-j))

pub burn_word-new-requires-in-loop-j : goal.burn_word-new-requires-in-loop-j
burn_word-new-requires-in-loop-j c =
    let a = c.args in
    let within = data_within a.software (length a.cells.now) c.loop-j.j c.requires.1 c.loop-j.auto.j (data_left (goal.at.burn_word-new-requires-in-loop-j c).In-loop-j) in
    rw c.place_of-at.ensures (rw (going (goal.at.burn_word-new-requires-in-loop-j c).At-loop-j).len within, rw c.requires.3 within)

pub overflow_add-new : goal.overflow_add-new
overflow_add-new c = record { fits = new_fits (goal.at.overflow_add-new c).At-loop-j (new_most _ _ _ _ _ c.burn_word-new-in-loop-j.ensures.1) }

pub loop-j-preserved : goal.loop-j-preserved
loop-j-preserved c =
    let burn = c.burn_word-new-in-loop-j.ensures in
    let under : c.loop-j.j < c.args.k = omega (arith, c.loop-j-test.true, c.last_burn-last.ensures) in
    let same : (s : List ℕ) → Running _ _ _ _ s _ → length s ≡ length c.args.cells.now = λ s h. sym (c.loop-j.invariant s h).len ∙ (going (goal.at.loop-j-preserved c).At-loop-j).len in
    λ s h. data_goes _ _ _ _ s (c.loop-j.invariant s h) c.loop-j.auto.j (rw (same s h) (data_left (goal.at.loop-j-preserved c).In-loop-j)) under c.place_of-at.ensures burn.0 burn.1

pub word_at-word-requires : goal.word_at-word-requires
word_at-word-requires c =
    (c.requires.0, c.requires.1, c.requires.2, last_some (goal.at.word_at-word-requires c).At-loop-j, last_few (goal.at.word_at-word-requires c).At-loop-j)

pub overflow_add-new-2 : goal.overflow_add-new-2
overflow_add-new-2 c = record { fits = new_fits (goal.at.overflow_add-new-2 c).At-loop-j (new_most _ _ _ _ _ c.burn_word-new-2.ensures.1) }

pub overflow_add-result : goal.overflow_add-result
overflow_add-result c = omega (arith, last_few (goal.at.overflow_add-result c).At-loop-j, few (goal.at.overflow_add-result c).At-loop-j)

pub returns : goal.returns
returns c =
    let at = (goal.at.returns c).At-loop-j in
    let burn = c.burn_word-new-2.ensures in
    let gone : c.loop-j.j ≡ last at = omega (arith, c.loop-j-test.false, c.loop-j.auto.j-end (last_some at)) in
    let all : (last at ≡ c.args.k → ⊥) → burns_of at ≤ last at + 1 = λ uncut. omega (arith, uncut, c.last_burn-last.ensures) in
    rw c.end_of.ensures
    (last_turn _ _ _ _ _ (going_at at gone) (last_some at) (last_few at) c.word_at-word.ensures.0 all c.value_of-2.ensures burn.0 burn.1, all_few at)
