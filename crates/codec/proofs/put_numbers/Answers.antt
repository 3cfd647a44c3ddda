-- `codec::put_numbers` meets its contract: the loop's invariant: the numbers so far are written. Assumes nothing.
use Rattle.std.proofs.Common.{◌≡◌, ◌+◌, arith, min, rules, tests}
use Rattle.codec.proofs.Laws.{written_most, written_more}
use Rattle.codec.proofs.put_numbers.Goals as goal
use Rattle.codec.proofs.put_numbers.Goals.{then-k-count, else-k-count}

pub put_u32-end-requires : goal.put_u32-end-requires
put_u32-end-requires c =
    let done = c.loop-k.invariant in
    let all : min c.loop-k.k c.args.count ≡ c.loop-k.k = omega (arith, c.if-k-count.true) in
    omega (arith, done.is_next, done.same, written_most c.args.numbers (min c.loop-k.k c.args.count), all, c.if-k-count.true, c.requires)

pub loop-k-preserved : goal.loop-k-preserved
loop-k-preserved c =
    elim c.if-k-count.branch [
      | then-k-count w ↦
          (let all : min c.loop-k.k c.args.count ≡ c.loop-k.k = omega (arith, w.if-k-count.true) in
          let next : min (c.loop-k.k + 1) c.args.count ≡ c.loop-k.k + 1 = omega (arith, w.if-k-count.true) in
          rw (w.out-is, w.end-is, next)
          (written_more c.args.numbers c.loop-k.k (omega (arith, c.loop-k-test.true)) (rw all at c.loop-k.invariant) w.put_u32-end.ensures (search (rules, tests))))
      | else-k-count w ↦
          (let same : min (c.loop-k.k + 1) c.args.count ≡ min c.loop-k.k c.args.count = omega (arith, w.if-k-count.false) in
          rw (w.out-is, w.end-is, same) c.loop-k.invariant)
    ]
