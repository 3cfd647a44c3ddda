-- `engine::write_block` meets its contract: by the steps that build the block. Assumes nothing.
use Rattle.std.proofs.Common.{◌≡◌, ◌∙◌, [], ap, arith, append-nil, drop, drop_of_length-le, length, refl, sym}
use Rattle.std.proofs.Math.Seq.{take-length}
use Rattle.engine.specs.Laws.{block_is}
use Rattle.engine.proofs.write_block.Goals as goal

pub returns : goal.returns
returns c =
    let a = c.args in
    let built = c.put_u32.new.out in
    let whole = c.copy_from_slice-2.ensures in
    let long : length built ≡ length a.block.now = sym (ap length whole.after) ∙ whole.len in
    let none : drop (length built) a.block.now ≡ [] = drop_of_length-le a.block.now {i = length built} (omega arith) in
    block_is a.mek.now a.tag a.block.now c.requires.1 (rw (c.copy_from_slice.ensures.after, take-length a.mek.now) refl) c.put_u32-at.ensures c.put_u32.ensures c.requires.0
    (whole.after ∙ rw (none, append-nil, take-length built))
