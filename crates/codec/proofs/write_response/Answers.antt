-- `codec::write_response` meets its contract: the fields after chksum, then chksum. Assumes nothing.
use Rattle.std.proofs.Common.{ℕ, List, ap, ◌∙◌, sym, arith, length, take}
use Rattle.laws.specs.Put.{then, retext}
use Rattle.codec.specs.Fields.{written, answered}
use Rattle.codec.proofs.Laws.{responded, seven}
use Rattle.codec.proofs.write_response.Goals as goal

pub returns : goal.returns
returns c =
    let a = c.args in
    let begun = then c.put_u32-reserved.ensures c.put_u32-at.ensures in
    responded a.command a.numbers
    (then begun (retext (ap (λ (n : ℕ). written (take n a.numbers)) c.number_count-count.ensures ∙ ap (λ (l : List ℕ). written (take (length (answered a.command a.numbers)) l)) (sym (seven a.numbers (omega arith)))) c.put_numbers-end.ensures))
    c.close.ensures
