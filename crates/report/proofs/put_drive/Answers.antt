-- `report::put_drive` meets its contract: a good map has at most 2,048 cells, and as many are read. Assumes nothing.
use Prim.Native.Nat.{ℕ}
use mathlib.Core.Path.{◌≡◌, ap, ◌∙◌}
use native.Mathlib.Omega.{arith}
use lib.ListN.{length, length-take, length-replicate}
use Rattle.laws.specs.Below.{join_below}
use Rattle.laws.specs.Put.{retext}
use Rattle.map.specs.Map.{header_of}
use Rattle.report.specs.Status.{number_at}
use Rattle.report.specs.Report.{output_of}
use Rattle.report.proofs.Laws.{counts}
use Rattle.report.proofs.put_drive.Goals as goal

pub slice_bounds-numbers-end : goal.slice_bounds-numbers-end
slice_bounds-numbers-end c = (counts _ c.requires.0 c.read_header-count.ensures).3

pub slice_bounds-cells-end : goal.slice_bounds-cells-end
slice_bounds-cells-end c =
    let p = counts _ c.requires.0 c.read_header-count.ensures in
    simp (length-take, length-replicate) (omega arith)

pub invariant_of-put_output : goal.invariant_of-put_output
invariant_of-put_output c =
    let p = counts _ c.requires.0 c.read_header-count.ensures in
    let long : length c.read_cells.new.cells ≡ c.read_header-count.result.cells =
    c.read_cells.auto.cells ∙ simp (length-take, length-replicate) (omega arith) in
    record { whole = record { good = c.requires.0; long = omega arith } }

pub returns : goal.returns
returns c =
    let p = counts _ c.requires.0 c.read_header-count.ensures in
    let long : length c.read_cells.new.cells ≡ c.read_header-count.result.cells =
    c.read_cells.auto.cells ∙ simp (length-take, length-replicate) (omega arith) in
    let read : c.read_cells.new.cells ≡ join_below (number_at c.args.arrays.now 0) (header_of c.args.image.now).cells =
    c.read_cells.ensures ∙ ap (λ (n : ℕ). join_below (number_at c.args.arrays.now 0) n) (long ∙ p.2) in
    retext (ap (output_of c.args.view c.args.image.now) read) c.put_output.ensures
