-- `wording::put_why` meets its contract: the line of the reason that was found. Assumes nothing.
use native.Mathlib.Omega.{arith}
use mathlib.Core.Path.{ap}
use Rattle.laws.specs.Put.{retext}
use Rattle.map.specs.declared.Header.{Header}
use Rattle.map.proofs.Laws.{map_header}
use Rattle.wording.proofs.Laws.{small_reason, why_is}
use Rattle.std.proofs.Common.{rules}
use Rattle.wording.proofs.put_why.Goals as goal

pub put_reason-requires : goal.put_reason-requires
put_reason-requires c =
    let good = c.args.drive.whole.good in
    let bound = ap (λ (h : Header). h.bound) c.read_header-header.ensures in
    (search rules, small_reason _ _ good c.reason_in.ensures, omega (arith, bound, (map_header _ good).bound_most))

pub returns : goal.returns
returns c = retext (why_is _ _ c.read_header-header.ensures c.reason_in.ensures) c.put_reason.ensures
