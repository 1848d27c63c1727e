use Rattle.std.proofs.Common.{◌≡◌, ◌+◌, ◌*◌, ap, arith}
use Rattle.bs_batch.proofs.FreeRows.{row_slice}
use Rattle.bs_batch.proofs.food.row_of.Goals as goal

pub returns-in-Some-clause-cells : goal.returns-in-Some-clause-cells
returns-in-Some-clause-cells c byte has high =
    let s = c.args.settings.now in
    let start = ap (λ n. (c.args.row + 1) * n + 1) c.from.ensures in
    let width : c.from-width.result ≡ s.width = omega (arith, c.from-width.ensures, c.min.ensures, has.narrow) in
    row_slice byte s.width s.height c.args.plane.now c.args.row c.in-Some.cells.now _ c.from-width.result has high start width c.in-Some.ensures.lookup.0.2
