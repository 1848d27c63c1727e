use Rattle.std.proofs.Common.{◌≡◌, ◌+◌, ◌*◌, ◌∙◌, ap, arith, count_by}
use Rattle.bs_batch.specs.inner.FreeCells.{is_zero}
use Rattle.bs_batch.proofs.FreeRows.{lane_row}
use Rattle.bs_batch.proofs.food.free_in.Goals as goal

pub returns-in-Some-clause-count : goal.returns-in-Some-clause-count
returns-in-Some-clause-count c byte has high =
    let s = c.args.settings.now in
    let start = ap (λ n. (c.args.row + 1) * n + 1) c.from.ensures in
    let width : c.from-width.result ≡ s.width = omega (arith, c.from-width.ensures, c.min.ensures, has.narrow) in
    c.zeros_in.ensures.count
    ∙ ap (count_by is_zero) (lane_row byte s.width s.height c.args.plane.now c.args.row c.in-Some.lanes.now _ c.from-width.result has high start width c.in-Some.ensures.lookup.0.2)
