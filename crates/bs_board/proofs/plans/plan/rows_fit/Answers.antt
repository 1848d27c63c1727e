use Rattle.std.proofs.Common.{◌≡◌, true, arith}
use Rattle.bs_board.specs.plans.Plan.{is_fit_row}
use Rattle.bs_board.proofs.Seen.{all_and_next, all_seen}
use Rattle.bs_board.proofs.plans.plan.rows_fit.Goals as goal

pub loop-row-preserved : goal.loop-row-preserved
loop-row-preserved c =
    all_and_next (λ row. is_fit_row row ≡ true) c.args.rows.now c.loop-row.row-index c.row-item.result c.loop-row-test.true c.row-item.is c.loop-row.invariant c.row_fits.ensures

pub returns : goal.returns
returns c = all_seen (λ row. is_fit_row row ≡ true) c.args.rows.now c.loop-row.row-index (omega (arith, c.loop-row-test.false)) c.loop-row.invariant
