-- What private contracts add to specs/plans/Plan.
use Rattle.bs_board.specs.declared.plans.row.Row.TheInside.{Inside}
use Rattle.bs_board.specs.plans.Plan.{GameRow, row_of}

abbrev pub row_in : Inside → GameRow
row_in r = row_of r.game r.quota
