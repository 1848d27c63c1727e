use Rattle.std.proofs.Common.{◌≡◌, ◌++◌, List, drop}
use Rattle.bs_board.specs.plans.Plan.{GameRow}
use Rattle.bs_host.specs.Cut.{nth_from}
use Rattle.bs_host.proofs.cutting.find_stay.Given as goal

-- the result of a search in the remaining rows and any after them is the stay that is looked for
abbrev pub invariant-loop-stay : goal.invariant-loop-stay
invariant-loop-stay l =
    (more : List GameRow) → nth_from l.stay (drop l.stay l.rows ++ more) l.search.name.now l.search.left ≡ nth_from 0 (l.rows ++ more) l.name l.nth
