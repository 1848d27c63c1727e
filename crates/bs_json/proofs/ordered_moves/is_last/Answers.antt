use Rattle.std.proofs.Common.{◌∙◌, [], rules, sym, ap}
use Rattle.std.specs.Ordering.{is_lt}
use Rattle.bs_board.specs.declared.boards.point.Direction.TheVariants.{Up}
use Rattle.bs_json.proofs.OrderedMoves.{last_below}
use Rattle.bs_json.proofs.ordered_moves.is_last.Goals as goal

pub returns : goal.returns
returns c = λ is.
    last_below c.args.entries.now c.args.id.now (record { ref_ptr = (0, 0); now = [] }, Up) (search rules)
    (ap is_lt (sym c.cmp.ensures) ∙ sym c.is_lt.ensures ∙ is)
