use Rattle.std.proofs.Common.{◌+◌, arith}
use Rattle.bs_json.proofs.LineBounds.{final_bound, final_within}
use Rattle.bs_json.proofs.line_bounds.final_line_bound.Goals as goal

pub returns : goal.returns
returns c =
    let charge = c.charge_bound.ensures in
    final_within c.args.game.now _ c.args.charge c.line_bound.result _ (c.last_bound.result + c.charge_bound.result)
    (final_bound c.args.game.now _ c.args.charge c.last_bound.result charge.bound c.last_bound.ensures.bound) (omega (arith, charge.value)) c.line_bound.ensures
