use Rattle.std.proofs.Common.{ℕ, ◌≤◌, arith, count_by, length-take, subst, sym, take}
use Rattle.std.proofs.lemmas.List.Sums.{count_by-le-length}
use Rattle.bs_batch.specs.inner.FreeCells.{is_zero}
use Rattle.bs_batch.proofs.Lanes.{lane_zeros}
use Rattle.bs_batch.proofs.food.zeros_in.Goals as goal

pub returns-clause-few : goal.returns-clause-few
returns-clause-few c =
    let first = take c.args.width c.args.lanes.now in
    let few : count_by is_zero first ≤ 25 = omega (arith, count_by-le-length is_zero first, length-take c.args.width c.args.lanes.now, c.requires.narrow) in
    subst (λ (n : ℕ). n ≤ 25) (sym (lane_zeros c.args.lanes.now c.args.width c.requires.whole c.requires.narrow)) few

pub returns-clause-count : goal.returns-clause-count
returns-clause-count c = lane_zeros c.args.lanes.now c.args.width c.requires.whole c.requires.narrow
