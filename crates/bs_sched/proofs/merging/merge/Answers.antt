-- Each row still has a journal once the acts are taken.
use Rattle.std.proofs.Common.{length, ap, ◌∙◌, arith}
use Rattle.bs_sched.proofs.Merged.{many_left}
use Rattle.bs_sched.proofs.merging.merge.Goals as goal

pub move_all_jobs-requires : goal.move_all_jobs-requires
move_all_jobs-requires c =
    let same = ap length c.in_ok-move_steps.ensures.lefts ∙ many_left c.args.order.now c.args.lefts.items in
    let few = c.requires in
    omega (arith, same, few)
