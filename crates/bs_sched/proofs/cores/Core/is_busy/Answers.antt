-- With no job out no stay occupies the worker.
use Rattle.std.proofs.Common.{◌≡◌, false, sym, ap, subst, ◌∙◌, arith}
use Rattle.std.specs.Prelude.{nat_lt}
use Rattle.bs_sched.specs.Core.{CoreView}
use Rattle.bs_sched.specs.Machine.{is_busy}
use Rattle.bs_sched.proofs.JobsOut.{nobody_busy}
use Rattle.bs_sched.proofs.cores.Core.is_busy.Goals as goal

pub returns-else-self-gt0 : goal.returns-else-self-gt0
returns-else-self-gt0 g c =
    let inside = c.self.inside in
    let counted = c.self.invariant.out in
    let none = c.if-self-gt0.false in
    let nobody = nobody_busy c.args.worker inside.games.lanes (omega (arith, counted, none)) in
    let zero : inside.out ≡ 0 = omega (arith, none) in
    ap (nat_lt 0) zero ∙ sym (subst (λ (v : CoreView). is_busy c.args.worker v.games.lanes ≡ false) c.self.view_is nobody)
