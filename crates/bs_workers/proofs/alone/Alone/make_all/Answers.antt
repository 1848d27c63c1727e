-- Each act is acceptable after those before it.
use Rattle.std.proofs.Common.{subst}
use Rattle.std.proofs.lemmas.Result.{err_from_is_err_and}
use Rattle.bs_workers.specs.Causes.{IsCause}
use Rattle.bs_workers.proofs.AcceptableActs.{next_of}
use Rattle.bs_workers.proofs.alone.Alone.make_all.Goals as goal

pub returns-in_err-make-clause-cause : goal.returns-in_err-make-clause-cause
returns-in_err-make-clause-cause g c =
    λ calm next.
    let before = c.loop-next.invariant in
    let at = next_of g.row.CAP c.args.self.now.core c.loop-next.self.core c.args.acts.now c.loop-next.next-index c.next-item.result c.loop-next-test.true
    c.next-item.is before.0 next in
    let told = subst (λ gate. IsCause (g.G.Gate.may_refuse gate.now) c.in_err-make.field-0.0) before.2 (c.in_err-make.ensures.cause (before.0.calm calm) at) in
    let exit = err_from_is_err_and c.from_residual.result c.from_residual.ensures.1 in
    rw (exit.1, exit.2) told
