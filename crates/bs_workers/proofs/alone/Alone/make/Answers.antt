-- Once all commands are answered, the stay may leave if the acts are acceptable.
use Rattle.std.specs.Prelude.{IfErr}
use Rattle.std.proofs.Common.{subst}
use Rattle.bs_sched.specs.Journal.{setting_in}
use Rattle.bs_workers.specs.Acceptable.{MayBeMade}
use Rattle.bs_workers.specs.Causes.{IsCause}
use Rattle.bs_workers.proofs.AcceptableActs.{next_still}
use Rattle.bs_workers.proofs.RunInOrder.{leave_enabled}
use Rattle.bs_workers.proofs.alone.Alone.make.Goals as goal

pub returns-in_ok-answer_all-in-Leave-clause-cause : goal.returns-in_ok-answer_all-in-Leave-clause-cause
returns-in_ok-answer_all-in-Leave-clause-cause g c =
    λ calm next.
    let old = c.args.self.now.core in
    let core = c.answer_all.new.self.core in
    let all = c.in_ok-answer_all-in-Leave.ensures in
    let may = c.keeps_acceptable-in-Leave.ensures (next_still g.row.CAP old core c.args.next.now all.made next) in
    let leaves = subst (MayBeMade (setting_in g.row.CAP core) core.games.lanes) c.in-Leave.is may in
    let enabled = leave_enabled g.row.CAP core c.args.self.now.worker c.in-Leave.stay (all.made.calm calm) all.none leaves in
    subst (λ gate. IfErr c.leave.result (IsCause (g.G.Gate.may_refuse gate.now))) all.gate (c.leave.ensures.cause enabled)
