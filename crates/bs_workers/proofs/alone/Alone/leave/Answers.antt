-- The leave is the act.
use Rattle.bs_workers.specs.declared.act.Act.TheVariants as act
use Rattle.bs_workers.proofs.MadeActs.{makes_event}
use Rattle.bs_workers.proofs.alone.Alone.leave.Goals as goal

pub returns-in-Ok-clause-made : goal.returns-in-Ok-clause-made
returns-in-Ok-clause-made g c = makes_event g.row.CAP c.args.self.now.core c.leave.new.self (act.Leave c.args.stay) c.in-Ok.ensures.1
