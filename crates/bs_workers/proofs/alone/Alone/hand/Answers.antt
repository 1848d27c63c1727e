-- The command that is queued is the act.
use Rattle.bs_workers.specs.declared.act.Act.TheVariants as act
use Rattle.bs_workers.proofs.MadeActs.{makes_event}
use Rattle.bs_workers.proofs.alone.Alone.hand.Goals as goal

pub returns-clause-made : goal.returns-clause-made
returns-clause-made g c =
    makes_event g.row.CAP c.args.self.now.core c.hand.new.self (act.Hand c.args.stay c.args.command) c.in_ok-hand.ensures.ok
