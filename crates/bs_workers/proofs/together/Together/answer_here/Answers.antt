-- The command's jobs make no act.
use Rattle.bs_workers.proofs.GoneOn.{goes_on_here}
use Rattle.bs_workers.proofs.together.Together.answer_here.Goals as goal

pub returns-in-Ok-clause-made : goal.returns-in-Ok-clause-made
returns-in-Ok-clause-made g c = goes_on_here c.args.self.now.alone.core c.answer.new.self.core c.in-Ok.ensures.made
