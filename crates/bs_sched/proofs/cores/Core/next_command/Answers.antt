-- With no ready job in any stay, no command waits.
use Rattle.bs_sched.specs.Machine.{lane_of}
use Rattle.bs_sched.proofs.HereLanes.{none_waits}
use Rattle.bs_sched.proofs.cores.Core.next_command.Goals as goal

pub returns-in-Nothing : goal.returns-in-Nothing
returns-in-Nothing g c runs free idle game within = none_waits (lane_of c.args.self.now.games.lanes game) (idle game within) (c.in-Nothing.ensures.1 game within)
