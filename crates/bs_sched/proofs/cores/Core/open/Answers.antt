-- A newly opened core has no event.
use Rattle.std.proofs.Common.{arith}
use Rattle.bs_sched.proofs.Idle.{newly_opened}
use Rattle.bs_sched.proofs.cores.Core.open.Goals as goal

pub of_games-requires : goal.of_games-requires
of_games-requires g c =
    let new = newly_opened g.row.CAP c.args.blocks c.args.workers c.args.plan.rows c.in_ok-games.games c.new.result.events c.requires.wide c.open.ensures.plan
    c.in_ok-games.ensures.room c.in_ok-games.ensures.games c.new.ensures.events in
    (omega arith, (omega arith, (new.its_journal, (c.new.ensures.room, new.idle))))
