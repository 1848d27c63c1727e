-- A newly opened core has no event.
use Rattle.std.proofs.Common.{arith}
use Rattle.bs_pool.specs.Ledger.{size}
use Rattle.bs_sched.proofs.Idle.{newly_opened}
use Rattle.bs_sched.proofs.cores.Core.open_in.Goals as goal

pub of_games-requires : goal.of_games-requires
of_games-requires g c =
    let new = newly_opened g.row.CAP (size c.args.pool) c.args.workers c.args.rows c.in_ok-games.games c.new.result.events c.requires.wide c.as_slice-rows.ensures.fits
    c.requires.room c.in_ok-games.ensures c.new.ensures.events in
    (omega arith, (omega arith, (new.its_journal, (c.new.ensures.room, new.idle))))
