-- All acts are made from the core as it was opened, and no command waits.
use Rattle.std.proofs.lemmas.Result.{err_from_is_err_and}
use Rattle.bs_pool.specs.Ledger.{size}
use Rattle.bs_workers.proofs.RunInOrder.{calm_opened, next_opened, run_done}
use Rattle.bs_workers.proofs.alone.run_in_order.Goals as goal

pub returns-clause-run : goal.returns-clause-run
returns-clause-run g c =
    let core = c.args.core in
    run_done g.row.CAP (size core.games.storage.pool) core.games.workers core.games.rows c.args.acts.now core c.make_all.new.self.core _ c.requires
    c.in_ok-make_all.ensures.made c.in_ok-make_all.ensures.none c.keeps_apart.ensures

pub returns-in_err-make_all-clause-cause : goal.returns-in_err-make_all-clause-cause
returns-in_err-make_all-clause-cause g c =
    λ acceptable.
    let core = c.args.core in
    let calm = calm_opened g.row.CAP (size core.games.storage.pool) core.games.workers core.games.rows core c.requires in
    let next = next_opened g.row.CAP (size core.games.storage.pool) core.games.workers core.games.rows c.args.acts.now core c.requires acceptable in
    let told = c.in_err-make_all.ensures.cause calm next in
    let exit = err_from_is_err_and c.from_residual.result c.from_residual.ensures.1 in
    rw (exit.1, exit.2) told
