-- A core without a job in progress.
use Rattle.std.proofs.Common.{sym, ◌+◌, ◌≤◌, arith}
use Rattle.bs_sched.proofs.Idle.{no_job_out}
use Rattle.bs_sched.proofs.cores.Core.of_games.Goals as goal

pub invariant_of-result : goal.invariant_of-result
invariant_of-result g c =
    let games = c.args.games in
    let room : c.args.journal.used + 0 ≤ c.args.journal.room = let fits = c.requires.room in omega (arith, fits) in
    record {
      journal = c.requires.journal;
      out = sym (no_job_out games.lanes c.requires.idle);
      room = room;
    }
