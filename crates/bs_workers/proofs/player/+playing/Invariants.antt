-- Each call has one thread less to start.
use Rattle.std.proofs.Common.{◌+◌, ◌-◌, ◌*◌}
use Rattle.bs_workers.proofs.player.+playing.Given as goal

abbrev pub decreases-Player::run_threads : goal.decreases-Player::run_threads
decreases-Player::run_threads g l = 2 * (l.end - l.thread)

abbrev pub decreases-others : goal.decreases-others
decreases-others g l = 2 * (l.end - l.next) + 1
