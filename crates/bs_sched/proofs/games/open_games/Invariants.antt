-- The stays that were opened so far, then those still to be opened.
use Rattle.std.proofs.Common.{◌≡◌, ◌++◌, drop}
use Rattle.bs_sched.specs.inner.GamesLayout.{opened_games, opened_games_from}
use Rattle.bs_sched.proofs.games.open_games.Given as goal

abbrev pub invariant-loop-game : goal.invariant-loop-game
invariant-loop-game g l = l.games.items ++ opened_games_from l.game (drop l.game l.rows) ≡ opened_games l.rows
