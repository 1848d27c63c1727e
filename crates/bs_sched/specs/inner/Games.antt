-- What private contracts add to specs/Games.
use Rattle.std.specs.Prelude.{ℕ, slice_set}
use Rattle.bs_fiber.specs.declared.job.JobName.{JobName}
use Rattle.bs_sched.specs.Lane.{with_put}
use Rattle.bs_sched.specs.Machine.{lane_of}
use Rattle.bs_sched.specs.Games.{GamesView, put_storage}

-- the games after a job was completed, by whatever worker
abbrev pub games_completed : ℕ → GamesView → JobName → GamesView
games_completed cap games job =
    record games {
      lanes = slice_set games.lanes job.game (with_put job.kind job.part (lane_of games.lanes job.game));
      storage = put_storage cap job (lane_of games.lanes job.game) games.storage;
    }
