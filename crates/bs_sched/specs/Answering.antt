-- The events by which a worker answers the next command of a stay by itself.
use Rattle.std.specs.Prelude.{◌≡◌, ℕ, ◌<◌, ◌≤◌, true, false, if◌then◌else◌, List, [], ◌∷◌, ◌++◌, length, map, nat_eq}
use Rattle.std.specs.List.{range_with_len}
use Rattle.bs_game.specs.Game.{last_board}
use Rattle.bs_fiber.specs.declared.job.JobKind.TheVariants as kind
use Rattle.bs_fiber.specs.declared.job.JobName.{JobName}
use Rattle.bs_fiber.specs.Work.{parts_of, snakes_in}
use Rattle.bs_sched.specs.declared.event.Event.{Event}
use Rattle.bs_sched.specs.declared.event.Event.TheVariants as event
use Rattle.bs_sched.specs.Core.{CoreView}
use Rattle.bs_sched.specs.Machine.{is_busy, is_enabled_there, lane_of}
use Rattle.bs_sched.specs.Lane.{Lane, goes_on, is_idle, with_taken}
use Rattle.bs_sched.specs.Parts.{part_job}

abbrev pub begin_job : ℕ → JobName
begin_job game = record { game = game; kind = kind.Begin; part = 0 }

abbrev pub join_job : ℕ → JobName
join_job game = record { game = game; kind = kind.Join; part = 0 }

-- the lane once its next command is begun, by whatever worker
abbrev pub begun : Lane → Lane
begun x = with_taken 0 kind.Begin 0 x

-- the number of the parts of the next command, 0 if it is no move that goes on
abbrev pub next_parts : Lane → ℕ
next_parts x = if goes_on (begun x) then parts_of (length (snakes_in (last_board x.game))) else 0

-- that number; a move that goes on has one to four parts
pub record AreNextParts (x : Lane) (n : ℕ) : Type 0 where
  pub is : n ≡ next_parts x
  pub few : n ≤ 4
  pub some : goes_on (begun x) ≡ true → 0 < n

-- the worker takes the job and completes it
abbrev pub job_events : ℕ → JobName → List Event
job_events worker job = event.Take worker job ∷ event.Put worker job ∷ []

abbrev pub part_takes : ℕ → ℕ → ℕ → List Event
part_takes worker game parts = map (λ p. event.Take worker (part_job game p)) (range_with_len 0 parts)

abbrev pub part_puts : ℕ → ℕ → ℕ → List Event
part_puts worker game parts = map (λ p. event.Put worker (part_job game p)) (range_with_len 0 parts)

-- all parts are taken, then all are completed, then comes the Join
abbrev pub move_events : ℕ → ℕ → ℕ → List Event
move_events worker game parts = part_takes worker game parts ++ (part_puts worker game parts ++ job_events worker (join_job game))

-- The Begin, then the other jobs of a move of that many parts; none follow if it has no part.
abbrev pub answer_events : ℕ → ℕ → ℕ → List Event
answer_events worker game parts = job_events worker (begin_job game) ++ (if nat_eq parts 0 then [] else move_events worker game parts)

-- the worker may begin that command, which has that many parts
pub record CanAnswer (core : CoreView) (worker game parts : ℕ) : Type 0 where
  pub enabled : is_enabled_there core.games.workers core.games.lanes (event.Take worker (begin_job game)) ≡ true
  pub are : AreNextParts (lane_of core.games.lanes game) parts

-- while the core has not failed, the worker is free and each stay is idle, no command waits
abbrev pub HasNoneWaiting : CoreView → ℕ → Type 0
HasNoneWaiting core worker =
    core.games.failed ≡ false → is_busy worker core.games.lanes ≡ false
    → ((game : ℕ) → game < length core.games.lanes → is_idle (lane_of core.games.lanes game).stage ≡ true)
    → (game : ℕ) → game < length core.games.lanes → (lane_of core.games.lanes game).waiting ≡ []
