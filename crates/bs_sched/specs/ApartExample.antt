-- Two games that ran apart, each of which played a turn: the assembly law says something.
use Rattle.std.specs.Prelude.{◌≡◌, ℕ, ◌<◌, true, List, [], ◌∷◌, fold, map, nat_le, All}
use Rattle.bs_board.specs.declared.boards.board.Board.{Board}
use Rattle.bs_board.specs.declared.commands.command.Command.TheVariants as command
use Rattle.bs_board.specs.commands.Orders.{orders_of}
use Rattle.bs_board.specs.plans.Plan.{GameRow}
use Rattle.bs_fiber.specs.declared.job.JobKind.TheVariants as kind
use Rattle.bs_registry.specs.Blocks.{blocks_of}
use Rattle.bs_sched.specs.declared.event.Event.{Event}
use Rattle.bs_sched.specs.declared.event.Event.TheVariants as event
use Rattle.bs_sched.specs.Assembly.{Hand, RanApart, assembled, setting_with}
use Rattle.bs_sched.specs.Core.{CoreView, core_after, opened_core}
use Rattle.bs_sched.specs.Machine.{lane_of}
use Rattle.bs_sched.specs.Registry.{job_then, solo_setup}
use Rattle.bs_sched.specs.SharedMemory.{IsHosted}

-- a game and a turn of it: the commands are queued, and then all jobs are done
abbrev pub one_turn : ℕ → List Event
one_turn worker =
    event.Hand 0 (command.New solo_setup) ∷ event.Hand 0 (command.Move (orders_of [] []))
    ∷ job_then worker kind.Begin (job_then worker kind.Begin (job_then worker kind.Part (job_then worker kind.Join [])))

-- the core of that row alone after these events
abbrev pub core_of_turn : ℕ → ℕ → ℕ → GameRow → CoreView
core_of_turn cap workers worker row = fold (core_after cap) (opened_core cap (blocks_of cap row) workers (row ∷ [])) (one_turn worker)

-- the commands of a file
abbrev pub two_games : List Hand
two_games =
    record { row = 0; command = command.New solo_setup } ∷ record { row = 1; command = command.New solo_setup }
    ∷ record { row = 1; command = command.Move (orders_of [] []) } ∷ record { row = 0; command = command.Move (orders_of [] []) } ∷ []

abbrev pub two_cores : ℕ → ℕ → ℕ → GameRow → GameRow → List CoreView
two_cores cap workers worker first second = core_of_turn cap workers worker first ∷ core_of_turn cap workers worker second ∷ []

-- the cores ran apart, and each game of the whole has two boards
pub record PlaysApart (cap blocks workers worker : ℕ) (first second : GameRow) : Type 0 where
  pub within : All (λ hand. hand.row < 2) two_games
  pub apart : RanApart cap workers (first ∷ second ∷ []) two_games (two_cores cap workers worker first second)
  pub turns : (row : ℕ) → row < 2
      → map (λ (board : Board). board.turn)
      (lane_of (assembled cap blocks workers (first ∷ second ∷ []) two_games (two_cores cap workers worker first second)).games.lanes row).game
      ≡ 0 ∷ 1 ∷ []

-- two records of that game have 64 bytes
abbrev pub ApartExample : Type 0
ApartExample =
    (cap blocks workers worker : ℕ) (first second : GameRow) → IsHosted (setting_with cap blocks workers) (first ∷ second ∷ [])
    → nat_le worker workers ≡ true → nat_le 64 first.quota ≡ true → nat_le 64 second.quota ≡ true → PlaysApart cap blocks workers worker first second
