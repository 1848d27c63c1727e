-- One stay of the machine: its lane, and the lane after a job is taken or completed.
use Rattle.std.specs.Prelude.{ℕ, ◌-◌, Bool, true, false, ◌&&◌, ◌||◌, if◌then◌else◌, List, [], ◌∷◌, ◌++◌, length, take, drop, replicate, nat_eq, nat_lt, slice_index_or, slice_set, map, Some, None}
use Rattle.std.specs.List.{list_all}
use Rattle.bs_board.specs.declared.commands.command.Command.{Command}
use Rattle.bs_board.specs.declared.commands.command.Command.TheVariants as command
use Rattle.bs_board.specs.declared.commands.reply.Reply.{Reply}
use Rattle.bs_board.specs.plans.Plan.{GameRow, row_of}
use Rattle.bs_board.specs.records.Record.{record_of}
use Rattle.bs_game.specs.declared.view.View.{View}
use Rattle.bs_game.specs.Answer.{Outcome, answer_to}
use Rattle.bs_game.specs.Game.{Game, last_board}
use Rattle.bs_game.specs.Answer.{view_of_game}
use Rattle.bs_fiber.specs.declared.job.JobKind.{JobKind}
use Rattle.bs_fiber.specs.declared.job.JobKind.TheVariants as kind
use Rattle.bs_fiber.specs.Work.{goes, parts_of, snakes_in}
use Rattle.bs_sched.specs.declared.stage.Stage.{Stage}
use Rattle.bs_sched.specs.declared.stage.Stage.TheVariants as stage
use Rattle.bs_sched.specs.PartState.{PartState}
use Rattle.bs_sched.specs.PartState as part

pub record Lane : Type 0 where
  pub row : GameRow
  pub is_open : Bool
  -- the commands that were begun, the newest last, and those that wait
  pub taken : List Command
  pub waiting : List Command
  pub replies : List Reply
  -- the kept boards
  pub game : Game
  pub stage : Stage
  -- the state of each part of the move in progress
  pub parts : List PartState

abbrev pub empty_lane : GameRow → Lane
empty_lane row = record { row = row; is_open = true; taken = []; waiting = []; replies = []; game = []; stage = stage.Idle; parts = [] }

-- a row in which no stay was opened
abbrev pub no_lane : Lane
no_lane = empty_lane (row_of [] 0)

-- the command in progress, or the last one
abbrev pub lane_command : Lane → Command
lane_command x = slice_index_or x.taken (length x.taken - 1) command.Bad

abbrev pub lane_outcome : Lane → Outcome
lane_outcome x = answer_to x.row.quota x.game (lane_command x)

-- the view of the game that a job of the command reads
abbrev pub lane_view : Lane → View
lane_view x = view_of_game x.row.quota x.game (lane_command x)

-- the command is an accepted move
abbrev pub goes_on : Lane → Bool
goes_on x = goes (lane_view x) (lane_command x)

-- Which worker has which job.
abbrev pub is_idle : Stage → Bool
is_idle stage.Idle = true
is_idle (stage.Begin worker) = false
is_idle stage.Parts = false
is_idle (stage.Join taker) = false

abbrev pub is_in_parts : Stage → Bool
is_in_parts stage.Idle = false
is_in_parts (stage.Begin worker) = false
is_in_parts stage.Parts = true
is_in_parts (stage.Join taker) = false

abbrev pub is_playing : Stage → Bool
is_playing stage.Idle = false
is_playing (stage.Begin worker) = false
is_playing stage.Parts = true
is_playing (stage.Join taker) = true

abbrev pub is_to_join : Stage → Bool
is_to_join stage.Idle = false
is_to_join (stage.Begin worker) = false
is_to_join stage.Parts = false
is_to_join (stage.Join None) = true
is_to_join (stage.Join (Some worker)) = false

abbrev pub has_begin : ℕ → Stage → Bool
has_begin w stage.Idle = false
has_begin w (stage.Begin worker) = nat_eq worker w
has_begin w stage.Parts = false
has_begin w (stage.Join taker) = false

abbrev pub has_join : ℕ → Stage → Bool
has_join w stage.Idle = false
has_join w (stage.Begin worker) = false
has_join w stage.Parts = false
has_join w (stage.Join None) = false
has_join w (stage.Join (Some worker)) = nat_eq worker w

abbrev pub is_part_ready : PartState → Bool
is_part_ready part.Ready = true
is_part_ready (part.Out worker) = false
is_part_ready part.Done = false

abbrev pub has_part : ℕ → PartState → Bool
has_part w part.Ready = false
has_part w (part.Out worker) = nat_eq worker w
has_part w part.Done = false

abbrev pub is_part_done : PartState → Bool
is_part_done part.Ready = false
is_part_done (part.Out worker) = false
is_part_done part.Done = true

-- a part that does not exist counts as done
abbrev pub part_at : Lane → ℕ → PartState
part_at x p = slice_index_or x.parts p part.Done

-- the worker has the lane's Begin or Join, and so may take no other job
abbrev pub occupies : ℕ → Lane → Bool
occupies w x = has_begin w x.stage || has_join w x.stage

-- the job can be taken; a job that is no part has the part number 0
abbrev pub is_ready : Lane → JobKind → ℕ → Bool
is_ready x kind.Begin p = nat_eq p 0 && (is_idle x.stage && nat_lt 0 (length x.waiting))
is_ready x kind.Part p = is_in_parts x.stage && is_part_ready (part_at x p)
is_ready x kind.Join p = nat_eq p 0 && is_to_join x.stage

-- the worker has the job
abbrev pub is_out : ℕ → Lane → JobKind → ℕ → Bool
is_out w x kind.Begin p = nat_eq p 0 && has_begin w x.stage
is_out w x kind.Part p = is_in_parts x.stage && has_part w (part_at x p)
is_out w x kind.Join p = nat_eq p 0 && has_join w x.stage

-- A lane after each event.
abbrev pub with_waiting : Command → Lane → Lane
with_waiting command x = record x { waiting = x.waiting ++ command ∷ [] }

-- the first waiting command is begun; or a part or the Join is taken
abbrev pub with_taken : ℕ → JobKind → ℕ → Lane → Lane
with_taken w kind.Begin p x = record x { taken = x.taken ++ take 1 x.waiting; waiting = drop 1 x.waiting; stage = stage.Begin w }
with_taken w kind.Part p x = record x { parts = slice_set x.parts p (part.Out w) }
with_taken w kind.Join p x = record x { stage = stage.Join (Some w) }

-- the command has its reply and its effect
abbrev pub answered : Lane → Lane
answered x = record x { replies = x.replies ++ (lane_outcome x).reply ∷ []; game = (lane_outcome x).game; stage = stage.Idle; parts = [] }

-- the parts of the move are ready
abbrev pub forked : Lane → Lane
forked x = record x { stage = stage.Parts; parts = replicate (parts_of (length (snakes_in (last_board x.game)))) part.Ready }

abbrev pub stage_with : List PartState → Stage
stage_with parts = if list_all is_part_done parts then stage.Join None else stage.Parts

-- a part is completed; after the last one the move can be joined
abbrev pub with_part_done : ℕ → Lane → Lane
with_part_done p x = record x { parts = slice_set x.parts p part.Done; stage = stage_with (slice_set x.parts p part.Done) }

abbrev pub with_put : JobKind → ℕ → Lane → Lane
with_put kind.Begin p x = if goes_on x then forked x else answered x
with_put kind.Part p x = with_part_done p x
with_put kind.Join p x = answered x

-- What a lane still has to do.
abbrev pub is_quiet : Lane → Bool
is_quiet x = is_idle x.stage && nat_eq (length x.waiting) 0

-- Admissions and leaves.
-- nothing is left to do, and the stay is open
abbrev pub may_leave : Lane → Bool
may_leave x = x.is_open && is_quiet x

-- The stay is closed. Its boards are unchanged, so its last board and its charge can still be read,
-- but no record of them is kept.
abbrev pub closed_lane : Lane → Lane
closed_lane x = record x { is_open = false }

-- the bytes of a game's kept records
abbrev pub records_of : Game → List (List ℕ)
records_of game = map record_of game

-- the bytes of a stay's kept records; none once it has left
abbrev pub kept_of : Lane → List (List ℕ)
kept_of x = if x.is_open then records_of x.game else []
