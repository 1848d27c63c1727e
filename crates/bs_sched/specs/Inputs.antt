-- The input of a job, which its lane determines.
use Rattle.std.specs.Prelude.{ℕ, List, [], ◌∷◌, length, map, slice_index_or, option_map, Option, None}
use Rattle.std.specs.List.{range_with_len}
use Rattle.bs_board.specs.declared.commands.command.Command.{Command}
use Rattle.bs_board.specs.records.Record.{record_of}
use Rattle.bs_game.specs.Game.{game_charge, last_board}
use Rattle.bs_game.specs.Answer.{asked_board}
use Rattle.bs_fiber.specs.declared.input.Input.{Input}
use Rattle.bs_fiber.specs.declared.job.JobKind.{JobKind}
use Rattle.bs_fiber.specs.declared.job.JobKind.TheVariants as kind
use Rattle.bs_fiber.specs.declared.job.JobName.{JobName}
use Rattle.bs_fiber.specs.declared.piece.Piece.{Piece}
use Rattle.bs_fiber.specs.Work.{moved_part}
use Rattle.bs_sched.specs.Frames.{Written, flattened, written}
use Rattle.bs_sched.specs.Storage.{Storage, frame_tag, frames_of}
use Rattle.bs_sched.specs.Lane.{Lane, lane_command, lane_view}

-- what each part writes
abbrev pub written_by : Lane → List Written
written_by x = map (λ p. written (moved_part p (lane_view x) (lane_command x))) (range_with_len 0 (length x.parts))

-- the places of the parts' moved snakes, for the Join
abbrev pub moved_parts_for : JobKind → Lane → List (List Piece)
moved_parts_for kind.Begin x = []
moved_parts_for kind.Part x = []
moved_parts_for kind.Join x = map (λ w. w.pieces) (written_by x)

-- the input of a job for that command, without the moved parts
abbrev pub input_for : Lane → Command → ℕ → ℕ → JobName → Input
input_for x command seq worker job =
    record {
      job = job;
      worker = worker;
      seq = seq;
      quota = x.row.quota;
      charge = game_charge x.game;
      kept = length x.game;
      last = option_map record_of (last_board x.game);
      asked = option_map record_of (asked_board command x.game);
      command = command;
      parts = [];
    }

-- the input of a job that is out
abbrev pub input_of : Lane → ℕ → JobName → Input
input_of x worker job = record (input_for x (lane_command x) (length x.taken) worker job) { parts = moved_parts_for job.kind x }

-- the numbers of the frame blocks of a job that is out
abbrev pub job_numbers : JobKind → ℕ → List (Option ℕ) → List ℕ
job_numbers kind.Begin p numbers = []
job_numbers kind.Part p numbers = flattened (slice_index_or numbers p None ∷ [])
job_numbers kind.Join p numbers = flattened numbers

-- the frame blocks of a job that is out, each as its tag and number
abbrev pub names_for : Storage → JobName → List (ℕ × ℕ)
names_for storage job = map (λ n. (frame_tag job.game, n)) (job_numbers job.kind job.part (frames_of storage job.game))
