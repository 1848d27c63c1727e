-- How a lane lies in the fields of its fiber. Its parts are kept beside the fiber.
use Rattle.std.specs.Prelude.{◌≡◌, ℕ, ◌-◌, ◌≤◌, ◌<◌, Bool, true, false, if◌then◌else◌, List, [], length, take, drop, All, Some, None, IfSome, is_some, not, vec_len, vec_capacity}
use Rattle.bs_board.specs.declared.limits.TheConstants.{MOST_QUOTA}
use Rattle.bs_game.specs.Alone.{Course, course_of}
use Rattle.bs_game.specs.Answer.{Fits}
use Rattle.bs_game.specs.Game.{game_charge, last_board}
use Rattle.bs_fiber.specs.Work.{parts_of, snakes_in}
use Rattle.bs_sched.specs.declared.fiber.Fiber.TheInside.{Inside}
use Rattle.bs_sched.specs.PartState.{PartState}
use Rattle.bs_sched.specs.declared.stage.Stage.{Stage}
use Rattle.bs_sched.specs.declared.stage.Stage.TheVariants as stage
use Rattle.bs_sched.specs.Courses.{IsRight}
use Rattle.bs_sched.specs.Lane.{Lane, goes_on, is_idle, is_playing}

-- the commands that have a reply: all that were begun, except the one in progress
abbrev pub answered_count : Stage → ℕ → ℕ
answered_count stage begun = if is_idle stage then begun else begun - 1

abbrev pub course_in : Inside → Course
course_in f = course_of f.row.quota (take (answered_count f.stage f.begun) f.commands.items)

abbrev pub lane_in : Inside → Lane
lane_in f =
    record {
      row = f.row;
      is_open = not (is_some f.left);
      taken = take f.begun f.commands.items;
      waiting = drop f.begun f.commands.items;
      replies = f.replies.items;
      game = (course_in f).game;
      stage = f.stage;
      parts = [];
    }

-- a move in progress has as many parts as its board needs
abbrev pub HasParts : Lane → List PartState → Type 0
HasParts x parts = is_playing x.stage ≡ true → length parts ≡ parts_of (length (snakes_in (last_board x.game)))

-- the lane of the fiber is right with any such parts
abbrev pub IsRightWithParts : Lane → Type 0
IsRightWithParts x = (parts : List PartState) → HasParts x parts → IsRight (record x { parts = parts })

-- some worker has a job that may answer
abbrev pub may_answer : Stage → Bool
may_answer stage.Idle = false
may_answer (stage.Begin worker) = true
may_answer stage.Parts = false
may_answer (stage.Join None) = false
may_answer (stage.Join (Some worker)) = true

pub record IsFiber (f : Inside) : Type 0 where
  pub begun : f.begun ≤ length f.commands.items
  pub at : is_idle f.stage ≡ false → 0 < f.begun
  -- a stay that has left is idle; its charge is kept
  pub closed : is_some f.left ≡ true → (is_idle f.stage ≡ true) × (f.begun ≡ length f.commands.items) × IfSome f.left (λ charge. charge ≡ game_charge (course_in f).game)
  pub last : f.last ≡ last_board (course_in f).game
  pub small : f.row.quota ≤ MOST_QUOTA
  pub fits : All Fits f.commands.items
  pub replies : f.replies.items ≡ (course_in f).replies
  -- a move in progress is an accepted one
  pub goes : is_playing f.stage ≡ true → goes_on (lane_in f) ≡ true
  -- there is memory for the next reply, if one may follow
  pub room : may_answer f.stage ≡ true → vec_len f.replies < vec_capacity f.replies
