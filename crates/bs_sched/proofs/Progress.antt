-- A stay is admitted, plays a turn by all jobs of a move, and leaves.
use Rattle.std.proofs.Common.{◌≡◌, ℕ, ◌-◌, true, false, List, [], ◌∷◌, length, None, refl, ap, ◌∙◌, arith}
use Rattle.std.specs.Prelude.{nat_eq, nat_le, nat_lt, codes, map, pos}
use Rattle.std.proofs.lemmas.Bool.{and_from, eq-eqb, leb-true, le-ltb}
use Rattle.bs_block.specs.Rounding.{rounded}
use Rattle.bs_board.specs.declared.boards.board.Board.{Board}
use Rattle.bs_board.specs.declared.boards.board.Mode.TheVariants.{Solo}
use Rattle.bs_board.specs.declared.boards.point.Point.{Point}
use Rattle.bs_board.specs.declared.boards.snake.Snake.{Snake}
use Rattle.bs_board.specs.declared.commands.command.Command.TheVariants as command
use Rattle.bs_board.specs.declared.commands.command.Word.TheVariants as word
use Rattle.bs_board.specs.declared.commands.reply.Reply.TheVariants.{Shown}
use Rattle.bs_board.specs.commands.Orders.{orders_of}
use Rattle.bs_board.specs.plans.Plan.{GameRow}
use Rattle.bs_board.specs.records.Record.{hazard_bytes, record_of, snake_record}
use Rattle.bs_modes.specs.FirstBoard.{first_board}
use Rattle.bs_food.specs.Spawning.{spawned}
use Rattle.bs_rules.specs.Collision.{collides, collision_verdict, killer_among}
use Rattle.bs_rules.specs.Turn.{turn_of}
use Rattle.bs_fiber.specs.declared.job.JobKind.{JobKind}
use Rattle.bs_fiber.specs.declared.job.JobKind.TheVariants as kind
use Rattle.bs_game.specs.Answer.{answer_to}
use Rattle.bs_game.specs.Game.{board_charge, game_charge}
use Rattle.bs_game.specs.Reasons.{first_reason, reason_against}
use Rattle.bs_game.specs.View.{reply_to}
use Rattle.bs_registry.specs.Blocks.{blocks_of}
use Rattle.bs_sched.specs.declared.event.Event.{Event}
use Rattle.bs_sched.specs.declared.event.Event.TheVariants as event
use Rattle.bs_sched.specs.declared.stage.Stage.TheVariants as stage
use Rattle.bs_sched.specs.Isolation.{are_enabled}
use Rattle.bs_sched.specs.Lane.{Lane, closed_lane, empty_lane, forked, with_put, with_taken, with_waiting}
use Rattle.bs_sched.specs.Machine.{Setting, is_enabled, lane_effect, lane_of, run_of, step}
use Rattle.bs_sched.specs.Registry.{ProgressExample, coming_and_going, job_then, only_job, solo_setup}
use Rattle.bs_sched.proofs.LoneLanes.{step_enabled}

-- the game's boards

abbrev point : ℕ → ℕ → Point
point x y = record { x = pos x; y = pos y }

abbrev snake_on : ℕ → List Point → Snake
snake_on health body = record { id = codes "s"; body = body; health = health; cause = None; killer = None; out = None }

abbrev board_of : ℕ → Snake → Board
board_of turn s = record { mode = Solo; width = 5; height = 5; turn = turn; min_food = 0; chance = 0; food = []; hazards = None; snakes = s ∷ [] }

abbrev first : Board
first = board_of 0 (snake_on 100 (point 1 1 ∷ point 1 1 ∷ point 1 1 ∷ []))

abbrev second : Board
second = board_of 1 (snake_on 99 (point 1 2 ∷ point 1 1 ∷ point 1 1 ∷ []))

second_is : turn_of first (orders_of [] []) ≡ second
unfolding turn_of collides killer_among collision_verdict spawned
second_is = refl

first_charge : game_charge (first ∷ []) ≡ 32
unfolding record_of hazard_bytes snake_record rounded game_charge
first_charge = refl

second_charge : board_charge second ≡ 32
unfolding record_of hazard_bytes snake_record rounded
second_charge = refl

first_answer : (quota : ℕ) → nat_lt quota 32 ≡ false → answer_to quota [] (command.New solo_setup) ≡ record { reply = Shown word.New first 32; game = first ∷ [] }
unfolding answer_to reply_to reason_against first_board record_of hazard_bytes snake_record rounded game_charge
first_answer quota fits = rw fits refl

second_answer : (quota : ℕ) → nat_lt quota 64 ≡ false
    → answer_to quota (first ∷ []) (command.Move (orders_of [] [])) ≡ record { reply = Shown word.Move second 64; game = first ∷ second ∷ [] }
unfolding answer_to reply_to reason_against
second_answer quota fits = rw (first_charge, second_is, second_charge, fits) refl

-- events one after the other

abbrev pub Goes : Setting → List Lane → List Event → List Lane → Type 0
Goes setting lanes events last = (are_enabled setting lanes events ≡ true) × (run_of setting lanes events ≡ last)

one_more : (setting : Setting) (lanes next last : List Lane) (e : Event) (events : List Event) → is_enabled setting lanes e ≡ true → lane_effect lanes e ≡ next
    → Goes setting next events last → Goes setting lanes (e ∷ events) last
one_more setting lanes next last e events on effect rest =
    let is : step setting lanes e ≡ next = step_enabled setting lanes e on ∙ effect in
    let later : are_enabled setting (step setting lanes e) events ≡ true = ap (λ (ls : List Lane). are_enabled setting ls events) is ∙ rest.0 in
    (and_from _ _ on later, ap (λ (ls : List Lane). run_of setting ls events) is ∙ rest.1)

module _ (setting : Setting) (worker : ℕ) (row : GameRow) (flattened : nat_le worker setting.workers ≡ true) (room : nat_le (blocks_of setting.cap row) setting.blocks ≡ true)
    (quota : nat_le 64 row.quota ≡ true) where
  abbrev come : Lane
  come = empty_lane row

  abbrev one_handed : Lane
  one_handed = with_waiting (command.New solo_setup) come

  abbrev handed : Lane
  handed = with_waiting (command.Move (orders_of [] [])) one_handed

  abbrev begun : Lane
  begun = with_taken worker kind.Begin 0 handed

  -- the game runs
  abbrev running : Lane
  running = record begun { replies = Shown word.New first 32 ∷ []; game = first ∷ []; stage = stage.Idle }

  abbrev moving : Lane
  moving = with_taken worker kind.Begin 0 running

  abbrev in_parts : Lane
  in_parts = forked moving

  abbrev part_out : Lane
  part_out = with_taken worker kind.Part 0 in_parts

  abbrev part_done : Lane
  part_done = with_put kind.Part 0 part_out

  abbrev joining : Lane
  joining = with_taken worker kind.Join 0 part_done

  -- both commands are answered
  abbrev pub moved : Lane
  moved = record moving { replies = Shown word.New first 32 ∷ Shown word.Move second 64 ∷ []; game = first ∷ second ∷ []; stage = stage.Idle }

  abbrev gone : Lane
  gone = closed_lane moved

  all_left : setting.blocks - 0 ≡ setting.blocks
  all_left = omega arith

  first_comes : is_enabled setting [] (event.Admit row) ≡ true
  first_comes = rw (all_left, room) refl

  self : nat_eq worker worker ≡ true
  self = eq-eqb worker worker refl

  first_answered : answer_to row.quota [] (command.New solo_setup) ≡ record { reply = Shown word.New first 32; game = first ∷ [] }
  first_answered = let least = leb-true 64 row.quota quota in first_answer row.quota (le-ltb row.quota 32 (omega (arith, least)))

  second_answered : answer_to row.quota (first ∷ []) (command.Move (orders_of [] [])) ≡ record { reply = Shown word.Move second 64; game = first ∷ second ∷ [] }
  second_answered = let least = leb-true 64 row.quota quota in second_answer row.quota (le-ltb row.quota 64 (omega (arith, least)))

  runs : with_put kind.Begin 0 begun ≡ running
  runs = rw first_answered refl

  goes_on : with_put kind.Begin 0 moving ≡ in_parts
  unfolding first_reason
  goes_on = refl

  is_moved : with_put kind.Join 0 joining ≡ moved
  is_moved = rw second_answered refl

  next_comes : is_enabled setting (gone ∷ []) (event.Admit row) ≡ true
  next_comes = rw (all_left, room) refl

  abbrev last : List Lane
  last = gone ∷ empty_lane row ∷ []

  one_job : (x y z : Lane) (k : JobKind) (events : List Event) (end : List Lane) → is_enabled setting (x ∷ []) (event.Take worker (only_job k)) ≡ true
      → with_taken worker k 0 x ≡ y → is_enabled setting (y ∷ []) (event.Put worker (only_job k)) ≡ true → with_put k 0 y ≡ z → Goes setting (z ∷ []) events end
      → Goes setting (x ∷ []) (job_then worker k events) end
  one_job x y z k events end takes taken puts put rest =
      one_more setting (x ∷ []) (y ∷ []) end (event.Take worker (only_job k)) (event.Put worker (only_job k) ∷ events) takes (ap (λ (l : Lane). l ∷ []) taken)
      (one_more setting (y ∷ []) (z ∷ []) end (event.Put worker (only_job k)) events puts (ap (λ (l : Lane). l ∷ []) put) rest)

  leaves : Goes setting (moved ∷ []) (event.Leave 0 ∷ event.Admit row ∷ []) last
  leaves =
      one_more setting (moved ∷ []) (gone ∷ []) last (event.Leave 0) (event.Admit row ∷ []) refl refl
      (one_more setting (gone ∷ []) last last (event.Admit row) [] next_comes refl (refl, refl))

  -- the jobs of the two commands, and then these events
  plays : (events : List Event) (end : List Lane) → Goes setting (moved ∷ []) events end
      → Goes setting (handed ∷ []) (job_then worker kind.Begin (job_then worker kind.Begin (job_then worker kind.Part (job_then worker kind.Join events)))) end
  plays events end rest =
      let after_part = job_then worker kind.Join events in
      let after_begin = job_then worker kind.Part after_part in
      one_job handed begun running kind.Begin (job_then worker kind.Begin after_begin) end (rw flattened refl) refl (rw self refl) runs
      (one_job running moving in_parts kind.Begin after_begin end (rw flattened refl) refl (rw self refl) goes_on
      (one_job in_parts part_out part_done kind.Part after_part end (rw flattened refl) refl (rw self refl) refl
      (one_job part_done joining moved kind.Join events end (rw flattened refl) refl (rw self refl) is_moved rest)))

  -- the commands are queued first
  pub queued : (events : List Event) (end : List Lane) → Goes setting (moved ∷ []) events end
      → Goes setting (come ∷ [])
      (event.Hand 0 (command.New solo_setup) ∷ event.Hand 0 (command.Move (orders_of [] []))
      ∷ job_then worker kind.Begin (job_then worker kind.Begin (job_then worker kind.Part (job_then worker kind.Join events))))
      end
  queued events end rest =
      let jobs = job_then worker kind.Begin (job_then worker kind.Begin (job_then worker kind.Part (job_then worker kind.Join events))) in
      let move = event.Hand 0 (command.Move (orders_of [] [])) in
      one_more setting (come ∷ []) (one_handed ∷ []) end (event.Hand 0 (command.New solo_setup)) (move ∷ jobs) refl refl
      (one_more setting (one_handed ∷ []) (handed ∷ []) end move jobs refl refl (plays events end rest))

  goes : Goes setting [] (coming_and_going worker row) last
  goes =
      let later = event.Leave 0 ∷ event.Admit row ∷ [] in
      let jobs = job_then worker kind.Begin (job_then worker kind.Begin (job_then worker kind.Part (job_then worker kind.Join later))) in
      one_more setting [] (come ∷ []) last (event.Admit row) (event.Hand 0 (command.New solo_setup) ∷ event.Hand 0 (command.Move (orders_of [] [])) ∷ jobs) first_comes refl
      (queued later last leaves)

pub progress_example : ProgressExample
progress_example setting worker row flattened room quota =
    let is = goes setting worker row flattened room quota in
    let one = first_answered setting worker row flattened room quota in
    let two = second_answered setting worker row flattened room quota in
    record {
      enabled = is.0;
      replies = ap (λ (ls : List Lane). (lane_of ls 0).replies) is.1 ∙ rw (one, two) refl;
      boards = ap (λ (ls : List Lane). (lane_of ls 0).game) is.1 ∙ rw (one, two) refl;
      turns = ap (λ (ls : List Lane). map (λ (board : Board). board.turn) (lane_of ls 0).game) is.1;
      stays = ap length is.1;
    }
