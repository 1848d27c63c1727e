-- The input that a lane gives to a job that is out is one that a ticket may hold.
use Rattle.std.proofs.Common.{◌≡◌, ℕ, ◌<◌, ◌≤◌, Bool, true, false, List, [], ◌∷◌, length, map, Option, Some, None, refl, sym, ap, subst, ◌∙◌, inl, inr}
use Rattle.std.specs.Prelude.{IfSome, option_map, nat_eq, All}
use Rattle.std.specs.List.{find, range_with_len}
use Rattle.std.proofs.lemmas.Bool.{cases_Bool}
use Rattle.std.proofs.lemmas.List.Elements.{All-head, All-tail}
use Rattle.bs_board.specs.declared.boards.board.Board.{Board}
use Rattle.bs_board.specs.declared.commands.command.Command.{Command}
use Rattle.bs_board.specs.declared.commands.command.Command.TheVariants as command
use Rattle.bs_board.specs.boards.Legal.{IsLegal}
use Rattle.bs_board.specs.records.Record.{record_of}
use Rattle.bs_board.proofs.Chains.{and_both}
use Rattle.bs_game.specs.Answer.{asked_board}
use Rattle.bs_game.specs.Game.{Game, IsGame, board_of_turn, last_board}
use Rattle.bs_game.proofs.Games.{legal_last}
use Rattle.bs_fiber.specs.declared.input.Input.{Input}
use Rattle.bs_fiber.specs.declared.job.JobName.{JobName}
use Rattle.bs_fiber.specs.declared.job.JobKind.{JobKind}
use Rattle.bs_fiber.specs.declared.job.JobKind.TheVariants as kind
use Rattle.bs_fiber.specs.Fit.{IsAskedBy, IsFitGame, IsFitInput, IsFitJob}
use Rattle.bs_board.specs.records.Kept.{IsLegalRecord}
use Rattle.bs_fiber.specs.Seeing.{IsBoardOf, IsSeen}
use Rattle.bs_fiber.proofs.Seen.{seen_once}
use Rattle.bs_sched.specs.Courses.{IsRight}
use Rattle.bs_sched.specs.Frames.{Written, written}
use Rattle.bs_sched.specs.Inputs.{input_of, moved_parts_for, written_by}
use Rattle.bs_sched.specs.inner.Inputs.{current_input}
use Rattle.std.specs.Prelude.{nat_lt, slice_set}
use Rattle.std.proofs.Common.{get_or}
use Rattle.std.proofs.lemmas.Bool.{ltb-true, ltb-false, eq-eqb}
use Rattle.std.proofs.lemmas.List.{get_or_past, get_or-set_same}
use Rattle.bs_board.specs.declared.boards.snake.Snake.{Snake}
use Rattle.bs_fiber.specs.declared.piece.Piece.{Piece}
use Rattle.bs_fiber.specs.Tickets.{IsFresh, TicketView, bytes_of, fresh_bytes}
use Rattle.bs_fiber.specs.Work.{moved_part, moved_parts, parts_of, snakes_in}
use Rattle.bs_game.specs.declared.view.View.{View}
use Rattle.bs_sched.specs.PartState.{PartState}
use Rattle.bs_sched.specs.PartState as state
use Rattle.bs_sched.specs.declared.stage.Stage.{Stage}
use Rattle.bs_sched.specs.declared.stage.Stage.TheVariants as stage
use Rattle.bs_sched.specs.Lane.{Lane, lane_view, lane_command, is_ready, is_part_ready, part_at, with_taken, is_out, is_in_parts, is_playing, has_part, has_join}

-- the boards that a game shows are legal

found_legal : (test : Board → Bool) (game : Game) (board : Board) → All IsLegal game → find test game ≡ Some board → IsLegal board
found_legal test [] board legal is = let wrong : None ≡ Some board = is in absurd cc
found_legal test (first ∷ game) board legal is =
    elim (cases_Bool (test first)) [
      | inl here ↦
          let some : Some first ≡ Some board = rw here at is in
          let same : first ≡ board = cc in
          subst IsLegal same (All-head IsLegal first game legal)
      | inr later ↦ found_legal test game board (All-tail IsLegal first game legal) (rw later at is)
    ]

turn_legal : (game : Game) (at : ℕ) (board : Board) → IsGame game → board_of_turn at game ≡ Some board → IsLegal board
unfolding board_of_turn
turn_legal game at board right is = found_legal (λ b. nat_eq b.turn at) game board right.legal is

asked_legal : (c : Command) (game : Game) (board : Board) → IsGame game → asked_board c game ≡ Some board → IsLegal board
asked_legal (command.New setup) game board right is = let wrong : None ≡ Some board = is in absurd cc
asked_legal (command.Move orders) game board right is = let wrong : None ≡ Some board = is in absurd cc
asked_legal command.Show game board right is = let wrong : None ≡ Some board = is in absurd cc
asked_legal (command.Turn at) game board right is = turn_legal game at board right is
asked_legal command.Free game board right is = let wrong : None ≡ Some board = is in absurd cc
asked_legal command.End game board right is = let wrong : None ≡ Some board = is in absurd cc
asked_legal command.Bad game board right is = let wrong : None ≡ Some board = is in absurd cc

-- a record of a legal board, if there is a board

legal_record : (board : Option Board) → ((b : Board) → board ≡ Some b → IsLegal b) → IfSome (option_map record_of board) IsLegalRecord
legal_record None legal = tt
legal_record (Some board) legal = record { board = board; legal = legal board refl; is = refl }

pub legal_asked : (c : Command) (game : Game) → IsGame game → IfSome (option_map record_of (asked_board c game)) IsLegalRecord
legal_asked c game right = legal_record (asked_board c game) (λ b is. asked_legal c game b right is)

board_seen : (board : Option Board) → ((b : Board) → board ≡ Some b → IsLegal b) → IsBoardOf (option_map record_of board) board
board_seen None legal = tt
board_seen (Some board) legal = (legal board refl, refl)

asked_by : (c : Command) (game : Game) → IsAskedBy c (option_map record_of (asked_board c game))
asked_by (command.New setup) game = refl
asked_by (command.Move orders) game = refl
asked_by command.Show game = refl
asked_by (command.Turn at) game = tt
asked_by command.Free game = refl
asked_by command.End game = refl
asked_by command.Bad game = refl

module _ (x : Lane) (worker : ℕ) (job : JobName) (right : IsRight x) where
  last_legal : (b : Board) → last_board x.game ≡ Some b → IsLegal b
  last_legal b is = legal_last x.game b right.right (sym is)

  fit_game : IsFitGame (input_of x worker job)
  fit_game = record {
    last = legal_record (last_board x.game) last_legal;
    asked = legal_record (asked_board (lane_command x) x.game) (λ b is. asked_legal (lane_command x) x.game b right.right is);
    asked_by = asked_by (lane_command x) x.game;
    within = right.within;
    small = right.small;
  }

  -- the view of the job is the lane's
  pub lane_seen : IsSeen (lane_view x) (input_of x worker job)
  lane_seen = record {
    quota = refl;
    charge = refl;
    kept = refl;
    last = board_seen (last_board x.game) last_legal;
    asked = board_seen (asked_board (lane_command x) x.game) (λ b is. asked_legal (lane_command x) x.game b right.right is);
  }

  pub fit_input : IsFitJob job.kind (input_of x worker job) (lane_view x) → IsFitInput (input_of x worker job)
  fit_input fit = record {
    game = fit_game;
    job = λ view seen. subst (IsFitJob job.kind (input_of x worker job)) (seen_once (input_of x worker job) (lane_view x) view lane_seen seen) fit;
  }

-- a job that is out is one that the command and the last board allow

playing_part : (s : Stage) → is_in_parts s ≡ true → is_playing s ≡ true
playing_part stage.Idle at = let wrong : false ≡ true = at in cc
playing_part (stage.Begin worker) at = let wrong : false ≡ true = at in cc
playing_part stage.Parts at = refl
playing_part (stage.Join taker) at = refl

playing_join : (worker : ℕ) (s : Stage) → has_join worker s ≡ true → is_playing s ≡ true
playing_join worker stage.Idle at = let wrong : false ≡ true = at in cc
playing_join worker (stage.Begin other) at = let wrong : false ≡ true = at in cc
playing_join worker stage.Parts at = refl
playing_join worker (stage.Join taker) at = refl

-- a part that is out exists
there : (worker p : ℕ) (parts : List PartState) → has_part worker (get_or parts p state.Done) ≡ true → p < length parts
there worker p parts has =
    elim (cases_Bool (nat_lt p (length parts))) [
      | inl less ↦ ltb-true _ _ less
      | inr more ↦
          let past : length parts ≤ p = ltb-false _ _ more in
          let done : get_or parts p state.Done ≡ state.Done = get_or_past parts p state.Done past in
          let wrong : false ≡ true = rw done at has in
          absurd cc
    ]

map_map : {A B C : Type 0} (f : B → C) (g : A → B) (xs : List A) → map f (map g xs) ≡ map (λ x. f (g x)) xs
map_map f g [] = refl
map_map {C = C} f g (x ∷ xs) = ap (λ (ys : List C). f (g x) ∷ ys) (map_map f g xs)

-- what the parts wrote, for each of its fields
all_written : {X : Type 0} (x : Lane) (f : Written → X) → length x.parts ≡ parts_of (length (snakes_in (lane_view x).last))
    → map f (written_by x) ≡ map (λ moved. f (written moved)) (moved_parts (lane_view x) (lane_command x))
all_written {X} x f many =
    let g : ℕ → List Snake = λ p. moved_part p (lane_view x) (lane_command x) in
    let parts = range_with_len 0 (length x.parts) in
    map_map f (λ p. written (g p)) parts ∙ sym (map_map (λ moved. f (written moved)) g parts)
    ∙ ap (λ (n : ℕ). map (λ moved. f (written moved)) (map g (range_with_len 0 n))) many

pub lane_job : (x : Lane) (worker : ℕ) (job : JobName) (k : JobKind) → job.kind ≡ k → IsRight x → is_out worker x k job.part ≡ true
    → IsFitJob k (input_of x worker job) (lane_view x)
lane_job x worker job kind.Begin is right out = rw is refl
lane_job x worker job kind.Part is right out =
    let both = and_both _ _ out in
    let move = right.moves (playing_part x.stage both.0) in
    (rw is refl, record { goes = move.goes; there = rw (← move.parts) (there worker job.part x.parts both.1) })
lane_job x worker job kind.Join is right out =
    let both = and_both _ _ out in
    let move = right.moves (playing_join worker x.stage both.1) in
    record {
      goes = move.goes;
      moved = rw is (all_written x (λ w. w.pieces) move.parts);
    }

pub lane_input : (x : Lane) (worker : ℕ) (job : JobName) → IsRight x → is_out worker x job.kind job.part ≡ true → IsFitInput (input_of x worker job)
lane_input x worker job right out = fit_input x worker job right (lane_job x worker job job.kind refl right out)

-- a job that is taken is out

pub part_there : (x : Lane) (p : ℕ) → is_part_ready (part_at x p) ≡ true → p < length x.parts
part_there x p ready =
    elim (cases_Bool (nat_lt p (length x.parts))) [
      | inl less ↦ ltb-true _ _ less
      | inr more ↦
          let past : length x.parts ≤ p = ltb-false _ _ more in
          let done : get_or x.parts p state.Done ≡ state.Done = get_or_past x.parts p state.Done past in
          let wrong : false ≡ true = rw done at ready in
          absurd cc
    ]

pub same_worker : (worker : ℕ) → nat_eq worker worker ≡ true
same_worker worker = eq-eqb worker worker refl

pub out_taken : (x : Lane) (worker : ℕ) (k : JobKind) (p : ℕ) → is_ready x k p ≡ true → is_out worker (with_taken worker k p x) k p ≡ true
out_taken x worker kind.Begin p ready =
    let none : nat_eq p 0 ≡ true = (and_both _ _ ready).0 in
    rw (none, same_worker worker) refl
out_taken x worker kind.Part p ready =
    let at : is_in_parts x.stage ≡ true = (and_both _ _ ready).0 in
    let within = part_there x p (and_both _ _ ready).1 in
    let here : get_or (slice_set x.parts p (state.Out worker)) p state.Done ≡ state.Out worker = get_or-set_same x.parts p (state.Out worker) state.Done within in
    rw (at, here, same_worker worker) refl
out_taken x worker kind.Join p ready =
    let none : nat_eq p 0 ≡ true = (and_both _ _ ready).0 in
    rw (none, same_worker worker) refl

pub taken_input : (x y : Lane) (worker : ℕ) (job : JobName) (input : Input) → is_ready x job.kind job.part ≡ true → y ≡ with_taken worker job.kind job.part x
    → IsRight y → input ≡ input_of y worker job → IsFitInput input
taken_input x y worker job input ready is right held =
    let out : is_out worker y job.kind job.part ≡ true = rw is (out_taken x worker job.kind job.part ready) in
    rw held (lane_input y worker job right out)

-- a part and a Join are of the command in progress

pub part_input : (x y : Lane) (worker : ℕ) (job : JobName) (input : Input) → job.kind ≡ kind.Part → y ≡ with_taken worker kind.Part job.part x
    → input ≡ current_input x worker job → input ≡ input_of y worker job
part_input x y worker job input part is held =
    let z = with_taken worker kind.Part job.part x in
    let none : moved_parts_for job.kind z ≡ [] = ap (λ (k : JobKind). moved_parts_for k z) part in
    subst (λ (w : Lane). input ≡ input_of w worker job) (sym is) (held ∙ ap (λ (ps : List (List Piece)). record (current_input x worker job) { parts = ps }) (sym none))

pub join_input : (x y : Lane) (worker : ℕ) (job : JobName) (input : Input) (parts : List (List Piece)) → job.kind ≡ kind.Join → y ≡ with_taken worker kind.Join job.part x
    → input ≡ current_input x worker job → parts ≡ moved_parts_for kind.Join x → record input { parts = parts } ≡ input_of y worker job
join_input x y worker job input parts join is held moved =
    let z = with_taken worker kind.Join job.part x in
    let all : parts ≡ moved_parts_for job.kind z = moved ∙ ap (λ (k : JobKind). moved_parts_for k z) (sym join) in
    subst (λ (w : Lane). ◌≡◌ {A = Input} (record input { parts = parts }) (input_of w worker job)) (sym is)
    (ap (λ (i : Input). record i { parts = parts }) held ∙ ap (λ (ps : List (List Piece)). record (current_input x worker job) { parts = ps }) all)

-- a ticket whose blocks hold what its job starts from in the lane's view
pub fresh_ticket : (x : Lane) (worker : ℕ) (job : JobName) (ticket : TicketView) → IsRight x → ticket.input ≡ input_of x worker job
    → bytes_of ticket.frames ≡ fresh_bytes job.kind (lane_view x) (lane_command x) → IsFresh ticket
fresh_ticket x worker job ticket right is bytes view seen =
    let there : IsSeen view (input_of x worker job) = subst (IsSeen view) is seen in
    let same : lane_view x ≡ view = seen_once (input_of x worker job) (lane_view x) view (lane_seen x worker job right) there in
    bytes ∙ ap (λ (v : View). fresh_bytes job.kind v (lane_command x)) same ∙ ap (λ (i : Input). fresh_bytes i.job.kind view i.command) (sym is)

-- a Join starts from what the parts wrote
pub joining_bytes : (x : Lane) (worker p : ℕ) → IsRight x → is_out worker x kind.Join p ≡ true
    → map (λ w. w.bytes) (written_by x) ≡ fresh_bytes kind.Join (lane_view x) (lane_command x)
joining_bytes x worker p right out = all_written x (λ w. w.bytes) (right.moves (playing_join worker x.stage (and_both _ _ out).1)).parts
