-- The move that a Join answers.
use Rattle.std.proofs.Common.{◌≡◌, ℕ, true, List, Option, Some, None, refl, sym, ap, ◌∙◌}
use Rattle.std.specs.Prelude.{flat_map, is_none, is_some}
use Rattle.std.proofs.lemmas.Bool.{and_parts}
use Rattle.bs_board.specs.declared.boards.board.Board.{Board}
use Rattle.bs_board.specs.declared.commands.command.Command.{Command}
use Rattle.bs_board.specs.declared.commands.command.Command.TheVariants as command
use Rattle.bs_board.specs.boards.Legal.{IsLegal}
use Rattle.bs_board.specs.commands.Orders.{Orders}
use Rattle.bs_board.specs.records.Record.{record_of}
use Rattle.bs_game.specs.declared.view.View.{View}
use Rattle.bs_game.specs.Joining.{IsMovedFrom}
use Rattle.bs_game.specs.Reasons.{first_reason, is_move}
use Rattle.bs_game.proofs.Acceptance.{no_game_no_move}
use Rattle.bs_fiber.specs.declared.input.Input.{Input}
use Rattle.bs_fiber.specs.declared.job.JobKind.TheVariants.{Join}
use Rattle.bs_fiber.specs.Fit.{IsFitInput, IsFitJoin}
use Rattle.bs_fiber.specs.Seeing.{IsBoardOf, IsSeen}
use Rattle.bs_fiber.specs.Work.{goes, moved_parts}
use Rattle.bs_fiber.proofs.Gathered.{joined_board, nothing_speaks}
use Rattle.bs_fiber.proofs.Seen.{fit_job, seen_is_fit, some_view}

pub fit_join : (input : Input) (view : View) → IsFitInput input → input.job.kind ≡ Join → IsSeen view input → IsFitJoin input.parts view input.command
fit_join input view fit kind seen = rw kind at (fit_job input view fit seen)

-- the board of a record
pub seen_board : (bytes : List ℕ) (board : Option Board) → IsBoardOf (Some bytes) board → (b : Board) × (board ≡ Some b) × IsLegal b × (bytes ≡ record_of b)
seen_board bytes None is = absurd is
seen_board bytes (Some board) is = (board, refl, is.0, is.1)

module _ (input : Input) (orders : Orders) (bytes : List ℕ) (fit : IsFitInput input) (kind : input.job.kind ≡ Join)
    (orders_are : input.command ≡ command.Move orders) (last_is : input.last ≡ Some bytes) (moved : Board)
    (is : (view : View) (b : Board) → IsSeen view input → IsLegal b → bytes ≡ record_of b → moved ≡ record b { snakes = flat_map (λ part. part) (moved_parts view input.command) }) where
  -- the snakes of all parts are those of the last board of each view, with all seats moved
  pub moved_from_seen : (view : View) → IsSeen view input → IsMovedFrom input.quota input.charge orders moved view
  moved_from_seen view seen =
      let join = rw orders_are at (fit_join input view fit kind seen) in
      let last : IsBoardOf (Some bytes) view.last = rw last_is at seen.last in
      let b = seen_board bytes view.last last in
      let all = rw orders_are at (is view b.0 seen b.2 b.3) in
      record {
        fit = seen_is_fit input view fit.game seen;
        passes = nothing_speaks true (first_reason view (command.Move orders)) join.goes;
        quota = seen.quota;
        charge = seen.charge;
        moved = joined_board view orders b.0 b.1 ∙ ap Some (sym all);
      }

  pub moved_from_some : (view : View) × IsMovedFrom input.quota input.charge orders moved view
  moved_from_some =
      let seen = some_view input fit.game in
      (seen.0, moved_from_seen seen.0 seen.1)

-- a Join is of a move, in a running game
pub join_is_of_a_move : (input : Input) → IsFitInput input → input.job.kind ≡ Join → is_move input.command ≡ true
join_is_of_a_move input fit kind =
    let seen = some_view input fit.game in
    let join = fit_join input seen.0 fit kind seen.1 in
    (and_parts (is_move input.command) (is_none (first_reason seen.0 input.command)) join.goes).0

command_of_move : (move : Command) → is_move move ≡ true → (orders : Orders) × (move ≡ command.Move orders)
command_of_move (command.New setup) is = absurd cc
command_of_move (command.Move orders) is = (orders, refl)
command_of_move command.Show is = absurd cc
command_of_move (command.Turn at) is = absurd cc
command_of_move command.Free is = absurd cc
command_of_move command.End is = absurd cc
command_of_move command.Bad is = absurd cc

kept_where_seen : (bytes : Option (List ℕ)) (board : Option Board) → IsBoardOf bytes board → (board ≡ None → ⊥) → is_some bytes ≡ true
kept_where_seen None None is some = absurd (some refl)
kept_where_seen None (Some board) is some = absurd is
kept_where_seen (Some bytes) board is some = refl

pub join_has_a_board : (input : Input) → IsFitInput input → input.job.kind ≡ Join → is_some input.last ≡ true
join_has_a_board input fit kind =
    let seen = some_view input fit.game in
    let orders = command_of_move input.command (join_is_of_a_move input fit kind) in
    let join = fit_join input seen.0 fit kind seen.1 in
    let passes =
    nothing_speaks true (first_reason seen.0 (command.Move orders.0)) (ap (λ (move : Command). goes seen.0 move) (sym orders.1) ∙ join.goes) in
    kept_where_seen input.last seen.0.last seen.1.last (λ none. no_game_no_move seen.0 orders.0 none passes)
