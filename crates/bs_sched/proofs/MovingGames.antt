-- No move is accepted if no game runs or it is over.
use Rattle.std.proofs.Common.{◌≡◌, ℕ, true, false, Option, Some, None}
use Rattle.std.specs.Prelude.{IfSome}
use Rattle.bs_board.specs.declared.boards.board.Board.{Board}
use Rattle.bs_board.specs.boards.Over.{is_over}
use Rattle.bs_board.specs.declared.commands.reply.Refusal.TheVariants as refusal
use Rattle.bs_board.specs.commands.Orders.{Orders}
use Rattle.bs_game.specs.Reasons.{first_reason}
use Rattle.bs_board.specs.declared.commands.command.Command.{Command}
use Rattle.bs_board.specs.declared.commands.command.Command.TheVariants as command
use Rattle.bs_game.specs.declared.view.View.{View}
use Rattle.bs_game.specs.Game.{last_board}
use Rattle.bs_fiber.specs.Work.{goes}
use Rattle.bs_fiber.proofs.Gathered.{nothing_speaks}
use Rattle.bs_sched.specs.Lane.{Lane, lane_view, lane_command, goes_on}

over_last : (most charge kept : ℕ) (last asked : Option Board) (orders : Orders) → IfSome last (λ board. is_over board ≡ true)
    → first_reason (record { quota = most; charge = charge; kept = kept; last = last; asked = asked }) (command.Move orders) ≡ None → ⊥
unfolding first_reason
over_last most charge kept None asked orders over none = let wrong : Some refusal.NoGame ≡ None = none in cc
over_last most charge kept (Some last) asked orders over none = let wrong : Some refusal.Over ≡ None = rw over at none in cc

over_view : (view : View) (c : Command) → goes view c ≡ true → IfSome view.last (λ board. is_over board ≡ true) → ⊥
over_view view (command.New setup) moves over = let wrong : false ≡ true = moves in cc
over_view view (command.Move orders) moves over =
    over_last view.quota view.charge view.kept view.last view.asked orders over (nothing_speaks true _ moves)
over_view view command.Show moves over = let wrong : false ≡ true = moves in cc
over_view view (command.Turn at) moves over = let wrong : false ≡ true = moves in cc
over_view view command.Free moves over = let wrong : false ≡ true = moves in cc
over_view view command.End moves over = let wrong : false ≡ true = moves in cc
over_view view command.Bad moves over = let wrong : false ≡ true = moves in cc

pub over_game : (x : Lane) → goes_on x ≡ true → IfSome (last_board x.game) (λ board. is_over board ≡ true) → ⊥
over_game x moves over = over_view (lane_view x) (lane_command x) moves over
