-- A turn whose directions are given beside the move.
use Rattle.std.proofs.Common.{◌≡◌, ℕ, ◌+◌, ◌<◌, ◌∙◌, List, ap, refl}
use Rattle.bs_board.specs.declared.boards.point.Direction.{Direction}
use Rattle.bs_board.specs.declared.boards.board.Board.{Board}
use Rattle.bs_board.specs.declared.boards.board.Mode.{Mode}
use Rattle.bs_board.specs.declared.boards.board.Mode.TheVariants.{Standard, Solo, Constrictor, Wrapped}
use Rattle.bs_board.specs.boards.Legal.{IsLegal}
use Rattle.bs_board.specs.commands.Orders.{Orders}
use Rattle.bs_calls.specs.BySeat.{moves_by_seat, turn_with}
use Rattle.bs_rules.specs.Motion.{moved_board}
use Rattle.bs_rules.specs.Feeding.{fed}
use Rattle.bs_rules.specs.Hurting.{hurt}
use Rattle.bs_rules.specs.Elimination.{starved_or_outside}
use Rattle.bs_rules.specs.Collision.{collided}
use Rattle.bs_rules.specs.Turn.{redrawn, replenished, finished, turn_of}
use Rattle.bs_rules.proofs.TurnLegal.{turn_is_legal}

-- what comes after the motion does not read the directions
replenished_rest : (mode : Mode) (moves : List (List ℕ × Direction)) (rest : Orders) (b : Board)
    → replenished mode rest b ≡ replenished mode (record rest { moves = moves }) b
replenished_rest Standard moves rest b = refl
replenished_rest Solo moves rest b = refl
replenished_rest Constrictor moves rest b = refl
replenished_rest Wrapped moves rest b = refl

finished_rest : (moves : List (List ℕ × Direction)) (rest : Orders) (b : Board)
    → finished rest b ≡ finished (record rest { moves = moves }) b
finished_rest moves rest b =
    ap (λ r. redrawn rest (record r { turn = b.turn + 1 }))
    (replenished_rest b.mode moves rest (collided (starved_or_outside (fed (hurt b)))))

-- the value of a turn, from the directions and the rest of the move
pub next_is_turn : (bytes : List ℕ) (rest : Orders) (b moved next : Board) (moves : List (List ℕ × Direction))
    → moves ≡ moves_by_seat bytes b.snakes → moved ≡ moved_board moves b → next ≡ finished rest moved → next ≡ turn_with bytes rest b
unfolding turn_with turn_of
next_is_turn bytes rest b moved next moves m e f =
    f ∙ ap (finished rest) (e ∙ ap (λ given. moved_board given b) m)
    ∙ finished_rest (moves_by_seat bytes b.snakes) rest (moved_board (moves_by_seat bytes b.snakes) b)

pub turn_with_is_legal : (bytes : List ℕ) (rest : Orders) (b : Board) → IsLegal b → b.turn < 10000 → IsLegal (turn_with bytes rest b)
unfolding turn_with
turn_with_is_legal bytes rest b l early = turn_is_legal b (record rest { moves = moves_by_seat bytes b.snakes }) l early
