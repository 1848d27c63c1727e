use Rattle.std.proofs.Common.{◌≡◌, ℕ, ◌++◌, List, [], ◌∷◌, length, drop, min, refl, sym, ap, ◌∙◌, arith, append-nil, length-drop}
use Rattle.bs_board.specs.declared.boards.snake.Snake.{Snake}
use Rattle.bs_calls.specs.BySeat.{moves_by_seat}
use Rattle.bs_calls.proofs.orders.moves_by_seat.Goals as goal

none_left : (bytes : List ℕ) (snakes : List Snake) → min (length bytes) (length snakes) ≡ 0 → moves_by_seat bytes snakes ≡ []
none_left [] snakes e = refl
none_left (byte ∷ bytes) [] e = refl
none_left (byte ∷ bytes) (s ∷ snakes) e = absurd (omega arith)

pub returns : goal.returns
returns c =
    let n = c.loop-seat.seat in
    let none : moves_by_seat (drop n c.args.bytes.now) (drop n c.args.snakes.now) ≡ [] =
    none_left (drop n c.args.bytes.now) (drop n c.args.snakes.now) (omega (arith, length-drop n c.args.bytes.now, length-drop n c.args.snakes.now)) in
    sym (append-nil c.loop-seat.given) ∙ ap (λ rest. c.loop-seat.given ++ rest) (sym none) ∙ c.loop-seat.invariant
