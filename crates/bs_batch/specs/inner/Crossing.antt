-- Whether a body crosses itself at most once.
use Rattle.std.specs.Prelude.{◌≡◌, ◌↔◌, ℕ, ◌≤◌, Bool, true, List, All, IsTrue}
use Rattle.bs_board.specs.declared.boards.point.Point.{Point}
use Rattle.bs_board.specs.declared.boards.snake.Snake.{Snake}
use Rattle.bs_board.specs.boards.Cell.{is_on_board}
use Rattle.bs_board.specs.boards.Over.{is_living}
use Rattle.bs_batch.specs.Lasting.{CrossesLittle, crossings}

-- of a body on the board
abbrev pub CountsCrossings : List Point → Bool → Type 0
CountsCrossings body result =
    (width height : ℕ) → All (λ p. is_on_board width height p ≡ true) body → IsTrue result ↔ (crossings width height body ≤ 1)

abbrev pub HasLittleCrossing : Snake → Bool → Type 0
HasLittleCrossing s result =
    (width height : ℕ) → (is_living s ≡ true → All (λ p. is_on_board width height p ≡ true) s.body) → IsTrue result ↔ CrossesLittle width height s
