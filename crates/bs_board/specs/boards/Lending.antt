-- The snakes after a loan of one seat.
use Rattle.std.specs.Prelude.{ℕ, List, slice_set}
use Rattle.std.specs.Borrow.{MutBor, Fml, Lends}
use Rattle.bs_board.specs.declared.boards.snake.Snake.{Snake}
use Rattle.bs_board.specs.contracts.boards.snakes.Snakes as seats
use Rattle.bs_board.specs.contracts.boards.snake.Snake as snake

-- the list after the loan: that seat holds what was last written to it
abbrev pub LendsSeat : MutBor (List Snake) → ℕ → MutBor Snake → Fml
LendsSeat s seat r = Lends seats.the_row snake.the_row s r (slice_set s.now seat)
