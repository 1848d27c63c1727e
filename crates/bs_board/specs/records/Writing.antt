-- Bytes written over part of a slice, from left to right.
use Rattle.std.specs.Prelude.{ℕ, ◌+◌, ◌<◌, ◌≤◌, length, All, MatchOption, ℤ, pos, ◌+ℤ◌, ◌≤ℤ◌, ◌<ℤ◌}
use Rattle.bs_board.specs.declared.boards.point.Point.{Point}
use Rattle.bs_board.specs.declared.boards.snake.Snake.{Snake}

-- a column or row, with the offset added, fits into a byte
abbrev pub IsByte : ℤ → Type 0
IsByte z = (pos 0 ≤ℤ z) × (z <ℤ pos 256)

pub record IsByteCell (raised : ℕ) (p : Point) : Type 0 where
  pub x : IsByte (p.x +ℤ pos raised)
  pub y : IsByte (p.y +ℤ pos raised)

-- a snake whose numbers fit their bytes in a record; a turn of 0 would be read as none
pub record IsWritable (s : Snake) : Type 0 where
  pub id : length s.id < 256
  pub killer : MatchOption s.killer (Unit {0}) (λ seat. seat + 1 < 256)
  pub out : MatchOption s.out (Unit {0}) (λ turn. 1 ≤ turn)
  pub parts : length s.body < 65536
  pub cells : All (IsByteCell 1) s.body
