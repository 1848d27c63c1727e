-- Cells as numbers.
use Rattle.std.specs.Prelude.{◌≡◌, ℕ, ◌+◌, ◌*◌, ◌≤◌, ◌==◌, true, if◌then◌else◌, List, map, nat_abs, pos, ◌+ℤ◌, Option, Some, None}
use Rattle.bs_board.specs.declared.boards.point.Point.{Point}
use Rattle.bs_board.specs.boards.Cell.{is_on_board}
use Rattle.bs_batch.specs.declared.layout.Settings.{Settings}

-- the number of a cell on the largest board or next to it
abbrev pub number_of : Point → ℕ
number_of p = nat_abs (p.y +ℤ pos 1) * 32 + nat_abs (p.x +ℤ pos 1)

abbrev pub numbers_of : List Point → List ℕ
numbers_of = map number_of

-- sides of at most 25 cells
pub record HasSides (s : Settings) : Type 0 where
  pub wide : 1 ≤ s.width
  pub narrow : s.width ≤ 25
  pub high : 1 ≤ s.height
  pub low : s.height ≤ 25

-- on the board of these settings
abbrev pub IsOn : Settings → Point → Type 0
IsOn s p = is_on_board s.width s.height p ≡ true

-- the sides that each step is taken modulo, in mode 3
abbrev pub sides_of : Settings → Option (ℕ × ℕ)
sides_of s = if s.mode == 3 then Some (s.width, s.height) else None
