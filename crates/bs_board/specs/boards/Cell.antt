-- Cells of a board, and lists of them.
use Rattle.std.specs.Prelude.{ℕ, ◌+◌, ◌*◌, Bool, ◌&&◌, List, pos, nat_abs, int_le, int_lt, slice_index_or}
use Rattle.std.specs.Ordering.{int_eq}
use Rattle.bs_board.specs.declared.boards.point.Point.{Point}
use Rattle.bs_board.specs.Distinct.{are_distinct}

-- the bottom left of the board
abbrev pub origin : Point
origin = record { x = pos 0; y = pos 0 }

-- the first of a body's parts
abbrev pub head_of : List Point → Point
head_of body = slice_index_or body 0 origin

abbrev pub is_same_cell : Point → Point → Bool
is_same_cell p q = int_eq p.x q.x && int_eq p.y q.y

-- `0 <= x < width` and `0 <= y < height`
abbrev pub is_on_board : ℕ → ℕ → Point → Bool
is_on_board width height p = int_le (pos 0) p.x && int_lt p.x (pos width) && int_le (pos 0) p.y && int_lt p.y (pos height)

abbrev pub are_distinct_cells : List Point → Bool
are_distinct_cells = are_distinct is_same_cell

-- the index of a cell, row after row from the bottom left
abbrev pub cell_index : ℕ → Point → ℕ
cell_index width p = nat_abs p.y * width + nat_abs p.x
