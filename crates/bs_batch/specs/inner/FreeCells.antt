-- The cells of a board whose byte is zero.
use Rattle.std.specs.Prelude.{◌≡◌, ℕ, ◌<◌, ◌==◌, Bool, List, length, map, filter, take, count_by, slice_index, slice_index_or}
use Rattle.bs_board.specs.declared.boards.point.Point.{Point}
use Rattle.bs_board.specs.boards.Cell.{origin}
use Rattle.bs_food.specs.Free.{all_cells, row_of_cells}
use Rattle.bs_batch.specs.declared.layout.Settings.{Settings}
use Rattle.bs_batch.specs.Counts.{HasBytes}
use Rattle.bs_batch.specs.Numbers.{number_of}

abbrev pub is_zero : ℕ → Bool
is_zero byte = byte == 0

abbrev pub is_clear : (Point → ℕ) → Point → Bool
is_clear byte p = is_zero (byte p)

-- row by row from the bottom, each from the left
abbrev pub clear_cells : (Point → ℕ) → ℕ → ℕ → List Point
clear_cells byte width height = filter (is_clear byte) (all_cells width height)

-- for each assignment of bytes that the plane has
abbrev pub ForBytes : Settings → List ℕ → ((Point → ℕ) → Type 0) → Type 0
ForBytes s plane P = (byte : Point → ℕ) → HasBytes s.width s.height byte plane → P byte

-- the bytes of the cells of a row
abbrev pub IsRow : Settings → List ℕ → ℕ → List ℕ → Type 0
IsRow s plane row result = ForBytes s plane (λ byte. row < s.height → result ≡ map byte (row_of_cells s.width row))

-- the zeros of a row of the board
abbrev pub CountsRow : Settings → List ℕ → ℕ → ℕ → Type 0
CountsRow s plane row result = ForBytes s plane (λ byte. row < s.height → result ≡ count_by is_zero (map byte (row_of_cells s.width row)))

abbrev pub CountsFree : Settings → List ℕ → ℕ → Type 0
CountsFree s plane result = ForBytes s plane (λ byte. result ≡ length (clear_cells byte s.width s.height))

-- a zero, and the number of zeros before it
pub record IsZeroOf (row : List ℕ) (number column : ℕ) : Type 0 where
  pub within : column < length row
  pub zero_at : slice_index row column ≡ 0
  pub before : count_by is_zero (take column row) ≡ number

abbrev pub FindsZero : List ℕ → ℕ → ℕ → Type 0
FindsZero row number result = number < count_by is_zero row → IsZeroOf row number result

-- the number of the clear cell of that place in their order
abbrev pub FindsFree : Settings → List ℕ → ℕ → ℕ → Type 0
FindsFree s plane number result =
    ForBytes s plane
    (λ byte.
    number < length (clear_cells byte s.width s.height) → result ≡ number_of (slice_index_or (clear_cells byte s.width s.height) number origin))
