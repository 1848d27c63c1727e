-- The steps by which a record is written.
use Rattle.std.specs.Prelude.{◌≡◌, ◌⊎◌, ℕ, ◌≤◌, ◌<◌, true, List, ◌∷◌, ◌++◌, length, take, min, All, slice_index_or}
use Rattle.std.specs.List.{flat_map}
use Rattle.bs_board.specs.declared.boards.board.Board.{Board}
use Rattle.bs_board.specs.declared.boards.point.Point.{Point}
use Rattle.bs_board.specs.declared.boards.snake.Snake.{Snake}
use Rattle.bs_board.specs.boards.Cell.{is_on_board}
use Rattle.bs_board.specs.boards.Legal.{is_near}
use Rattle.bs_board.specs.records.Record.{cell_bytes, head_bytes, snake_record, state_bytes}
use Rattle.bs_batch.specs.declared.layout.Head.{Head}
use Rattle.bs_batch.specs.declared.layout.Seat.{Seat}
use Rattle.bs_batch.specs.Numbers.{numbers_of}
use Rattle.bs_batch.specs.Saving.{IsSavedAs, digit_of, without_hazards}
use Rattle.bs_batch.specs.Shown.{ShowsSnake}
use Rattle.bs_batch.specs.inner.Loading.{IsSeatOfEight}

-- these bytes were written, if there was room, and the next one belongs at that index
pub record IsWritten (done : List ℕ) (at : ℕ) (into : List ℕ) : Type 0 where
  pub end : at ≡ min (length done) 18446744073709551615
  pub bytes : length done ≤ length into → take (length done) into ≡ done

abbrev pub WritesBytes : List ℕ → ℕ → List ℕ → ℕ → List ℕ → Type 0
WritesBytes bytes at old result new = (done : List ℕ) → IsWritten done at old → IsWritten (done ++ bytes) result new

-- cells whose column and row, with the offset added, are bytes
pub record AreWritable (raised width height : ℕ) (cells : List Point) : Type 0 where
  pub narrow : width ≤ 25
  pub low : height ≤ 25
  pub inside : ((raised ≡ 0) × All (λ p. is_on_board width height p ≡ true) cells) ⊎ ((raised ≡ 1) × All (λ p. is_near width height p ≡ true) cells)

abbrev pub WritesCells : ℕ → List ℕ → ℕ → List ℕ → ℕ → List ℕ → Type 0
WritesCells raised numbers at old result new =
    (width height : ℕ) (cells : List Point) → AreWritable raised width height cells → numbers ≡ numbers_of cells
    → WritesBytes (flat_map (cell_bytes raised) cells) at old result new

abbrev pub WritesHead : Head → ℕ → List ℕ → Type 0
WritesHead head result new = (b : Board) (food plane bodies : List ℕ) → IsSavedAs head food plane bodies b → IsWritten (head_bytes (without_hazards b)) result new

-- the id and the state
abbrev pub WritesSeat : ℕ → Seat → ℕ → List ℕ → ℕ → List ℕ → Type 0
WritesSeat number seat at old result new =
    (room : List ℕ) (s : Snake) → ShowsSnake seat room s → IsSeatOfEight s.killer → s.id ≡ digit_of number
    → WritesBytes ((length s.id ∷ s.id) ++ state_bytes s) at old result new

abbrev pub WritesSnake : Head → List ℕ → ℕ → ℕ → List ℕ → ℕ → List ℕ → Type 0
WritesSnake head bodies seat at old result new =
    (b : Board) (food plane : List ℕ) (d : Snake) → IsSavedAs head food plane bodies b → seat < length b.snakes
    → WritesBytes (snake_record (slice_index_or b.snakes seat d)) at old result new
