-- The bytes of a plane: on each cell the number of parts, and 128 more for food.
use Rattle.std.specs.Prelude.{◌≡◌, ℕ, ◌+◌, ◌*◌, ◌%◌, ◌≤◌, ◌<◌, Bool, true, cond, List, length, count_by, slice_index, All}
use Rattle.bs_board.specs.declared.boards.point.Point.{Point}
use Rattle.bs_board.specs.boards.Cell.{is_on_board, is_same_cell}
use Rattle.bs_board.specs.boards.Legal.{is_near}
use Rattle.bs_batch.specs.declared.layout.Settings.{Settings}
use Rattle.bs_batch.specs.Numbers.{number_of, numbers_of}

-- each cell that is on the board or next to it has this byte
pub record HasBytes (width height : ℕ) (byte : Point → ℕ) (plane : List ℕ) : Type 0 where
  pub narrow : width ≤ 25
  pub room : (height + 2) * 32 ≤ length plane
  pub bytes : (p : Point) → is_near width height p ≡ true → slice_index plane (number_of p) ≡ byte p

abbrev pub and_one : (Point → ℕ) → Point → Point → ℕ
and_one byte cell p = byte p + cond (is_same_cell p cell) 1 0

-- one more part on a cell, if a byte holds it, and no other change
abbrev pub CountsMore : ℕ → List ℕ → List ℕ → Type 0
CountsMore cell old new =
    (width height : ℕ) (byte : Point → ℕ) (p : Point) → is_near width height p ≡ true → cell ≡ number_of p → byte p < 255
    → HasBytes width height byte old → HasBytes width height (and_one byte p) new

-- one part less on a cell, and no other change
abbrev pub CountsLess : ℕ → List ℕ → List ℕ → Type 0
CountsLess cell old new =
    (width height : ℕ) (byte : Point → ℕ) (p : Point) → is_near width height p ≡ true → cell ≡ number_of p → byte p < 255
    → HasBytes width height (and_one byte p) old → HasBytes width height byte new

-- the body's parts less on their cells, and no other change
abbrev pub CountsNone : List ℕ → List ℕ → List ℕ → Type 0
CountsNone body old new =
    (width height : ℕ) (byte : Point → ℕ) (parts : List Point) → All (λ p. is_near width height p ≡ true) parts → body ≡ numbers_of parts
    → ((p : Point) → byte p + count_by (is_same_cell p) parts < 256)
    → HasBytes width height (λ p. byte p + count_by (is_same_cell p) parts) old → HasBytes width height byte new

-- the parts of one cell, with or without food, and no other change
abbrev pub WritesFood : ℕ → ℕ → List ℕ → List ℕ → Type 0
WritesFood food cell old new =
    (width height : ℕ) (byte : Point → ℕ) (p : Point) → is_near width height p ≡ true → cell ≡ number_of p
    → HasBytes width height byte old → HasBytes width height (λ q. cond (is_same_cell q p) (byte q % 128 + food) (byte q)) new

-- whether the cell of this number, which is on the board or next to it, is on the board
abbrev pub IsOnBoard : Settings → ℕ → Bool → Type 0
IsOnBoard s cell result =
    (p : Point) → s.width ≤ 25 → is_near s.width s.height p ≡ true → cell ≡ number_of p → result ≡ is_on_board s.width s.height p
