-- The motion of a body of numbers.
use Rattle.std.specs.Prelude.{◌≡◌, ℕ, ◌≤◌, List, ◌∷◌, length, take, All}
use Rattle.bs_board.specs.declared.boards.point.Point.{Point}
use Rattle.bs_board.specs.boards.Cell.{head_of}
use Rattle.bs_rules.specs.Feeding.{last_of}
use Rattle.bs_rules.specs.Motion.{moved_body}
use Rattle.bs_batch.specs.declared.layout.Settings.{Settings}
use Rattle.bs_batch.specs.Directions.{given_by}
use Rattle.bs_batch.specs.Numbers.{HasSides, IsOn, number_of, numbers_of, sides_of}

-- a new head in front, and the last part lost
abbrev pub shifted : ℕ → List ℕ → List ℕ
shifted head body = take (length body) (head ∷ body)

-- a body on the board is moved as the rules say; its new head and the part that is lost
pub record IsMoved (s : Settings) (given : ℕ) (parts : List Point) (new : List ℕ) (next lost : ℕ) : Type 0 where
  pub body : new ≡ numbers_of (moved_body (sides_of s) (given_by given) parts)
  pub head : next ≡ number_of (head_of (moved_body (sides_of s) (given_by given) parts))
  pub last : lost ≡ number_of (last_of parts)

abbrev pub MovesBody : Settings → ℕ → List ℕ → List ℕ → ℕ → ℕ → Type 0
MovesBody s given old new next lost =
    (parts : List Point) → HasSides s → All (IsOn s) parts → 3 ≤ length parts → old ≡ numbers_of parts → IsMoved s given parts new next lost
