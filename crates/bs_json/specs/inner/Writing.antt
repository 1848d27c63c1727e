-- What a call leaves that writes a piece of text, if it can, from an index of a slice on.
use Rattle.std.specs.Prelude.{◌≡◌, ℕ, List, Option, IfSome, length, take}
use Rattle.bs_board.specs.inner.Writing.{Puts}

-- What is before that index and the length of the slice are unchanged; a result is the index
-- behind the piece.
pub record Writes (at : ℕ) (piece old new : List ℕ) (result : Option ℕ) : Type 0 where
  pub front : take at new ≡ take at old
  pub room : length new ≡ length old
  pub written : IfSome result (λ next. Puts at piece old new next)
