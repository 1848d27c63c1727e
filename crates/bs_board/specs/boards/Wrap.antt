-- Wrapped boards, whose opposite edges are joined.
use Rattle.std.specs.Prelude.{◌≡◌, ℕ, Bool, true, false, if◌then◌else◌, Option, Some, None, MatchOption}
use Rattle.bs_board.specs.declared.boards.board.Board.{Board}
use Rattle.bs_board.specs.declared.boards.board.Mode.{Mode}
use Rattle.bs_board.specs.declared.boards.board.Mode.TheVariants.{Standard, Solo, Constrictor, Wrapped}
use Rattle.bs_board.specs.commands.Setup.{is_side}

abbrev pub is_wrapped : Mode → Bool
is_wrapped Standard = false
is_wrapped Solo = false
is_wrapped Constrictor = false
is_wrapped Wrapped = true

-- the width and height that each step is taken modulo; none if a step may leave the board
abbrev pub wrap_of : Board → Option (ℕ × ℕ)
wrap_of b = if is_wrapped b.mode then Some (b.width, b.height) else None

-- each is the side of some board
abbrev pub AreSides : Option (ℕ × ℕ) → Type 0
AreSides wrap = MatchOption wrap (Unit {0}) (λ sides. (is_side sides.0 ≡ true) × (is_side sides.1 ≡ true))
