-- What private contracts add to specs/Joining.
use Rattle.std.specs.Prelude.{ℕ, None}
use Rattle.bs_game.specs.declared.view.View.{View}

-- a view without boards
abbrev pub view_within : ℕ → ℕ → View
view_within quota charge = record { quota = quota; charge = charge; kept = 0; last = None; asked = None }
