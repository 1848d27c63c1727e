-- Which moves of a lone game are shared among threads.
use Rattle.std.specs.Prelude.{ℕ, ◌+◌, Bool, ◌&&◌}
use Rattle.std.specs.Int.{is_power_of_two}

-- those of turn 0, 64, 192, 448 and so on: the distances double. Of the games of a row, the first,
-- the second, the fourth and so on
abbrev pub is_shared_move : ℕ → ℕ → Bool
is_shared_move games turn = is_power_of_two games && is_power_of_two (turn + 64)
