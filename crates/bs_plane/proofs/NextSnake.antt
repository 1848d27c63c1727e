-- The next of several snakes' records.
use Rattle.std.proofs.Common.{◌≡◌, ℕ, ◌+◌, ◌<◌, List, ◌++◌, length, drop, get_or, sym, ap, ◌∙◌}
use Rattle.std.specs.List.{flat_map}
use Rattle.std.proofs.lemmas.List.{drop_more}
use Rattle.bs_board.specs.declared.boards.snake.Snake.{Snake}
use Rattle.bs_board.specs.declared.records.layout.SnakeBytes.{SnakeBytes}
use Rattle.bs_board.specs.records.Layout.{IsSnakeBytes}
use Rattle.bs_board.specs.records.Record.{snake_record}
use Rattle.bs_board.proofs.records.Living.{Splits}
use Rattle.bs_rules.specs.Collision.{nobody}

-- a view of the next snake, and the records of those behind it
pub record NextSnake (snakes : List Snake) (i : ℕ) (left rest : List ℕ) (parts : SnakeBytes) : Type 0 where
  pub view : IsSnakeBytes (get_or snakes i nobody) parts
  pub behind : rest ≡ flat_map snake_record (drop (i + 1) snakes)
  pub whole : left ≡ snake_record (get_or snakes i nobody) ++ rest

pub next_snake : (snakes : List Snake) (i : ℕ) (left rest : List ℕ) (parts : SnakeBytes) → i < length snakes → left ≡ flat_map snake_record (drop i snakes)
    → Splits left parts rest → NextSnake snakes i left rest parts
next_snake snakes i left rest parts within is splits =
    let after = flat_map snake_record (drop (i + 1) snakes) in
    let next : left ≡ snake_record (get_or snakes i nobody) ++ after = is ∙ ap (flat_map snake_record) (drop_more snakes i nobody within) in
    let both = splits (get_or snakes i nobody) after next in
    record { view = both.0; behind = both.1; whole = next ∙ ap (λ t. snake_record (get_or snakes i nobody) ++ t) (sym both.1) }
