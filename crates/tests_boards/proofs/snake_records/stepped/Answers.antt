use Rattle.std.proofs.Common.{rules, [], ◌∙◌, sym, ap, length, arith}
use Rattle.std.proofs.lemmas.List.{append-nil}
use Rattle.bs_board.specs.records.Record.{snake_record}
use Rattle.bs_board.proofs.records.FitSnake.{fit_is_writable}
use Rattle.tests_boards.proofs.snake_records.stepped.Goals as goal

pub encode_stepped_into-requires-clause-snake : goal.encode_stepped_into-requires-clause-snake
encode_stepped_into-requires-clause-snake c =
    let before = c.in_ok-before.before in
    let found = c.in_ok-before.ensures.found in
    let long = found.0.long in
    let lives = c.in_ok-holds.ensures in
    let view = c.split_snake.ensures before [] (found.1 ∙ sym (append-nil (snake_record before))) in
    (before, record { fits = fit_is_writable before found.0; lives = search (rules, c.is_living.ensures, lives); some = omega arith }, view.0, omega (arith, ap length found.1))
