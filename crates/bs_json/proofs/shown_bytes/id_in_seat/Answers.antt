use Rattle.std.proofs.Common.{◌+◌, ◌≤◌, ◌∙◌, ap, arith, drop, length}
use Rattle.std.specs.Prelude.{flat_map}
use Rattle.bs_board.specs.declared.boards.snake.Snake.{Snake}
use Rattle.bs_board.specs.records.Record.{snake_record}
use Rattle.bs_json.proofs.ShownSnakes.{found_at, split_at}
use Rattle.bs_json.proofs.shown_bytes.id_in_seat.Goals as goal

pub returns : goal.returns
returns c all s is found =
    let seat = c.args.seat in
    let at = found_at all seat s found in
    let reached : seat ≤ length all = (let less = at.0 in omega arith) in
    let parts = c.split_snake.ensures _ (flat_map snake_record (drop (seat + 1) all)) (split_at all seat _ at.0 (c.skip_snakes.ensures all is reached)) in
    parts.0.id ∙ ap (λ (t : Snake). t.id) at.1
