use Rattle.std.proofs.Common.{◌+◌, ◌<◌, arith, codes, drop, get_or, length}
use Rattle.std.specs.Prelude.{flat_map}
use Rattle.std.proofs.lemmas.List.{drop_more}
use Rattle.bs_board.specs.records.Record.{snake_record}
use Rattle.bs_json.specs.Boards.{snake_data}
use Rattle.bs_json.proofs.Puts.{put_more}
use Rattle.bs_json.proofs.ShownSnakes.{nobody, one_listed, split_at}
use Rattle.bs_json.proofs.shown_bytes.push_snakes.Goals as goal

pub loop-init : goal.loop-init
loop-init c b fits whole = (whole.snakes, put_more _ _ (codes "[") _ c.push.ensures)

pub loop-preserved : goal.loop-preserved
loop-preserved c b fits whole =
    let i = c.loop.counter in
    let below : i < length b.snakes = (let less = c.loop-test.true in let seats = whole.seats in omega arith) in
    let so_far = c.loop.invariant b fits whole in
    let s = get_or b.snakes i nobody in
    let own = fits.snakes i nobody below in
    let parts = c.split_snake.ensures s (flat_map snake_record (drop (i + 1) b.snakes)) (split_at b.snakes i c.loop.left.now below so_far.0) in
    let pushed = c.push_snake.ensures b s fits own whole parts.0 in
    (parts.1, one_listed (snake_data b.snakes) _ _ _ c.loop.later (drop i b.snakes) s (drop (i + 1) b.snakes) (drop_more b.snakes i nobody below) pushed so_far.1)
