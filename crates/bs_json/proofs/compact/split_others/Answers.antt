use Rattle.std.proofs.Common.{◌≡◌, ◌++◌, true, rules}
use Rattle.serde_json.specs.Written.{comma_if}
use Rattle.bs_board.specs.commands.Orders.{moves_in}
use Rattle.bs_json.specs.inner.Compact.{move_text}
use Rattle.bs_json.specs.inner.Sorted.{put_move}
use Rattle.bs_json.proofs.GivenMoves.{are_plain_in_order, ascend_in_order, one_more}
use Rattle.bs_json.proofs.compact.split_others.Goals as goal

pub packed-requires : goal.packed-requires
packed-requires c =
    let all : c.as_slice.result.now ≡ c.loop-turn.moves.items = search rules in
    rw all (are_plain_in_order c.args.line.now (moves_in c.loop-turn.moves.items) c.loop-turn.left.now c.loop-turn.invariant.0)

pub returns-in-Some-clause-ascending : goal.returns-in-Some-clause-ascending
returns-in-Some-clause-ascending c =
    let all : c.in_ok-packed.field-0 ≡ moves_in c.loop-turn.moves.items = search rules in
    rw all (ascend_in_order c.args.line.now (moves_in c.loop-turn.moves.items) c.loop-turn.left.now c.loop-turn.invariant.0)

pub put-requires : goal.put-requires
put-requires c = ascend_in_order c.args.line.now (moves_in c.loop-turn.moves.items) c.loop-turn.left.now c.loop-turn.invariant.0

pub loop-turn-preserved : goal.loop-turn-preserved
loop-turn-preserved c =
    let cut = c.in-Some-split_next_move in
    let moves = moves_in c.loop-turn.moves.items in
    let next : c.loop-turn.left.now ≡ comma_if true ++ (move_text (cut.id.now, cut.direction) ++ cut.rest.now) = search rules in
    let put : moves_in c.put.new.entries.items ≡ put_move moves (cut.id.now, cut.direction) = search rules in
    one_more c.args.line.now c.loop-turn.left.now cut.rest.now moves (moves_in c.put.new.entries.items) true (cut.id.now, cut.direction)
    c.loop-turn.invariant next cut.ensures.plain put
