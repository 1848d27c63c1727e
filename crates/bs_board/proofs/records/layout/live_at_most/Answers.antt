use Rattle.std.proofs.Common.{◌+◌, ◌<◌, arith, drop, get_or, length, sym, ◌∙◌}
use Rattle.std.specs.Prelude.{flat_map}
use Rattle.bs_board.specs.records.Record.{snake_record}
use Rattle.bs_board.proofs.records.Living.{few_live, next_state, one_living, one_out, some, too_many_live}
use Rattle.bs_board.proofs.records.layout.live_at_most.Goals as goal
use Rattle.bs_board.proofs.records.layout.live_at_most.Goals.{then-lives+else-spare-eq0, else-lives}

pub returns-then-spare-eq0 : goal.returns-then-spare-eq0
returns-then-spare-eq0 c snakes many is =
    let i = c.loop.counter in
    let so_far = c.loop.invariant snakes many is in
    let within : i < length snakes = (let more = c.loop-test.true in omega arith) in
    let state = next_state snakes i c.loop.left.now _ _ within so_far.1 c.split_id.ensures in
    let here = c.lives.ensures (get_or snakes i some) (flat_map snake_record (drop (i + 1) snakes)) state in
    too_many_live snakes i c.loop.spare c.args.most within so_far.0 (sym c.if-lives.true ∙ here) c.if-spare-eq0.true

pub returns-in_default : goal.returns-in_default
returns-in_default c snakes many is =
    let i = c.loop.counter in
    let so_far = c.loop.invariant snakes many is in
    let within : i < length snakes = (let more = c.loop-test.true in omega arith) in
    let state = next_state snakes i c.loop.left.now _ _ within so_far.1 c.split_id.ensures in
    absurd (c.in_default.ensures (get_or snakes i some) (flat_map snake_record (drop (i + 1) snakes)) state)

pub loop-preserved : goal.loop-preserved
loop-preserved c snakes many is =
    let i = c.loop.counter in
    let so_far = c.loop.invariant snakes many is in
    let within : i < length snakes = (let more = c.loop-test.true in omega arith) in
    let state = next_state snakes i c.loop.left.now _ _ within so_far.1 c.split_id.ensures in
    let here = c.lives.ensures (get_or snakes i some) (flat_map snake_record (drop (i + 1) snakes)) state in (
      elim c.if-lives.branch [
        | then-lives+else-spare-eq0 w ↦ one_living snakes i c.loop.spare c.if-lives.spare c.args.most within so_far.0 (sym w.if-lives.true ∙ here) (let more = w.if-spare-eq0.false in omega arith) w.spare-is
        | else-lives w ↦ one_out snakes i c.loop.spare c.if-lives.spare c.args.most within so_far.0 (sym w.if-lives.false ∙ here) w.spare-is
      ],
      c.in-Some.ensures (get_or snakes i some) (flat_map snake_record (drop (i + 1) snakes)) state,
    )

pub returns : goal.returns
returns c snakes many is =
    let so_far = c.loop.invariant snakes many is in
    few_live snakes c.loop.counter c.loop.spare c.args.most (let over = c.loop-test.false in omega arith) so_far.0
