use Rattle.std.proofs.Common.{◌≡◌, ◌++◌, ◌<◌, ◌∙◌, true, false, ap, arith, get_or, length, refl, sym}
use Rattle.std.specs.Prelude.{is_none}
use Rattle.bs_board.specs.boards.Over.{is_living}
use Rattle.bs_board.specs.commands.Orders.{given_to}
use Rattle.bs_board.specs.records.Record.{snake_record}
use Rattle.bs_rules.specs.Collision.{nobody}
use Rattle.bs_plane.specs.inner.Onward.{MovesSnake}
use Rattle.bs_plane.proofs.MovedSnakes.{copied, copies_more, ground_of, moves_more, sees_living, writable_at}
use Rattle.bs_plane.proofs.NextSnake.{next_snake}
use Rattle.bs_plane.proofs.motion.move_snakes.Goals as goal
use Rattle.bs_plane.proofs.motion.move_snakes.Goals.{then-is_living+in_ok-head+in-Some+in_ok-push, else-is_living+else-rest-left+in_ok-extend_from_slice}

pub loop-preserved : goal.loop-preserved
loop-preserved c b legal of shows =
    let i = c.loop.counter in
    let s = get_or b.snakes i nobody in
    let moves = c.args.moves.now in
    let within : i < length b.snakes = omega (arith, c.loop-test.true, of.seats) in
    let so_far = c.loop.invariant b legal of shows in
    let next = next_snake b.snakes i c.loop.left.now c.split_snake.result.1.now c.split_snake.result.0 within so_far.1 c.split_snake.ensures in
    let lives : c.is_living.result ≡ is_living s = c.is_living.ensures ∙ ap is_none next.view.cause in (
      elim c.if-is_living.branch [
        | then-is_living+in_ok-head+in-Some+in_ok-push w ↦
            let alive : is_living s ≡ true = sym lives ∙ w.if-is_living.true in
            let sees = sees_living b i c.split_snake.result.0 legal within alive next.view in
            let ground = ground_of b moves i within c.loop.plane c.args.into.now.items c.loop.into.items c.args.heads.now.items c.loop.heads.items so_far.0 in
            let given = w.direction_for-given.ensures ∙ ap (given_to moves) next.view.id in
            let step : MovesSnake b (given_to moves s.id) s w.in-Some.head c.loop.plane w.move_living.new.plane c.loop.into.items w.move_living.new.into.items =
            rw (← given) ((rw w.in-Some.is at w.in_ok-head.ensures) b s of ground sees) in
            rw (w.plane-is, w.into-is, w.heads-is)
            (moves_more b moves i within w.in-Some.head c.loop.plane w.move_living.new.plane c.args.into.now.items c.loop.into.items w.move_living.new.into.items
            c.args.heads.now.items c.loop.heads.items w.push.new.self.items alive so_far.0 step w.in_ok-push.ensures.items)
        | else-is_living+else-rest-left+in_ok-extend_from_slice w ↦
            let dead : is_living s ≡ false = sym lives ∙ w.if-is_living.false in
            let raw = copied (snake_record s) c.split_snake.result.1.now c.loop.left.now next.whole in
            let more : w.extend_from_slice.new.self.items ≡ c.loop.into.items ++ snake_record s =
            w.in_ok-extend_from_slice.ensures.items ∙ ap (λ l. c.loop.into.items ++ l) raw in
            rw w.into-is
            (copies_more b moves i within c.loop.plane c.if-is_living.plane c.args.into.now.items c.loop.into.items w.extend_from_slice.new.self.items
            c.args.heads.now.items c.loop.heads.items c.if-is_living.heads.items dead (writable_at b i legal within) so_far.0 more w.plane-is (rw w.heads-is refl))
      ],
      next.behind,
    )
