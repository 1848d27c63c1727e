use Rattle.std.proofs.Common.{◌∙◌, sym}
use Rattle.bs_plane.proofs.LoadedPlane.{snakes_more, snakes_stay}
use Rattle.bs_plane.proofs.plane.Plane.add_snakes.Goals as goal
use Rattle.bs_plane.proofs.plane.Plane.add_snakes.Goals.{else-is_living-via-then-is_living+else-not-add_body, else-is_living-via-else-is_living}

pub loop-snake-preserved : goal.loop-snake-preserved
loop-snake-preserved c =
    let snakes = c.args.snakes.now in
    let i = c.loop-snake.snake-index in
    let snake = c.snake-item.result in
    elim c.else-is_living.branch [
      | else-is_living-via-then-is_living+else-not-add_body w ↦
          rw w.self-is (snakes_more snakes i c.loop-snake-test.true snake _ c.snake-item.is c.args.self.now c.loop-snake.self w.add_body.new.self
          (sym c.is_living.ensures ∙ w.if-is_living.true) c.loop-snake.invariant (rw w.as_slice.ensures at (w.add_body.ensures w.if-not-add_body.false)))
      | else-is_living-via-else-is_living w ↦
          snakes_stay snakes i c.loop-snake-test.true snake _ c.snake-item.is c.args.self.now c.loop-snake.self c.else-is_living.self
          (sym c.is_living.ensures ∙ w.if-is_living.false) c.loop-snake.invariant w.self-is
    ]
