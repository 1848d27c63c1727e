use Rattle.std.proofs.Common.{◌≡◌, true, ◌++◌, ◌∙◌, ap, subst, sym}
use Rattle.bs_board.specs.declared.boards.snake.Snake.{Snake}
use Rattle.bs_board.specs.boards.Cell.{head_of}
use Rattle.bs_board.specs.commands.Setup.{is_side}
use Rattle.bs_board.specs.records.Record.{snake_record}
use Rattle.bs_board.specs.records.Writing.{IsWritable}
use Rattle.bs_plane.specs.inner.Onward.{SwapsBody}
use Rattle.bs_plane.proofs.FitSteps.{on_is_byte, stepped_fits}
use Rattle.bs_plane.proofs.motion.move_living.Goals as goal

pub returns : goal.returns
returns c b s of ground sees =
    let step = c.in-Some.ensures b s of ground sees in
    let wide : is_side c.args.plane.now.width ≡ true = rw (ground.width, ← of.width) c.requires.width in
    let high : is_side c.args.plane.now.height ≡ true = rw (ground.height, ← of.height) c.requires.height in
    let byte = on_is_byte c.args.plane.now.width c.args.plane.now.height c.in-Some.step.head wide high (sym c.is_on_board.ensures ∙ c.if-not-is_on_board.false) in
    record {
      swaps = subst (λ (t : Snake). SwapsBody s.body t.body c.args.plane.now c.count_step.new.plane) step.is (c.count_step.ensures c.if-not-count_step.false s sees);
      written = c.in_ok-push_stepped.ensures s sees ∙ ap (λ (t : Snake). c.args.into.now.items ++ snake_record t) step.is;
      leads = ap (λ (t : Snake). head_of t.body) (sym step.is);
      lives = step.lives;
      fits = subst IsWritable step.is (stepped_fits s c.args.snake.now c.in-Some.step sees byte c.if-snake-ge131000.false);
    }
