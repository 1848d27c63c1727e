use Rattle.std.proofs.Common.{◌≡◌, ◌-◌, ◌∙◌, ap, append-nil, get_or, length, take}
use Rattle.bs_board.specs.boards.Cell.{origin}
use Rattle.bs_plane.specs.inner.Onward.{repeated}
use Rattle.bs_plane.proofs.Steps.{grows_on, half_of, steps_on}
use Rattle.bs_plane.proofs.motion.count_step.Goals as goal

pub returns-then-step : goal.returns-then-step
returns-then-step c done s sees =
    let half = half_of s c.args.snake.now sees in
    let last = c.part.ensures s sees.view sees.fits.cells ∙ ap (λ n. get_or s.body (n - 1) origin) half in
    let again : c.part-then-step.result ≡ repeated s = c.part-then-step.ensures s sees.view sees.fits.cells ∙ ap (λ n. get_or s.body (n - 2) origin) half in
    let on = steps_on c.args.step.head s sees.long c.part.result c.args.plane.now c.add_part.new.self c.remove_part.new.self last
    (c.add_part.ensures c.if-not-add_part.false) (c.remove_part.ensures c.if-not-remove_part.false) in
    rw c.if-step.true (grows_on c.args.step.head s sees.long c.part-then-step.result c.args.plane.now c.remove_part.new.self c.add_part-then-step.new.self again on
    (c.add_part-then-step.ensures done))

pub returns-else-step : goal.returns-else-step
returns-else-step c _ s sees =
    let half = half_of s c.args.snake.now sees in
    let last = c.part.ensures s sees.view sees.fits.cells ∙ ap (λ n. get_or s.body (n - 1) origin) half in
    let on = steps_on c.args.step.head s sees.long c.part.result c.args.plane.now c.add_part.new.self c.remove_part.new.self last
    (c.add_part.ensures c.if-not-add_part.false) (c.remove_part.ensures c.if-not-remove_part.false) in
    rw (c.if-step.false, append-nil (take (length s.body - 1) s.body)) on
