use Rattle.std.proofs.Common.{[], ◌∷◌, sym, ap₂, subst, ◌∙◌, arith}
use Rattle.bs_board.specs.records.Writing.{IsByteCell}
use Rattle.bs_rules.specs.Motion.{direction_taken, neighbor}
use Rattle.bs_fiber.proofs.MovedSeats.{lives_as_shown, next_is_byte, some_bytes}
use Rattle.bs_fiber.proofs.moving.write_moved.Goals as goal

pub part-requires : goal.part-requires
part-requires c =
    let long = some_bytes c.args.wrap c.requires.0 c.requires.1 c.args.snake.now c.requires.2 in
    omega arith

pub encode_stepped_into-requires-clause-head : goal.encode_stepped_into-requires-clause-head
encode_stepped_into-requires-clause-head c =
    let s = c.requires.0 in
    let seat = c.requires.1 in
    let shows = c.requires.2 in
    let wrap = c.args.wrap in
    let given = c.given_in-given.result in
    let lives = sym (lives_as_shown wrap s seat c.args.snake.now c.is_living.result shows c.is_living.ensures) ∙ c.if-is_living.true in
    let head = c.next_head-head.ensures
    ∙ ap₂ (λ h t. neighbor wrap h (direction_taken wrap given (h ∷ t ∷ []))) (c.part.ensures s shows seat.fits.cells) (c.part-then-is_living.ensures s shows seat.fits.cells) in
    subst (IsByteCell 1) (sym head) (next_is_byte wrap s seat given lives)
