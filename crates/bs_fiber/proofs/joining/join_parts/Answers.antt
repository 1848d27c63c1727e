use Rattle.std.proofs.Common.{◌≡◌, ◌∙◌, ap, List, map, arith}
use Rattle.bs_board.specs.declared.boards.snake.Snake.{Snake}
use Rattle.bs_fiber.specs.Frames.{frame_of}
use Rattle.bs_fiber.specs.Tickets.{bytes_of, frames_in, with_added}
use Rattle.bs_fiber.specs.inner.Frames.{AreFewAndFit}
use Rattle.bs_fiber.specs.Work.{moved_parts}
use Rattle.bs_game.specs.declared.reply.Answer.{Answer}
use Rattle.bs_fiber.proofs.Seen.{some_view}
use Rattle.bs_fiber.proofs.Written.{join_is_worked, parts_are_few}
use Rattle.bs_fiber.proofs.joining.join_parts.Goals as goal

pub write_added-piece-requires : goal.write_added-piece-requires
write_added-piece-requires g c =
    let input = c.args.input.now in
    let seen = some_view input c.requires.fit.game in
    let parts : (all : List (List Snake)) × AreFewAndFit all × (bytes_of (frames_in c.args.frames.now.items) ≡ map frame_of all)
    = (moved_parts seen.0 input.command, parts_are_few input seen.0 c.requires.fit c.requires.kind seen.1, c.requires.fresh seen.0 seen.1) in
    (omega arith, (c.requires.wide, (parts, c.in_ok-answer.ensures.fits)))

pub returns-clause-worked : goal.returns-clause-worked
returns-clause-worked g c =
    let input = c.args.input.now in
    join_is_worked input c.in_ok-answer.answer c.write_added-piece.result c.requires.fit c.requires.kind c.in_ok-answer.ensures.value
    (λ view seen. c.write_added-piece.ensures.piece (moved_parts view input.command) (c.requires.fresh view seen))

pub returns-clause-holds : goal.returns-clause-holds
returns-clause-holds g c view seen =
    let input = c.args.input.now in
    c.write_added-piece.ensures.holds ∙ ap (with_added c.in_ok-answer.answer.effect) (c.requires.fresh view seen)
    ∙ ap (λ (a : Answer). with_added a.effect (map frame_of (moved_parts view input.command))) (c.in_ok-answer.ensures.value view seen)
