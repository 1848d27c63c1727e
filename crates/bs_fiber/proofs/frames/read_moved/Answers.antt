use Rattle.std.proofs.Common.{◌≡◌, ◌∙◌, ap, refl, ◌++◌, ◌∷◌, [], arith}
use Rattle.bs_board.specs.declared.boards.snake.Snake.{Snake}
use Rattle.bs_fiber.proofs.Framed.{piece_there, read_more, read_whole}
use Rattle.bs_fiber.proofs.frames.read_moved.Goals as goal

pub snake_at-requires : goal.snake_at-requires
snake_at-requires g c =
    let pieces = c.as_slice-pieces in
    let held = c.requires.1 in
    let h = piece_there c.requires.0 c.args.owned.now.block pieces.result.now c.loop-piece.piece-index _ (record { at = 0; len = 0 }) held.fit held.block_is (pieces.ensures ∙ held.pieces_are) c.loop-piece-test.true refl in
    (omega arith, (h.0, h.1, h.2))

pub loop-piece-preserved : goal.loop-piece-preserved
loop-piece-preserved g c snakes held =
    let pieces = c.as_slice-pieces in
    let h = piece_there snakes c.args.owned.now.block pieces.result.now c.loop-piece.piece-index _ (record { at = 0; len = 0 }) held.fit held.block_is (pieces.ensures ∙ held.pieces_are) c.loop-piece-test.true refl in
    let is : c.in_ok-snake_at.field-0 ≡ h.0 = c.in_ok-snake_at.ensures h.0 h.1 h.2 in
    read_more c.args.seats.now.items c.loop-piece.seats.items c.push.new.self.items snakes c.loop-piece.piece-index h.0 h.4 h.3 (c.loop-piece.invariant snakes held)
    (c.in_ok-push.ensures.items ∙ ap (λ (s : Snake). c.loop-piece.seats.items ++ s ∷ []) is)

pub returns : goal.returns
returns g c snakes held =
    read_whole c.args.seats.now.items c.loop-piece.seats.items snakes c.as_slice-pieces.result.now c.loop-piece.piece-index (c.as_slice-pieces.ensures ∙ held.pieces_are)
    c.loop-piece-test.false (c.loop-piece.invariant snakes held)
