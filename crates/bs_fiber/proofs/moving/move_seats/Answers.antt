use Rattle.std.proofs.Common.{◌≡◌, ℕ, ◌+◌, ◌*◌, ◌<◌, ◌≤◌, Option, List, [], ◌++◌, length, drop, sym, ap, subst, ◌∙◌, arith, min}
use Rattle.std.specs.Prelude.{flat_map}
use Rattle.std.proofs.lemmas.List.{take_all}
use Rattle.bs_block.specs.Bytes.{padded}
use Rattle.bs_board.specs.records.Record.{snake_record}
use Rattle.bs_fiber.specs.Frames.{frame_of, pieces_from}
use Rattle.bs_fiber.specs.Work.{moves_in}
use Rattle.bs_fiber.specs.inner.Moving.{BeginWith, moved_by}
use Rattle.bs_board.specs.declared.boards.snake.Snake.{Snake}
use Rattle.bs_fiber.proofs.Framed.{frame_none, pieces_none, same_block}
use Rattle.bs_fiber.proofs.MovedSeats.{moved_list, moved_many, next_has_room, next_seat, one_more}
use Rattle.bs_fiber.proofs.moving.move_seats.Goals as goal

pub loop-init : goal.loop-init
loop-init g c = (
  ap length c.new-pieces.ensures,
  λ b legal is.
      let shows = c.parts-board.ensures.value b is in
      let from : c.min-from.result ≡ min (2 * c.args.part) (length b.snakes) + 0 = omega (arith, c.min-from.ensures, c.from.ensures, shows.seats) in
      record {
        left_are = c.skip_snakes-left.ensures b.snakes shows.snakes (omega (arith, from)) ∙ ap (λ (n : ℕ). flat_map snake_record (drop n b.snakes)) from;
        pieces_are = c.new-pieces.ensures ∙ sym pieces_none;
        block_is = same_block c.args.owned.now (frame_of []) (c.requires.empty ∙ sym frame_none);
      },
)

pub move_seat-requires : goal.move_seat-requires
move_seat-requires g c =
    let kept = c.parts-board.ensures.legal in
    let b = kept.board in
    let shows = c.parts-board.ensures.value b kept.is in
    let so_far = c.loop.invariant.1 b kept.legal kept.is in
    let few : c.loop.counter < 2 = omega (arith, c.loop-test.true, c.min-count.ensures) in
    let within : min (2 * c.args.part) (length b.snakes) + c.loop.counter < length b.snakes =
    omega (arith, c.loop-test.true, c.min-count.ensures, c.min-from.ensures, c.from.ensures, shows.seats) in
    let moves = moves_in c.args.command.now in
    let seat = next_seat b kept.legal moves c.args.part c.loop.counter c.loop.left.now c.loop.pieces.items c.args.owned.now c.loop.owned so_far few within in
    let room = next_has_room b kept.legal moves c.args.part c.loop.counter c.loop.left.now c.loop.pieces.items c.args.owned.now c.loop.owned so_far few within in
    let begins = subst (λ (wrap : Option (ℕ × ℕ)). BeginWith wrap seat.snake seat.rest c.loop.left.now) (sym (c.wrap-wrap.ensures b kept.is)) seat.begins in
    (omega arith, (seat.snake, seat.rest, begins, omega (arith, c.requires.wide, room)))

pub loop-preserved : goal.loop-preserved
loop-preserved g c = (
  c.push.ensures.len ∙ ap (λ (n : ℕ). n + 1) c.loop.invariant.0,
  λ b legal is.
      let shows = c.parts-board.ensures.value b is in
      let so_far = c.loop.invariant.1 b legal is in
      let few : c.loop.counter < 2 = omega (arith, c.loop-test.true, c.min-count.ensures) in
      let within : min (2 * c.args.part) (length b.snakes) + c.loop.counter < length b.snakes =
      omega (arith, c.loop-test.true, c.min-count.ensures, c.min-from.ensures, c.from.ensures, shows.seats) in
      let moves = moves_in c.args.command.now in
      let seat = next_seat b legal moves c.args.part c.loop.counter c.loop.left.now c.loop.pieces.items c.args.owned.now c.loop.owned so_far few within in
      let wrap = c.wrap-wrap.ensures b is in
      let begins = subst (λ (wrap : Option (ℕ × ℕ)). BeginWith wrap seat.snake seat.rest c.loop.left.now) (sym wrap) seat.begins in
      let written = c.move_seat.ensures.block seat.snake seat.rest begins
      ∙ ap (λ (wrap : Option (ℕ × ℕ)). record c.loop.owned { block = c.loop.owned.block ++ padded (snake_record (moved_by wrap moves seat.snake)) }) wrap in
      one_more b legal moves c.args.part c.loop.counter c.loop.left.now c.loop.pieces.items c.args.owned.now c.loop.owned so_far few within _ _ _ _
      (c.move_seat.ensures.rest seat.snake seat.rest begins) (c.move_seat.ensures.piece seat.snake seat.rest begins) c.push.ensures.items written,
)

pub returns-clause-pieces : goal.returns-clause-pieces
returns-clause-pieces g c b legal is =
    let shows = c.parts-board.ensures.value b is in
    let moves = moves_in c.args.command.now in
    let whole : length (moved_list b legal moves c.args.part) ≤ c.loop.counter =
    omega (arith, moved_many b legal moves c.args.part, c.loop-test.false, c.min-count.ensures, c.min-from.ensures, c.from.ensures, shows.seats) in
    c.new.ensures ∙ (c.loop.invariant.1 b legal is).pieces_are ∙ ap (pieces_from 0) (take_all c.loop.counter (moved_list b legal moves c.args.part) whole)

pub returns-clause-block : goal.returns-clause-block
returns-clause-block g c b legal is =
    let shows = c.parts-board.ensures.value b is in
    let moves = moves_in c.args.command.now in
    let list = moved_list b legal moves c.args.part in
    let whole : length list ≤ c.loop.counter =
    omega (arith, moved_many b legal moves c.args.part, c.loop-test.false, c.min-count.ensures, c.min-from.ensures, c.from.ensures, shows.seats) in
    (c.loop.invariant.1 b legal is).block_is ∙ ap (λ (snakes : List Snake). record c.args.owned.now { block = frame_of snakes }) (take_all c.loop.counter list whole)
