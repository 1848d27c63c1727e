use Rattle.std.proofs.Common.{ap, arith, length}
use Rattle.bs_board.proofs.records.StepRecord.{puts_stepped, step_lengths}
use Rattle.bs_board.proofs.records.stepped.encode_stepped_into.Goals as goal

pub put-id-requires : goal.put-id-requires
put-id-requires c =
    let given = c.requires.snake in
    let lengths = step_lengths given.0 c.args.snake.now.id.now c.args.snake.now.body.now given.1.some given.2.id given.2.body in
    omega (arith, lengths.all, given.3)

pub put-state-requires : goal.put-state-requires
put-state-requires c =
    let given = c.requires.snake in
    let lengths = step_lengths given.0 c.args.snake.now.id.now c.args.snake.now.body.now given.1.some given.2.id given.2.body in
    omega (arith, lengths.all, given.3, c.put-id.ensures.place, c.put-id.ensures.room)

pub stepped_state-requires-clause-parts : goal.stepped_state-requires-clause-parts
stepped_state-requires-clause-parts c =
    let given = c.requires.snake in
    let lengths = step_lengths given.0 c.args.snake.now.id.now c.args.snake.now.body.now given.1.some given.2.id given.2.body in
    omega (arith, lengths.parts, given.1.fits.parts)

pub put-cells-requires : goal.put-cells-requires
put-cells-requires c =
    let given = c.requires.snake in
    let lengths = step_lengths given.0 c.args.snake.now.id.now c.args.snake.now.body.now given.1.some given.2.id given.2.body in
    let state = ap length c.stepped_state.ensures in
    omega (arith, lengths.all, given.3, c.put-id.ensures.place, c.put-id.ensures.room, c.put-state.ensures.place, c.put-state.ensures.room)

pub put_cell-rest-requires-clause-room : goal.put_cell-rest-requires-clause-room
put_cell-rest-requires-clause-room c =
    let given = c.requires.snake in
    let lengths = step_lengths given.0 c.args.snake.now.id.now c.args.snake.now.body.now given.1.some given.2.id given.2.body in
    let state = ap length c.stepped_state.ensures in
    omega (arith, lengths.all, lengths.parts, given.1.some, given.3, c.put-id.ensures.place, c.put-state.ensures.place, c.put-state.ensures.room, c.put-cells.ensures.place, c.put-cells.ensures.room)

pub put-requires : goal.put-requires
put-requires c =
    let given = c.requires.snake in
    let lengths = step_lengths given.0 c.args.snake.now.id.now c.args.snake.now.body.now given.1.some given.2.id given.2.body in
    let state = ap length c.stepped_state.ensures in
    omega (arith, lengths.all, lengths.rest, given.3, c.put-id.ensures.place, c.put-id.ensures.room, c.put-state.ensures.place, c.put-state.ensures.room, c.put-cells.ensures.place, c.put-cells.ensures.room, c.put_cell-rest.ensures.place, c.put_cell-rest.ensures.room)

pub returns : goal.returns
returns c s can is =
    let given = c.requires.snake in
    let lengths = step_lengths given.0 c.args.snake.now.id.now c.args.snake.now.body.now given.1.some given.2.id given.2.body in
    let same = step_lengths s c.args.snake.now.id.now c.args.snake.now.body.now can.some is.id is.body in
    puts_stepped c.args.head s c.args.snake.now c.stepped_state.result _ _ _ _ _ _ _ _ _ _ _ can is c.stepped_state.ensures (omega (arith, lengths.all, same.all, given.3))
    c.put-id.ensures c.put-state.ensures c.put-cells.ensures c.put_cell-rest.ensures c.put.ensures
