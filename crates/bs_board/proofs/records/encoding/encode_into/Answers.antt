use Rattle.std.proofs.Common.{length, ap, refl, arith}
use Rattle.std.proofs.lemmas.List.Concat.{length-flat_map}
use Rattle.bs_board.specs.records.Record.{cell_bytes, snake_record}
use Rattle.bs_board.proofs.records.Lengths.{length_of_pairs, length_of_record}
use Rattle.bs_board.proofs.records.Writable.{legal_is_writable}
use Rattle.bs_board.proofs.records.Parts.{puts_board}
use Rattle.bs_board.proofs.records.encoding.encode_into.Goals as goal

pub head_bytes-requires-clause-food : goal.head_bytes-requires-clause-food
head_bytes-requires-clause-food c = (legal_is_writable c.args.board.now c.requires.legal).food

pub put_cells-hazards-requires-clause-bytes : goal.put_cells-hazards-requires-clause-bytes
put_cells-hazards-requires-clause-bytes c = rw c.as_slice.ensures (legal_is_writable c.args.board.now c.requires.legal).cells

pub put_snakes-requires-clause-numbers : goal.put_snakes-requires-clause-numbers
put_snakes-requires-clause-numbers c = rw c.as_slice-2.ensures (legal_is_writable c.args.board.now c.requires.legal).snakes

pub put-food-requires : goal.put-food-requires
put-food-requires c =
    let size = length_of_record c.args.board.now in
    rw c.head_bytes.ensures (omega (arith, c.requires.room))

pub put_cells-hazards-requires-clause-room : goal.put_cells-hazards-requires-clause-room
put_cells-hazards-requires-clause-room c =
    let size = length_of_record c.args.board.now in
    let head = ap length c.head_bytes.ensures in
    let food = ap length c.as_slice.ensures in
    omega (arith, c.requires.room, c.put-food.ensures.place, c.put-food.ensures.room)

pub put_hazards-snakes-requires-clause-numbers : goal.put_hazards-snakes-requires-clause-numbers
put_hazards-snakes-requires-clause-numbers c = (legal_is_writable c.args.board.now c.requires.legal).hazards

pub put_hazards-snakes-requires-clause-room : goal.put_hazards-snakes-requires-clause-room
put_hazards-snakes-requires-clause-room c =
    let size = length_of_record c.args.board.now in
    let head = ap length c.head_bytes.ensures in
    let food = ap length c.as_slice.ensures in
    let cells = length_of_pairs (cell_bytes 0) (λ p. refl) c.as_slice.result.now in
    omega (arith, c.requires.room, c.put_cells-hazards.ensures.place, c.put_cells-hazards.ensures.room)

pub put_snakes-requires-clause-room : goal.put_snakes-requires-clause-room
put_snakes-requires-clause-room c =
    let size = length_of_record c.args.board.now in
    let head = ap length c.head_bytes.ensures in
    let food = ap length c.as_slice.ensures in
    let cells = length_of_pairs (cell_bytes 0) (λ p. refl) c.as_slice.result.now in
    let snakes = length-flat_map snake_record c.args.board.now.snakes in
    rw c.as_slice-2.ensures (omega (arith, c.requires.room, c.put_cells-hazards.ensures.place, c.put_hazards-snakes.ensures.place, c.put_hazards-snakes.ensures.room))

pub returns : goal.returns
returns c =
    let head = rw c.head_bytes.ensures at c.put-food.ensures in
    let food = rw c.as_slice.ensures at c.put_cells-hazards.ensures in
    let snakes = rw c.as_slice-2.ensures at c.put_snakes.ensures in
    puts_board c.args.board.now _ _ _ _ _ _ _ _ _ head food c.put_hazards-snakes.ensures snakes c.requires.room
