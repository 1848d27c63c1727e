use Rattle.std.proofs.Common.{[]}
use Rattle.bs_board.specs.declared.boards.point.Direction.TheVariants.{Up}
use Rattle.bs_json.proofs.GivenMoves.{plain_at}
use Rattle.bs_json.proofs.ordered_moves.packed.Goals as goal

pub push-requires : goal.push-requires
push-requires c =
    plain_at c.args.entries.now c.loop-id.id-index (record { ref_ptr = (0, 0); now = [] }, Up) c.loop-id.invariant.1 c.loop-id-test.true
