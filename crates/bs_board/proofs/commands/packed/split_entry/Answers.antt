use Rattle.std.proofs.Common.{arith}
use Rattle.bs_board.proofs.commands.PackedMoves.{no_entry}
use Rattle.bs_board.proofs.commands.packed.split_entry.Goals as goal

pub returns-in_default : goal.returns-in_default
returns-in_default c moves is = no_entry moves c.args.bytes.now is (let few = c.in_default.len_below in omega arith)
