use Rattle.std.proofs.Common.{length}
use Rattle.bs_json.proofs.Writing.{AreWritten}
use Rattle.bs_json.proofs.written.write_cells.Given as goal

abbrev pub invariant-loop-left : goal.invariant-loop-left
invariant-loop-left l = AreWritten l.at l.fn.bytes l.bytes l.next l.later l.raised l.left l.cells

abbrev pub decreases-loop-left : goal.decreases-loop-left
decreases-loop-left l = length l.left
