use Rattle.bs_batch.proofs.Loaded.{WrittenSoFar}
use Rattle.bs_batch.proofs.loading.write_cells.Given as goal

-- the cells so far are written
abbrev pub invariant-loop-index : goal.invariant-loop-index
invariant-loop-index l = WrittenSoFar l.index l.cells l.room
