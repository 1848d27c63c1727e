use Rattle.std.proofs.Common.{◌≡◌, replicate}
use Rattle.bs_block.specs.inner.Region.{spliced}
use Rattle.bs_block.proofs.raw.Region.write_zeros.Given as goal

abbrev pub invariant-loop-i : goal.invariant-loop-i
invariant-loop-i l = record { place : l.self.at ≡ l.fn.self.at; slots : l.self.slots ≡ spliced l.fn.self.slots l.at l.i (replicate l.i 0) }
