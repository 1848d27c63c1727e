use Rattle.std.proofs.Common.{◌≡◌, take}
use Rattle.bs_block.specs.inner.Region.{spliced}
use Rattle.bs_block.proofs.raw.Region.write_slice.Given as goal

abbrev pub invariant-loop-i : goal.invariant-loop-i
invariant-loop-i l = record { place : l.self.at ≡ l.fn.self.at; slots : l.self.slots ≡ spliced l.fn.self.slots l.at l.i (take l.i l.bytes) }
