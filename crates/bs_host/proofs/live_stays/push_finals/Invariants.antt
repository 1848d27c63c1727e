-- the final lines so far, then the remaining ones
use Rattle.std.proofs.Common.{◌≡◌, ◌++◌, drop}
use Rattle.bs_host.specs.inner.LiveHost.{finals_of}
use Rattle.bs_host.proofs.live_stays.push_finals.Given as goal

abbrev pub invariant-loop-index : goal.invariant-loop-index
invariant-loop-index l = l.text.bytes ++ finals_of (drop l.index l.stays) ≡ l.fn.text.bytes ++ finals_of l.stays
