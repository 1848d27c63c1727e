use Rattle.std.proofs.Common.{◌+◌, ◌-◌, vec_len}
use Rattle.std.specs.Io.KnownBytes.{Consumes}
use Rattle.bs_host.specs.declared.limits.TheConstants.{MOST_FILE_BYTES}
use Rattle.bs_host.proofs.read.read_input_by.Given as goal

-- the bytes read are those that the reader gave
abbrev pub invariant-reads : goal.invariant-reads
invariant-reads g l = Consumes (g.R.Read.remaining l.fn.input) (g.R.Read.remaining l.input) l.bytes.items

abbrev pub decreases-reads : goal.decreases-reads
decreases-reads g l = MOST_FILE_BYTES + 1 - vec_len l.bytes
