-- The shares so far, then the chunks that are left.
use Rattle.std.proofs.Common.{◌≡◌, ◌++◌, drop}
use Rattle.bs_host.specs.inner.Parsed.{AreShares, all_lines, parsed_lines, pieces_in}
use Rattle.bs_host.proofs.parse.Parser.in_order.Given as goal

abbrev pub invariant-loop-number : goal.invariant-loop-number
invariant-loop-number g l =
    (all_lines l.shares.items ++ parsed_lines l.self.version (pieces_in (drop l.number l.self.chunks.items)) ≡ parsed_lines l.self.version (pieces_in l.self.chunks.items))
    × AreShares l.self.version l.self.chunks.items l.slots.shares.items
