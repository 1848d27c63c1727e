-- The shares that are left, and the slots so far.
use Rattle.std.specs.Prelude.{All}
use Rattle.bs_host.specs.inner.Parsed.{AreShares, IsShare}
use Rattle.bs_host.proofs.parse.Parser.put_all.Given as goal

abbrev pub invariant-loop : goal.invariant-loop
invariant-loop g l =
    All (λ parsed. IsShare l.self.version l.self.chunks.items parsed.number parsed.share) l.list.items
    × AreShares l.self.version l.self.chunks.items l.slots.shares.items
