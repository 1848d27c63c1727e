-- The chunks so far were parsed.
use Rattle.std.specs.Prelude.{All}
use Rattle.bs_host.specs.inner.Parsed.{IsShare}
use Rattle.bs_host.proofs.parse.Parser.parse_chunks.Given as goal

abbrev pub invariant-loop : goal.invariant-loop
invariant-loop g l = All (λ parsed. IsShare l.self.version l.self.chunks.items parsed.number parsed.share) l.list.items
