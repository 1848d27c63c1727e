use Rattle.bs_workers.specs.Acts.{opened}
use Rattle.bs_registry.specs.OpenStays.{open_stays_of}
use Rattle.bs_host.specs.inner.Parsed.{all_lines, routes_parsed}
use Rattle.bs_host.specs.inner.Routing.{WillRoute}
use Rattle.bs_host.specs.Routing.{capacity_of}
use Rattle.bs_host.proofs.route.route_lines.Given as goal

-- the lines so far, then those of the remaining shares
abbrev pub invariant-loop-share : goal.invariant-loop-share
invariant-loop-share l =
    WillRoute (capacity_of l.blocks) (routes_parsed (capacity_of l.blocks) (open_stays_of (opened l.rows)) 2 (all_lines l.fn.shares.items))
    l.router (all_lines l.share-iterator.rest.items)
