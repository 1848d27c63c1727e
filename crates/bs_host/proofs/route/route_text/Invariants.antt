use Rattle.std.specs.Prelude.{option_copied}
use Rattle.bs_workers.specs.Acts.{opened}
use Rattle.bs_registry.specs.OpenStays.{open_stays_of}
use Rattle.bs_host.specs.inner.File.{pieces_after}
use Rattle.bs_host.specs.inner.Parsed.{parsed_lines, routes_parsed}
use Rattle.bs_host.specs.inner.Routing.{WillRoute}
use Rattle.bs_host.specs.Routing.{capacity_of}
use Rattle.bs_host.proofs.ParsedLines.{bytes_left}
use Rattle.bs_host.proofs.route.route_text.Given as goal

-- the lines so far, then the remaining ones
abbrev pub invariant-lines : goal.invariant-lines
invariant-lines l =
    WillRoute (capacity_of l.blocks)
    (routes_parsed (capacity_of l.blocks) (open_stays_of (opened l.plan.rows)) 2 (parsed_lines l.plan.version (pieces_after (option_copied l.fn.text))))
    l.router (parsed_lines l.plan.version (pieces_after (option_copied l.left)))

abbrev pub decreases-lines : goal.decreases-lines
decreases-lines l = bytes_left l.left
