use Rattle.std.proofs.Common.{ℕ, List, ◌++◌}
use Rattle.bs_host.specs.declared.parse.ParsedLine.{ParsedLine}
use Rattle.bs_host.specs.declared.route.Route.{Route}
use Rattle.bs_host.specs.inner.Routing.{WillRoute}
use Rattle.bs_host.specs.Routing.{capacity_of}
use Rattle.bs_host.proofs.route.Router.route_share.Given as goal

-- what the lines so far add is among the requests
abbrev pub invariant-loop-line : goal.invariant-loop-line
invariant-loop-line l =
    (all : List (ℕ × Route)) (later : List ParsedLine) → WillRoute (capacity_of l.blocks) all l.fn.self (l.fn.share ++ later)
    → WillRoute (capacity_of l.blocks) all l.self (l.line-iterator.rest.items ++ later)
