-- What private contracts add to specs/Routing.
use Rattle.std.specs.Prelude.{◌≡◌, ◌++◌, ℕ, List}
use Rattle.bs_workers.specs.declared.act.Act.{Act}
use Rattle.bs_registry.specs.Registry.{seen}
use Rattle.bs_registry.specs.Stays.{Capacity}
use Rattle.bs_host.specs.declared.parse.ParsedLine.{ParsedLine}
use Rattle.bs_host.specs.declared.route.Requests.{Requests}
use Rattle.bs_host.specs.declared.route.Route.{Route}
use Rattle.bs_host.specs.declared.route.Router.{Router}
use Rattle.bs_host.specs.Routing.{routes_of, acts_in, strays_in}
use Rattle.bs_host.specs.inner.Parsed.{routes_parsed}

abbrev pub acts_of : ℕ → List ℕ → List Act
acts_of blocks file = acts_in (routes_of blocks file)

-- the requests are the acts and the strays of these routes
pub record IsRouted (routes : List (ℕ × Route)) (requests : Requests) : Type 0 where
  pub acts : requests.acts.items ≡ acts_in routes
  pub strays : requests.strays.items ≡ strays_in routes

-- with what the remaining routes add, the requests are those of all routes
pub record AreLeft (all : List (ℕ × Route)) (left : List (ℕ × Route)) (requests : Requests) : Type 0 where
  pub acts : requests.acts.items ++ acts_in left ≡ acts_in all
  pub strays : requests.strays.items ++ strays_in left ≡ strays_in all

-- with what the later lines add, the router's requests are those of all routes
abbrev pub WillRoute : Capacity → List (ℕ × Route) → Router → List ParsedLine → Type 0
WillRoute capacity all router later = AreLeft all (routes_parsed capacity (seen router.open_stays) router.number later) router.requests
