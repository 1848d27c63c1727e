-- What private contracts add to specs/Laws.
use Rattle.std.specs.Prelude.{◌≡◌, ℕ, true, List, ◌++◌}
use Rattle.std.specs.List.{filter_map}
use Rattle.bs_board.specs.declared.plans.version.Version.{Version}
use Rattle.bs_registry.specs.Stays.{Capacity, Stay}
use Rattle.bs_workers.specs.Acts.{are_acceptable, command_in, opened, rows_admitted}
use Rattle.bs_host.specs.Cut.{own_lines_in}
use Rattle.bs_host.specs.File.{rows_of}
use Rattle.bs_registry.specs.OpenStays.{open_stays_of}
use Rattle.bs_host.specs.inner.OpenStays.{own_by_open_stays, routes_by_open_stays}
use Rattle.bs_host.specs.Routing.{commands_of, capacity_of, routes_from, stays_of}
use Rattle.bs_host.specs.inner.Routing.{acts_of}

-- The stays are the plan's rows, then the admitted ones; the acts of a file are acceptable in their
-- order, whatever the state of the games.
pub record IsActedOn (blocks : ℕ) (file : List ℕ) : Type 0 where
  pub stays : stays_of blocks file ≡ rows_of file ++ rows_admitted (acts_of blocks file)
  pub acceptable : are_acceptable (capacity_of blocks) (opened (rows_of file)) (acts_of blocks file) ≡ true
  pub commands : (stay : ℕ) → commands_of blocks file stay ≡ filter_map (command_in stay) (acts_of blocks file)

abbrev pub ActsLaw : Type 0
ActsLaw = (blocks : ℕ) (file : List ℕ) → IsActedOn blocks file

-- The open stays alone decide the routing, and which stay a line belongs to.
abbrev pub OpenStaysLaw : Type 0
OpenStaysLaw =
    (capacity : Capacity) (version : Version) (number : ℕ) (registry : List Stay) (lines : List (List ℕ))
    → routes_from capacity version registry number lines ≡ routes_by_open_stays capacity version (open_stays_of registry) number lines

abbrev pub OpenStayLinesLaw : Type 0
OpenStayLinesLaw =
    (capacity : Capacity) (version : Version) (stay : ℕ) (registry : List Stay) (lines : List (List ℕ))
    → own_lines_in capacity version registry stay lines ≡ own_by_open_stays capacity version (open_stays_of registry) stay lines
