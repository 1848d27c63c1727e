-- Routing by the open stays alone.
use Rattle.std.specs.Prelude.{ℕ, ◌+◌, Bool, true, ◌&&◌, not, if◌then◌else◌, List, [], ◌∷◌, ◌++◌, nat_eq, nat_lt, Some, None, is_some}
use Rattle.std.specs.List.{filter, list_any}
use Rattle.bs_board.specs.declared.commands.command.Command.TheVariants as command
use Rattle.bs_board.specs.declared.plans.version.Version.{Version}
use Rattle.bs_board.specs.plans.Plan.{GameRow}
use Rattle.bs_json.specs.declared.line.Line.{Line}
use Rattle.bs_json.specs.declared.line.Line.TheVariants as line
use Rattle.bs_json.specs.declared.line.Stray.TheVariants as stray
use Rattle.bs_json.specs.Line.{line_of}
use Rattle.bs_registry.specs.declared.blocks.TheConstants.{MOST_STAYS}
use Rattle.bs_registry.specs.OpenStays.{OpenStayList, bears, found_in}
use Rattle.bs_registry.specs.inner.OpenStays.{refusal_by}
use Rattle.bs_registry.specs.Stays.{Capacity}
use Rattle.bs_workers.specs.declared.act.Act.TheVariants as act
use Rattle.bs_host.specs.declared.route.Route.{Route}
use Rattle.bs_host.specs.declared.route.Route.TheVariants as route
use Rattle.bs_host.specs.Routing.{admit_route, command_to, hand_route, leave_route, stray_for}

-- routing by the open stays
abbrev pub route_by : Capacity → OpenStayList → Line → Route
route_by capacity open_stays line.Blank = route.Nowhere
route_by capacity open_stays (line.Command game command) = hand_route (found_in game open_stays.stays) command
route_by capacity open_stays (line.Bad game) = hand_route (found_in game open_stays.stays) command.Bad
route_by capacity open_stays (line.Stray kind) = route.Stray kind
route_by capacity open_stays (line.Admit row) = admit_route (stray_for (refusal_by capacity open_stays row)) row
route_by capacity open_stays line.BadAdmit = route.Stray stray.BadRow
route_by capacity open_stays (line.Leave None) = route.Stray stray.NoStay
route_by capacity open_stays (line.Leave (Some game)) = leave_route (found_in game open_stays.stays)

abbrev pub open_stays_then : OpenStayList → Route → OpenStayList
open_stays_then open_stays (route.Act (act.Hand stay command)) = open_stays
open_stays_then open_stays (route.Act (act.Admit row)) = record { made = open_stays.made + 1; stays = open_stays.stays ++ (open_stays.made, row) ∷ [] }
open_stays_then open_stays (route.Act (act.Leave stay)) =
    record { made = open_stays.made; stays = filter (λ other. not (nat_eq other.0 stay)) open_stays.stays }
open_stays_then open_stays (route.Stray kind) = open_stays
open_stays_then open_stays route.Nowhere = open_stays

-- the row that a route admits has a name that no open stay has, and a number
abbrev pub may_follow : OpenStayList → Route → Bool
may_follow open_stays (route.Act (act.Hand stay command)) = true
may_follow open_stays (route.Act (act.Admit row)) = not (list_any (bears row.game) open_stays.stays) && nat_lt open_stays.made MOST_STAYS
may_follow open_stays (route.Act (act.Leave stay)) = true
may_follow open_stays (route.Stray kind) = true
may_follow open_stays route.Nowhere = true

abbrev pub routes_by_open_stays : Capacity → Version → OpenStayList → ℕ → List (List ℕ) → List (ℕ × Route)
routes_by_open_stays capacity version open_stays number [] = []
routes_by_open_stays capacity version open_stays number (text ∷ lines) =
    (number, route_by capacity open_stays (line_of version text))
    ∷ routes_by_open_stays capacity version (open_stays_then open_stays (route_by capacity open_stays (line_of version text))) (number + 1) lines

-- the rows that the lines admit
abbrev pub rows_in_route : Route → List GameRow
rows_in_route (route.Act (act.Hand stay command)) = []
rows_in_route (route.Act (act.Admit row)) = row ∷ []
rows_in_route (route.Act (act.Leave stay)) = []
rows_in_route (route.Stray kind) = []
rows_in_route route.Nowhere = []

abbrev pub rows_by_open_stays : Capacity → Version → OpenStayList → List (List ℕ) → List GameRow
rows_by_open_stays capacity version open_stays [] = []
rows_by_open_stays capacity version open_stays (text ∷ lines) =
    rows_in_route (route_by capacity open_stays (line_of version text))
    ++ rows_by_open_stays capacity version (open_stays_then open_stays (route_by capacity open_stays (line_of version text))) lines

-- the lines of a stay, by the open stays
abbrev pub own_by_open_stays : Capacity → Version → OpenStayList → ℕ → List (List ℕ) → List (List ℕ)
own_by_open_stays capacity version open_stays stay [] = []
own_by_open_stays capacity version open_stays stay (text ∷ lines) =
    if is_some (command_to stay (route_by capacity open_stays (line_of version text)))
    then text ∷ own_by_open_stays capacity version (open_stays_then open_stays (route_by capacity open_stays (line_of version text))) stay lines
    else own_by_open_stays capacity version (open_stays_then open_stays (route_by capacity open_stays (line_of version text))) stay lines
