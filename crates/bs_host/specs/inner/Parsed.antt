-- The lines of a file, each parsed by itself, and then their routes.
use Rattle.std.specs.Prelude.{◌≡◌, ℕ, ◌+◌, List, [], ◌∷◌, ◌++◌, Option, Some, None, map, slice_index_or}
use Rattle.std.specs.Borrow.{Bor}
use Rattle.bs_board.specs.declared.commands.command.Command.TheVariants as command
use Rattle.bs_board.specs.declared.plans.version.Version.{Version}
use Rattle.bs_json.specs.declared.line.Line.{Line}
use Rattle.bs_json.specs.declared.line.Line.TheVariants as line
use Rattle.bs_json.specs.declared.line.Stray.TheVariants as stray
use Rattle.bs_json.specs.Line.{line_of}
use Rattle.bs_registry.specs.Stays.{Capacity}
use Rattle.bs_host.specs.File.{pieces_of}
use Rattle.bs_host.specs.declared.parse.ParsedLine.{ParsedLine}
use Rattle.bs_host.specs.declared.parse.ParsedLine.TheVariants as parsed
use Rattle.bs_host.specs.declared.route.Route.{Route}
use Rattle.bs_host.specs.declared.route.Route.TheVariants as route
use Rattle.bs_registry.specs.OpenStays.{OpenStayList}
use Rattle.bs_registry.specs.OpenStays.{found_in}
use Rattle.bs_registry.specs.inner.OpenStays.{refusal_by}
use Rattle.bs_host.specs.inner.OpenStays.{open_stays_then}
use Rattle.bs_host.specs.Routing.{admit_route, hand_route, leave_route, stray_for}

abbrev pub parsed_line : Line → ParsedLine
parsed_line line.Blank = parsed.Blank
parsed_line (line.Command game command) = parsed.Command game command
parsed_line (line.Bad game) = parsed.Command game command.Bad
parsed_line (line.Stray kind) = parsed.Stray kind
parsed_line (line.Admit row) = parsed.Admit row
parsed_line line.BadAdmit = parsed.Stray stray.BadRow
parsed_line (line.Leave None) = parsed.Stray stray.NoStay
parsed_line (line.Leave (Some game)) = parsed.Leave game

abbrev pub parsed_lines : Version → List (List ℕ) → List ParsedLine
parsed_lines version = map (λ piece. parsed_line (line_of version piece))

-- the lines of all shares, one after the other
abbrev pub all_lines : List (List ParsedLine) → List ParsedLine
all_lines [] = []
all_lines (share ∷ shares) = share ++ all_lines shares

-- the pieces of all chunks of a text, one after the other
abbrev pub pieces_in : List (Bor (List ℕ)) → List (List ℕ)
pieces_in [] = []
pieces_in (chunk ∷ chunks) = pieces_of chunk.now ++ pieces_in chunks

-- what the parsed chunk of that number has
abbrev pub IsShare : Version → List (Bor (List ℕ)) → ℕ → List ParsedLine → Type 0
IsShare version chunks number share = (none : Bor (List ℕ)) → share ≡ parsed_lines version (pieces_of (slice_index_or chunks number none).now)

-- each slot that is filled has what the parsed chunk of its number has
abbrev pub AreShares : Version → List (Bor (List ℕ)) → List (Option (List ParsedLine)) → Type 0
AreShares version chunks slots = (number : ℕ) (share : List ParsedLine) → slice_index_or slots number None ≡ Some share → IsShare version chunks number share

abbrev pub route_parsed : Capacity → OpenStayList → ParsedLine → Route
route_parsed capacity open_stays (parsed.Command game command) = hand_route (found_in game open_stays.stays) command
route_parsed capacity open_stays (parsed.Stray kind) = route.Stray kind
route_parsed capacity open_stays parsed.Blank = route.Nowhere
route_parsed capacity open_stays (parsed.Admit row) = admit_route (stray_for (refusal_by capacity open_stays row)) row
route_parsed capacity open_stays (parsed.Leave game) = leave_route (found_in game open_stays.stays)

-- the lines are numbered from `number` on
abbrev pub routes_parsed : Capacity → OpenStayList → ℕ → List ParsedLine → List (ℕ × Route)
routes_parsed capacity open_stays number [] = []
routes_parsed capacity open_stays number (line ∷ lines) =
    (number, route_parsed capacity open_stays line)
    ∷ routes_parsed capacity (open_stays_then open_stays (route_parsed capacity open_stays line)) (number + 1) lines
