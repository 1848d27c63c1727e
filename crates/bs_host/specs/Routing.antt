-- The route of each line of a command file: to the core as an act, to the strays, or nowhere. It
-- depends on the registry of stays at that line.
use Rattle.std.specs.Prelude.{ℕ, ◌+◌, nat_lt, Bool, List, [], ◌∷◌, length, fold, Option, Some, None, option_map, if◌then◌else◌}
use Rattle.std.specs.List.{filter_map}
use Rattle.bs_board.specs.declared.commands.command.Command.{Command}
use Rattle.bs_board.specs.declared.commands.command.Command.TheVariants as command
use Rattle.bs_board.specs.declared.plans.version.Version.{Version}
use Rattle.bs_board.specs.plans.Plan.{GameRow}
use Rattle.bs_board.specs.Texts.{is_same_text}
use Rattle.bs_json.specs.declared.line.Line.{Line}
use Rattle.bs_json.specs.declared.line.Line.TheVariants as line
use Rattle.bs_json.specs.declared.line.Stray.{Stray}
use Rattle.bs_json.specs.declared.line.Stray.TheVariants as stray
use Rattle.bs_json.specs.Line.{line_of}
use Rattle.bs_workers.specs.declared.act.Act.{Act}
use Rattle.bs_workers.specs.declared.act.Act.TheVariants as act
use Rattle.bs_sched.specs.declared.stays.Admit.{Admit}
use Rattle.bs_sched.specs.declared.stays.Admit.TheVariants as admit
use Rattle.bs_registry.specs.declared.refusal.Refusal.{Refusal}
use Rattle.bs_registry.specs.declared.refusal.Refusal.TheVariants as refused
use Rattle.bs_registry.specs.Stays.{Capacity, Stay, first_refusal}
use Rattle.bs_workers.specs.Acts.{stay_named, registry_after, command_in, opened, rows_in_registry}
use Rattle.bs_host.specs.declared.limits.TheConstants.{BLOCK_BYTES}
use Rattle.bs_host.specs.declared.route.Route.{Route}
use Rattle.bs_host.specs.declared.route.Route.TheVariants as route
use Rattle.bs_host.specs.File.{pieces_of, later_pieces, rows_of, version_of}

-- One line.
-- The stray line for a refusal of an admission. The host never refuses one because memory
-- ran out.
abbrev pub stray_for : Option Refusal → Option Stray
stray_for None = None
stray_for (Some refused.NameOpen) = Some stray.NameOpen
stray_for (Some refused.Full) = Some stray.Full
stray_for (Some (refused.Short free)) = Some stray.Short

-- and for what the core answers
abbrev pub stray_of : Admit → Option Stray
stray_of admit.NameOpen = Some stray.NameOpen
stray_of admit.Full = Some stray.Full
stray_of (admit.Short free) = Some stray.Short
stray_of admit.Memory = None

-- the first reason against admitting a row, which is the core's
abbrev pub admit_refusal : Capacity → List Stay → GameRow → Option Stray
admit_refusal capacity registry row = stray_for (first_refusal capacity registry row)

abbrev pub hand_route : Option ℕ → Command → Route
hand_route None command = route.Stray stray.Game
hand_route (Some stay) command = route.Act (act.Hand stay command)

abbrev pub admit_route : Option Stray → GameRow → Route
admit_route None row = route.Act (act.Admit row)
admit_route (Some kind) row = route.Stray kind

abbrev pub leave_route : Option ℕ → Route
leave_route None = route.Stray stray.NoStay
leave_route (Some stay) = route.Act (act.Leave stay)

abbrev pub route_of : Capacity → List Stay → Line → Route
route_of capacity registry line.Blank = route.Nowhere
route_of capacity registry (line.Command game command) = hand_route (stay_named registry game) command
route_of capacity registry (line.Bad game) = hand_route (stay_named registry game) command.Bad
route_of capacity registry (line.Stray kind) = route.Stray kind
route_of capacity registry (line.Admit row) = admit_route (admit_refusal capacity registry row) row
route_of capacity registry line.BadAdmit = route.Stray stray.BadRow
route_of capacity registry (line.Leave None) = route.Stray stray.NoStay
route_of capacity registry (line.Leave (Some game)) = leave_route (stay_named registry game)

abbrev pub registry_then : List Stay → Route → List Stay
registry_then registry (route.Act a) = registry_after registry a
registry_then registry (route.Stray kind) = registry
registry_then registry route.Nowhere = registry

-- All lines, in the order of the file.
abbrev pub route_at : Capacity → Version → List Stay → List ℕ → Route
route_at capacity version registry text = route_of capacity registry (line_of version text)

abbrev pub next_registry : Capacity → Version → List Stay → List ℕ → List Stay
next_registry capacity version registry text = registry_then registry (route_at capacity version registry text)

-- the registry after these lines
abbrev pub registry_behind : Capacity → Version → List Stay → List (List ℕ) → List Stay
registry_behind capacity version = fold (next_registry capacity version)

-- the routes of lines; the first line has the number `number`
abbrev pub routes_from : Capacity → Version → List Stay → ℕ → List (List ℕ) → List (ℕ × Route)
routes_from capacity version registry number [] = []
routes_from capacity version registry number (text ∷ lines) =
    (number, route_at capacity version registry text) ∷ routes_from capacity version (next_registry capacity version registry text) (number + 1) lines

abbrev pub capacity_of : ℕ → Capacity
capacity_of blocks = record { cap = BLOCK_BYTES; blocks = blocks }

-- lines are counted from 1, and the first is the plan
abbrev pub routes_of : ℕ → List ℕ → List (ℕ × Route)
routes_of blocks file = routes_from (capacity_of blocks) (version_of file) (opened (rows_of file)) 2 (later_pieces (pieces_of file))

-- the stays in the order of their rows: the plan's, then those that these lines admit
abbrev pub stays_behind : Capacity → Version → List GameRow → List (List ℕ) → List GameRow
stays_behind capacity version rows lines = rows_in_registry (registry_behind capacity version (opened rows) lines)

abbrev pub stays_of : ℕ → List ℕ → List GameRow
stays_of blocks file = stays_behind (capacity_of blocks) (version_of file) (rows_of file) (later_pieces (pieces_of file))

-- The parts of a list of routes.
abbrev pub act_in : Route → Option Act
act_in (route.Act a) = Some a
act_in (route.Stray kind) = None
act_in route.Nowhere = None

abbrev pub acts_in : List (ℕ × Route) → List Act
acts_in = filter_map (λ line. act_in line.1)

-- the command of a line for that stay, if it is one
abbrev pub command_to : ℕ → Route → Option Command
command_to stay (route.Act a) = command_in stay a
command_to stay (route.Stray kind) = None
command_to stay route.Nowhere = None

abbrev pub commands_to : ℕ → List (ℕ × Route) → List Command
commands_to stay = filter_map (λ line. command_to stay line.1)

abbrev pub stray_kind : Route → Option Stray
stray_kind (route.Act a) = None
stray_kind (route.Stray kind) = Some kind
stray_kind route.Nowhere = None

abbrev pub numbered_stray : ℕ × Route → Option (ℕ × Stray)
numbered_stray line = option_map (λ kind. (line.0, kind)) (stray_kind line.1)

abbrev pub strays_in : List (ℕ × Route) → List (ℕ × Stray)
strays_in = filter_map numbered_stray

abbrev pub commands_of : ℕ → List ℕ → ℕ → List Command
commands_of blocks file stay = commands_to stay (routes_of blocks file)

abbrev pub strays_of : ℕ → List ℕ → List (ℕ × Stray)
strays_of blocks file = strays_in (routes_of blocks file)

-- The lines of a stay, by its name and without the registry.
abbrev pub is_leave_of : List ℕ → Line → Bool
is_leave_of name line.Blank = Bool.false
is_leave_of name (line.Command game command) = Bool.false
is_leave_of name (line.Bad game) = Bool.false
is_leave_of name (line.Stray kind) = Bool.false
is_leave_of name (line.Admit row) = Bool.false
is_leave_of name line.BadAdmit = Bool.false
is_leave_of name (line.Leave None) = Bool.false
is_leave_of name (line.Leave (Some game)) = is_same_text game name

abbrev pub is_command_for : List ℕ → Line → Bool
is_command_for name line.Blank = Bool.false
is_command_for name (line.Command game command) = is_same_text game name
is_command_for name (line.Bad game) = is_same_text game name
is_command_for name (line.Stray kind) = Bool.false
is_command_for name (line.Admit row) = Bool.false
is_command_for name line.BadAdmit = Bool.false
is_command_for name (line.Leave game) = Bool.false

-- the lines up to the one by which the game of that name leaves, or to the end
abbrev pub until_leave : Version → List ℕ → List (List ℕ) → List (List ℕ)
until_leave version name [] = []
until_leave version name (text ∷ lines) = if is_leave_of name (line_of version text) then [] else text ∷ until_leave version name lines

-- the lines after the one that opens that stay; all lines, if the stay is open before them
abbrev pub behind_admit : Capacity → Version → List Stay → ℕ → List (List ℕ) → List (List ℕ)
behind_admit capacity version registry stay [] = []
behind_admit capacity version registry stay (text ∷ lines) =
    if nat_lt stay (length registry) then text ∷ lines else behind_admit capacity version (next_registry capacity version registry text) stay lines
