-- A live host as an automaton over the lines of a file. It keeps the open stays only.
use Rattle.std.specs.Prelude.{ℕ, ◌+◌, List, [], ◌∷◌, ◌++◌, find, fold, if◌then◌else◌, length, Option, Some, None}
use Rattle.std.specs.List.{flat_map}
use Rattle.bs_board.specs.declared.commands.command.Command.{Command}
use Rattle.bs_board.specs.declared.plans.plan.Plan.{Plan}
use Rattle.bs_board.specs.plans.Plan.{GameRow}
use Rattle.bs_json.specs.Line.{line_of}
use Rattle.bs_json.specs.Replies.{stray_line_of}
use Rattle.bs_live.specs.Stay.{Stay, final_line, next_line, opened_stay, stay_after}
use Rattle.bs_registry.specs.Blocks.{blocks_of}
use Rattle.bs_workers.specs.declared.act.Act.TheVariants as act
use Rattle.bs_host.specs.declared.limits.TheConstants.{BLOCK_BYTES}
use Rattle.bs_host.specs.declared.live_host.LiveHost.{LiveHost}
use Rattle.bs_host.specs.declared.route.Route.{Route}
use Rattle.bs_host.specs.declared.route.Route.TheVariants as route
use Rattle.bs_registry.specs.declared.registry.Listed.{Listed}
use Rattle.bs_registry.specs.Registry.{Listing, is_numbered, listed_from, listing_of, seen, with_stay, without_stay}
use Rattle.bs_host.specs.inner.OpenStays.{route_by}
use Rattle.bs_host.specs.Routing.{capacity_of}

-- a stay of that row without a game, with exactly the blocks that the row reserves
abbrev pub live_stay : GameRow → Stay
live_stay row = opened_stay row (blocks_of BLOCK_BYTES row)

-- the stay of that number answers a command; none does if there is no such stay
abbrev pub answered_by : ℕ → Command → List (Listed Stay) → List (Listed Stay)
answered_by number command [] = []
answered_by number command (other ∷ stays) =
    if is_numbered number other then record { number = other.number; row = other.row; kept = stay_after command other.kept } ∷ stays
    else other ∷ answered_by number command stays

abbrev pub with_answer : ℕ → Command → Listing Stay → Listing Stay
with_answer number command stays = record { made = stays.made; stays = answered_by number command stays.stays }

abbrev pub stay_numbered : ℕ → List (Listed Stay) → Option (Listed Stay)
stay_numbered number stays = find (is_numbered number) stays

-- its reply line, and its final line
abbrev pub reply_in : Command → Option (Listed Stay) → List ℕ
reply_in command None = []
reply_in command (Some other) = next_line command other.kept

abbrev pub final_in : Option (Listed Stay) → List ℕ
final_in None = []
final_in (Some other) = final_line other.kept

abbrev pub reply_of : ℕ → Command → Listing Stay → List ℕ
reply_of number command stays = reply_in command (stay_numbered number stays.stays)

abbrev pub final_of : ℕ → Listing Stay → List ℕ
final_of number stays = final_in (stay_numbered number stays.stays)

-- the final lines of all open stays
abbrev pub finals_of : List (Listed Stay) → List ℕ
finals_of = flat_map (λ stay. final_line stay.kept)

-- A routed line: the open stays after it, and what is written for it.

abbrev pub stays_then : Route → Listing Stay → Listing Stay
stays_then (route.Act (act.Hand stay command)) stays = with_answer stay command stays
stays_then (route.Act (act.Admit row)) stays = with_stay row (live_stay row) stays
stays_then (route.Act (act.Leave stay)) stays = without_stay stay stays
stays_then (route.Stray kind) stays = stays
stays_then route.Nowhere stays = stays

abbrev pub text_then : ℕ → Route → Listing Stay → List ℕ
text_then number (route.Act (act.Hand stay command)) stays = reply_of stay command stays
text_then number (route.Act (act.Admit row)) stays = []
text_then number (route.Act (act.Leave stay)) stays = final_of stay stays
text_then number (route.Stray kind) stays = stray_line_of number kind
text_then number route.Nowhere stays = []

-- The automaton.

abbrev pub host_route : LiveHost → List ℕ → Route
host_route host line = route_by (capacity_of host.blocks) (seen host.stays) (line_of host.version line)

-- the host after a line
unfoldable pub live_after : LiveHost → List ℕ → LiveHost
live_after host line =
    record host {
      stays = stays_then (host_route host line) host.stays;
      number = host.number + 1;
    }

-- what is written for a line
unfoldable pub live_text : LiveHost → List ℕ → List ℕ
live_text host line = text_then host.number (host_route host line) host.stays

-- what is written for these lines
abbrev pub live_texts : LiveHost → List (List ℕ) → List ℕ
live_texts host [] = []
live_texts host (line ∷ lines) = live_text host line ++ live_texts (live_after host line) lines

-- what is written at the end of the input
abbrev pub live_end : LiveHost → List ℕ
live_end host = finals_of host.stays.stays

-- a newly opened host
abbrev pub host_of : ℕ → Plan → LiveHost
host_of blocks plan = record {
  blocks = blocks;
  version = plan.version;
  stays = listing_of (length plan.rows) (listed_from live_stay 0 plan.rows);
  number = 2;
}

-- the host after the plan and these lines
abbrev pub host_behind : ℕ → Plan → List (List ℕ) → LiveHost
host_behind blocks plan lines = fold live_after (host_of blocks plan) lines
