-- Which acts are acceptable, in their order. The registry alone decides: the row of each stay, and
-- whether it is open. The state of the games does not matter.
use Rattle.std.specs.Prelude.{ℕ, nat_eq, Bool, true, ◌&&◌, if◌then◌else◌, List, [], ◌∷◌, map, Option, Some, None}
use Rattle.std.specs.List.{position}
use Rattle.bs_board.specs.declared.commands.command.Command.{Command}
use Rattle.bs_board.specs.plans.Plan.{GameRow}
use Rattle.bs_pool.specs.Ledger.{size}
use Rattle.bs_sched.specs.Core.{CoreView}
use Rattle.bs_registry.specs.Stays.{Capacity, Stay, has_name, is_in, may_admit_in, open_stay, with_admitted, with_closed}
use Rattle.bs_workers.specs.declared.act.Act.{Act}
use Rattle.bs_workers.specs.declared.act.Act.TheVariants as act

abbrev pub capacity_of_core : ℕ → CoreView → Capacity
capacity_of_core cap core = record { cap = cap; blocks = size core.games.storage.pool }

-- the plan's rows are the first stays
abbrev pub opened : List GameRow → List Stay
opened = map open_stay

-- the open stay of that name
abbrev pub stay_named : List Stay → List ℕ → Option ℕ
stay_named registry name = position (has_name name) registry

abbrev pub registry_after : List Stay → Act → List Stay
registry_after registry (act.Hand stay command) = registry
registry_after registry (act.Admit row) = with_admitted row registry
registry_after registry (act.Leave stay) = with_closed stay registry

-- each act may be made in its place, whatever the state of the games
abbrev pub is_acceptable : Capacity → List Stay → Act → Bool
is_acceptable capacity registry (act.Hand stay command) = is_in registry stay
is_acceptable capacity registry (act.Admit row) = may_admit_in capacity registry row
is_acceptable capacity registry (act.Leave stay) = is_in registry stay

abbrev pub are_acceptable : Capacity → List Stay → List Act → Bool
are_acceptable capacity registry [] = true
are_acceptable capacity registry (a ∷ acts) =
    is_acceptable capacity registry a && are_acceptable capacity (registry_after registry a) acts

-- the rows that are admitted, in their order
abbrev pub rows_admitted : List Act → List GameRow
rows_admitted [] = []
rows_admitted (act.Hand stay command ∷ acts) = rows_admitted acts
rows_admitted (act.Admit row ∷ acts) = row ∷ rows_admitted acts
rows_admitted (act.Leave stay ∷ acts) = rows_admitted acts

abbrev pub rows_in_registry : List Stay → List GameRow
rows_in_registry = map (λ entry. entry.row)

-- the command that an act queues for that stay
abbrev pub command_in : ℕ → Act → Option Command
command_in stay (act.Hand to command) = if nat_eq to stay then Some command else None
command_in stay (act.Admit row) = None
command_in stay (act.Leave to) = None
