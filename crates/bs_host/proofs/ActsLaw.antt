-- The acts of a file are acceptable in their order, and make its stays.
use Rattle.std.proofs.Common.{◌≡◌, ℕ, ◌+◌, true, List, [], ◌∷◌, ◌++◌, Option, Some, None, length, refl, sym, ap, ◌∙◌, append_assoc, append-nil}
use Rattle.std.specs.List.{cons_option, filter_map}
use Rattle.std.proofs.Math.Seq.{map-set_same}
use Rattle.std.proofs.lemmas.Bool.{and_from, and_parts, lt-ltb}
use Rattle.std.proofs.lemmas.List.{map-append}
use Rattle.std.proofs.lemmas.List.Quantifiers.{position-Some}
use Rattle.bs_board.specs.declared.commands.command.Command.{Command}
use Rattle.bs_board.specs.plans.Plan.{GameRow}
use Rattle.bs_board.specs.Texts.{is_same_text}
use Rattle.bs_board.specs.declared.plans.version.Version.{Version}
use Rattle.bs_board.specs.declared.commands.command.Command.TheVariants as command
use Rattle.bs_json.specs.declared.line.Line.{Line}
use Rattle.bs_json.specs.declared.line.Stray.{Stray}
use Rattle.bs_json.specs.Line.{line_of}
use Rattle.bs_json.specs.declared.line.Line.TheVariants as line
use Rattle.bs_workers.specs.declared.act.Act.{Act}
use Rattle.bs_registry.specs.Stays.{Capacity, Stay, closed_stay, has_name, is_in, no_stay, open_stay, stay_at}
use Rattle.bs_workers.specs.Acts.{are_acceptable, is_acceptable, opened, rows_admitted, rows_in_registry, stay_named, command_in}
use Rattle.bs_workers.specs.declared.act.Act.TheVariants as act
use Rattle.bs_host.specs.File.{pieces_of, later_pieces, rows_of, version_of}
use Rattle.bs_host.specs.declared.route.Route.{Route}
use Rattle.bs_registry.specs.OpenStays.{OpenStayList, open_stays_of}
use Rattle.bs_host.specs.inner.OpenStays.{open_stays_then, route_by, routes_by_open_stays, rows_by_open_stays, rows_in_route}
use Rattle.bs_host.specs.inner.Laws.{ActsLaw}
use Rattle.bs_host.specs.Routing.{act_in, acts_in, admit_refusal, admit_route, registry_behind, registry_then, command_to, commands_to, hand_route, capacity_of, leave_route, next_registry, route_at, route_of, routes_from, stays_behind}
use Rattle.bs_host.specs.declared.route.Route.TheVariants as route
use Rattle.bs_host.proofs.FitStays.{may_come}
use Rattle.bs_host.proofs.OpenStayRoutes.{open_stays_law}
use Rattle.bs_host.proofs.PlainLines.{rows_opened}

-- rows

rows_step : (registry : List Stay) (r : Route) (acts : List Act)
    → rows_in_registry (registry_then registry r) ++ rows_admitted acts ≡ rows_in_registry registry ++ rows_admitted (cons_option (act_in r) acts)
rows_step registry (route.Act (act.Hand stay command)) acts = refl
rows_step registry (route.Act (act.Admit row)) acts =
    ap (λ rows. rows ++ rows_admitted acts) (map-append (λ (e : Stay). e.row) registry (open_stay row ∷ []))
    ∙ append_assoc (rows_in_registry registry) (row ∷ []) (rows_admitted acts)
rows_step registry (route.Act (act.Leave stay)) acts =
    ap (λ rows. rows ++ rows_admitted acts) (map-set_same (λ (e : Stay). e.row) registry stay (closed_stay (stay_at registry stay)) no_stay refl)
rows_step registry (route.Stray kind) acts = refl
rows_step registry route.Nowhere acts = refl

-- each act is acceptable in its place

abbrev pub IsAcceptable : Capacity → List Stay → Route → Type 0
IsAcceptable capacity registry (route.Act a) = is_acceptable capacity registry a ≡ true
IsAcceptable capacity registry (route.Stray kind) = Unit {0}
IsAcceptable capacity registry route.Nowhere = Unit {0}

pub named_is_in : (registry : List Stay) (name : List ℕ) (stay : ℕ) → stay_named registry name ≡ Some stay → is_in registry stay ≡ true
named_is_in registry name stay is =
    let (within, hit, before) = position-Some (has_name name) registry stay no_stay is in
    and_from _ _ (lt-ltb stay (length registry) within) (and_parts (stay_at registry stay).is_open (is_same_text name (stay_at registry stay).row.game) hit).0

hand_acceptable : (capacity : Capacity) (registry : List Stay) (name : List ℕ) (command : Command) (found : Option ℕ) → stay_named registry name ≡ found → IsAcceptable capacity registry (hand_route found command)
hand_acceptable capacity registry name command None is = tt
hand_acceptable capacity registry name command (Some stay) is = named_is_in registry name stay is

admit_acceptable : (capacity : Capacity) (registry : List Stay) (row : GameRow) (found : Option Stray) → admit_refusal capacity registry row ≡ found → IsAcceptable capacity registry (admit_route found row)
admit_acceptable capacity registry row None is = may_come capacity registry row is
admit_acceptable capacity registry row (Some kind) is = tt

leave_acceptable : (capacity : Capacity) (registry : List Stay) (name : List ℕ) (found : Option ℕ) → stay_named registry name ≡ found → IsAcceptable capacity registry (leave_route found)
leave_acceptable capacity registry name None is = tt
leave_acceptable capacity registry name (Some stay) is = named_is_in registry name stay is

pub route_acceptable : (capacity : Capacity) (registry : List Stay) (l : Line) → IsAcceptable capacity registry (route_of capacity registry l)
route_acceptable capacity registry line.Blank = tt
route_acceptable capacity registry (line.Command name command) = hand_acceptable capacity registry name command (stay_named registry name) refl
route_acceptable capacity registry (line.Bad name) = hand_acceptable capacity registry name command.Bad (stay_named registry name) refl
route_acceptable capacity registry (line.Stray kind) = tt
route_acceptable capacity registry (line.Admit row) = admit_acceptable capacity registry row (admit_refusal capacity registry row) refl
route_acceptable capacity registry line.BadAdmit = tt
route_acceptable capacity registry (line.Leave None) = tt
route_acceptable capacity registry (line.Leave (Some name)) = leave_acceptable capacity registry name (stay_named registry name) refl

acceptable_step : (capacity : Capacity) (registry : List Stay) (r : Route) (acts : List Act) → IsAcceptable capacity registry r → are_acceptable capacity (registry_then registry r) acts ≡ true
    → are_acceptable capacity registry (cons_option (act_in r) acts) ≡ true
acceptable_step capacity registry (route.Act a) acts first rest = and_from _ _ first rest
acceptable_step capacity registry (route.Stray kind) acts first rest = rest
acceptable_step capacity registry route.Nowhere acts first rest = rest

-- commands

commands_step : (stay : ℕ) (r : Route) (acts : List Act) → filter_map (command_in stay) (cons_option (act_in r) acts) ≡ cons_option (command_to stay r) (filter_map (command_in stay) acts)
commands_step stay (route.Act a) acts = refl
commands_step stay (route.Stray kind) acts = refl
commands_step stay route.Nowhere acts = refl

module _ (capacity : Capacity) (version : Version) where
  pub rows_made : (registry : List Stay) (number : ℕ) (lines : List (List ℕ))
      → rows_in_registry (registry_behind capacity version registry lines) ≡ rows_in_registry registry ++ rows_admitted (acts_in (routes_from capacity version registry number lines))
  rows_made registry number [] = sym (append-nil (rows_in_registry registry))
  rows_made registry number (text ∷ lines) =
      let next = next_registry capacity version registry text in
      rows_made next (number + 1) lines
      ∙ rows_step registry (route_at capacity version registry text) (acts_in (routes_from capacity version next (number + 1) lines))

  acts_acceptable : (registry : List Stay) (number : ℕ) (lines : List (List ℕ)) → are_acceptable capacity registry (acts_in (routes_from capacity version registry number lines)) ≡ true
  acts_acceptable registry number [] = refl
  acts_acceptable registry number (text ∷ lines) =
      let next = next_registry capacity version registry text in
      acceptable_step capacity registry (route_at capacity version registry text) (acts_in (routes_from capacity version next (number + 1) lines)) (route_acceptable capacity registry (line_of version text))
      (acts_acceptable next (number + 1) lines)

  commands_acted : (registry : List Stay) (number stay : ℕ) (lines : List (List ℕ))
      → commands_to stay (routes_from capacity version registry number lines) ≡ filter_map (command_in stay) (acts_in (routes_from capacity version registry number lines))
  commands_acted registry number stay [] = refl
  commands_acted registry number stay (text ∷ lines) =
      let next = next_registry capacity version registry text in
      ap (λ rest. cons_option (command_to stay (route_at capacity version registry text)) rest) (commands_acted next (number + 1) stay lines)
      ∙ sym (commands_step stay (route_at capacity version registry text) (acts_in (routes_from capacity version next (number + 1) lines)))

pub acts_law : ActsLaw
acts_law blocks file =
    let capacity = capacity_of blocks in
    let lines = later_pieces (pieces_of file) in
    record {
      stays = rows_made capacity (version_of file) (opened (rows_of file)) 2 lines
          ∙ ap (λ rows. rows ++ rows_admitted (acts_in (routes_from capacity (version_of file) (opened (rows_of file)) 2 lines))) (rows_opened (rows_of file));
      acceptable = acts_acceptable capacity (version_of file) (opened (rows_of file)) 2 lines;
      commands = λ stay. commands_acted capacity (version_of file) (opened (rows_of file)) 2 stay lines;
    }

-- the rows that lines admit, by the open stays

rows_of_act : (r : Route) (acts : List Act) → rows_admitted (cons_option (act_in r) acts) ≡ rows_in_route r ++ rows_admitted acts
rows_of_act (route.Act (act.Hand stay command)) acts = refl
rows_of_act (route.Act (act.Admit row)) acts = refl
rows_of_act (route.Act (act.Leave stay)) acts = refl
rows_of_act (route.Stray kind) acts = refl
rows_of_act route.Nowhere acts = refl

rows_walked : (capacity : Capacity) (version : Version) (open_stays : OpenStayList) (number : ℕ) (lines : List (List ℕ))
    → rows_admitted (acts_in (routes_by_open_stays capacity version open_stays number lines)) ≡ rows_by_open_stays capacity version open_stays lines
rows_walked capacity version open_stays number [] = refl
rows_walked capacity version open_stays number (text ∷ lines) =
    let r = route_by capacity open_stays (line_of version text) in
    rows_of_act r (acts_in (routes_by_open_stays capacity version (open_stays_then open_stays r) (number + 1) lines))
    ∙ ap (λ rows. rows_in_route r ++ rows) (rows_walked capacity version (open_stays_then open_stays r) (number + 1) lines)

pub stays_walked : (capacity : Capacity) (version : Version) (rows : List GameRow) (lines : List (List ℕ))
    → stays_behind capacity version rows lines ≡ rows ++ rows_by_open_stays capacity version (open_stays_of (opened rows)) lines
stays_walked capacity version rows lines =
    rows_made capacity version (opened rows) 2 lines
    ∙ ap (λ first. first ++ rows_admitted (acts_in (routes_from capacity version (opened rows) 2 lines))) (rows_opened rows)
    ∙ ap (λ routes. rows ++ rows_admitted (acts_in routes)) (open_stays_law capacity version 2 (opened rows) lines)
    ∙ ap (λ all. rows ++ all) (rows_walked capacity version (open_stays_of (opened rows)) 2 lines)
