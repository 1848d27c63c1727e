-- The open stays alone decide the routing.
use Rattle.std.proofs.Common.{◌≡◌, Bool, true, false, not, is_some, ℕ, ◌+◌, ◌<◌, ◌&&◌, nat_lt, if◌then◌else◌, List, [], ◌∷◌, ◌++◌, Option, Some, None, length, inl, inr, refl, sym, ap, ◌∙◌, arith, length-append}
use Rattle.std.specs.List.{enumerate_from, list_any}
use Rattle.std.proofs.lemmas.Bool.{and_parts, cases_Bool, ltb-true, not-true}
use Rattle.std.proofs.lemmas.List.{length-map, length-set, map-append}
use Rattle.bs_board.specs.declared.limits.TheConstants.{MOST_ROWS}
use Rattle.bs_board.specs.plans.Plan.{GameRow}
use Rattle.bs_board.specs.declared.commands.command.Command.TheVariants as command
use Rattle.bs_json.specs.declared.line.Line.{Line}
use Rattle.bs_json.specs.Line.{line_of}
use Rattle.bs_json.specs.declared.line.Line.TheVariants as line
use Rattle.bs_json.specs.declared.line.Stray.TheVariants as stray
use Rattle.bs_registry.specs.declared.registry.Listed.{Listed}
use Rattle.bs_registry.specs.Registry.{Listing, listed_from, listing_of, row_open, rows_open, seen, with_stay, without_stay}
use Rattle.bs_registry.specs.declared.blocks.TheConstants.{MOST_STAYS}
use Rattle.bs_registry.specs.Stays.{Capacity, Stay, closed_stay, open_stay, stay_at}
use Rattle.bs_workers.specs.Acts.{opened}
use Rattle.bs_workers.specs.declared.act.Act.TheVariants as act
use Rattle.bs_host.specs.declared.route.Route.{Route}
use Rattle.bs_registry.specs.OpenStays.{OpenStayList, bears, found_in, open_from, open_of, open_stays_of}
use Rattle.bs_registry.specs.inner.OpenStays.{refusal_by}
use Rattle.bs_host.specs.inner.OpenStays.{may_follow, own_by_open_stays, open_stays_then, route_by, routes_by_open_stays}
use Rattle.bs_host.specs.Cut.{is_own_line, own_lines_in}
use Rattle.bs_host.specs.inner.Laws.{OpenStayLinesLaw, OpenStaysLaw}
use Rattle.bs_host.specs.Routing.{command_to, admit_refusal, admit_route, registry_then, hand_route, leave_route, next_registry, route_at, route_of, routes_from, stray_for}
use Rattle.bs_host.specs.declared.route.Route.TheVariants as route
use Rattle.bs_registry.proofs.OpenStays.{open_law}
use Rattle.bs_registry.proofs.Planned.{rows_listed}
use Rattle.bs_registry.proofs.Rows.{filtered_rows}
use Rattle.bs_host.specs.declared.parse.ParsedLine.{ParsedLine}
use Rattle.bs_host.specs.declared.parse.ParsedLine.TheVariants as parsed
use Rattle.bs_host.specs.inner.Parsed.{route_parsed}
use Rattle.bs_json.specs.declared.line.Stray.{Stray}
use Rattle.bs_board.specs.declared.commands.command.Command.{Command}

same_refusal : (capacity : Capacity) (registry : List Stay) (row : GameRow) → admit_refusal capacity registry row ≡ stray_for (refusal_by capacity (open_stays_of registry) row)
same_refusal capacity registry row =
    let told = open_law capacity.cap registry in
    let any = told.any row.game in
    rw (any, told.many, told.blocks) refl

pub same_route : (capacity : Capacity) (registry : List Stay) (l : Line) → route_of capacity registry l ≡ route_by capacity (open_stays_of registry) l
same_route capacity registry line.Blank = refl
same_route capacity registry (line.Command game command) = ap (λ o. hand_route o command) ((open_law capacity.cap registry).named game)
same_route capacity registry (line.Bad game) = ap (λ o. hand_route o command.Bad) ((open_law capacity.cap registry).named game)
same_route capacity registry (line.Stray kind) = refl
same_route capacity registry (line.Admit row) = ap (λ o. admit_route o row) (same_refusal capacity registry row)
same_route capacity registry line.BadAdmit = refl
same_route capacity registry (line.Leave None) = refl
same_route capacity registry (line.Leave (Some game)) = ap leave_route ((open_law capacity.cap registry).named game)

abbrev pub open_stays_with : ℕ → List (ℕ × GameRow) → OpenStayList
open_stays_with made stays = record { made = made; stays = stays }

pub same_next : (capacity : Capacity) (registry : List Stay) (r : Route) → open_stays_of (registry_then registry r) ≡ open_stays_then (open_stays_of registry) r
same_next capacity registry (route.Act (act.Hand stay command)) = refl
same_next capacity registry (route.Act (act.Admit row)) =
    let many : length (registry ++ open_stay row ∷ []) ≡ length registry + 1 = omega (arith, length-append registry (open_stay row ∷ [])) in
    ap (λ n. open_stays_with n (open_of (registry ++ open_stay row ∷ []))) many ∙ ap (open_stays_with (length registry + 1)) ((open_law capacity.cap registry).admits row)
same_next capacity registry (route.Act (act.Leave stay)) =
    ap (λ n. open_stays_with n (open_of (registry_then registry (route.Act (act.Leave stay))))) (length-set registry stay (closed_stay (stay_at registry stay)))
    ∙ ap (open_stays_with (length registry)) ((open_law capacity.cap registry).leaves stay)
same_next capacity registry (route.Stray kind) = refl
same_next capacity registry route.Nowhere = refl

pub open_stays_law : OpenStaysLaw
open_stays_law capacity version number registry [] = refl
open_stays_law capacity version number registry (text ∷ lines) =
    let r = route_by capacity (open_stays_of registry) (line_of version text) in
    let same = same_route capacity registry (line_of version text) in
    let next : open_stays_of (next_registry capacity version registry text) ≡ open_stays_then (open_stays_of registry) r =
    same_next capacity registry (route_at capacity version registry text) ∙ ap (open_stays_then (open_stays_of registry)) same in
    ap (λ q. (number, q) ∷ routes_from capacity version (next_registry capacity version registry text) (number + 1) lines) same
    ∙ ap (λ rest. (number, r) ∷ rest) (open_stays_law capacity version (number + 1) (next_registry capacity version registry text) lines
    ∙ ap (λ g. routes_by_open_stays capacity version g (number + 1) lines) next)

if_own : Bool → List ℕ → List (List ℕ) → List (List ℕ)
if_own own text rest = if own then text ∷ rest else rest

same_if : (own : Bool) (text : List ℕ) (rest : List (List ℕ)) → (if own then text ∷ rest else rest) ≡ if_own own text rest
unfolding if_own
same_if own text rest = refl

pub open_stay_lines_law : OpenStayLinesLaw
open_stay_lines_law capacity version stay registry [] = refl
open_stay_lines_law capacity version stay registry (text ∷ lines) =
    let r = route_by capacity (open_stays_of registry) (line_of version text) in
    let same = same_route capacity registry (line_of version text) in
    let next : open_stays_of (next_registry capacity version registry text) ≡ open_stays_then (open_stays_of registry) r =
    same_next capacity registry (route_at capacity version registry text) ∙ ap (open_stays_then (open_stays_of registry)) same in
    let rest = open_stay_lines_law capacity version stay (next_registry capacity version registry text) lines ∙ ap (λ g. own_by_open_stays capacity version g stay lines) next in
    same_if (is_own_line capacity version registry stay text) text (own_lines_in capacity version (next_registry capacity version registry text) stay lines)
    ∙ ap (λ q. if_own (is_some (command_to stay q)) text (own_lines_in capacity version (next_registry capacity version registry text) stay lines)) same
    ∙ ap (if_own (is_some (command_to stay r)) text) rest
    ∙ sym (same_if (is_some (command_to stay r)) text (own_by_open_stays capacity version (open_stays_then (open_stays_of registry) r) stay lines))

module _ {X : Type 0} where
  -- one more stay, and one stay less

  pub seen_pushed : (row : GameRow) (kept : X) (stays : Listing X) → seen (with_stay row kept stays) ≡ open_stays_then (seen stays) (route.Act (act.Admit row))
  seen_pushed row kept stays =
      ap (open_stays_with (stays.made + 1)) (map-append row_open stays.stays (record { number = stays.made; row = row; kept = kept } ∷ []))

  pub seen_removed : (number : ℕ) (stays : Listing X) → seen (without_stay number stays) ≡ open_stays_then (seen stays) (route.Act (act.Leave number))
  seen_removed number stays = ap (open_stays_with stays.made) (filtered_rows number stays.stays)

pub may_push : (open_stays : OpenStayList) (row : GameRow) → may_follow open_stays (route.Act (act.Admit row)) ≡ true
    → (list_any (bears row.game) open_stays.stays ≡ false) × (open_stays.made < MOST_STAYS)
may_push open_stays row may =
    let both = and_parts (not (list_any (bears row.game) open_stays.stays)) (nat_lt open_stays.made MOST_STAYS) may in
    (not-true (list_any (bears row.game) open_stays.stays) both.0, ltb-true open_stays.made MOST_STAYS both.1)

-- if nothing refuses a row, its name is new, and there is a number for it
pub unrefused : (capacity : Capacity) (open_stays : OpenStayList) (row : GameRow) → stray_for (refusal_by capacity open_stays row) ≡ None
    → (list_any (bears row.game) open_stays.stays ≡ false) × (nat_lt open_stays.made MOST_STAYS ≡ true)
unrefused capacity open_stays row none = elim (cases_Bool (list_any (bears row.game) open_stays.stays)) [
  | inl same ↦ let wrong : Some stray.NameOpen ≡ None = rw same at none in absurd cc
  | inr new ↦ elim (cases_Bool (nat_lt (length open_stays.stays) MOST_ROWS && nat_lt open_stays.made MOST_STAYS)) [
    | inl fits ↦ (new, (and_parts (nat_lt (length open_stays.stays) MOST_ROWS) (nat_lt open_stays.made MOST_STAYS) fits).1)
    | inr full ↦ let wrong : Some stray.Full ≡ None = rw (new, full) at none in absurd cc
  ]
]

follows_admit : (open_stays : OpenStayList) (row : GameRow) (found : Option Stray)
    → (found ≡ None → (list_any (bears row.game) open_stays.stays ≡ false) × (nat_lt open_stays.made MOST_STAYS ≡ true)) → may_follow open_stays (admit_route found row) ≡ true
follows_admit open_stays row None is = let both = is refl in rw (both.0, both.1) refl
follows_admit open_stays row (Some kind) is = refl

follows_hand : (open_stays : OpenStayList) (found : Option ℕ) (command : Command) → may_follow open_stays (hand_route found command) ≡ true
follows_hand open_stays None command = refl
follows_hand open_stays (Some stay) command = refl

follows_leave : (open_stays : OpenStayList) (found : Option ℕ) → may_follow open_stays (leave_route found) ≡ true
follows_leave open_stays None = refl
follows_leave open_stays (Some stay) = refl

-- what routing admits may be opened
pub routed_follows : (capacity : Capacity) (open_stays : OpenStayList) (l : ParsedLine) → may_follow open_stays (route_parsed capacity open_stays l) ≡ true
routed_follows capacity open_stays (parsed.Command game command) = follows_hand open_stays (found_in game open_stays.stays) command
routed_follows capacity open_stays (parsed.Stray kind) = refl
routed_follows capacity open_stays parsed.Blank = refl
routed_follows capacity open_stays (parsed.Admit row) = follows_admit open_stays row (stray_for (refusal_by capacity open_stays row)) (unrefused capacity open_stays row)
routed_follows capacity open_stays (parsed.Leave game) = follows_leave open_stays (found_in game open_stays.stays)
